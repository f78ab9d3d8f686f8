-- Each promise of this crate is met by one answer alone, and by one final contents of what is lent. Assumes nothing.
use mathlib.Core.Path.{refl, sym, ap, ◌∙◌}
use mathlib.Core.List.{List}
use Prim.Native.Nat.{ℕ}
use Rattle.line_text.specs.contracts as promises
use Rattle.bits.proofs.Once.{OneOutcome}
use Rattle.line_text.proofs.line_length
use Rattle.line_text.proofs.refuse
use Rattle.line_text.proofs.line.characters

pub line_length_once : OneOutcome promises.line_length.ended line_length.Reads.Post
line_length_once κs args r t u v p q = (p ∙ sym q, refl)

pub refuse_once : OneOutcome promises.refuse.ended refuse.Reads.Post
refuse_once κs args r t u v p q =
    (p.here ∙ sym q.here, ap (λ (out : List ℕ). (u.0, (out, u.1.1))) (p.is ∙ sym q.is))

pub characters_once : OneOutcome promises.line.characters.ended characters.Reads.Post
characters_once κs args r t u v p q =
    (p.here ∙ sym q.here, ap (λ (out : List ℕ). (u.0, (u.1.0, (out, u.1.1.1)))) (p.is ∙ sym q.is))
