-- Each promise of this crate is met by one end and one final contents of what is lent alone. Assumes nothing.
use mathlib.Core.Path.{sym, ap, ◌∙◌}
use mathlib.Core.List.{List}
use Prim.Native.Nat.{ℕ}
use Rattle.spell.specs.contracts as promises
use Rattle.bits.proofs.Once.{OneOutcome}
use Rattle.spell.proofs.append_decimal
use Rattle.spell.proofs.append_places

pub append_decimal_once : OneOutcome promises.append_decimal.ended append_decimal.Reads.Post
append_decimal_once κs args r t u v p q =
    (p.ends ∙ sym q.ends, ap (λ (out : List ℕ). (out, u.1)) (p.text ∙ sym q.text))

pub append_places_once : OneOutcome promises.append_places.ended append_places.Reads.Post
append_places_once κs args r t u v p q =
    (p.ends ∙ sym q.ends, ap (λ (out : List ℕ). (out, u.1)) (p.text ∙ sym q.text))
