-- The promises of check, read, write, label and normalise are each met by one answer alone, and those of the last four by one final contents of what is
-- lent. Assumes nothing.
use mathlib.Core.Path.{refl, sym, ap, ◌∙◌}
use mathlib.Core.List.{List}
use Prim.Native.Nat.{ℕ}
use Rattle.telegram.specs.contracts as promises
use Rattle.bits.proofs.Once.{OneOutcome}
use Rattle.format.proofs.Numbers.{answer_is}
use Rattle.states.proofs.Answered.{read_answer, write_answer, label_answer, normalise_answer}
use Rattle.telegram.proofs.reader.check
use Rattle.telegram.proofs.reader.read
use Rattle.telegram.proofs.writer.write
use Rattle.telegram.proofs.labels.label
use Rattle.telegram.proofs.normaliser.normalise

pub check_once : OneOutcome promises.reader.check.ended check.Reads.Post
check_once κs args r t u v p q = (answer_is r t (p ∙ sym q), refl)

pub read_once : OneOutcome promises.reader.read.ended read.Reads.Post
read_once κs args r t u v p q =
    (read_answer p ∙ sym (read_answer q), ap (λ (run : List ℕ). (u.0, (u.1.0, (run, u.1.1.1)))) (p.contents ∙ sym q.contents))

pub write_once : OneOutcome promises.writer.write.ended write.Reads.Post
write_once κs args r t u v p q =
    (write_answer p ∙ sym (write_answer q), ap (λ (out : List ℕ). (u.0, (out, u.1.1))) (p.contents ∙ sym q.contents))

pub label_once : OneOutcome promises.labels.label.ended label.Reads.Post
label_once κs args r t u v p q =
    (label_answer p ∙ sym (label_answer q), ap (λ (out : List ℕ). (u.0, (out, u.1.1))) (p.contents ∙ sym q.contents))

pub normalise_once : OneOutcome promises.normaliser.normalise.ended normalise.Reads.Post
normalise_once κs args r t u v p q =
    (normalise_answer p ∙ sym (normalise_answer q), ap (λ (out : List ℕ). (u.0, (u.1.0, (out, u.1.1.1)))) (p.contents ∙ sym q.contents))
