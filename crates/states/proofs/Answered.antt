-- The promises speak of an answer by its numbers; here, what each says of the answer itself. For any terms. Assumes nothing.
use mathlib.Core.List.{List}
use mathlib.Core.Path.{◌≡◌}
use Prim.Native.Nat.{ℕ}
use lib.ListN.{length}
use Rattle.format.specs.Rules.{Terms}
use Rattle.format.proofs.Numbers.{answer_is}
use Rattle.states.specs.Reader.{read_into, answer_of, Read}
use Rattle.states.specs.Writer.{write_into, size_of, Write}
use Rattle.states.specs.Labels.{label_into, Label}
use Rattle.states.specs.Normaliser.{normalise_into, Normalise}
use Rattle.format.specs.Refusals.{Answer}

module _ {p : Terms} {before after : List ℕ} {a : Answer} where
  pub read_answer : {s : List ℕ} {n : ℕ} → Read p s n before a after → a ≡ answer_of (read_into p s n (length before))
  read_answer {s} {n} h = answer_is a (answer_of (read_into p s n (length before))) h.answers

  pub write_answer : {vs : List ℕ} → Write p vs before a after → a ≡ size_of (write_into p vs (length before))
  write_answer {vs} h = answer_is a (size_of (write_into p vs (length before))) h.answers

  pub label_answer : {vs : List ℕ} → Label p vs before a after → a ≡ size_of (label_into p vs (length before))
  label_answer {vs} h = answer_is a (size_of (label_into p vs (length before))) h.answers

  pub normalise_answer : {s : List ℕ} {n : ℕ} → Normalise p s n before a after → a ≡ size_of (normalise_into p s n (length before))
  normalise_answer {s} {n} h = answer_is a (size_of (normalise_into p s n (length before))) h.answers
