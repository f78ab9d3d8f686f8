-- A reply is known by its number and its value: 0, 1 to 13 and 20 are three cases apart. And so, what each promise says of the
-- reply itself. For any terms. Assumes nothing.
use Rattle.std.specs.Prelude.{Ok, Err}
use mathlib.Core.List.{List}
use mathlib.Core.Path.{◌≡◌, ap}
use Prim.Native.Nat.{ℕ}
use native.Mathlib.Omega.{arith}
use lib.ListN.{length}
use Rattle.format.specs.Rules.{Terms, paper}
use Rattle.format.specs.declared.Refusal.{Refusal}
use Rattle.format.proofs.Numbers.{number_in, number_same, value_same, refusal_is}
use Rattle.sheet.specs.Sheets.{in_numbers, exported, length_of, import_into, size_of, Export, Import}
use Rattle.sheet.specs.Steps.{columns_into, Judged}
use Rattle.sheet.specs.declared.SheetError.TheVariants.{Refused, Row}
use Rattle.sheet.specs.Replies.{Reply}

pub reply_is : (a b : Reply) → in_numbers a ≡ in_numbers b → a ≡ b
reply_is (Ok m) (Ok n) h = ap Ok (value_same h)
reply_is (Ok m) (Err (Refused r)) h = let i = number_in r.kind in absurd (omega (arith, number_same h))
reply_is (Ok m) (Err (Row k)) h = absurd (omega (arith, number_same h))
reply_is (Err (Refused r)) (Ok n) h = let i = number_in r.kind in absurd (omega (arith, number_same h))
reply_is (Err (Refused r)) (Err (Refused q)) h = ap (λ (x : Refusal). Err (Refused x)) (refusal_is r q (number_same h) (value_same h))
reply_is (Err (Refused r)) (Err (Row k)) h = let i = number_in r.kind in absurd (omega (arith, number_same h))
reply_is (Err (Row j)) (Ok n) h = absurd (omega (arith, number_same h))
reply_is (Err (Row j)) (Err (Refused r)) h = let i = number_in r.kind in absurd (omega (arith, number_same h))
reply_is (Err (Row j)) (Err (Row k)) h = ap (λ (k : ℕ). Err (Row k)) (value_same h)

module _ {before after : List ℕ} {reply : Reply} where
  pub export_answer : {p : Terms} {s : List ℕ} {n : ℕ} → Export p s n before reply after → reply ≡ length_of (exported p s n (length before))
  export_answer {p} {s} {n} h = reply_is reply (length_of (exported p s n (length before))) h.answers

  pub import_answer : {p : Terms} {text : List ℕ} → Import p text before reply after → reply ≡ size_of (import_into p text (length before))
  import_answer {p} {text} h = reply_is reply (size_of (import_into p text (length before))) h.answers

  pub judge_answer : {ks vs : List ℕ} → Judged ks vs before reply after → reply ≡ size_of (columns_into paper ks vs (length before))
  judge_answer {ks} {vs} h = reply_is reply (size_of (columns_into paper ks vs (length before))) h.answers
