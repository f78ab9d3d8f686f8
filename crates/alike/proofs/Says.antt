-- What a refusal of `says_same` keeps, and demand 3 of its answer, by its promise alone. For any terms. Assumes nothing.
use Rattle.std.specs.Prelude.{Ok, true, false, Result, Bool}
use mathlib.Core.Bool.{Bool, true, false}
use mathlib.Core.List.{List}
use mathlib.Core.Logic.{◌↔◌, ◌≢◌}
use mathlib.Core.Path.{◌≡◌, refl, sym, ap, ◌∙◌}
use Prim.Native.Nat.{ℕ}
use lib.ListN.{length}
use Rattle.bits.specs.Bits.{same}
use Rattle.format.specs.Normal.{says, normal}
use Rattle.format.specs.Rules.{Terms}
use Rattle.format.specs.Telegrams.{bits}
use Rattle.laws.proofs.Demand3.{same_says}
use Rattle.normals.specs.Normals.{Ready}
use Rattle.normals.proofs.Forms.{form, original}
use Rattle.alike.specs.Pairs.{Pair, pair_into, alike, in_numbers, first_over, second_over, SaysSame}
use Rattle.alike.specs.Pairs.Pair.{both, first, second}
use Rattle.alike.proofs.Numbers.{which, alike_is}
use Rattle.bits.proofs.Same.{same_true, same_self}
use Rattle.alike.proofs.Pairs.{pair_is}
use Rattle.alike.specs.declared.PairError.{PairError}

-- "A refusal .. changes no output": where a telegram is refused, whichever it is, both buffers are as they were
module _ {p : Terms} {s : List ℕ} {n : ℕ} {t : List ℕ} {m : ℕ} {x y x_after y_after : List ℕ} {answer : Result Bool PairError}
    (h : SaysSame p s n t m x y answer x_after y_after) (refused : (in_numbers answer).0 ≢ 0) where
  none_refused : (same : Bool) → (in_numbers (Ok same)).0 ≡ 0
  none_refused true = refl
  none_refused false = refl

  kept : (q : Pair) → in_numbers answer ≡ in_numbers (alike q) → x_after ≡ first_over q x → y_after ≡ second_over q y → (x_after ≡ x) × (y_after ≡ y)
  kept (both es fs) a f g = absurd (refused (which a ∙ none_refused (same (bits (normal es)) (bits (normal fs)))))
  kept (first r) a f g = (f, g)
  kept (second r) a f g = (f, g)

  pub says_same_keeps : (x_after ≡ x) × (y_after ≡ y)
  says_same_keeps = kept (pair_into p s n t m (length x) (length y)) h.answers h.first h.second

module _ (p : Terms) where
  -- "They say the same .. exactly when their normal forms have the same bits": the answer is Same just where they do
  pub same_just_where : (s : List ℕ) (n : ℕ) (t : List ℕ) (m : ℕ) (x y : List ℕ) (g : Ready p s n x) (f : Ready p t m y) (answer : Result Bool PairError)
      (x_after y_after : List ℕ) → SaysSame p s n t m x y answer x_after y_after → (answer ≡ (Ok true)) ↔ (says g.entries ≡ says f.entries)
  same_just_where s n t m x y g f answer x_after y_after h =
      let ones = bits (form p s n x g) in
      let others = bits (form p t m y f) in
      let e : answer ≡ Ok (same ones others) = alike_is answer _ h.answers ∙ ap alike (pair_is p s n t m x y g f) in
      let q = same_says p (original p s n x g).telegram (original p t m y f).telegram in (
        λ u. q.1 (same_true ones others (let z : ◌≡◌ {A = Result Bool PairError} (Ok (same ones others)) (Ok true) = sym e ∙ u in cc)),
        λ u. e ∙ ap Ok (ap (same ones) (sym (q.0 u)) ∙ same_self ones),
      )
