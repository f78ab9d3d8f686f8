-- What a caller of `values_in` learns from each answer. Assumes nothing.
use Rattle.std.specs.Prelude.{Some, None, ℕ}
use mathlib.Core.Path.{◌≡◌, refl, sym, ap, ◌∙◌}
use mathlib.Core.List.{List}
use mathlib.Core.Option.{Option, some, none}
use Prim.Native.Nat.{ℕ, ◌≤◌}
use native.Mathlib.Omega.{arith}
use lib.ListN.{length, take, drop, length-append}
use lib.Seq.{take_at}
use Rattle.value_list.specs.Values.{values_in, count_of, over, Taken}
use Rattle.std.specs.Prelude as code

-- the text has n values and nothing else, and they stand in front
pub record Whole (text before after : List ℕ) (n : ℕ) : Type 0 where
  pub inside : n ≤ length after
  pub values : values_in (length before) text ≡ some (take n after)

module _ (before after : List ℕ) where
  fronted : (x : Option (List ℕ)) (n : ℕ) → Some n ≡ count_of x → after ≡ over x before → (n ≤ length after) × (x ≡ some (take n after))
  fronted none n e f = let z : ◌≡◌ {A = ℕ} 0 1 = cc in absurd (omega arith)
  fronted (some vs) n e f =
      let many : length vs ≡ n = cc in (
        omega (arith, ap length f ∙ length-append vs (drop (length vs) before)),
        ap some (sym (ap (take n) f ∙ take_at vs (drop (length vs) before) n many)),
      )

none_there : (x : Option (List ℕ)) → None ≡ count_of x → x ≡ none
none_there none e = refl
none_there (some vs) e = cc

module _ (text before : List ℕ) (answer : code.Option ℕ) (after : List ℕ) (h : Taken text before answer after) where
  pub taken_whole : (n : ℕ) → answer ≡ Some n → Whole text before after n
  taken_whole n e =
      let g = fronted before after (values_in (length before) text) n (sym e ∙ h.answers) h.contents in
      record { inside = g.0; values = g.1 }

  pub taken_other : answer ≡ None → values_in (length before) text ≡ none
  taken_other e = none_there (values_in (length before) text) (sym e ∙ h.answers)
