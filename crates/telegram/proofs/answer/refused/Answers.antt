-- `telegram::answer::refused` meets its contract: where packets begin at bit 65,536 at most, the machine counts the place as it is. Assumes nothing.
use mathlib.Core.Path.{◌≡◌, ◌∙◌, ap}
use Prim.Native.Nat.{ℕ, ◌+◌, ◌%◌, ◌^◌, ◌<◌, ◌≤◌}
use native.Mathlib.Nat.{mod-eq_of_lt}
use native.Mathlib.Omega.{arith}
use Rattle.format.specs.Rules.{Context, spot_of, spot_at, place_from}
use Rattle.format.specs.declared.Kind.{Kind}
use Rattle.format.specs.declared.Refusal.{Refusal}
use Rattle.format.specs.declared.Spot.{Spot}
use Rattle.format.specs.declared.Spot.TheVariants.{Due, Behind, Outer, Inner}
use Rattle.telegram.proofs.answer.refused.Goals as goal

module _ (at past : ℕ) (c : Context) (here : at < 2 ^ 64) (behind : past < 2 ^ 64) (first : c.start ≤ 65536) (second : c.user_start ≤ 65536) where
  small : (x : Spot) → spot_at x at past c < 2 ^ 64
  unfolding spot_at
  small Due = here
  small Behind = behind
  small Outer = let e : c.start + 10 < 2 ^ 64 = omega (arith, first) in e
  small Inner = let e : c.user_start + 11 < 2 ^ 64 = omega (arith, second) in e

  counted : (k : Kind) → place_from k at past c % 2 ^ 64 ≡ place_from k at past c
  unfolding place_from
  counted k = mod-eq_of_lt (small (spot_of k past c))

abbrev refusal : Kind → ℕ → Refusal
refusal k p = record { kind = k; place = p }

pub returns : goal.returns
returns c =
    let b = c in
    λ l. ap (λ (p : ℕ). refusal b.args.kind p) (c.place-place.ensures l ∙ counted _ _ _ b.well_formed.1.0.1.1.0.1 b.ranges.end.fits b.requires.0 b.requires.1 _)
