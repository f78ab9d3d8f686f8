-- What comes of a call that is lent enough, and of one that is lent too little; and what is accepted was lent enough. Assumes nothing.
use mathlib.Core.Bool.{Bool, true, false, cond}
use mathlib.Core.List.{List}
use mathlib.Core.Path.{◌≡◌, refl}
use Prim.Native.Nat.{ℕ, ◌≤◌, ◌<◌}
use native.Mathlib.Omega.{arith}
use borrow.Author.Tests.{leb-true, le-leb, lt-leb}
use lib.Dec.{leb}
use Rattle.format.specs.Telegrams.{Entry, Result}
use Rattle.format.specs.Telegrams.Result.{accepted}
use Rattle.format.specs.declared.Kind.TheVariants.{Room}
use Rattle.states.specs.Reader.{at_once, roomed}

module _ (need lent : ℕ) (r : Result) where
  pub with_room : need ≤ lent → roomed need lent r ≡ r
  with_room h = rw (le-leb need lent h)

  pub without_room : lent < need → roomed need lent r ≡ at_once Room
  without_room h = rw (lt-leb need lent h)

  pub had_room : (es : List Entry) → roomed need lent r ≡ accepted es → (need ≤ lent) × (r ≡ accepted es)
  had_room es e = by (leb need lent) refl e
    where
      by : (b : Bool) → leb need lent ≡ b → cond b r (at_once Room) ≡ accepted es → (need ≤ lent) × (r ≡ accepted es)
      by true q z = (leb-true need lent q, z)
      by false q z = let w : ◌≡◌ {A = ℕ} 0 1 = cc in absurd (omega arith)
