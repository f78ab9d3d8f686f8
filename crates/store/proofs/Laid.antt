-- What `lay` leaves, by its tests. Assumes nothing.
use mathlib.Core.Path.{◌≡◌}
use mathlib.Core.List.{List}
use Prim.Native.Nat.{ℕ, ◌≤◌, ◌<◌}
use borrow.Author.Tests.{le-leb, lt-leb}
use lib.ListN.{length}
use Rattle.bits.specs.Put.{put_at, laid_at}

module _ (s : List ℕ) (at width value : ℕ) where
  pub laid_wide : 25 < width → s ≡ laid_at s at width value
  laid_wide h = rw (lt-leb width 25 h)

  module _ (short : width ≤ 25) where
    pub laid_none : length s < 4 → s ≡ laid_at s at width value
    laid_none h = rw (le-leb width 25 short, lt-leb 4 (length s) h)

    pub laid_is : 4 ≤ length s → put_at s at width value ≡ laid_at s at width value
    laid_is h = rw (le-leb width 25 short, le-leb 4 (length s) h)
