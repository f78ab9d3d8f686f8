-- A list by what it is a list of: the same by how its groups are laid out. Assumes nothing.
use mathlib.Core.Bool.{Bool, true, false, cond, ◌&&◌}
use mathlib.Core.List.{List}
use mathlib.Core.Path.{◌≡◌, refl, ap, ◌∙◌}
use Prim.Native.Nat.{ℕ, zero, suc, ◌+◌, ◌*◌, ◌≤◌, ◌<◌}
use native.Mathlib.Omega.{arith}
use borrow.Author.Tests.{le-leb}
use lib.Dec.{eqb, leb}
use lib.ListN.{length}
use Rattle.bits.proofs.Looked.{number_lt}
use Rattle.told.specs.Metres.{number_in, in_metres, each_put, list_put}
use Rattle.told.specs.Decides.{whole_in, each_whole, list_whole}
use Rattle.metre_lists.specs.Groups.{roomed, whole_of, end_of, put_of, laid, Sized, run_whole, run_put, run_end}
use Rattle.metre_lists.proofs.Reading.{room}
use Rattle.metre_lists.specs.declared.Group.{Group}
use Rattle.metre_lists.specs.declared.Group.TheVariants.{Links, Slopes, Profiles, Sections}
use Rattle.metre_lists.specs.declared.Run.{Run}

-- ---- groups that ask, put and end alike

module _ (s : List ℕ) (t u : ℕ → Bool) (p r : ℕ → ℕ) (same : (y : ℕ) → t y ≡ u y) (ends : (y : ℕ) → p y ≡ r y) where
  each_alike : (k x : ℕ) → each_whole t p k x ≡ each_whole u r k x
  each_alike zero x = refl
  each_alike (suc k) x = rw (same x, ends x, each_alike k (r x))

  pub whole_alike : (x : ℕ) → list_whole s t p x ≡ list_whole s u r x
  whole_alike x = rw (same x, ends x, each_alike (number_in s 5 (r x)) (r x + 5))

module _ (s : List ℕ) (t u : ℕ → List ℕ → List ℕ) (p r : ℕ → ℕ) (same : (y : ℕ) (out : List ℕ) → t y out ≡ u y out) (ends : (y : ℕ) → p y ≡ r y) where
  each_put_alike : (k x : ℕ) (out : List ℕ) → each_put t p k x out ≡ each_put u r k x out
  each_put_alike zero x out = refl
  each_put_alike (suc k) x out = rw (same x out, ends x) (each_put_alike k (r x) (u x out))

  pub put_alike : (x : ℕ) (out : List ℕ) → list_put s t p x out ≡ list_put s u r x out
  put_alike x out = rw (same x out, ends x) (each_put_alike (number_in s 5 (r x)) (r x + 5) (u x out))

-- ---- the four with one distance

-- a layout that is that of a list
pub record Lays (g : Group) (l : Run) : Type 0 where
  pub sized : Sized l
  pub whole : (s : List ℕ) (q y : ℕ) → run_whole l s q y ≡ whole_of g s q y
  pub put : (s : List ℕ) (q y : ℕ) (out : List ℕ) → run_put l s q y out ≡ put_of g s q y out
  pub ends : (s : List ℕ) (y : ℕ) → run_end l s y ≡ end_of g s y

here : (y : ℕ) → y + 0 ≡ y
here y = omega arith

-- one bit adds ten, or none
by_bit : (v : ℕ) → v < 2 → 39 + 10 * v ≡ cond (eqb v 1) 49 39
by_bit zero h = refl
by_bit (suc zero) h = refl
by_bit (suc (suc v)) h = absurd (omega arith)

pub links_laid : Lays Links (laid 0 39 15 1 10)
links_laid =
    record {
      sized = (omega arith, omega arith, omega arith, omega arith, omega arith, omega arith, omega arith);
      whole = λ s q y. ap (whole_in s q 15) (here y);
      put = λ s q y out. ap (λ (z : ℕ). in_metres s q 15 z out) (here y);
      ends = λ s y. ap (λ (n : ℕ). y + n) (by_bit (number_in s 1 (y + 15)) (number_lt s 1 (y + 15)));
    }

pub slopes_laid : Lays Slopes (laid 0 24 0 1 0)
slopes_laid =
    record {
      sized = (omega arith, omega arith, omega arith, omega arith, omega arith, omega arith, omega arith);
      whole = λ s q y. ap (whole_in s q 15) (here y);
      put = λ s q y out. ap (λ (z : ℕ). in_metres s q 15 z out) (here y);
      ends = λ s y. omega arith;
    }

pub profiles_laid : Lays Profiles (laid 0 28 23 5 11)
profiles_laid =
    record {
      sized = (omega arith, omega arith, omega arith, omega arith, omega arith, omega arith, omega arith);
      whole = λ s q y. ap (whole_in s q 15) (here y);
      put = λ s q y out. ap (λ (z : ℕ). in_metres s q 15 z out) (here y);
      ends = λ s y. omega arith;
    }

pub sections_laid : Lays Sections (laid 9 24 0 1 0)
sections_laid =
    record {
      sized = (omega arith, omega arith, omega arith, omega arith, omega arith, omega arith, omega arith);
      whole = λ s q y. refl;
      put = λ s q y out. refl;
      ends = λ s y. omega arith;
    }

module _ {g : Group} {l : Run} (h : Lays g l) (s : List ℕ) (q x : ℕ) where
  pub whole_laid : list_whole s (run_whole l s q) (run_end l s) x ≡ list_whole s (whole_of g s q) (end_of g s) x
  whole_laid = whole_alike s (run_whole l s q) (whole_of g s q) (run_end l s) (end_of g s) (h.whole s q) (h.ends s) x

  pub put_laid : (out : List ℕ) → list_put s (run_put l s q) (run_end l s) x out ≡ list_put s (put_of g s q) (end_of g s) x out
  put_laid out = put_alike s (run_put l s q) (put_of g s q) (run_end l s) (end_of g s) (h.put s q) (h.ends s) x out

-- ---- by the tests

module _ (s out : List ℕ) (q x : ℕ) (puts : Bool) where
  -- the answer, and what is lent afterwards
  abbrev Listed : Group → Bool → List ℕ → Type 0
  Listed g r after =
      (r ≡ (roomed s out && leb x 900 && cond puts true (list_whole s (whole_of g s q) (end_of g s) x)))
      × (after ≡ cond (roomed s out && leb x 900 && puts) (list_put s (put_of g s q) (end_of g s) x out) out)

  -- there is no list
  pub unlisted : (g : Group) → (roomed s out && leb x 900) ≡ false → Listed g false out
  unlisted g h = rw h (refl, refl)

  module _ (long : 8 ≤ length s) (wide : 4 ≤ length out) (early : x ≤ 900) where
    pub listed : {g h : Group} → h ≡ g → {r : Bool} {after : List ℕ} → r ≡ cond puts true (list_whole s (whole_of g s q) (end_of g s) x)
        → after ≡ cond puts (list_put s (put_of g s q) (end_of g s) x out) out → Listed h r after
    listed i e f = rw (i, room s out long wide, le-leb x 900 early) (e, f)

    pub run_listed : {g h : Group} {l : Run} → Lays g l → h ≡ g → {r : Bool} {after : List ℕ} → r ≡ cond puts true (list_whole s (run_whole l s q) (run_end l s) x)
        → after ≡ cond puts (list_put s (run_put l s q) (run_end l s) x out) out → Listed h r after
    run_listed l i e f =
        listed i (e ∙ ap (cond puts true) (whole_laid l s q x)) (f ∙ ap (λ (o : List ℕ). cond puts o out) (put_laid l s q x out))

-- ---- by the tests

module _ (c puts whole : Bool) (told out : List ℕ) where
  -- there is no list
  pub none_asked : c ≡ false → (false ≡ (c && cond puts true whole)) × (out ≡ cond (c && puts) told out)
  none_asked h = rw h (refl, refl)

  pub is_asked : c ≡ true → {r : Bool} {after : List ℕ} → r ≡ cond puts true whole → after ≡ cond puts told out
      → (r ≡ (c && cond puts true whole)) × (after ≡ cond (c && puts) told out)
  is_asked h e f = rw h (e, f)
