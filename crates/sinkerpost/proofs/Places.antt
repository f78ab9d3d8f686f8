-- Whatever is checked or normalised, the place of a refusal is at most 830. Assumes nothing.
use mathlib.Core.Bool.{Bool, true, false, cond}
use mathlib.Core.List.{List}
use mathlib.Core.Path.{◌≡◌, refl, sym, subst}
use Prim.Native.Nat.{ℕ, ◌≤◌}
use native.Mathlib.Omega.{arith}
use lib.Dec.{leb}
use lib.ListN.{length, take}
use lib.Seq.{length-take-le}
use Rattle.bits.specs.Bits.{bits_of}
use Rattle.bits.proofs.Bytes.{length_bits_of, below_bits_of, below_take}
use Rattle.format.specs.Refusals.{in_numbers, Answer}
use Rattle.format.specs.Rules.{paper}
use Rattle.format.specs.Telegrams.{Entry, Result, values, bit_count, read}
use Rattle.format.specs.Telegrams.Result.{accepted, refused}
use Rattle.format.specs.declared.Kind.TheVariants.{Room, Size, Padding}
use Rattle.format.proofs.Numbers.{answer_is}
use Rattle.laws.proofs.Bounds.{read_placed}
use Rattle.states.specs.Reader.{sized, clear, at_once, checked, answered, answer_of}
use Rattle.states.specs.Writer.{size_of}
use Rattle.states.specs.Normaliser.{normal_of, normalise_into}
use Rattle.states.proofs.Checking.{Sized, sized_is}
use Rattle.sinkerpost.specs.Codes.{Placed}

-- the same of what a check comes to
abbrev PlacedResult : Result → Type 0
PlacedResult (accepted es) = Unit
PlacedResult (refused r) = r.place ≤ 830

answered_placed : (count : List Entry → ℕ) (r : Result) → PlacedResult r → Placed (answered count r)
answered_placed count (accepted es) h = tt
answered_placed count (refused r) h = h

normal_placed : (r : Result) → PlacedResult r → PlacedResult (normal_of r)
normal_placed (accepted es) h = tt
normal_placed (refused r) h = h

module _ (s : List ℕ) (n : ℕ) where
  result_placed : Sized s n → (r : Result) → read paper (take n (bits_of s)) ≡ r → PlacedResult r
  result_placed z (accepted es) e = tt
  result_placed z (refused r) e =
      let long = length-take-le n (bits_of s) (rw (length_bits_of s) (omega (arith, z.bytes))) in
      read_placed (take n (bits_of s)) r (below_take 2 n (bits_of s) (below_bits_of s)) (omega (arith, z.most)) e

  by_tests : (a b : Bool) → sized s n ≡ a
      → PlacedResult (cond a (cond b (read paper (take n (bits_of s))) (at_once Padding)) (at_once Size))
  by_tests true true h = result_placed (sized_is s n h) (read paper (take n (bits_of s))) refl
  by_tests true false h = omega arith
  by_tests false b h = omega arith

  checked_placed : PlacedResult (checked paper s n)
  unfolding checked
  checked_placed = by_tests (sized s n) (clear s n) refl

  check_placed : Placed (answer_of (checked paper s n))
  check_placed = answered_placed (λ es. length (values es)) (checked paper s n) checked_placed

  -- so whatever answer has the check's numbers
  pub answer_placed : (a : Answer) → in_numbers a ≡ in_numbers (answer_of (checked paper s n)) → Placed a
  answer_placed a h = subst Placed (sym (answer_is a (answer_of (checked paper s n)) h)) check_placed

  with_room : (b : Bool) → PlacedResult (cond b (normal_of (checked paper s n)) (at_once Room))
  with_room true = normal_placed (checked paper s n) checked_placed
  with_room false = omega arith

  pub normalise_placed : (room : ℕ) → Placed (size_of (normalise_into paper s n room))
  unfolding normalise_into
  normalise_placed room = answered_placed bit_count (cond (leb 104 room) (normal_of (checked paper s n)) (at_once Room)) (with_room (leb 104 room))
