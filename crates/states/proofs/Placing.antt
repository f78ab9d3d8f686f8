-- The place of a refusal is all that goes by the definition of the place: under any two of them check, reader, writer, label and normaliser
-- accept the same telegrams, give the same numbers, and leave the same. Assumes nothing.
use mathlib.Core.Bool.{Bool, true, false, cond}
use mathlib.Core.List.{List}
use mathlib.Core.Path.{◌≡◌, refl, ap}
use Prim.Native.Nat.{ℕ}
use lib.Dec.{leb}
use lib.ListN.{take}
use Rattle.bits.specs.Bits.{bits_of}
use Rattle.format.specs.Refusals.{number_of, in_numbers}
use Rattle.format.specs.Rules.{State, Context, Terms}
use Rattle.format.specs.Telegrams.{Result}
use Rattle.format.specs.Telegrams.Result.{refused}
use Rattle.format.specs.declared.Kind.{Kind}
use Rattle.format.specs.declared.Kind.TheVariants.{Room, Size, Padding}
use Rattle.format.specs.declared.Refusal.{Refusal}
use Rattle.laws.proofs.Place.{Alike, read_alike, write_alike}
use Rattle.laws.proofs.Place.Alike.{both_accepted, both_refused}
use Rattle.states.specs.Labels.{label_into, numbers_over}
use Rattle.states.specs.Normaliser.{normal_of, normalise_into}
use Rattle.states.specs.Reader.{values_needed, bytes_needed, sized, clear, at_once, checked, read_into, answer_of, values_over}
use Rattle.states.specs.Writer.{write_into, bytes_over}

-- ---- what two answers that are alike have in common

-- the number of a refusal, 0 where there is none
abbrev pub number_in : Result → ℕ
number_in a = (in_numbers (answer_of a)).0

pub same_number : {a b : Result} → Alike a b → number_in a ≡ number_in b
same_number both_accepted = refl
same_number (both_refused h) = ap number_of h

-- what an answer leaves, if every refusal leaves the same
pub same_left : (left : Result → List ℕ) → ((r s : Refusal) → left (refused r) ≡ left (refused s)) → {a b : Result} → Alike a b → left a ≡ left b
same_left left keeps both_accepted = refl
same_left left keeps (both_refused {r = r} {q = q} h) = keeps r q

normal_alike : {a b : Result} → Alike a b → Alike (normal_of a) (normal_of b)
normal_alike both_accepted = both_accepted
normal_alike (both_refused h) = both_refused h

-- a test before it, whose refusal has place 0 either way
pub tested_alike : (test : Bool) (k : Kind) {a b : Result} → Alike a b → Alike (cond test a (at_once k)) (cond test b (at_once k))
tested_alike true k h = h
tested_alike false k h = both_refused refl

-- ---- so are the answers under two definitions of the place

module _ (place other : Kind → State → ℕ) (collides : Context → ℕ → Bool) where
  abbrev pub p : Terms
  p = record { place_of = place; collides = collides }

  abbrev pub q : Terms
  q = record { place_of = other; collides = collides }

  pub check_alike : (s : List ℕ) (n : ℕ) → Alike (checked p s n) (checked q s n)
  unfolding checked
  check_alike s n =
      tested_alike (sized s n) Size (tested_alike (clear s n) Padding (read_alike p q (λ c v. refl) (take n (bits_of s))))

  pub reader_alike : (s : List ℕ) (n room : ℕ) → Alike (read_into p s n room) (read_into q s n room)
  unfolding read_into
  reader_alike s n room = tested_alike (leb values_needed room) Room (check_alike s n)

  pub normaliser_alike : (s : List ℕ) (n room : ℕ) → Alike (normalise_into p s n room) (normalise_into q s n room)
  unfolding normalise_into
  normaliser_alike s n room = tested_alike (leb bytes_needed room) Room (normal_alike (check_alike s n))

  pub writer_alike : (vs : List ℕ) (room : ℕ) → Alike (write_into p vs room) (write_into q vs room)
  unfolding write_into
  writer_alike vs room = tested_alike (leb bytes_needed room) Room (write_alike p q (λ c v. refl) vs)

  pub label_alike : (vs : List ℕ) (room : ℕ) → Alike (label_into p vs room) (label_into q vs room)
  unfolding label_into
  label_alike vs room = tested_alike (leb values_needed room) Room (write_alike p q (λ c v. refl) vs)

  -- ---- and what they leave in what is lent

  module _ (before : List ℕ) where
    pub reader_leaves : (s : List ℕ) (n room : ℕ) → values_over (read_into p s n room) before ≡ values_over (read_into q s n room) before
    reader_leaves s n room = same_left (λ r. values_over r before) (λ r t. refl) (reader_alike s n room)

    pub normaliser_leaves : (s : List ℕ) (n room : ℕ) → bytes_over (normalise_into p s n room) before ≡ bytes_over (normalise_into q s n room) before
    normaliser_leaves s n room = same_left (λ r. bytes_over r before) (λ r t. refl) (normaliser_alike s n room)

    pub writer_leaves : (vs : List ℕ) (room : ℕ) → bytes_over (write_into p vs room) before ≡ bytes_over (write_into q vs room) before
    writer_leaves vs room = same_left (λ r. bytes_over r before) (λ r t. refl) (writer_alike vs room)

    pub label_leaves : (vs : List ℕ) (room : ℕ) → numbers_over (label_into p vs room) before ≡ numbers_over (label_into q vs room) before
    label_leaves vs room = same_left (λ r. numbers_over r before) (λ r t. refl) (label_alike vs room)
