-- What the refusals of check, reader, writer, label and normaliser point at, over the entries before it: the field that could not be finished,
-- the field whose value breaks the rule, the L_PACKET that is wrong, or what follows the end mark. For any collision rule. Assumes nothing.
use mathlib.Core.Bool.{Bool, true, false, cond}
use mathlib.Core.List.{List}
use mathlib.Core.Path.{◌≡◌, refl}
use Prim.Native.Nat.{ℕ, ◌<◌}
use native.Mathlib.Omega.{arith}
use lib.Dec.{leb}
use lib.ListN.{take}
use Rattle.bits.specs.Bits.{bits_of}
use Rattle.format.specs.Normal.{normal}
use Rattle.format.specs.Refusals.{number_of}
use Rattle.format.specs.Rules.{Context, clash, collides_by, paper}
use Rattle.format.specs.Telegrams.{Entry, Result, from_bits, from_values, bits_in, values_in, write}
use Rattle.format.specs.Telegrams.Result.{accepted, refused}
use Rattle.format.specs.declared.Kind.TheVariants.{Room}
use Rattle.format.specs.declared.Refusal.{Refusal}
use Rattle.laws.proofs.Points.{Pointed}
use Rattle.laws.proofs.Pointed.{pointing, read_pointed, write_pointed}
use Rattle.laws.proofs.Shown.{Shown, read_shown}
use Rattle.states.specs.Labels.{label_into}
use Rattle.states.specs.Normaliser.{normal_of, normalise_into}
use Rattle.states.specs.Reader.{values_needed, bytes_needed, early, at_once, checked, read_into}
use Rattle.states.specs.Writer.{write_into}
use Rattle.states.proofs.Answers.{sent_below, sent_few, fields_decide, field_given}

-- the terms that hold are some of these
pub paper_points : pointing (collides_by clash) ≡ paper
paper_points = refl

-- ---- a refusal from 4 on does not come of the room that is lent

pub not_room : (r : Refusal) → early Room ≡ r → 3 < number_of r.kind → ⊥
not_room r i = rw (← i) (λ l. omega arith)

pub room_passed : (test : Bool) (a : Result) (r : Refusal) → 3 < number_of r.kind → cond test a (at_once Room) ≡ refused r → a ≡ refused r
room_passed true a r l e = e
room_passed false a r l e = absurd (not_room r (cc) l)

-- the normaliser gives the normal form of what the check accepts, and refuses what it refuses
pub normal_given : (a : Result) (fs : List Entry) → normal_of a ≡ accepted fs → (es : List Entry) × (a ≡ accepted es) × (fs ≡ normal es)
normal_given (accepted es) fs e = (es, refl, cc)
normal_given (refused r) fs e = let z : ◌≡◌ {A = ℕ} 0 1 = cc in absurd (omega arith)

pub normal_refused : (a : Result) (r : Refusal) → normal_of a ≡ refused r → a ≡ refused r
normal_refused (accepted es) r e = cc
normal_refused (refused q) r e = e

module _ (collides : Context → ℕ → Bool) (r : Refusal) (late : 3 < number_of r.kind) where
  -- ---- bits

  module _ (s : List ℕ) (n : ℕ) where
    abbrev sent : List ℕ
    sent = take n (bits_of s)

    pub check_pointed : checked (pointing collides) s n ≡ refused r → Pointed (pointing collides) from_bits bits_in sent r
    check_pointed e =
        let g = (field_given (pointing collides) s n r late).0 e in
        read_pointed collides sent (sent_below s n) (sent_few s n g.0) r (((fields_decide (pointing collides) s n g.0).refuses r).1 g.2)

    -- the bits at the place are that field's
    pub check_shown : (e : checked (pointing collides) s n ≡ refused r) → Shown sent (check_pointed e).points
    check_shown e = read_shown sent (sent_below s n) (sent_few s n ((field_given (pointing collides) s n r late).0 e).0) (check_pointed e)

    pub reader_pointed : (room : ℕ) → read_into (pointing collides) s n room ≡ refused r → Pointed (pointing collides) from_bits bits_in sent r
    unfolding read_into
    reader_pointed room e = check_pointed (room_passed (leb values_needed room) (checked (pointing collides) s n) r late e)

    pub normaliser_pointed : (room : ℕ) → normalise_into (pointing collides) s n room ≡ refused r
        → Pointed (pointing collides) from_bits bits_in sent r
    unfolding normalise_into
    normaliser_pointed room e =
        let a = checked (pointing collides) s n in
        check_pointed (normal_refused a r (room_passed (leb bytes_needed room) (normal_of a) r late e))

  -- ---- values

  pub writer_pointed : (vs : List ℕ) (room : ℕ) → write_into (pointing collides) vs room ≡ refused r
      → Pointed (pointing collides) from_values values_in vs r
  unfolding write_into
  writer_pointed vs room e = write_pointed collides vs r (room_passed (leb bytes_needed room) (write (pointing collides) vs) r late e)

  pub label_pointed : (vs : List ℕ) (room : ℕ) → label_into (pointing collides) vs room ≡ refused r
      → Pointed (pointing collides) from_values values_in vs r
  unfolding label_into
  label_pointed vs room e = write_pointed collides vs r (room_passed (leb values_needed room) (write (pointing collides) vs) r late e)
