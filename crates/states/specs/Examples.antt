-- Worked looks back, and a header at once, of a telegram with ETCS-44 and CTCS-4 inside it, ETCS-137 and ETCS-132 behind a header of 50 bits and
-- ten values. Assumes nothing.
use Rattle.std.specs.Prelude.{true, false, List, [], ◌∷◌, ◌≡◌, refl, ℕ, Ok, Err, Some, None}
use Rattle.bits.specs.Bits.{digits, bits_of, value_of}
use Rattle.bits.specs.Take.{taken_at}
use Rattle.format.specs.Packets.{◌⧺◌, times, find, etcs, ctcs}
use Rattle.format.specs.Rules.{Earlier, clash, among, collides_among, next}
use Rattle.format.specs.declared.Kind.TheVariants.{Wide, Full}
use Rattle.states.specs.Heads.{front_of}
use Rattle.states.specs.Lookback.{packets_before, hopped, packets_among, walked}
use Rattle.states.specs.Writer.{fitting}
use Rattle.states.specs.declared.Level.TheVariants.{Packet}

abbrev bytes : List ℕ
bytes =
    144 ∷ 20 ∷ 15 ∷ 2 ∷ 168 ∷ 2 ∷ 11 ∷ 16 ∷ 35 ∷ 129 ∷ 16 ∷ 24 ∷ 32 ∷ 22 ∷ 136 ∷ 68 ∷ 160 ∷ 24 ∷ 66 ∷ 0 ∷ 24 ∷ 255 ∷ 128 ∷ []

abbrev values : List ℕ
values =
    1 ∷ 16 ∷ 0 ∷ 1 ∷ 2 ∷ 0 ∷ 30 ∷ 21 ∷ 4100 ∷ 0 ∷ 44 ∷ 1 ∷ 71 ∷ 4 ∷ 1 ∷ 48 ∷ 1 ∷ 90 ∷ 16 ∷ 137 ∷ 1 ∷ 24 ∷ 0 ∷ 132 ∷ 0 ∷ 24 ∷ 1 ∷ 255 ∷ []

abbrev earlier : ℕ → ℕ → Earlier
earlier i d = record { id = i; dir = d }

-- before the end mark, at bit 169: all three, each found behind the one before; the CTCS packet inside the first is none
hops_to_the_end : packets_before bytes 169 ≡ earlier 44 1 ∷ earlier 137 1 ∷ earlier 132 0 ∷ []
unfolding hopped taken_at bits_of digits value_of
hops_to_the_end = refl

-- before ETCS-132, which begins at bit 145, the first two; before the first packet none
hops_before_the_last : packets_before bytes 145 ≡ earlier 44 1 ∷ earlier 137 1 ∷ []
unfolding hopped taken_at bits_of digits value_of
hops_before_the_last = refl

hops_before_the_first : packets_before bytes 50 ≡ []
unfolding hopped taken_at bits_of digits value_of
hops_before_the_first = refl

-- an L_PACKET of 0 leads behind its head all the same, so that the hops come to an end
hops_of_zeros : packets_before (0 ∷ 0 ∷ 0 ∷ 0 ∷ 0 ∷ 0 ∷ 0 ∷ 0 ∷ 0 ∷ 0 ∷ 0 ∷ 0 ∷ []) 96 ≡ earlier 0 0 ∷ earlier 0 0 ∷ []
unfolding hopped taken_at bits_of digits value_of
hops_of_zeros = refl

-- the same packets among the values: before the end mark, which is the value number 27, and before the Q_DIR of ETCS-132, number 24
walk_to_the_end : packets_among values 27 ≡ earlier 44 1 ∷ earlier 137 1 ∷ earlier 132 0 ∷ []
unfolding walked next find etcs ctcs times ◌⧺◌
walk_to_the_end = refl

walk_before_the_last : packets_among values 24 ≡ earlier 44 1 ∷ earlier 137 1 ∷ []
unfolding walked next find etcs ctcs times ◌⧺◌
walk_before_the_last = refl

-- a second ETCS-137 collides with the first for its own way and for both ways; a second ETCS-44 with none
second_collides : (collides_among clash 137 1 (packets_before bytes 169) ≡ true) × (collides_among clash 137 2 (packets_before bytes 169) ≡ true)
unfolding hopped taken_at bits_of digits value_of among clash
second_collides = (refl, refl)

second_free : (collides_among clash 137 0 (packets_before bytes 169) ≡ false) × (collides_among clash 44 1 (packets_before bytes 169) ≡ false)
unfolding hopped taken_at bits_of digits value_of among clash
second_free = (refl, refl)

-- the state behind its header, at bit 50; none where 49 bits are there, or where the first three fields are other ones
header_at_once : front_of bytes 177
    ≡ Some (record {
      at = 50;
      todo = record { node = 0; left = 0; outer = 0 };
      level = Packet;
      start = 50;
      id = 0;
      dir = 0;
      long = 0;
      userstart = 0;
      userlong = 0;
      pig = 1;
    })
unfolding taken_at bits_of digits value_of
header_at_once = refl

no_header : (front_of bytes 49 ≡ None) × (front_of (16 ∷ 20 ∷ 15 ∷ 2 ∷ 168 ∷ 2 ∷ 11 ∷ []) 56 ≡ None)
unfolding taken_at bits_of digits value_of
no_header = (refl, refl)

-- 7 and 8 in three bits, up to bit 830 and past it: too wide is told before too far
fits : fitting 7 3 830 ∷ fitting 8 3 830 ∷ fitting 7 3 831 ∷ fitting 8 3 831 ∷ [] ≡ (Ok tt) ∷ Err Wide ∷ Err Full ∷ Err Wide ∷ []
fits = refl
