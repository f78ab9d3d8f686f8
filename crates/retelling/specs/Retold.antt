-- What is put for the packets of a telegram, one behind the other. Definitions alone.
use Rattle.std.specs.Prelude.{◌≡◌, Bool, cond, ◌&&◌, List, ℕ, zero, suc, ◌+◌, ◌≤◌, eqb, leb, ltb, length}
use Rattle.bits.specs.Ahead.{seen_at}
use Rattle.distance.specs.Distance.{number_of}
use Rattle.distance.specs.declared.Scale.{Scale}
use Rattle.metre_lists.specs.Groups.{roomed}
use Rattle.told.specs.Metres.{number_in, metres_said}
use Rattle.told.specs.Decides.{packet_put, packet_end}

-- what a packet with its scale at the bit q becomes, whether or not it can be told in metres
abbrev pub told_by : ℕ → Bool → (List ℕ → List ℕ) → List ℕ → List ℕ
told_by q whole puts out = cond whole (metres_said q (puts out)) out

-- a packet begins at the bit x of a telegram's bytes, and w lies ahead there
abbrev pub Within : List ℕ → ℕ → ℕ → Type 0
Within s x w = (8 ≤ length s) × (x ≤ 830) × (w ≡ seen_at s x)

-- how far behind its first bit a packet has its Q_SCALE: ETCS-44 behind the head of the CTCS packet in it
abbrev pub scale_bit : List ℕ → ℕ → ℕ
scale_bit s x = cond (eqb (number_in s 8 x) 44) 47 23

-- the Q_SCALE at the bit b is that of the scale k, which is not that of metres
abbrev pub Turns : List ℕ → ℕ → Scale → Type 0
Turns s b k = (number_in s 2 b ≡ number_of k) × (number_of k ≡ 1 → ⊥)

-- every packet from the bit x on, as long as one ends before the end mark of a telegram of n bits; there are at most k
abbrev pub each_packet : ℕ → List ℕ → ℕ → ℕ → List ℕ → List ℕ
each_packet zero s n x out = out
each_packet (suc k) s n x out =
    cond (ltb (x + 8) n)
    (cond (eqb (number_in s 13 (x + 10)) 0) (packet_put s x out) (each_packet k s n (packet_end s x) (packet_put s x out)))
    out

-- those behind the header, each of which takes a bit at least
unfoldable pub patched_to : List ℕ → ℕ → List ℕ → List ℕ
patched_to s n out = cond (roomed s out && leb n 830) (each_packet n s n 50 out) out
