-- The bits of bytes as characters, from the front. Assumes nothing.
use mathlib.Core.Path.{◌≡◌, refl, ap, ◌∙◌}
use mathlib.Core.List.{List, [], ◌∷◌, ◌++◌}
use Prim.Native.Nat.{ℕ, zero, suc, ◌*◌, ◌≤◌, ◌<◌}
use native.Mathlib.Omega.{arith}
use borrow.Author.Tests.{eq-eqb, ne_eqb}
use lib.ListN.{length, take, get_or, length-map}
use lib.Seq.{drop-cons}
use Rattle.bits.specs.Bits.{value_of, bits_of}
use Rattle.bits.specs.Take.{field_bits, taken_at}
use Rattle.bits.proofs.Bytes.{length_bits_of}
use Rattle.bits.proofs.Fields.{take_whole}
use Rattle.packing.specs.Packing.{character_of, characters, character_in}

pub character_one : (b : ℕ) → b ≡ 1 → 49 ≡ character_of b
character_one b e = rw (eq-eqb b 1 e)

pub character_zero : (b : ℕ) → (b ≡ 1 → ⊥) → 48 ≡ character_of b
character_zero b e = rw (ne_eqb b 1 e)

value_one : (b : ℕ) → value_of (b ∷ []) ≡ b
unfolding value_of
value_one b = omega arith

-- the field of one bit is that bit
bit_is : (s : List ℕ) (at : ℕ) → at < 8 * length s → value_of (field_bits s 1 at) ≡ get_or (bits_of s) at 0
bit_is s at h =
    let l : at < length (bits_of s) = rw (length_bits_of s) h in
    ap (λ (bs : List ℕ). value_of (take 1 bs)) (drop-cons (bits_of s) at 0 l) ∙ value_one (get_or (bits_of s) at 0)

-- what `character` answers of a bit that is there
pub character_there : (s : List ℕ) (n at : ℕ) → at < n → n ≤ 8 * length s → character_in (taken_at s n 1 at) ≡ character_of (get_or (bits_of s) at 0)
character_there s n at h room =
    ap character_in (take_whole s n 1 at (omega arith) (omega arith) room) ∙ ap character_of (bit_is s at (omega arith))

pub length_characters : (bs : List ℕ) → length (characters bs) ≡ length bs
length_characters bs = length-map bs character_of

-- one more
pub characters_suc : (bs : List ℕ) (i : ℕ) → i < length bs → characters (take (suc i) bs) ≡ characters (take i bs) ++ (character_of (get_or bs i 0) ∷ [])
characters_suc [] i h = absurd (omega arith)
characters_suc (b ∷ bs) zero h = refl
characters_suc (b ∷ bs) (suc i) h = ap (λ (l : List ℕ). character_of b ∷ l) (characters_suc bs i (omega arith))
