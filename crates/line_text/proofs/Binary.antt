-- The characters of a bit string, put one by one. Assumes nothing.
use mathlib.Core.Path.{◌≡◌, sym, ap, ◌∙◌}
use mathlib.Core.List.{List, ◌++◌}
use Prim.Native.Nat.{ℕ, suc, ◌+◌, ◌*◌, ◌≤◌, ◌<◌}
use native.Mathlib.Numerals.{add-one}
use native.Mathlib.Omega.{arith}
use borrow.Author.Tests.{le-leb, lt-leb}
use lib.ListN.{length, take, drop, get_or, set}
use lib.Seq.{drop-cons, set_at, append_snoc, length-take-le}
use Rattle.bits.specs.Bits.{bits_of}
use Rattle.pieces.specs.Pieces.{Grown}
use Rattle.pieces.proofs.Starts.{grown_none}
use Rattle.packing.specs.Packing.{character_of, characters}
use Rattle.packing.proofs.Characters.{length_characters, characters_suc}
use Rattle.line_text.specs.Characters.{characters_into}

-- one more, stored behind those that are there
pub characters_again : (bs before : List ℕ) (i : ℕ) → i < length bs → i < length before
    → set (characters (take i bs) ++ drop i before) i (character_of (get_or bs i 0)) ≡ characters (take (i + 1) bs) ++ drop (i + 1) before
characters_again bs before i h l =
    ap (λ (r : List ℕ). set (characters (take i bs) ++ r) i y) (drop-cons before i 0 l)
    ∙ set_at (characters (take i bs)) (get_or before i 0) (drop (suc i) before) y i many
    ∙ sym (append_snoc (characters (take i bs)) y (drop (suc i) before))
    ∙ ap (λ (r : List ℕ). r ++ drop (suc i) before) (sym (characters_suc bs i h))
    ∙ ap (λ (n : ℕ). characters (take n bs) ++ drop n before) (sym (add-one i))
  where
    y : ℕ
    y = character_of (get_or bs i 0)

    many : length (characters (take i bs)) ≡ i
    many = length_characters (take i bs) ∙ length-take-le i bs (omega arith)

pub characters_all : (bs before out : List ℕ) (i n : ℕ) → i ≡ n → n ≤ length bs → out ≡ characters (take i bs) ++ drop i before
    → Grown before (characters (take n bs)) n out
characters_all bs before out i n e h is =
    let many : n ≡ length (characters (take n bs)) = sym (length_characters (take n bs) ∙ length-take-le n bs h) in
    record {
      here = many;
      is = is ∙ ap (λ (k : ℕ). characters (take k bs) ++ drop k before) e ∙ ap (λ (k : ℕ). characters (take n bs) ++ drop k before) many;
    }

-- ---- every number of bits and every room

module _ (s : List ℕ) (n : ℕ) (before : List ℕ) where
  pub bits_few : 8 * length s < n → Grown before (characters_into s n (length before)) 0 before
  unfolding characters_into
  bits_few h = rw (lt-leb n (8 * length s) h) (grown_none before)

  pub room_few : n ≤ 8 * length s → length before < n → Grown before (characters_into s n (length before)) 0 before
  unfolding characters_into
  room_few h g = rw (le-leb n (8 * length s) h, lt-leb n (length before) g) (grown_none before)

  pub characters_into_lem : n ≤ 8 * length s → n ≤ length before → characters_into s n (length before) ≡ characters (take n (bits_of s))
  unfolding characters_into
  characters_into_lem h g = rw (le-leb n (8 * length s) h, le-leb n (length before) g)
