-- The bytes of a telegram are accepted as it, and bytes that are accepted are the bytes of their entries: bytes with clear unused bits are
-- those of their bits. For any terms. Assumes nothing.
use mathlib.Core.Bool.{Bool, true, false}
use mathlib.Core.List.{List, [], ◌∷◌, ◌++◌}
use mathlib.Core.Path.{◌≡◌, refl, sym, ap, ◌∙◌}
use Prim.Native.Nat.{ℕ, zero, suc, ◌-◌, ◌*◌, ◌≤◌}
use native.Mathlib.Omega.{arith}
use borrow.Author.Tests.{leb-true, leb-false}
use lib.Dec.{leb}
use lib.ListN.{length, take, drop, replicate, length-drop, take-append-drop}
use lib.Seq.{drop_at, length-take-le, take-append-le, take-append_seam}
use Rattle.bits.specs.Bits.{bits_of, bytes_of, bytes_for, Below}
use Rattle.bits.proofs.Bytes.{length_bits_of, length_bytes_of, bits_of_bytes_of, take_bits_of_bytes_of, bytes_are}
use Rattle.format.specs.Rules.{Terms}
use Rattle.format.specs.Telegrams.{Entry, Telegram, bits, bit_count}
use Rattle.format.specs.Telegrams.Result.{accepted}
use Rattle.laws.proofs.Demand2.{length_bits, below_bits, room}
use Rattle.laws.proofs.Prefix.{bits_no_prefix}
use Rattle.laws.proofs.Tile.{tiled}
use Rattle.states.specs.Reader.{checked}
use Rattle.states.proofs.Answers.{sized_is, clear_is, Sound, check_judges}

-- ---- bits that are all 0

zeros : (xs : List ℕ) → Below 1 xs → xs ≡ replicate (length xs) 0
zeros [] h = refl
zeros (zero ∷ xs) h = ap (λ (l : List ℕ). 0 ∷ l) (zeros xs h.1)
zeros (suc x ∷ xs) h = let z = h.0 in absurd (omega arith)

zeros_below : (m : ℕ) → Below 1 (replicate m 0)
zeros_below zero = tt
zeros_below (suc m) = (omega arith, zeros_below m)

-- ---- the bytes of a telegram

-- bytes that are accepted are the bytes of their entries
module _ (p : Terms) (s : List ℕ) (n : ℕ) (es : List Entry) (a : Sound p s n es) where
  pub sent : length (bits es) ≡ n
  sent =
      let z = (sized_is s n).0 a.size in
      sym (ap length a.is) ∙ length-take-le n (bits_of s) (rw (length_bits_of s) (omega arith))

  pub same_bytes : Below 256 s → bytes_of (bits es) ≡ s
  same_bytes h =
      let z = (sized_is s n).0 a.size in
      let unused : drop n (bits_of s) ≡ replicate (length (drop n (bits_of s))) 0 = zeros (drop n (bits_of s)) ((clear_is s n).0 a.padding) in
      let e = sent in
      let long : length (drop n (bits_of s)) ≡ 8 * bytes_for (length (bits es)) - length (bits es) =
      rw (length-drop n (bits_of s), length_bits_of s, sent, z.2) in
      sym (bytes_are s (bits es) h (below_bits es) (sym (take-append-drop n (bits_of s)) ∙ rw (a.is, unused, long)))

-- and the bytes of a telegram are accepted
module _ (p : Terms) (es : List Entry) (t : Telegram p es) (n : ℕ) (e : n ≡ bit_count es) where
  long : length (bits es) ≡ n
  long = length_bits es ∙ sym e

  most : n ≤ 830
  most = let r = room p t in let l = long in omega arith

  pub bytes_long : length (bytes_of (bits es)) ≡ bytes_for n
  bytes_long = length_bytes_of (bits es) ∙ ap bytes_for long

  pub sound : Sound p (bytes_of (bits es)) n es
  sound =
      let l = long in
      let i = (tiled p t).all in
      record {
        size = (sized_is (bytes_of (bits es)) n).1 (omega arith, most, bytes_long);
        padding = (clear_is (bytes_of (bits es)) n).1 (rw (bits_of_bytes_of (bits es) (below_bits es), drop_at (bits es) (replicate (8 * bytes_for (length (bits es)) - length (bits es)) 0) n long) (zeros_below (8 * bytes_for (length (bits es)) - length (bits es))));
        telegram = t;
        is = rw (← long) (take_bits_of_bytes_of (bits es) (below_bits es));
      }

  pub checks : checked p (bytes_of (bits es)) n ≡ accepted es
  checks = ((check_judges p (bytes_of (bits es)) n).accepts es).1 sound

-- ---- no two telegrams have the same bytes, whatever their n are: the one with fewer bits would begin the other

begins : (xs ys us vs : List ℕ) → xs ++ us ≡ ys ++ vs → length xs ≤ length ys → xs ++ drop (length xs) ys ≡ ys
begins xs ys us vs h l =
    let k = length xs in
    let e : take k ys ≡ xs = sym (take-append-le k ys vs l) ∙ ap (take k) (sym h) ∙ take-append_seam xs us in
    ap (λ (l : List ℕ). l ++ drop k ys) (sym e) ∙ take-append-drop k ys

pub one_telegram : (p : Terms) (es fs : List Entry) → Telegram p es → Telegram p fs → bytes_of (bits es) ≡ bytes_of (bits fs) → es ≡ fs
one_telegram p es fs t u h =
    let e = sym (bits_of_bytes_of (bits es) (below_bits es)) ∙ ap bits_of h ∙ bits_of_bytes_of (bits fs) (below_bits fs) in
    by (leb (length (bits es)) (length (bits fs))) refl _ _ e
  where
    by : (b : Bool) → leb (length (bits es)) (length (bits fs)) ≡ b → (us vs : List ℕ) → bits es ++ us ≡ bits fs ++ vs → es ≡ fs
    by true l us vs e = (bits_no_prefix p t u (drop (length (bits es)) (bits fs)) (begins (bits es) (bits fs) us vs e (leb-true _ _ l))).0
    by false l us vs e =
        let k = leb-false (length (bits es)) (length (bits fs)) l in
        sym (bits_no_prefix p u t (drop (length (bits fs)) (bits es)) (begins (bits fs) (bits es) vs us (sym e) (omega arith))).0
