-- The bits of bytes, put as characters. Assumes nothing.
use mathlib.Core.Path.{◌≡◌, sym, ap, ◌∙◌, subst}
use mathlib.Core.List.{List, [], ◌∷◌, ◌++◌}
use Prim.Native.Nat.{ℕ, ◌+◌, ◌*◌, ◌≤◌, ◌<◌}
use native.Mathlib.Numerals.{add-one}
use native.Mathlib.Omega.{arith}
use lib.ListN.{length, take, get_or}
use lib.Seq.{take_all}
use Rattle.bits.specs.Bits.{bits_of}
use Rattle.bits.proofs.Bytes.{length_bits_of}
use Rattle.packing.specs.Packing.{character_of, characters}
use Rattle.packing.proofs.Characters.{characters_suc}
use Rattle.queue.specs.Waiting.{Joins}
use Rattle.queue.specs.declared.Queue.{Queue}
use Rattle.queue.proofs.Joining.{joins_then}

module _ {before between after : List ℕ} {q r t : Queue} (s : List ℕ) (i : ℕ) where
  -- one more
  pub characters_more : (x : ℕ) → i < 8 * length s → x ≡ character_of (get_or (bits_of s) i 0)
      → Joins (characters (take i (bits_of s))) q before r between → Joins (x ∷ []) r between t after
      → Joins (characters (take (i + 1) (bits_of s))) q before t after
  characters_more x h e g p =
      let l : i < length (bits_of s) = rw (length_bits_of s) h in
      subst (λ (u : List ℕ). Joins u q before t after)
      (ap (λ (y : ℕ). characters (take i (bits_of s)) ++ (y ∷ [])) e ∙ sym (ap (λ (n : ℕ). characters (take n (bits_of s))) (add-one i) ∙ characters_suc (bits_of s) i l))
      (joins_then g p)

module _ {before after : List ℕ} {q r : Queue} (s : List ℕ) (i n : ℕ) (g : Joins (characters (take i (bits_of s))) q before r after) where
  -- the bytes have no more
  pub characters_few : 8 * length s ≤ i → i ≤ n → Joins (characters (take n (bits_of s))) q before r after
  characters_few h l =
      let few : length (bits_of s) ≤ i = rw (length_bits_of s) h in
      subst (λ (u : List ℕ). Joins (characters u) q before r after) (take_all i (bits_of s) few ∙ sym (take_all n (bits_of s) (omega arith))) g

  pub characters_all : i ≡ n → Joins (characters (take n (bits_of s))) q before r after
  characters_all e = subst (λ (k : ℕ). Joins (characters (take k (bits_of s))) q before r after) e g
