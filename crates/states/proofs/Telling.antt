-- A telegram that the check accepted, and a copy of it in front of what is lent. Assumes nothing.
use mathlib.Core.Path.{◌≡◌, refl, sym, ap, ap₂, ◌∙◌}
use mathlib.Core.List.{List, ◌++◌}
use Prim.Native.Nat.{ℕ, ◌≤◌}
use native.Mathlib.Omega.{arith}
use lib.ListN.{length, drop, length-append, length-drop}
use lib.Seq.{length-take-le, drop_at}
use Rattle.bits.specs.Bits.{bits_of, bytes_for, bytes_of}
use Rattle.bits.proofs.Bytes.{length_bits_of, length_bytes_of}
use Rattle.format.specs.Normal.{normal}
use Rattle.format.specs.Telegrams.{bits}
use Rattle.laws.proofs.Demand3.{normal_size}
use Rattle.states.specs.Normaliser.{Telling, Patching, Normalised}
use Rattle.states.proofs.Laying.{few_bits}

module _ {s : List ℕ} {n : ℕ} {out : List ℕ} (f : Telling s n out) where
  pub bits_all : n ≡ length (bits f.entries)
  bits_all = sym (length-take-le n (bits_of s) (rw (length_bits_of s) f.within)) ∙ ap length f.same

  pub normal_all : n ≡ length (bits (normal f.entries))
  normal_all = bits_all ∙ sym (normal_size f.entries)

  -- the bytes of the telegram are no more than are lent
  pub fits_in : length s ≤ length out
  fits_in = let few = few_bits f.telegram bits_all in omega (arith, f.bytes, f.room)

  -- copied, it stands in front of what was behind it
  module _ {copied : List ℕ} (c : copied ≡ s ++ drop (length s) out) where
    length_copied : length copied ≡ length out
    length_copied =
        let k = length-append s (drop (length s) out) in
        let d = length-drop (length s) out in
        let l = fits_in in
        ap length c ∙ omega arith

    pub patchable : Patching s n copied
    patchable =
        record {
          telling = record { entries = f.entries; telegram = f.telegram; same = f.same; within = f.within; bytes = f.bytes; clear = f.clear; room = rw length_copied f.room };
          rest = drop (length s) out;
          front = c;
        }

    -- what is told over the copy is told over what was there: the bytes behind are the same
    pub told_over : {after : List ℕ} → Normalised s n copied after → Normalised s n out after
    told_over t es tel e =
        let size : length (bytes_of (bits (normal es))) ≡ length s =
        length_bytes_of (bits (normal es))
        ∙ ap bytes_for (normal_size es ∙ ap length (sym e) ∙ length-take-le n (bits_of s) (rw (length_bits_of s) f.within))
        ∙ sym f.bytes in
        t es tel e
        ∙ ap (λ (x : List ℕ). bytes_of (bits (normal es)) ++ x)
        (ap₂ (λ (k : ℕ) (x : List ℕ). drop k x) size c
        ∙ drop_at s (drop (length s) out) (length s) refl
        ∙ ap (λ (k : ℕ). drop k out) (sym size))
