-- `store::store` meets its contract: four bytes in the place of four are a field of 32 bits. Assumes nothing.
use mathlib.Core.List.{List, ◌∷◌, []}
use mathlib.Core.Path.{◌≡◌, refl, sym, ap, ◌∙◌}
use Prim.Native.Nat.{ℕ, suc, ◌+◌, ◌-◌, ◌/◌, ◌%◌, ◌≤◌}
use native.Mathlib.Omega.{arith}
use lib.ListN.{length, set}
use lib.Seq.{paste, sets-eq}
use Rattle.std.proofs.lemmas.Slice.{put_mid-paste}
use Rattle.bits.specs.Bits.{bits_of}
use Rattle.bits.proofs.Windows.{stored}
use Rattle.store.proofs.store.Goals as goal

-- four over those from k on, one by one
four : (s : List ℕ) (k a b c d : ℕ) → k + 4 ≤ length s
    → paste s k (a ∷ b ∷ c ∷ d ∷ []) 4 ≡ set (set (set (set s k a) (k + 1) b) (k + 2) c) (k + 3) d
four s k a b c d h =
    let one : k + 1 ≡ suc k = omega arith in
    let two : k + 2 ≡ suc (suc k) = omega arith in
    let three : k + 3 ≡ suc (suc (suc k)) = omega arith in
    rw (one, two, three) (sym (sets-eq (a ∷ b ∷ c ∷ d ∷ []) s k h))

pub returns : goal.returns
returns c =
    let a = c.args in
    let w = c.low_bits.result in
    ap bits_of
    (put_mid-paste a.k (a.k + 4 - a.k) a.out.now c.copy_from_slice.new.self (w / 16777216 % 256 ∷ w / 65536 % 256 ∷ w / 256 % 256 ∷ w % 256 ∷ []) 4
    (c.copy_from_slice.ensures.after ∙ c.to_be_bytes-bytes.ensures) (omega arith) refl
    ∙ four a.out.now a.k (w / 16777216 % 256) (w / 65536 % 256) (w / 256 % 256) (w % 256) c.requires)
    ∙ stored a.out.now a.k a.w (w / 16777216 % 256) (w / 65536 % 256) (w / 256 % 256) (w % 256) c.requires
    (omega (arith, c.low_bits.ensures)) (omega (arith, c.low_bits.ensures)) (omega (arith, c.low_bits.ensures)) (omega (arith, c.low_bits.ensures))
