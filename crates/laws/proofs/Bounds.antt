-- The place of a refusal lies within the bits that are read, or at their end. Assumes nothing.
use mathlib.Core.Bool.{Bool}
use mathlib.Core.List.{List, ◌++◌}
use mathlib.Core.Path.{◌≡◌, ap}
use Prim.Native.Nat.{ℕ, ◌≤◌}
use native.Mathlib.Omega.{arith}
use lib.ListN.{length, drop, length-append, length-take, length-drop}
use Rattle.bits.specs.Bits.{Below}
use Rattle.format.specs.Rules.{State, Context, Terms, clash, collides_by, paper}
use Rattle.format.specs.Telegrams.{Entry, read, from_bits, bits, bit_count}
use Rattle.format.specs.Telegrams.Result.{refused}
use Rattle.format.specs.declared.Refusal.{Refusal}
use Rattle.laws.proofs.Sources.{width_positive}
use Rattle.laws.proofs.Demand2.{length_bits}
use Rattle.laws.proofs.Points.{Points, wrong_size}
use Rattle.laws.proofs.Points.Points.{lacking, breaking, sizing, trailing}
use Rattle.laws.proofs.Pointed.{pointing, read_pointed}
use Rattle.laws.proofs.Shown.{At, Shown, length_bits_in, read_shown}

module _ (bs : List ℕ) where
  -- the entries that were sent before end within the bits
  sent_within : (es : List Entry) (xs : List ℕ) → bs ≡ bits es ++ xs → bit_count es ≤ length bs
  sent_within es xs i = omega (arith, ap length i, length-append (bits es) xs, length_bits es)

  -- and where a field stands there are bits
  at_within : (x : ℕ) (e : Entry) → At bs x e → x ≤ length bs
  at_within x e h =
      omega
      (arith, ap length h, length-take e.field.width (drop x bs), length-drop x bs, length_bits_in e, width_positive e.field)

  place_within : {p : Terms} {es : List Entry} {s : State} (xs : List ℕ) {r : Refusal} → bs ≡ bits es ++ xs → (h : Points p from_bits es s xs r)
      → Shown bs h → r.place ≤ length bs
  place_within {es = es} xs i (lacking e m) h = sent_within es xs i
  place_within {es = es} xs i (breaking e f o) h = sent_within es xs i
  place_within xs {r} i (sizing e f w) h = at_within r.place (wrong_size w) h
  place_within xs {r} i (trailing e f) h = omega (arith, ap length h, length-drop r.place bs)

-- for any rule of collisions
pub read_within : (collides : Context → ℕ → Bool) (bs : List ℕ) (r : Refusal) → Below 2 bs → length bs ≤ 830
    → read (pointing collides) bs ≡ refused r → r.place ≤ length bs
read_within collides bs r b n e =
    let h = read_pointed collides bs b n r e in
    place_within bs h.left h.front h.points (read_shown bs b n h)

-- and so within the longest telegram
pub read_placed : (bs : List ℕ) (r : Refusal) → Below 2 bs → length bs ≤ 830 → read paper bs ≡ refused r → r.place ≤ 830
read_placed bs r b n e = let h = read_within (collides_by clash) bs r b n e in omega arith
