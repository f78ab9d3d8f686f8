-- **A telegram over which hops lead to its end mark is normalised by its copy**: the hops saw that each packet is in metres or has no scale, so
-- that it is its own normal form, and accepted bytes are the bytes of their entries. Assumes nothing.
use mathlib.Core.List.{List, ◌++◌}
use mathlib.Core.Bool.{Bool, true, false, ◌&&◌}
use mathlib.Core.Path.{◌≡◌, refl, sym, ap, ◌∙◌, subst}
use Prim.Native.Nat.{ℕ, ◌+◌, ◌*◌, ◌≤◌}
use native.Mathlib.Omega.{arith}
use lib.ListN.{length, take, drop}
use lib.Seq.{length-take-le}
use Rattle.bits.specs.Bits.{bits_of, bytes_of, Below}
use Rattle.bits.proofs.Bytes.{length_bits_of}
use Rattle.format.specs.Normal.{normal}
use Rattle.format.specs.Rules.{paper}
use Rattle.format.specs.Telegrams.{Entry, Telegram, bits}
use Rattle.laws.proofs.Tile.{tiled}
use Rattle.states.specs.Normaliser.{Telling, Normalised}
use Rattle.states.proofs.Accepting.{same_bytes}
use Rattle.states.proofs.Answers.{sized_is, Sound}
use Rattle.states.proofs.Laying.{few_bits}
use Rattle.bits.specs.Ahead.{behind}
use Rattle.bits.proofs.Looked.{number_within}
use Rattle.bits.proofs.Sight.{Ahead}
use Rattle.passing.proofs.Sorts.{long_is}
use Rattle.telling.proofs.MetresThere.{metres_there, hop}
use Rattle.telling.proofs.Hopped.{Hopped, hopped_more, telegram_hopped}

-- hops over packets that are in metres or have no scale lead to the end mark
pub record Metric (s : List ℕ) (n : ℕ) : Type 0 where
  pub last : ℕ
  pub ends : last + 8 ≡ n
  pub hopped : Hopped s 50 last

-- of both marks
pub both : (a b : Bool) → (a && b) ≡ true → (a ≡ true) × (b ≡ true)
both true true h = (refl, refl)
both true false h = let z : ◌≡◌ {A = ℕ} 0 1 = cc in absurd (omega arith)
both false b h = let z : ◌≡◌ {A = ℕ} 0 1 = cc in absurd (omega arith)

-- a loop that goes from packet to packet grows them by one
pub hopped_on : {s : List ℕ} {x w long : ℕ} → Hopped s 50 x → Ahead s x w → x + 23 ≤ 8 * length s → long ≡ behind w 10 13 → metres_there s x ≡ true
    → Hopped s 50 (x + long)
hopped_on {s} {x} {w} {long} h a r e m =
    let same : hop s x ≡ x + long = ap (λ (k : ℕ). x + k) (number_within s 13 (x + 10) (omega arith) ∙ long_is a r ∙ sym e) in
    subst (Hopped s 50) same (hopped_more h m)

module _ {s : List ℕ} {n : ℕ} {out : List ℕ} (f : Telling s n out) where
  -- the check accepts it, as whichever telegram has these bits
  sound : {es : List Entry} → Telegram paper es → take n (bits_of s) ≡ bits es → Sound paper s n es
  sound {es} t e =
      let long : n ≡ length (bits es) = sym (length-take-le n (bits_of s) (rw (length_bits_of s) f.within)) ∙ ap length e in
      let least = (tiled paper t).all in
      record { size = (sized_is s n).1 (omega arith, few_bits t long, f.bytes); padding = f.clear; telegram = t; is = e }

  -- so its bytes in front of what was behind them are what normalising is to leave
  pub copied : Below 256 s → Metric s n → Normalised s n out (s ++ drop (length s) out)
  copied b m es t e =
      let form : bytes_of (bits (normal es)) ≡ s =
      ap (λ (x : List Entry). bytes_of (bits x)) (telegram_hopped s paper t n e m.ends m.hopped) ∙ same_bytes paper s n es (sound t e) b in
      ap (λ (x : List ℕ). x ++ drop (length x) out) (sym form)
