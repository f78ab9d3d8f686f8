-- What the second run of the reader goes by: bits that are an accepted telegram. Definitions alone.
use Rattle.std.specs.Prelude.{◌≡◌, List, ℕ, ◌*◌, ◌≤◌, length, take}
use Rattle.bits.specs.Bits.{bits_of}
use Rattle.format.specs.Rules.{paper}
use Rattle.format.specs.Telegrams.{Entry, Telegram, bits}
use Rattle.format.specs.Telegrams.Result.{accepted}
use Rattle.states.specs.Reader.{values_over}

-- the first n bits of s are a telegram, and the run has room for the values of any
pub record Filling (s : List ℕ) (n : ℕ) (out : List ℕ) : Type 0 where
  pub entries : List Entry
  pub telegram : Telegram paper entries
  pub same : take n (bits_of s) ≡ bits entries
  pub within : n ≤ 8 * length s
  pub room : 830 ≤ length out

-- the run holds the values of that telegram, and behind them what it held
abbrev pub Filled : List ℕ → ℕ → List ℕ → List ℕ → Type 0
Filled s n before after =
    (es : List Entry) → Telegram paper es → take n (bits_of s) ≡ bits es → after ≡ values_over (accepted es) before
