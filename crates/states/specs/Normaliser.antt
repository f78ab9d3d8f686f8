-- docs/RULES.md, "Distances and the normal form": what normalising answers, and what the lent bytes then hold. Definitions alone.
use Rattle.std.specs.Prelude.{◌≡◌, true, List, ◌++◌, ℕ, ◌*◌, ◌≤◌, length, take}
use Rattle.bits.specs.Bits.{bits_of, bytes_for}
use Rattle.format.specs.Normal.{normal}
use Rattle.format.specs.Refusals.{in_numbers, Answer}
use Rattle.format.specs.Rules.{Terms, paper}
use Rattle.format.specs.Telegrams.{Entry, Result, Telegram, bits}
use Rattle.format.specs.Telegrams.Result.{accepted, refused}
use Rattle.states.specs.Reader.{bytes_needed, clear, checked, roomed}
use Rattle.states.specs.Writer.{size_of, bytes_over}

-- the normal form of what is accepted; "the reader's refusals"
abbrev pub normal_of : Result → Result
normal_of (accepted es) = accepted (normal es)
normal_of (refused r) = refused r

-- the normaliser, lent so many bytes. "1: output shorter than .. 104 bytes"
unfoldable pub normalise_into : Terms → List ℕ → ℕ → ℕ → Result
normalise_into p s n room = roomed bytes_needed room (normal_of (checked p s n))

-- the promise of `normalise`: n, and the bytes of the normal form in front of what was there
pub record Normalise (p : Terms) (s : List ℕ) (n : ℕ) (before : List ℕ) (answer : Answer) (after : List ℕ) : Type 0 where
  pub answers : in_numbers answer ≡ in_numbers (size_of (normalise_into p s n (length before)))
  pub contents : after ≡ bytes_over (normalise_into p s n (length before)) before

-- ---- the second run, over bits that are an accepted telegram

pub record Telling (s : List ℕ) (n : ℕ) (out : List ℕ) : Type 0 where
  pub entries : List Entry
  pub telegram : Telegram paper entries
  pub same : take n (bits_of s) ≡ bits entries
  pub within : n ≤ 8 * length s
  pub bytes : length s ≡ bytes_for n
  pub clear : clear s n ≡ true
  pub room : 104 ≤ length out

-- the same, where the telegram stands in front of what is lent
pub record Patching (s : List ℕ) (n : ℕ) (out : List ℕ) : Type 0 where
  pub telling : Telling s n out
  pub rest : List ℕ
  pub front : out ≡ s ++ rest

-- the bytes of that telegram's normal form stand in front, and behind them is what was there
abbrev pub Normalised : List ℕ → ℕ → List ℕ → List ℕ → Type 0
Normalised s n before after =
    (es : List Entry) → Telegram paper es → take n (bits_of s) ≡ bits es → after ≡ bytes_over (accepted (normal es)) before
