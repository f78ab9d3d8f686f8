-- A line as a group of telegrams, and these put into what is lent. Definitions alone.
use Rattle.std.specs.Prelude.{◌≡◌, Bool, cond, ◌&&◌, List, [], ◌∷◌, ◌++◌, map, ℕ, zero, suc, leb, length, drop, Ok, Err, Result, Some, None}
use Rattle.std.proofs.Math.Option.{Option, some, none}
use Rattle.words.specs.Words.{words_in}
use Rattle.telegram_word.specs.Telegrams.{Telegram, telegram_in}
use Rattle.packing.specs.declared.PackError.TheVariants.{Other, Room}
use Rattle.packing.specs.declared.PackError.{PackError}
use Rattle.std.specs.Prelude as code

-- ---- the group

-- a word that is a telegram in front of words that all are
abbrev pub joined : Option Telegram → Option (List Telegram) → Option (List Telegram)
joined none others = none
joined (some t) none = none
joined (some t) (some ts) = some (t ∷ ts)

-- at most k words, each a TELEGRAM
unfoldable pub telegrams_in : ℕ → List (List ℕ) → Option (List Telegram)
telegrams_in k [] = some []
telegrams_in zero (word ∷ words) = none
telegrams_in (suc k) (word ∷ words) = joined (telegram_in word) (telegrams_in k words)

abbrev pub most : ℕ
most = 16

-- "A line is one group: 0 to 16 TELEGRAMs in order of arrival; the empty line is the group of none"
unfoldable pub line_group : List ℕ → Option (List Telegram)
line_group [] = some []
line_group (c ∷ line) = telegrams_in most (words_in (c ∷ line))

-- "The buffer is the bytes of all words one behind the other"
unfoldable pub buffer_of : List Telegram → List ℕ
buffer_of [] = []
buffer_of (t ∷ ts) = t.bytes ++ buffer_of ts

-- "the list is their n"
abbrev pub counts_of : List Telegram → List ℕ
counts_of ts = map (λ (t : Telegram). t.n) ts

-- ---- put into what is lent

-- in front of what was there behind them
abbrev pub bytes_over : List Telegram → List ℕ → List ℕ
bytes_over ts before = buffer_of ts ++ drop (length (buffer_of ts)) before

abbrev pub counts_over : List Telegram → List ℕ → List ℕ
counts_over ts before = counts_of ts ++ drop (length ts) before

abbrev pub roomy : List Telegram → List ℕ → List ℕ → Bool
roomy ts bytes ns = leb (length (buffer_of ts)) (length bytes) && leb (length ts) (length ns)

abbrev pub collected_of : Option (List Telegram) → List ℕ → List ℕ → Result (ℕ × ℕ) PackError
collected_of none bytes ns = Err Other
collected_of (some ts) bytes ns = cond (roomy ts bytes ns) (Ok (length ts, length (buffer_of ts))) (Err Room)

-- "a refusal leaves everything as it was"
abbrev pub bytes_then : Option (List Telegram) → List ℕ → List ℕ → List ℕ
bytes_then none bytes ns = bytes
bytes_then (some ts) bytes ns = cond (roomy ts bytes ns) (bytes_over ts bytes) bytes

abbrev pub counts_then : Option (List Telegram) → List ℕ → List ℕ → List ℕ
counts_then none bytes ns = ns
counts_then (some ts) bytes ns = cond (roomy ts bytes ns) (counts_over ts ns) ns

-- what is answered to a line, and what the lent runs then hold
pub record Collects (line bytes ns : List ℕ) (answered : Result (ℕ × ℕ) PackError) (bytes' ns' : List ℕ) : Type 0 where
  pub answer : answered ≡ collected_of (line_group line) bytes ns
  pub bytes_held : bytes' ≡ bytes_then (line_group line) bytes ns
  pub counts_held : ns' ≡ counts_then (line_group line) bytes ns

-- ---- of the functions that are not public

abbrev pub size_of : Option Telegram → code.Option ℕ
size_of none = None
size_of (some t) = Some (length t.bytes)

abbrev pub measured : Option (List Telegram) → code.Option (ℕ × ℕ)
measured none = None
measured (some ts) = Some (length ts, length (buffer_of ts))

abbrev pub those : Option (List Telegram) → List Telegram
those none = []
those (some ts) = ts
