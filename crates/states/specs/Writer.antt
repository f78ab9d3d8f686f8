-- docs/RULES.md, "Telegrams": what the writer answers, and what the lent bytes then hold. Definitions alone.
use Rattle.std.specs.Prelude.{◌≡◌, cond, List, ◌++◌, ℕ, ◌^◌, ◌≤◌, leb, ltb, length, drop, Ok, Err, ⊤}
use Rattle.bits.specs.Bits.{bytes_of}
use Rattle.format.specs.Refusals.{in_numbers, Answer}
use Rattle.format.specs.Rules.{Terms, paper}
use Rattle.format.specs.Telegrams.{Entry, Result, Telegram, bits, bit_count, values, write}
use Rattle.format.specs.Telegrams.Result.{accepted, refused}
use Rattle.format.specs.declared.Kind.TheVariants.{Wide, Full}
use Rattle.states.specs.Reader.{bytes_needed, roomed, answered}
use Rattle.format.specs.declared.Kind.{Kind}
use Rattle.std.specs.Prelude as code

-- the writer, lent so many bytes
unfoldable pub write_into : Terms → List ℕ → ℕ → Result
write_into p vs room = roomed bytes_needed room (write p vs)

-- "Gives n"
abbrev pub size_of : Result → Answer
size_of r = answered bit_count r

-- "fills at least 104 lent bytes"; "output .. past byte ceil(n/8) - 1, keeps its former contents"; "A refusal .. changes no output"
abbrev pub bytes_over : Result → List ℕ → List ℕ
bytes_over (accepted es) before = bytes_of (bits es) ++ drop (length (bytes_of (bits es))) before
bytes_over (refused r) before = before

-- the promise of `write`
pub record Write (p : Terms) (vs : List ℕ) (before : List ℕ) (answer : Answer) (after : List ℕ) : Type 0 where
  pub answers : in_numbers answer ≡ in_numbers (size_of (write_into p vs (length before)))
  pub contents : after ≡ bytes_over (write_into p vs (length before)) before

-- a value for a field of w bits that ends at the bit end. "12: .. a value does not fit its field's width"; "13: .. the field would end past bit 830"; "At one
-- field: 5, 12, 13"
abbrev pub fitting : ℕ → ℕ → ℕ → code.Result ⊤ Kind
fitting v w end = cond (ltb v (2 ^ w)) (cond (leb end 830) (Ok tt) (Err Full)) (Err Wide)

-- ---- the second run, over values that are an accepted telegram of n bits

pub record Storing (vs : List ℕ) (n : ℕ) (out : List ℕ) : Type 0 where
  pub entries : List Entry
  pub telegram : Telegram paper entries
  pub same : vs ≡ values entries
  pub size : n ≡ bit_count entries
  pub room : 104 ≤ length out

-- the bytes of that telegram stand in front, and behind them is what was there
abbrev pub Stored : List ℕ → List ℕ → List ℕ → Type 0
Stored vs before after = (es : List Entry) → Telegram paper es → vs ≡ values es → after ≡ bytes_over (accepted es) before
