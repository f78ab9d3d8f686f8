-- The answer to a line. Definitions alone.
use Rattle.std.specs.Prelude.{cond, List, ℕ, length, Err}
use Rattle.bits.specs.Bits.{bytes_of}
use Rattle.format.specs.Rules.{paper}
use Rattle.format.specs.declared.Kind.TheVariants.{Size}
use Rattle.states.specs.Reader.{early, checked, answer_of}
use Rattle.packing.specs.Packing.{binary, bits_in}
use Rattle.format.specs.Refusals.{Answer}

-- "A line with another character .. gives `refused 2 0`"
abbrev pub no_telegram : Answer
no_telegram = Err (early Size)

-- "one telegram a line as characters 0 and 1"
unfoldable pub answer_to : List ℕ → Answer
answer_to line = cond (binary line) (answer_of (checked paper (bytes_of (bits_in line)) (length line))) no_telegram

-- so much of a line is kept: its answer does not hang on what follows
abbrev pub most : ℕ
most = 831
