-- Where a line ends. Definitions alone.
use Rattle.std.specs.Prelude.{Bool, List, ℕ, ltb, length}
use Rattle.words.specs.Words.{up_to}

-- how many characters stand in front of the first newline (10), or in all where there is none
abbrev pub up_to_end : List ℕ → ℕ
up_to_end text = up_to 10 text

-- a line ends in this text
abbrev pub ends : List ℕ → Bool
ends text = ltb (up_to_end text) (length text)
