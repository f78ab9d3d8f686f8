-- The words of a line, and the number that one is. Definitions alone.
use Rattle.std.specs.Prelude.{cond, List, [], ◌∷◌, ◌++◌, ℕ, suc, ◌+◌, eqb, length, drop, Some, None}
use Rattle.std.proofs.Math.Option.{Option, some, none}
use Rattle.pieces.specs.Numbers.{Found, decimal_in}
use Rattle.std.specs.Prelude as code

-- how many characters stand in front of the first c; all of them where there is none
unfoldable pub up_to : ℕ → List ℕ → ℕ
up_to c [] = 0
up_to c (d ∷ text) = cond (eqb d c) 0 (suc (up_to c text))

-- "words with one space between two words": the word that begins at a place ends at the next space (32), or where the line does
abbrev pub word_end : List ℕ → ℕ → ℕ
word_end line at = at + up_to 32 (drop at line)

-- "none in front and none behind": a space too many leaves a word of no character, which is neither a number nor a telegram
abbrev pub onto : ℕ → List (List ℕ) → List (List ℕ)
onto c [] = (c ∷ []) ∷ []
onto c (word ∷ others) = (c ∷ word) ∷ others

unfoldable pub words_in : List ℕ → List (List ℕ)
words_in [] = [] ∷ []
words_in (c ∷ line) = cond (eqb c 32) ([] ∷ words_in line) (onto c (words_in line))

-- and the line that some words make
unfoldable pub line_of : List (List ℕ) → List ℕ
line_of [] = []
line_of (word ∷ []) = word
line_of (word ∷ next ∷ others) = word ++ (32 ∷ line_of (next ∷ others))

-- the number in front of a word counts if it takes all n characters
abbrev pub whole : ℕ → Option Found → code.Option ℕ
whole n none = None
whole n (some x) = cond (eqb x.count n) (Some x.value) None

-- "A NUMBER is decimal with no needless zero", and below 2^64
unfoldable pub number_in : List ℕ → code.Option ℕ
number_in word = whole (length word) (decimal_in word)
