-- The lines of a text, and the text that a whole input is answered with. Definitions alone.
use Rattle.std.specs.Prelude.{cond, ℕ, eqb}
use mathlib.Core.List.{List, [], ◌∷◌, ◌++◌, drop_last}

-- the beginning of a line in front of the lines behind it: it belongs to the first of them; where there is none it is a line by itself, unless it
-- is empty
abbrev pub in_front : List ℕ → List (List ℕ) → List (List ℕ)
in_front [] lines = lines
in_front (c ∷ part) [] = (c ∷ part) ∷ []
in_front (c ∷ part) (line ∷ lines) = (c ∷ (part ++ line)) ∷ lines

-- a line ends at a newline (10): "A last line with no newline counts if it is not empty"
unfoldable pub lines_of : List ℕ → List (List ℕ)
lines_of [] = []
lines_of (c ∷ text) = cond (eqb c 10) ([] ∷ lines_of text) (in_front (c ∷ []) (lines_of text))

-- the lines that end in a text: with a newline more there would be one more, which may be only begun
abbrev pub whole_lines : List ℕ → List (List ℕ)
whole_lines text = drop_last (lines_of (text ++ (10 ∷ [])))

-- ---- the answers, whatever is answered to a line

-- to some lines, one behind the other
unfoldable pub answers : (List ℕ → List ℕ) → List (List ℕ) → List ℕ
answers f [] = []
answers f (line ∷ lines) = f line ++ answers f lines

-- the text that a whole input is answered with
abbrev pub answers_to : (List ℕ → List ℕ) → List ℕ → List ℕ
answers_to f text = answers f (lines_of text)
