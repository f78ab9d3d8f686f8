-- Worked examples of the definitions, each computed by the checker. Assumes nothing.
use Rattle.std.specs.Prelude.{◌≡◌, refl, List, [], ◌∷◌, ◌++◌, ℕ}
use Rattle.queue.specs.Waiting.{waiting, put}
use Rattle.line_by_line.specs.Lines.{lines_of, whole_lines, answers, answers_to}
use Rattle.line_by_line.specs.Written.{spilled}

-- `ab`, a newline, an empty line, and `c` with no newline; `ab` and a newline; nothing; a newline alone
lines : lines_of (97 ∷ 98 ∷ 10 ∷ 10 ∷ 99 ∷ []) ∷ lines_of (97 ∷ 98 ∷ 10 ∷ []) ∷ lines_of [] ∷ lines_of (10 ∷ []) ∷ []
    ≡ ((97 ∷ 98 ∷ []) ∷ [] ∷ (99 ∷ []) ∷ []) ∷ ((97 ∷ 98 ∷ []) ∷ []) ∷ [] ∷ ([] ∷ []) ∷ []
unfolding lines_of
lines = refl

-- of the first, two lines end in it
ended : whole_lines (97 ∷ 98 ∷ 10 ∷ 10 ∷ 99 ∷ []) ≡ (97 ∷ 98 ∷ []) ∷ [] ∷ []
unfolding lines_of
ended = refl

-- each line answered by itself and a full stop
stops : answers_to (λ (line : List ℕ). line ++ (46 ∷ [])) (97 ∷ 98 ∷ 10 ∷ 10 ∷ 99 ∷ []) ≡ 97 ∷ 98 ∷ 46 ∷ 46 ∷ 99 ∷ 46 ∷ []
unfolding lines_of answers
stops = refl

-- `abcdef` behind one character that waits, in an array of four bytes: the fourth finds it full, and the rest waits
written : spilled (97 ∷ 98 ∷ 99 ∷ 100 ∷ 101 ∷ 102 ∷ []) (waiting 1 (120 ∷ 0 ∷ 0 ∷ 0 ∷ [])) ≡ 120 ∷ 97 ∷ 98 ∷ 99 ∷ []
unfolding spilled put
written = refl
