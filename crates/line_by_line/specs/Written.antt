-- What is handed over to be written while a text is put into a queue. Definitions alone.
use Rattle.std.specs.Prelude.{cond, List, [], ◌∷◌, ◌++◌, ℕ, ltb, length, take}
use Rattle.queue.specs.Waiting.{Waits, put}

-- the characters that wait
abbrev pub front : Waits → List ℕ
front w = take w.count w.bytes

-- what one more character has written: all that waits, where the array is full
abbrev pub pushed : Waits → List ℕ
pushed w = cond (ltb w.count (length w.bytes)) [] (front w)

-- what a text has written, character by character
unfoldable pub spilled : List ℕ → Waits → List ℕ
spilled [] w = []
spilled (c ∷ text) w = pushed w ++ spilled text (put c w)
