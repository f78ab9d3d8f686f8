-- What waits in a lent array, and a text put behind it. Definitions alone.
use Rattle.std.specs.Prelude.{◌≡◌, Bool, true, false, cond, ◌&&◌, ◌||◌, List, [], ◌∷◌, ℕ, ◌+◌, min, eqb, ltb, length, set}
use Rattle.queue.specs.declared.Queue.{Queue}

-- how many characters wait, and the bytes of the array at whose front they stand
pub record Waits : Type 0 where
  pub count : ℕ
  pub bytes : List ℕ

abbrev pub waiting : ℕ → List ℕ → Waits
waiting n bytes = record { count = n; bytes = bytes }

-- a character that waits alone: an array of no bytes holds nothing
abbrev pub alone : ℕ → List ℕ → Waits
alone c [] = waiting 0 []
alone c (b ∷ bytes) = waiting 1 (c ∷ bytes)

-- one character more, behind those that wait; where the array is full, these are written and the character stands at its front
unfoldable pub put : ℕ → Waits → Waits
put c w = cond (ltb w.count (length w.bytes)) (waiting (w.count + 1) (set w.bytes w.count c)) (alone c w.bytes)

-- a text more, character by character
unfoldable pub queued : List ℕ → Waits → Waits
queued [] w = w
queued (c ∷ text) w = queued text (put c w)

-- whether a text finds the array full on its way, so that what waits has to be written
unfoldable pub overflows : List ℕ → Waits → Bool
overflows [] w = false
overflows (c ∷ text) w = cond (ltb w.count (length w.bytes)) (overflows text (put c w)) true

-- whether something is lost when a text was put: what was lost stays so. Nothing more is where all of it found room. Where the array was full, a write can have
-- failed; and an array of no bytes loses every character
abbrev pub lost_by : List ℕ → Queue → List ℕ → Bool → Bool
lost_by text q bytes failed = q.lost || overflows text (waiting q.waiting bytes) && (eqb (length bytes) 0 || failed)

-- the promise of whatever puts a text: what waits then, and what is lost. Whether a write failed hangs on the outside
pub record Joins (text : List ℕ) (q : Queue) (before : List ℕ) (r : Queue) (after : List ℕ) : Type 0 where
  pub waits : waiting r.waiting after ≡ queued text (waiting q.waiting before)
  pub failed : Bool
  pub loses : r.lost ≡ lost_by text q before failed

-- the promise of whatever writes all that waits: nothing waits then; and where nothing did, nothing is lost by it
pub record Flushed (q : Queue) (bytes : List ℕ) (r : Queue) : Type 0 where
  pub waits : r.waiting ≡ 0
  pub failed : Bool
  pub loses : r.lost ≡ cond (eqb (min q.waiting (length bytes)) 0) q.lost (q.lost || failed)
