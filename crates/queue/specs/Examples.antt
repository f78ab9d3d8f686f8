-- Worked examples of the definitions, each computed by the checker. Assumes nothing.
use Rattle.std.specs.Prelude.{◌≡◌, refl, Bool, true, false, List, [], ◌∷◌, ℕ}
use Rattle.queue.specs.Waiting.{waiting, put, queued, overflows, lost_by}

-- `abc` and `de` behind one character that waits, in an array of four bytes: the fifth finds it full. Of an array of no bytes, and of a queue
-- that says more than its array has
puts : queued (97 ∷ 98 ∷ 99 ∷ []) (waiting 1 (120 ∷ 0 ∷ 0 ∷ 0 ∷ [])) ∷ queued (97 ∷ 98 ∷ 99 ∷ 100 ∷ 101 ∷ []) (waiting 1 (120 ∷ 0 ∷ 0 ∷ 0 ∷ []))
    ∷ queued (97 ∷ 98 ∷ []) (waiting 7 []) ∷ queued (97 ∷ []) (waiting 9 (1 ∷ 2 ∷ [])) ∷ []
    ≡ waiting 4 (120 ∷ 97 ∷ 98 ∷ 99 ∷ []) ∷ waiting 2 (100 ∷ 101 ∷ 98 ∷ 99 ∷ []) ∷ waiting 0 [] ∷ waiting 1 (97 ∷ 2 ∷ []) ∷ []
unfolding queued put
puts = refl

-- `abc` fills the four bytes to the last, and no write can fail; `abcd` has them written. An array of no bytes loses a character, and nothing by an
-- empty text; nor does a queue that says more than its array has, until there is a character to put
abbrev lost_of : List ℕ → ℕ → List ℕ → Bool → Bool
lost_of text n bytes failed = lost_by text (record { waiting = n; lost = false }) bytes failed

losses : lost_of (97 ∷ 98 ∷ 99 ∷ []) 1 (120 ∷ 0 ∷ 0 ∷ 0 ∷ []) true ∷ lost_of (97 ∷ 98 ∷ 99 ∷ 100 ∷ []) 1 (120 ∷ 0 ∷ 0 ∷ 0 ∷ []) true
    ∷ lost_of (97 ∷ 98 ∷ 99 ∷ 100 ∷ []) 1 (120 ∷ 0 ∷ 0 ∷ 0 ∷ []) false ∷ lost_of (97 ∷ []) 7 [] false ∷ lost_of [] 7 [] true
    ∷ lost_of [] 9 (1 ∷ 2 ∷ []) true ∷ lost_of (97 ∷ []) 9 (1 ∷ 2 ∷ []) true ∷ []
    ≡ false ∷ true ∷ false ∷ true ∷ false ∷ false ∷ true ∷ []
unfolding overflows put
losses = refl
