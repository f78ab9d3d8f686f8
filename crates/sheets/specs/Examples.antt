-- Worked examples of the definitions, each computed by the checker. Assumes nothing.
use Rattle.std.specs.Prelude.{refl, [], ◌∷◌}
use Rattle.sheets.specs.Input.{Holds}

-- a buffer of three bytes holds an input of two, and the start of one of five
buffers : Holds (48 ∷ 49 ∷ 0 ∷ []) 2 (48 ∷ 49 ∷ []) × Holds (48 ∷ 49 ∷ 48 ∷ []) 3 (48 ∷ 49 ∷ 48 ∷ 49 ∷ 49 ∷ [])
buffers = (refl, refl)
