-- docs/RULES.md, "Distances and the normal form": steps of a scale and decimetres, by the number that Q_SCALE holds. Definitions alone.
use Rattle.std.specs.Prelude.{ℕ, ◌*◌, ◌/◌, ◌^◌}

-- "Q_SCALE 0, 1, 2 is a step of 1, 10, 100 dm": the decimetres of a step of the scale q
abbrev pub step : ℕ → ℕ
step q = 10 ^ q

-- the decimetres of v steps of the scale q
abbrev pub decimetres : ℕ → ℕ → ℕ
decimetres q v = v * step q

-- the whole steps of the scale q in d decimetres
abbrev pub steps : ℕ → ℕ → ℕ
steps q d = d / step q
