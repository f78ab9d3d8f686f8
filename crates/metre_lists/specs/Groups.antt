-- The groups of a list by what it is a list of: whether one is told in metres, where it ends and what is put for it, as crate `told` has them.
-- Definitions alone.
use Rattle.std.specs.Prelude.{Bool, cond, ◌&&◌, List, ℕ, ◌+◌, ◌*◌, ◌≤◌, ◌<◌, eqb, leb, length}
use Rattle.told.specs.Metres.{number_in, in_metres, link_end, profile_end, level_put, level_end, two_put, place_put, place_end, circuit_put}
use Rattle.told.specs.Decides.{whole_in, level_whole, two_whole, place_whole, circuit_whole}
use Rattle.metre_lists.specs.declared.Group.{Group}
use Rattle.metre_lists.specs.declared.Group.TheVariants.{Links, Slopes, Profiles, Levels, Conditions, Places, Sections, Restrictions}
use Rattle.metre_lists.specs.declared.Run.{Run}

-- there are as many bytes as a telegram has at least, and room for a field
abbrev pub roomed : List ℕ → List ℕ → Bool
roomed s out = leb 8 (length s) && leb 4 (length out)

-- whether the distances of a group at the bit y are whole metres that fit, in steps of the scale q
abbrev pub whole_of : Group → List ℕ → ℕ → ℕ → Bool
whole_of Links s q y = whole_in s q 15 y
whole_of Slopes s q y = whole_in s q 15 y
whole_of Profiles s q y = whole_in s q 15 y
whole_of Levels s q y = level_whole s q y
whole_of Conditions s q y = two_whole s q y
whole_of Places s q y = place_whole s q y
whole_of Sections s q y = circuit_whole s q y
whole_of Restrictions s q y = two_whole s q y

-- where it ends
abbrev pub end_of : Group → List ℕ → ℕ → ℕ
end_of Links s y = link_end s y
end_of Slopes s y = y + 24
end_of Profiles s y = profile_end s y
end_of Levels s y = level_end s y
end_of Conditions s y = y + 34
end_of Places s y = place_end s y
end_of Sections s y = y + 24
end_of Restrictions s y = y + 38

-- what is put for it
abbrev pub put_of : Group → List ℕ → ℕ → ℕ → List ℕ → List ℕ
put_of Links s q y out = in_metres s q 15 y out
put_of Slopes s q y out = in_metres s q 15 y out
put_of Profiles s q y out = in_metres s q 15 y out
put_of Levels s q y out = level_put s q y out
put_of Conditions s q y out = two_put s q y out
put_of Places s q y out = place_put s q y out
put_of Sections s q y out = circuit_put s q y out
put_of Restrictions s q y out = two_put s q y out

-- ---- a group with one distance, by how it is laid out

abbrev pub laid : ℕ → ℕ → ℕ → ℕ → ℕ → Run
laid a b f w k = record { at = a; bits = b; flag = f; wide = w; step = k }

-- a window holds what is read of it
abbrev pub Sized : Run → Type 0
Sized g = (g.at ≤ 15) × (0 < g.bits) × (g.bits ≤ 50) × (g.flag ≤ 23) × (0 < g.wide) × (g.wide ≤ 5) × (g.step ≤ 11)

abbrev pub run_whole : Run → List ℕ → ℕ → ℕ → Bool
run_whole g s q y = whole_in s q 15 (y + g.at)

abbrev pub run_put : Run → List ℕ → ℕ → ℕ → List ℕ → List ℕ
run_put g s q y out = in_metres s q 15 (y + g.at) out

abbrev pub run_bits : Run → List ℕ → ℕ → ℕ
run_bits g s y = g.bits + g.step * number_in s g.wide (y + g.flag)

abbrev pub run_end : Run → List ℕ → ℕ → ℕ
run_end g s y = y + run_bits g s y

-- ---- how many bits the others have

abbrev pub level_bits : List ℕ → ℕ → ℕ
level_bits s y = cond (eqb (number_in s 3 y) 1) 26 18

abbrev pub place_bits : List ℕ → ℕ → ℕ
place_bits s y = cond (eqb (number_in s 1 y) 1) 61 51
