-- Worked telegrams for each rule, computed by the checker: what the definitions answer to lists of values. The cases of docs/RULES.md are not
-- among them: they are the table of the crate `cases`. Assumes nothing.
use Rattle.std.specs.Prelude.{◌≡◌, refl, List, [], ◌∷◌, ◌++◌, map, ℕ, eqb, Ok, Err}
use Prim.Native.String.{String}
use Rattle.std.proofs.Common.{arith}
use Rattle.format.specs.Among.{holding, Inside, size_at, takes, Fitting, Misfitting}
use Rattle.format.specs.Fields.{Q_LINK, NID_PACKET, Q_DIR, L_PACKET}
use Rattle.format.specs.Packets.{◌⧺◌, times, header, etcs, ctcs, find}
use Rattle.format.specs.Refusals.{in_numbers}
use Rattle.format.specs.Rules.{Terms, begun, next, misdirected, broken, noted, closes, settled, onward, step, radio_from, spot_of, spot_at, place_from, field_place, clash, among, collides_by, paper}
use Rattle.format.specs.Telegrams.{Result, names, places, bit_count, from_values, drive, write}
use Rattle.format.specs.Telegrams.Result.{accepted, refused}

-- the writer's answer in numbers: 0 and the bits of an accepted telegram, or the number and the place of a refusal
abbrev said : Result → ℕ × ℕ
said (accepted es) = in_numbers (Ok (bit_count es))
said (refused r) = in_numbers (Err r)

unfoldable pub written_by : Terms → List ℕ → Result
unfolding write drive begun from_values step next find etcs ctcs header times ◌⧺◌ broken misdirected noted settled onward closes radio_from spot_of spot_at place_from field_place collides_by among clash
written_by p vs = write p vs

abbrev pub written : List ℕ → Result
written vs = written_by paper vs

-- a header
abbrev pub front : List ℕ
front = 1 ∷ 16 ∷ 0 ∷ 1 ∷ 2 ∷ 0 ∷ 30 ∷ 21 ∷ 4100 ∷ 0 ∷ []

-- with packets or a part of one after it
abbrev told_by : Terms → List ℕ → ℕ × ℕ
told_by p vs = said (written_by p (front ++ vs))

abbrev told : List ℕ → ℕ × ℕ
told vs = told_by paper vs

-- Q_UPDOWN, M_VERSION, Q_MEDIA, N_PIG above N_TOTAL, M_DUP; then nothing at all, and values that end in the header
header_rules : map (λ vs. said (written vs))
    ((0 ∷ 16 ∷ 0 ∷ 0 ∷ 1 ∷ []) ∷ (1 ∷ 17 ∷ []) ∷ (1 ∷ 16 ∷ 1 ∷ []) ∷ (1 ∷ 16 ∷ 0 ∷ 2 ∷ 1 ∷ []) ∷ (1 ∷ 16 ∷ 0 ∷ 1 ∷ 1 ∷ 3 ∷ [])
    ∷ [] ∷ (1 ∷ 16 ∷ 0 ∷ []) ∷ [])
    ≡ (4, 0) ∷ (4, 1) ∷ (4, 8) ∷ (4, 12) ∷ (4, 15) ∷ (5, 0) ∷ (5, 9) ∷ []
unfolding written_by
header_rules = refl

-- the end mark alone, with a value after it, without it; ETCS-254 with a right and a wrong L_PACKET; an identifier of no table
between_packets : map told
    ((255 ∷ []) ∷ (255 ∷ 0 ∷ []) ∷ [] ∷ (254 ∷ 2 ∷ 23 ∷ 255 ∷ []) ∷ (254 ∷ 2 ∷ 24 ∷ 255 ∷ []) ∷ (7 ∷ []) ∷ [])
    ≡ (0, 58) ∷ (11, 58) ∷ (5, 50) ∷ (0, 81) ∷ (8, 60) ∷ (6, 50) ∷ []
unfolding written_by
between_packets = refl

-- Q_DIR 3; Q_SCALE 3; NID_STM 0, and none where the level is not 1, as the second group shows; a digit after an F
values_allowed : map told
    ((132 ∷ 3 ∷ []) ∷ (21 ∷ 1 ∷ 54 ∷ 3 ∷ []) ∷ (46 ∷ 1 ∷ 47 ∷ 1 ∷ 0 ∷ []) ∷ (46 ∷ 1 ∷ 42 ∷ 1 ∷ 3 ∷ 1 ∷ 0 ∷ 255 ∷ [])
    ∷ (42 ∷ 1 ∷ 113 ∷ 0 ∷ 0 ∷ 0 ∷ 0x05512345FFFFFFFF ∷ 0 ∷ 255 ∷ []) ∷ (42 ∷ 1 ∷ 113 ∷ 0 ∷ 0 ∷ 0 ∷ 0x05512345FF6FFFFF ∷ []) ∷ [])
    ≡ (7, 58) ∷ (7, 73) ∷ (7, 76) ∷ (0, 100) ∷ (0, 171) ∷ (7, 98) ∷ []
unfolding written_by
values_allowed = refl

-- ETCS-44 with CTCS-4: its Q_DIR and L_PACKET, then those of the packet inside, and what follows
abbrev turnout : ℕ → ℕ → ℕ → ℕ → List ℕ → List ℕ
turnout d n e m vs = 44 ∷ d ∷ n ∷ 4 ∷ e ∷ m ∷ 1 ∷ 90 ∷ 16 ∷ vs

-- right; an inner Q_DIR of its own; an inner length, an outer length, then both, that are wrong; CTCS-6
inner_packets : map told
    (turnout 1 71 1 48 (255 ∷ []) ∷ turnout 1 71 0 48 [] ∷ turnout 1 71 1 47 [] ∷ turnout 1 80 1 48 [] ∷ turnout 1 80 1 47 []
    ∷ (44 ∷ 1 ∷ 71 ∷ 6 ∷ []) ∷ [])
    ≡ (0, 129) ∷ (9, 82) ∷ (8, 84) ∷ (8, 60) ∷ (8, 84) ∷ (6, 73) ∷ []
unfolding written_by
inner_packets = refl

-- ETCS-137 with any Q_DIR, and what follows
abbrev sight : ℕ → List ℕ → List ℕ
sight d vs = 137 ∷ d ∷ 24 ∷ 0 ∷ vs

-- twice, with each pair of directions: only 0 and 1 go together
directions_collide : map (λ first. map (λ d. told (sight first (sight d (255 ∷ [])))) (0 ∷ 1 ∷ 2 ∷ [])) (0 ∷ 1 ∷ 2 ∷ [])
    ≡ ((10, 82) ∷ (0, 106) ∷ (10, 82) ∷ [])
    ∷ ((0, 106) ∷ (10, 82) ∷ (10, 82) ∷ [])
    ∷ ((10, 82) ∷ (10, 82) ∷ (10, 82) ∷ []) ∷ []
unfolding written_by
directions_collide = refl

-- by the rule that was first, that two directions are the same, one for both ways could stand beside one for one way
directions_before : map (λ d. told_by (record { place_of = field_place; collides = collides_by eqb }) (sight 1 (sight d (255 ∷ [])))) (0 ∷ 1 ∷ 2 ∷ [])
    ≡ (0, 106) ∷ (10, 82) ∷ (0, 106) ∷ []
unfolding written_by
directions_before = refl

-- ETCS-137 with 0, 1 and then 2; with 0 and 2, and an ETCS-132 for both ways between; with 2 and then 3; ETCS-44 twice with Q_DIR 1, and with 2
-- and 1; ETCS-137 and ETCS-132 with Q_DIR 1
collisions : map told
    (sight 0 (sight 1 (137 ∷ 2 ∷ [])) ∷ sight 0 (132 ∷ 2 ∷ 24 ∷ 1 ∷ 137 ∷ 2 ∷ []) ∷ sight 2 (137 ∷ 3 ∷ [])
    ∷ turnout 1 71 1 48 (turnout 1 71 1 48 (255 ∷ [])) ∷ turnout 2 71 2 48 (turnout 1 71 1 48 (255 ∷ []))
    ∷ sight 1 (132 ∷ 1 ∷ 24 ∷ 1 ∷ 255 ∷ []) ∷ [])
    ≡ (10, 106) ∷ (10, 106) ∷ (7, 82) ∷ (0, 200) ∷ (0, 200) ∷ (0, 106) ∷ []
unfolding written_by
collisions = refl

-- ETCS-68 both ways; a value past its width; ETCS-27 with inner lists of 0 and 2; a missing value before one that is too wide
ways_and_lists : map told
    ((68 ∷ 1 ∷ 41 ∷ 1 ∷ 1 ∷ 7 ∷ 255 ∷ []) ∷ (68 ∷ 1 ∷ 65 ∷ 1 ∷ 0 ∷ 7 ∷ 8 ∷ 9 ∷ 0 ∷ 255 ∷ []) ∷ (132 ∷ 4 ∷ [])
    ∷ (27 ∷ 1 ∷ 108 ∷ 1 ∷ 7 ∷ 8 ∷ 0 ∷ 0 ∷ 1 ∷ 7 ∷ 8 ∷ 0 ∷ 2 ∷ 0 ∷ 5 ∷ 2 ∷ 6 ∷ 255 ∷ []) ∷ (132 ∷ 1 ∷ []) ∷ [])
    ≡ (0, 99) ∷ (0, 123) ∷ (12, 58) ∷ (0, 166) ∷ (5, 60) ∷ []
unfolding written_by
ways_and_lists = refl

-- ---- the entries of a telegram: their names and places

abbrev places_of : Result → List ℕ
places_of (accepted es) = places 0 es
places_of (refused r) = []

abbrev names_of : Result → List String
names_of (accepted es) = names es
names_of (refused r) = []

end_mark_named : names_of (written (front ++ (254 ∷ 2 ∷ 23 ∷ 255 ∷ [])))
    ≡ "Q_UPDOWN" ∷ "M_VERSION" ∷ "Q_MEDIA" ∷ "N_PIG" ∷ "N_TOTAL" ∷ "M_DUP" ∷ "M_MCOUNT" ∷ "NID_C" ∷ "NID_BG" ∷ "Q_LINK" ∷ "NID_PACKET" ∷ "Q_DIR" ∷ "L_PACKET" ∷ "END" ∷ []
unfolding written_by
end_mark_named = refl

-- ETCS-254 behind a header's last field: its L_PACKET begins at bit 11, and it takes 23 bits; with one of 24 it does not fit
abbrev default_of : (size : ℕ) → Inside NID_PACKET (holding Q_LINK 0 ∷ holding NID_PACKET 254 ∷ holding Q_DIR 2 ∷ holding L_PACKET size ∷ [])
default_of size = record { before = holding Q_LINK 0 ∷ []; name = 254; dir = 2; size = size; after = []; parts = refl; own = tt }

counted : (size_at (default_of 23) ≡ 11) × (takes (default_of 23) ≡ 23) × Fitting (default_of 23) × Misfitting (default_of 24)
counted = (refl, refl, refl, λ (e : ◌≡◌ {A = ℕ} 24 23). omega arith)

fields_begin : places_of (written (front ++ (254 ∷ 2 ∷ 23 ∷ 255 ∷ [])))
    ≡ 0 ∷ 1 ∷ 8 ∷ 9 ∷ 12 ∷ 15 ∷ 17 ∷ 25 ∷ 35 ∷ 49 ∷ 50 ∷ 58 ∷ 60 ∷ 73 ∷ []
unfolding written_by
fields_begin = refl
