-- docs/RULES.md, "Distances and the normal form": whether a packet is told in metres, kind by kind, by the numbers in the bytes s; and what is put
-- for the packet at a bit, whatever stands there. Definitions alone.
use Rattle.std.specs.Prelude.{Bool, true, cond, ◌&&◌, List, ℕ, zero, suc, ◌+◌, ◌%◌, ◌^◌, eqb, leb, ltb}
use Rattle.distance.specs.Steps.{step, decimetres, steps}
use Rattle.told.specs.Metres.{number_in, metres_said, link_end, profile_end, level_end, place_end, links_put, slopes_put, profiles_put, places_put, levels_put, conditions_put, text_put, handover_put, circuits_put, restrictions_put, reverse_put, turnout_put}

-- ---- distances

-- a distance of w bits at the bit x, in steps of the scale q, is "a whole number of metres that fits its field"
abbrev pub whole_in : List ℕ → ℕ → ℕ → ℕ → Bool
whole_in s q w x = eqb (decimetres q (number_in s w x) % step 1) 0 && ltb (steps 1 (decimetres q (number_in s w x))) (2 ^ w)

-- "L_TEXTDISPLAY 32767 is unlimited, at every scale"
abbrev pub text_whole : List ℕ → ℕ → ℕ → Bool
text_whole s q x = cond (eqb (number_in s 15 x) 32767) true (whole_in s q 15 x)

-- so many groups from the bit x on, each behind the one before it
abbrev pub each_whole : (ℕ → Bool) → (ℕ → ℕ) → ℕ → ℕ → Bool
each_whole test past zero x = true
each_whole test past (suc k) x = test x && each_whole test past k (past x)

-- a group at the bit x, N_ITER, and that many further groups
abbrev pub list_whole : List ℕ → (ℕ → Bool) → (ℕ → ℕ) → ℕ → Bool
list_whole s test past x = test x && each_whole test past (number_in s 5 (past x)) (past x + 5)

-- ---- the groups that do not begin with their one distance

abbrev pub level_whole : List ℕ → ℕ → ℕ → Bool
level_whole s q y = whole_in s q 15 (y + cond (eqb (number_in s 3 y) 1) 11 3)

abbrev pub two_whole : List ℕ → ℕ → ℕ → Bool
two_whole s q y = whole_in s q 15 y && whole_in s q 15 (y + 15)

abbrev pub off_whole : List ℕ → ℕ → ℕ → Bool
off_whole s q y = whole_in s q 15 y && whole_in s q 20 (y + 16)

abbrev pub place_whole : List ℕ → ℕ → ℕ → Bool
place_whole s q y = off_whole s q (y + cond (eqb (number_in s 1 y) 1) 25 15)

abbrev pub circuit_whole : List ℕ → ℕ → ℕ → Bool
circuit_whole s q y = whole_in s q 15 (y + 9)

-- ---- the packets that begin at the bit x, under the scale q

-- ETCS-5, 21, 27, 79, 41, 68, 72 and 131
abbrev pub links_whole : List ℕ → ℕ → ℕ → Bool
links_whole s x q = list_whole s (whole_in s q 15) (link_end s) (x + 25)

abbrev pub slopes_whole : List ℕ → ℕ → ℕ → Bool
slopes_whole s x q = list_whole s (whole_in s q 15) (λ y. y + 24) (x + 25)

abbrev pub profiles_whole : List ℕ → ℕ → ℕ → Bool
profiles_whole s x q = list_whole s (whole_in s q 15) (profile_end s) (x + 25)

abbrev pub places_whole : List ℕ → ℕ → ℕ → Bool
places_whole s x q = list_whole s (place_whole s q) (place_end s) (x + 25)

abbrev pub levels_whole : List ℕ → ℕ → ℕ → Bool
levels_whole s x q = whole_in s q 15 (x + 25) && list_whole s (level_whole s q) (level_end s) (x + 40)

abbrev pub conditions_whole : List ℕ → ℕ → ℕ → Bool
conditions_whole s x q = cond (eqb (number_in s 1 (x + 25)) 1) (whole_in s q 15 (x + 26)) (list_whole s (two_whole s q) (λ y. y + 34) (x + 26))

abbrev pub words_whole : List ℕ → ℕ → ℕ → Bool
words_whole s x q = whole_in s q 15 (x + 28) && text_whole s q (x + cond (eqb (number_in s 3 (x + 47)) 1) 58 50)

abbrev pub handover_whole : List ℕ → ℕ → ℕ → Bool
handover_whole s x q = whole_in s q 15 (x + 25)

-- CTCS-1 to 4 in an ETCS-44
abbrev pub circuits_whole : List ℕ → ℕ → ℕ → Bool
circuits_whole s x q = whole_in s q 15 (x + 49) && list_whole s (circuit_whole s q) (λ y. y + 24) (x + 64)

abbrev pub restrictions_whole : List ℕ → ℕ → ℕ → Bool
restrictions_whole s x q = whole_in s q 15 (x + 49) && list_whole s (two_whole s q) (λ y. y + 38) (x + 64)

abbrev pub reverse_whole : List ℕ → ℕ → ℕ → Bool
reverse_whole s x q = whole_in s q 15 (x + 49) && whole_in s q 15 (x + 64)

abbrev pub turnout_whole : List ℕ → ℕ → ℕ → Bool
turnout_whole s x q = whole_in s q 15 (x + 49)

-- ---- what is put for a packet

-- "each scaled packet uses Q_SCALE 1 if ..; otherwise it keeps its scale": with its scale at the bit x. A Q_SCALE of 3 is none, and so nothing is put
abbrev pub scaled_put : List ℕ → ℕ → (ℕ → Bool) → (ℕ → List ℕ → List ℕ) → List ℕ → List ℕ
scaled_put s x whole puts out =
    cond (eqb (number_in s 2 x) 1) out (cond (leb (number_in s 2 x) 2 && whole (number_in s 2 x)) (metres_said x (puts (number_in s 2 x) out)) out)

-- by the NID_XUSER of the CTCS packet in it
abbrev pub user_put : List ℕ → ℕ → ℕ → List ℕ → List ℕ
user_put s x u out =
    cond (eqb u 1) (scaled_put s (x + 47) (circuits_whole s x) (circuits_put s x) out)
    (cond (eqb u 2) (scaled_put s (x + 47) (restrictions_whole s x) (restrictions_put s x) out)
    (cond (eqb u 3) (scaled_put s (x + 47) (reverse_whole s x) (reverse_put s x) out)
    (cond (eqb u 4) (scaled_put s (x + 47) (turnout_whole s x) (turnout_put s x) out) out)))

-- by its NID_PACKET
abbrev pub kind_put : List ℕ → ℕ → ℕ → List ℕ → List ℕ
kind_put s x i out =
    cond (eqb i 5) (scaled_put s (x + 23) (links_whole s x) (links_put s x) out)
    (cond (eqb i 21) (scaled_put s (x + 23) (slopes_whole s x) (slopes_put s x) out)
    (cond (eqb i 27) (scaled_put s (x + 23) (profiles_whole s x) (profiles_put s x) out)
    (cond (eqb i 41) (scaled_put s (x + 23) (levels_whole s x) (levels_put s x) out)
    (cond (eqb i 44) (user_put s x (number_in s 9 (x + 23)) out)
    (cond (eqb i 68) (scaled_put s (x + 23) (conditions_whole s x) (conditions_put s x) out)
    (cond (eqb i 72) (scaled_put s (x + 23) (words_whole s x) (text_put s x) out)
    (cond (eqb i 79) (scaled_put s (x + 23) (places_whole s x) (places_put s x) out)
    (cond (eqb i 131) (scaled_put s (x + 23) (handover_whole s x) (handover_put s x) out) out))))))))

abbrev pub packet_put : List ℕ → ℕ → List ℕ → List ℕ
packet_put s x out = kind_put s x (number_in s 8 x) out

-- the bit where the packet behind it begins, by its L_PACKET
abbrev pub packet_end : List ℕ → ℕ → ℕ
packet_end s x = x + number_in s 13 (x + 10)
