-- docs/RULES.md, "Distances and the normal form": what is put into bytes that hold a packet, kind by kind, so that it is told in metres. Numbers are
-- read in the bytes s, which hold the packet as it was sent, and put into out, at the same places. Every definition answers every input.
-- Definitions alone.
use Rattle.std.specs.Prelude.{cond, List, ℕ, zero, suc, ◌+◌, ◌*◌, eqb}
use Rattle.bits.specs.Ahead.{number_at}
use Rattle.bits.specs.Put.{put_at}
use Rattle.distance.specs.Steps.{decimetres, steps}

-- ---- one distance

-- the number in the w bits of s from the bit x on, with 0 for each that s does not have
abbrev pub number_in : List ℕ → ℕ → ℕ → ℕ
number_in s w x = number_at s w x

-- a distance of w bits at the bit x, in steps of the scale q, put there in metres
abbrev pub in_metres : List ℕ → ℕ → ℕ → ℕ → List ℕ → List ℕ
in_metres s q w x out = put_at out x w (steps 1 (decimetres q (number_in s w x)))

-- "L_TEXTDISPLAY 32767 is unlimited, at every scale"
abbrev pub text_in_metres : List ℕ → ℕ → ℕ → List ℕ → List ℕ
text_in_metres s q x out = cond (eqb (number_in s 15 x) 32767) out (in_metres s q 15 x out)

-- "Q_SCALE 1"
abbrev pub metres_said : ℕ → List ℕ → List ℕ
metres_said x out = put_at out x 2 1

-- ---- lists of groups

-- so many groups from the bit x on, each behind the one before it: what each puts, and where it ends
abbrev pub each_put : (ℕ → List ℕ → List ℕ) → (ℕ → ℕ) → ℕ → ℕ → List ℕ → List ℕ
each_put puts past zero x out = out
each_put puts past (suc k) x out = each_put puts past k (past x) (puts x out)

-- "A list is N_ITER 5 and that many further groups (k)": a group at the bit x, and the list behind it
abbrev pub list_put : List ℕ → (ℕ → List ℕ → List ℕ) → (ℕ → ℕ) → ℕ → List ℕ → List ℕ
list_put s puts past x out = each_put puts past (number_in s 5 (past x)) (past x + 5) (puts x out)

-- ---- the groups: what each puts, and where it ends

-- ETCS-5. "D_LINK 15, Q_NEWCOUNTRY 1, NID_C 10 only if that is 1, NID_BG 14, Q_LINKORIENTATION 1, Q_LINKREACTION 2, Q_LOCACC 6"
abbrev pub link_end : List ℕ → ℕ → ℕ
link_end s y = y + cond (eqb (number_in s 1 (y + 15)) 1) 49 39

-- ETCS-27. "D_STATIC 15, V_STATIC 7, Q_FRONT 1, and an inner list (N_ITER 5) of NC_DIFF 4, V_DIFF 7"
abbrev pub profile_end : List ℕ → ℕ → ℕ
profile_end s y = y + 28 + 11 * number_in s 5 (y + 23)

-- ETCS-41. "M_LEVELTR 3, NID_STM 8 only if that is 1, L_ACKLEVELTR 15"
abbrev pub level_put : List ℕ → ℕ → ℕ → List ℕ → List ℕ
level_put s q y out = in_metres s q 15 (y + cond (eqb (number_in s 3 y) 1) 11 3) out

abbrev pub level_end : List ℕ → ℕ → ℕ
level_end s y = y + cond (eqb (number_in s 3 y) 1) 26 18

-- ETCS-68. "D_TRACKCOND 15, L_TRACKCOND 15, M_TRACKCOND 4". CTCS-2. "D_TSR 15, L_TSR 15, Q_FRONT 1, V_TSR 7"
abbrev pub two_put : List ℕ → ℕ → ℕ → List ℕ → List ℕ
two_put s q y out = in_metres s q 15 (y + 15) (in_metres s q 15 y out)

-- ETCS-79. "Q_NEWCOUNTRY 1, NID_C 10 only if 1, NID_BG 14, D_POSOFF 15, Q_MPOSITION 1, M_POSITION 20"
abbrev pub off_put : List ℕ → ℕ → ℕ → List ℕ → List ℕ
off_put s q y out = in_metres s q 20 (y + 16) (in_metres s q 15 y out)

abbrev pub place_put : List ℕ → ℕ → ℕ → List ℕ → List ℕ
place_put s q y out = off_put s q (y + cond (eqb (number_in s 1 y) 1) 25 15) out

abbrev pub place_end : List ℕ → ℕ → ℕ
place_end s y = y + cond (eqb (number_in s 1 y) 1) 61 51

-- CTCS-1. "NID_SIGNAL 4, NID_FREQUENCY 5, L_SECTION 15"
abbrev pub circuit_put : List ℕ → ℕ → ℕ → List ℕ → List ℕ
circuit_put s q y out = in_metres s q 15 (y + 9) out

-- ---- the packets that begin at the bit x, behind their scale q at bit 23

-- ETCS-5, 21, 27 and 79: a list
abbrev pub links_put : List ℕ → ℕ → ℕ → List ℕ → List ℕ
links_put s x q out = list_put s (in_metres s q 15) (link_end s) (x + 25) out

abbrev pub slopes_put : List ℕ → ℕ → ℕ → List ℕ → List ℕ
slopes_put s x q out = list_put s (in_metres s q 15) (λ y. y + 24) (x + 25) out

abbrev pub profiles_put : List ℕ → ℕ → ℕ → List ℕ → List ℕ
profiles_put s x q out = list_put s (in_metres s q 15) (profile_end s) (x + 25) out

abbrev pub places_put : List ℕ → ℕ → ℕ → List ℕ → List ℕ
places_put s x q out = list_put s (place_put s q) (place_end s) (x + 25) out

-- ETCS-41: D_LEVELTR, and a list
abbrev pub levels_put : List ℕ → ℕ → ℕ → List ℕ → List ℕ
levels_put s x q out = list_put s (level_put s q) (level_end s) (x + 40) (in_metres s q 15 (x + 25) out)

-- ETCS-68: "If 1: D_TRACKINIT 15 and the packet ends. If 0: .. list"
abbrev pub conditions_put : List ℕ → ℕ → ℕ → List ℕ → List ℕ
conditions_put s x q out =
    cond (eqb (number_in s 1 (x + 25)) 1) (in_metres s q 15 (x + 26) out) (list_put s (two_put s q) (λ y. y + 34) (x + 26) out)

-- ETCS-72: D_TEXTDISPLAY, and L_TEXTDISPLAY, before which NID_STM stands if M_LEVELTEXTDISPLAY is 1
abbrev pub text_put : List ℕ → ℕ → ℕ → List ℕ → List ℕ
text_put s x q out = text_in_metres s q (x + cond (eqb (number_in s 3 (x + 47)) 1) 58 50) (in_metres s q 15 (x + 28) out)

-- ETCS-131: D_RBCTR
abbrev pub handover_put : List ℕ → ℕ → ℕ → List ℕ → List ℕ
handover_put s x q out = in_metres s q 15 (x + 25) out

-- ---- the CTCS packets in an ETCS-44 that begins at the bit x, behind their scale q at bit 47

-- CTCS-1 and 2: D_SIGNAL or L_TSRarea, and a list
abbrev pub circuits_put : List ℕ → ℕ → ℕ → List ℕ → List ℕ
circuits_put s x q out = list_put s (circuit_put s q) (λ y. y + 24) (x + 64) (in_metres s q 15 (x + 49) out)

abbrev pub restrictions_put : List ℕ → ℕ → ℕ → List ℕ → List ℕ
restrictions_put s x q out = list_put s (two_put s q) (λ y. y + 38) (x + 64) (in_metres s q 15 (x + 49) out)

-- CTCS-3: D_STARTREVERSE and L_REVERSEAREA
abbrev pub reverse_put : List ℕ → ℕ → ℕ → List ℕ → List ℕ
reverse_put s x q out = in_metres s q 15 (x + 64) (in_metres s q 15 (x + 49) out)

-- CTCS-4: D_TURNOUT
abbrev pub turnout_put : List ℕ → ℕ → ℕ → List ℕ → List ℕ
turnout_put s x q out = in_metres s q 15 (x + 49) out
