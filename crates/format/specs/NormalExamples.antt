-- Worked normal forms, computed by the checker; those of docs/RULES.md are in the table of the crate `cases`, or are run. Assumes nothing.
use Rattle.std.specs.Prelude.{List, [], ◌∷◌, ◌++◌, map, ◌≡◌, refl, ℕ}
use Rattle.format.specs.Telegrams.{Result, values, values_in}
use Rattle.format.specs.Telegrams.Result.{accepted, refused}
use Rattle.format.specs.Normal.{Said, says, says_under, normal, normal_under}
use Rattle.format.specs.Normal.Said.{sent, apart, long}
use Rattle.format.specs.Examples.{written_by, written, front}

abbrev values_of : Result → List ℕ
unfolding normal_under values_in
values_of (accepted es) = values (normal es)
values_of (refused r) = []

-- the telegram that has these packets
abbrev is : List ℕ → List ℕ
is vs = front ++ (vs ++ (255 ∷ []))

-- the values of the normal form of the telegram with these packets
unfoldable normal_of : List ℕ → List ℕ
unfolding written_by normal_under values_in
normal_of vs = values_of (written (is vs))

-- ETCS-44 with CTCS-3: Q_SCALE, D_STARTREVERSE, L_REVERSEAREA
abbrev reversing : ℕ → ℕ → ℕ → List ℕ
reversing q d l = 44 ∷ 1 ∷ 79 ∷ 3 ∷ 1 ∷ 56 ∷ q ∷ d ∷ l ∷ []

-- at 10 m, 70 and 300 become 700 and 3000 at 1 m; at 10 cm, 250 and 1015 decimetres stay: the second is no whole number of metres
whole_metres_lem : (normal_of (reversing 2 70 300) ≡ is (reversing 1 700 3000)) × (normal_of (reversing 0 250 1015) ≡ is (reversing 0 250 1015))
unfolding normal_of
whole_metres_lem = (refl, refl)

-- at 10 m, 3200 becomes 32000 at 1 m; 3300 would be 33000, which 15 bits do not hold, and stays
fits_its_field : (normal_of (reversing 2 3200 0) ≡ is (reversing 1 32000 0)) × (normal_of (reversing 2 3300 0) ≡ is (reversing 2 3300 0))
unfolding normal_of
fits_its_field = (refl, refl)

-- ETCS-79: Q_SCALE, D_POSOFF, M_POSITION
abbrev positions : ℕ → ℕ → ℕ → List ℕ
positions q d m = 79 ∷ 1 ∷ 81 ∷ q ∷ 0 ∷ 8 ∷ d ∷ 0 ∷ m ∷ 0 ∷ []

-- M_POSITION at 10 m: 90000 becomes 900000, which 15 bits would not hold; 110000 stays
twenty_bits : (normal_of (positions 2 0 90000) ≡ is (positions 1 0 900000)) × (normal_of (positions 2 0 110000) ≡ is (positions 2 0 110000))
unfolding normal_of
twenty_bits = (refl, refl)

-- ETCS-72 with no text: Q_SCALE, D_TEXTDISPLAY, L_TEXTDISPLAY
abbrev texts : ℕ → ℕ → ℕ → List ℕ
texts q d l = 72 ∷ 1 ∷ 92 ∷ q ∷ 0 ∷ 0 ∷ d ∷ 0 ∷ 5 ∷ l ∷ 0 ∷ 0 ∷ 5 ∷ 0 ∷ 0 ∷ []

-- "L_TEXTDISPLAY 32767 is unlimited, at every scale": with a distance of 80 m at 10 m, and of 9 m at 10 cm; 3300 at 10 m is finite and stays
unlimited : (normal_of (texts 2 8 32767) ≡ is (texts 1 80 32767)) × (normal_of (texts 0 90 32767) ≡ is (texts 1 9 32767))
    × (normal_of (texts 2 8 3300) ≡ is (texts 2 8 3300))
unfolding normal_of
unlimited = (refl, refl, refl)

-- each packet decides for itself: at 10 m the second packet's 4005 would not fit its field, and 1005 decimetres are no whole metres
each_by_itself : (normal_of (reversing 2 70 300 ++ positions 0 4005 1005) ≡ is (reversing 1 700 3000 ++ positions 0 4005 1005))
    × (normal_of (positions 0 4005 1005 ++ reversing 2 70 300) ≡ is (positions 0 4005 1005 ++ reversing 1 700 3000))
unfolding normal_of
each_by_itself = (refl, refl)

-- ETCS-5: "Q_LOCACC is in metres whatever the scale"
locacc_stays : normal_of (5 ∷ 1 ∷ 69 ∷ 2 ∷ 7 ∷ 0 ∷ 8 ∷ 0 ∷ 0 ∷ 12 ∷ 0 ∷ []) ≡ is (5 ∷ 1 ∷ 69 ∷ 1 ∷ 70 ∷ 0 ∷ 8 ∷ 0 ∷ 0 ∷ 12 ∷ 0 ∷ [])
unfolding normal_of
locacc_stays = refl

-- ---- what telegrams say

abbrev said_in : Result → List Said
unfolding says_under
said_in (accepted es) = says es
said_in (refused r) = []

-- what the telegram with these packets says
unfoldable said_by : List ℕ → List Said
unfolding written_by says_under
said_by vs = said_in (written (is vs))

-- "50 at 10 m and 500 at 1 m say the same"; an unlimited text does at every scale
say_the_same : (said_by (reversing 2 50 30) ≡ said_by (reversing 1 500 300)) × (said_by (texts 2 8 32767) ≡ said_by (texts 1 80 32767))
unfolding said_by
say_the_same = (refl, refl)

-- the distances among what is said, in decimetres
unfoldable lengths : List Said → List ℕ
lengths [] = []
lengths (sent f v ∷ xs) = lengths xs
lengths (apart f ∷ xs) = lengths xs
lengths (long f d ∷ xs) = d ∷ lengths xs

-- 50 at 10 m is not 50 at 1 m; "an unlimited text length equal only to an unlimited one": it is no distance at all
say_something_else : map (λ vs. lengths (said_by vs)) (reversing 2 50 30 ∷ reversing 1 50 300 ∷ texts 1 80 32766 ∷ texts 1 80 32767 ∷ [])
    ≡ (5000 ∷ 3000 ∷ []) ∷ (500 ∷ 3000 ∷ []) ∷ (800 ∷ 327660 ∷ []) ∷ (800 ∷ []) ∷ []
unfolding said_by lengths
say_something_else = refl
