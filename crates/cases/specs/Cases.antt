-- docs/RULES.md, "Worked telegrams", 1 to 8, asked for as "Cases 1 to 8 are one table, proved once against the definitions; other cases are run". One
-- table of claims about the definitions. Definitions alone.
use Rattle.std.specs.Prelude.{Bool, true, false, not, ◌&&◌, List, [], ◌∷◌, ◌++◌, ℕ, zero, suc, ◌+◌, eqb, length, Ok, Err}
use Rattle.bits.specs.Bits.{same}
use Rattle.format.specs.Refusals.{in_numbers}
use Rattle.format.specs.Rules.{paper}
use Rattle.format.specs.Telegrams.{Result, bits, values, bit_count, write}
use Rattle.format.specs.Telegrams.Result.{accepted, refused}
use Rattle.states.specs.Reader.{checked}
use Rattle.states.specs.Normaliser.{normal_of}

-- What a case claims: of bytes and n, or of values that follow the header of case 1 and are followed by the end mark.
pub data Claim : Type 0 where
  -- the bytes and n are read: these values, and their count
  reads : List ℕ → ℕ → List ℕ → ℕ → Claim
  -- they are refused, with this number and place
  refuses : List ℕ → ℕ → ℕ → ℕ → Claim
  -- the values are a packet, and with the header and the end mark they are accepted: it takes so many bits
  takes : List ℕ → ℕ → Claim
  -- they are packets; with the header and the end mark they are accepted, of so many bits
  fills : List ℕ → ℕ → Claim
  -- two lists of values are both accepted, and are different bits
  differ : List ℕ → List ℕ → Claim
  -- the values are refused, with this number and place
  breaks : List ℕ → ℕ → ℕ → Claim
  -- of two lists of values the first is accepted, and its normal form has the second
  becomes : List ℕ → List ℕ → Claim

-- "Header 1,16,0,0,1,0,255,9,3007,1"
abbrev pub head : List ℕ
head = 1 ∷ 16 ∷ 0 ∷ 0 ∷ 1 ∷ 0 ∷ 255 ∷ 9 ∷ 3007 ∷ 1 ∷ []

abbrev pub whole : List ℕ → List ℕ
whole vs = head ++ (vs ++ (255 ∷ []))

abbrev pub written : List ℕ → Result
written vs = write paper (whole vs)

abbrev pub bits_or0 : Result → ℕ
bits_or0 (accepted es) = bit_count es
bits_or0 (refused r) = 0

abbrev pub both_differ : Result → Result → Bool
both_differ (accepted es) (accepted fs) = not (same (bits es) (bits fs))
both_differ (accepted es) (refused r) = false
both_differ (refused r) b = false

-- the two numbers of an answer (docs/RULES.md), and the values behind them
abbrev pub numbered : ℕ × ℕ → List ℕ → List ℕ
numbered x vs = x.0 ∷ x.1 ∷ vs

abbrev pub told : Result → List ℕ
told (accepted es) = numbered (in_numbers (Ok (length (values es)))) (values es)
told (refused r) = numbered (in_numbers (Err r)) []

unfoldable pub holds : Claim → Bool
holds (reads s n vs k) = same (told (checked paper s n)) (0 ∷ k ∷ vs)
holds (refuses s n number place) = same (told (checked paper s n)) (number ∷ place ∷ [])
holds (takes vs n) = eqb (bits_or0 (written vs)) (50 + n + 8)
holds (fills vs n) = eqb (bits_or0 (written vs)) n
holds (differ us vs) = both_differ (written us) (written vs)
holds (breaks vs number place) = same (told (written vs)) (number ∷ place ∷ [])
holds (becomes us vs) = same (told (normal_of (written us))) (0 ∷ length (whole vs) ∷ whole vs)

abbrev pub hold : List Claim → Bool
hold [] = true
hold (c ∷ cs) = holds c && hold cs

-- n times a list
abbrev pub repeated : ℕ → List ℕ → List ℕ
repeated zero g = []
repeated (suc n) g = g ++ repeated n g

-- ETCS-5: a group with no new country, and one with one
abbrev linked : List ℕ
linked = 120 ∷ 0 ∷ 3008 ∷ 1 ∷ 2 ∷ 12 ∷ []

abbrev abroad : List ℕ
abroad = 120 ∷ 1 ∷ 10 ∷ 3008 ∷ 1 ∷ 2 ∷ 12 ∷ []

-- case 1's bytes, with any last one
abbrev eight : ℕ → List ℕ
eight x = 0x90 ∷ 0x02 ∷ 0x7F ∷ 0x81 ∷ 0x25 ∷ 0xDF ∷ 0xFF ∷ x ∷ []

-- ETCS-42 with any NID_RADIO
abbrev call : ℕ → List ℕ
call radio = 42 ∷ 1 ∷ 113 ∷ 0 ∷ 0 ∷ 0 ∷ radio ∷ 0 ∷ []

-- ETCS-44 with any L_PACKET, and CTCS-2 of three further groups inside it
abbrev restricted : ℕ → List ℕ
restricted n = 44 ∷ 1 ∷ n ∷ 2 ∷ 1 ∷ 198 ∷ 1 ∷ 9000 ∷ 0 ∷ 1000 ∷ 1 ∷ 9 ∷ 3 ∷ repeated 3 (1000 ∷ 500 ∷ 1 ∷ 9 ∷ [])

-- ETCS-72 with any L_PACKET, both levels 5, and so many text bytes
abbrev text : ℕ → ℕ → List ℕ
text n bytes = 72 ∷ 1 ∷ n ∷ 1 ∷ 0 ∷ 0 ∷ 0 ∷ 15 ∷ 5 ∷ 32767 ∷ 1023 ∷ 15 ∷ 5 ∷ 2 ∷ bytes ∷ repeated bytes (65 ∷ [])

-- of the stop telegram
abbrev stop44 : List ℕ
stop44 = 44 ∷ 1 ∷ 48 ∷ 5 ∷ 1 ∷ 25 ∷ 0 ∷ []

abbrev stop132 : List ℕ
stop132 = 132 ∷ 1 ∷ 24 ∷ 0 ∷ []

abbrev stop137 : List ℕ
stop137 = 137 ∷ 1 ∷ 24 ∷ 0 ∷ []

-- ETCS-44 with CTCS-3: Q_SCALE, D_STARTREVERSE, L_REVERSEAREA
abbrev reversing : ℕ → ℕ → ℕ → List ℕ
reversing q d l = 44 ∷ 1 ∷ 79 ∷ 3 ∷ 1 ∷ 56 ∷ q ∷ d ∷ l ∷ []

unfoldable pub cases : List Claim
cases =
    -- 1. The header and the end mark: 58 bits, 11 values
    reads (eight 0xC0) 58 (head ++ (255 ∷ [])) 11
    -- 2. The same with C1 last; the same eight bytes with n = 59 (place 58); n = 57
    ∷ refuses (eight 0xC1) 58 3 0
    ∷ refuses (eight 0xC0) 59 11 58
    ∷ refuses (eight 0xC0) 57 2 0
    -- 3. ETCS-5 with N_ITER 1, no new country 108, one new country 118
    ∷ takes (5 ∷ 1 ∷ 108 ∷ 1 ∷ (linked ++ (1 ∷ linked))) 108
    ∷ takes (5 ∷ 1 ∷ 118 ∷ 1 ∷ (linked ++ (1 ∷ abroad))) 118
    ∷ takes (5 ∷ 1 ∷ 118 ∷ 1 ∷ (abroad ++ (1 ∷ linked))) 118
    -- ETCS-27 with N_ITER 4, no train types 170
    ∷ takes (27 ∷ 1 ∷ 170 ∷ 1 ∷ 0 ∷ 24 ∷ 0 ∷ 0 ∷ 4 ∷ repeated 4 (100 ∷ 16 ∷ 1 ∷ 0 ∷ [])) 170
    -- ETCS-41 with level 1, N_ITER 0 71, level 0 63
    ∷ takes (41 ∷ 1 ∷ 71 ∷ 1 ∷ 500 ∷ 1 ∷ 2 ∷ 100 ∷ 0 ∷ []) 71
    ∷ takes (41 ∷ 1 ∷ 63 ∷ 1 ∷ 500 ∷ 0 ∷ 100 ∷ 0 ∷ []) 63
    -- 4. ETCS-44 with CTCS-2, N_ITER 3: inner 198, outer 221. Table A.9 prints 224: refused by 8 at its L_PACKET
    ∷ takes (restricted 221) 221
    ∷ breaks (restricted 224) 8 60
    -- 5. ETCS-72, both levels 5, 9 text bytes: 164. Table A.12 prints 164 with L_TEXT 13; thirteen would take 196
    ∷ takes (text 164 9) 164
    ∷ takes (text 196 13) 196
    ∷ breaks (text 164 13) 8 60
    -- 6. Stop telegram (44 with CTCS-5 48, 132 24, 137 24): n = 154
    ∷ takes stop44 48
    ∷ takes stop132 24
    ∷ takes stop137 24
    ∷ fills (stop44 ++ (stop132 ++ stop137)) 154
    -- 7. NID_RADIO 08614970020002FF and 8614970020002FFF are both allowed and differ; 0861497002000FF2 is refused by 7
    ∷ differ (call 0x08614970020002FF) (call 0x8614970020002FFF)
    ∷ breaks (call 0x0861497002000FF2) 7 98
    -- 8. CTCS-3 at 10 m, 50 and 400, becomes 1 m, 500 and 4000; at 10 cm, 200 and 1005, it stays
    ∷ becomes (reversing 2 50 400) (reversing 1 500 4000)
    ∷ becomes (reversing 0 200 1005) (reversing 0 200 1005)
    ∷ []
