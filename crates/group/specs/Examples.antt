-- Worked groups for each rule, computed by the checker. Assumes nothing.
use Rattle.std.specs.Prelude.{◌≡◌, refl, List, [], ◌∷◌, ◌++◌, map, ℕ, zero, suc, ◌/◌, ◌%◌, ◌^◌}
use Rattle.bits.specs.Bits.{digits, value_of, bits_of, filled, packed, bytes_of}
use Rattle.format.specs.Packets.{◌⧺◌, times, header, etcs, ctcs, find}
use Rattle.format.specs.Rules.{begun, next, misdirected, broken, noted, closes, settled, onward, step, radio_from, spot_of, spot_at, place_from, field_place, clash, among, collides_by, paper}
use Rattle.format.specs.Telegrams.{Result, bits, bits_in, bit_count, from_bits, from_values, drive, read, write, divided}
use Rattle.format.specs.Telegrams.Result.{accepted, refused}
use Rattle.states.specs.Reader.{checked}
use Rattle.group.specs.Groups.{Part, Message, parts, arrived, grouped, in_order, counted, miscopied, counting, packets_from, collision, lined, message, cause_number, group}
use Rattle.group.specs.Groups.Message.{lists, refuses}

-- an answer: the packets, each by its N_PIG and its number; or the number, which telegram, and the place
data Said : Type 0 where
  packets : List (ℕ × ℕ) → Said
  refusal : ℕ → ℕ → ℕ → Said

abbrev said : Message → Said
said (lists ms) = packets (map (λ m. (m.pig, m.number)) ms)
said (refuses f) = refusal (cause_number f.cause) f.which f.place

-- of telegrams in one buffer, with room for so many packets
abbrev buffer : List Part → List ℕ
buffer [] = []
buffer (x ∷ xs) = x.bytes ++ buffer xs

unfoldable told_in : ℕ → List Part → Said
unfolding group message lined parts arrived grouped in_order counted miscopied counting packets_from collision divided checked read write drive begun from_bits from_values bits_in bits_of bytes_of packed filled digits value_of spot_of spot_at place_from field_place step next find etcs ctcs header times ◌⧺◌ broken misdirected noted settled onward closes radio_from collides_by among clash
told_in room xs = said (group paper (buffer xs) (map (λ x. x.size) xs) room)

abbrev told : List Part → Said
told xs = told_in 264 xs

-- ---- telegrams by their bytes

-- k bytes, as one number, of which n bits are the telegram
abbrev in_bytes : ℕ → ℕ → List ℕ
in_bytes zero v = []
in_bytes (suc k) v = v / 256 ^ k % 256 ∷ in_bytes k v

abbrev sent : ℕ → ℕ → ℕ → Part
sent k v n = record { bytes = in_bytes k v; size = n }

-- the second arrives first
by_n_pig : told (sent 15 0x90127F8125DFC6D01D20000C000FF0 116 ∷ sent 23 0x90027F8125DFC15022A01E05E063002A80D907D00007F8 181 ∷ [])
    ≡ packets ((0, 0) ∷ (0, 1) ∷ (1, 0) ∷ [])
unfolding told_in
by_n_pig = refl

abbrev other : Part
other = sent 11 0x90127F8125DFE2500C3FC0 82

-- an unused bit of the second telegram is 1; a byte follows it; no telegram; room for one packet less
bytes_and_room : told (other ∷ sent 11 0x90027F8125DFE1100C3FC1 82 ∷ []) ∷ told (other ∷ sent 12 0x90027F8125DFE1100C3FC000 82 ∷ []) ∷ told []
    ∷ told_in 263 [] ∷ []
    ≡ refusal 3 1 0 ∷ refusal 2 1 0 ∷ refusal 21 0 0 ∷ refusal 1 0 0 ∷ []
unfolding told_in
bytes_and_room = refl

-- ---- telegrams by their values

abbrev made : Result → Part
made (accepted es) = record { bytes = bytes_of (bits es); size = bit_count es }
made (refused r) = record { bytes = []; size = 0 }

-- N_PIG, N_TOTAL, M_DUP and M_MCOUNT; then NID_C, NID_BG and Q_LINK, and packets
abbrev telegram : ℕ → ℕ → ℕ → ℕ → List ℕ → Part
telegram k n d c vs = made (write paper (1 ∷ 16 ∷ 0 ∷ k ∷ n ∷ d ∷ c ∷ (vs ++ (255 ∷ []))))

abbrev balise : ℕ → ℕ → ℕ → ℕ → List ℕ → Part
balise k n d c ps = telegram k n d c (9 ∷ 3007 ∷ 1 ∷ ps)

-- ETCS-132 and ETCS-137 with any Q_DIR, and ETCS-44 with CTCS-5
abbrev shunt : ℕ → List ℕ
shunt d = 132 ∷ d ∷ 24 ∷ 0 ∷ []

abbrev sight : ℕ → List ℕ
sight d = 137 ∷ d ∷ 24 ∷ 0 ∷ []

abbrev turnout : List ℕ
turnout = 44 ∷ 1 ∷ 48 ∷ 5 ∷ 1 ∷ 25 ∷ 0 ∷ []

-- a second balise of the same group; with another NID_C, NID_BG or Q_LINK; with the N_PIG of the first
identity : map (λ x. told (balise 0 1 0 255 (shunt 1) ∷ x ∷ []))
    (telegram 1 1 0 255 (9 ∷ 3007 ∷ 1 ∷ []) ∷ telegram 1 1 0 255 (8 ∷ 3007 ∷ 1 ∷ []) ∷ telegram 1 1 0 255 (9 ∷ 3006 ∷ 1 ∷ [])
    ∷ telegram 1 1 0 255 (9 ∷ 3007 ∷ 0 ∷ []) ∷ telegram 0 1 0 255 (9 ∷ 3007 ∷ 1 ∷ []) ∷ [])
    ≡ packets ((0, 0) ∷ []) ∷ refusal 21 0 0 ∷ refusal 21 0 0 ∷ refusal 21 0 0 ∷ refusal 21 0 0 ∷ []
unfolding told_in
identity = refl

-- eight balises; and a ninth
abbrev eight : List Part
eight = map (λ k. balise k 7 0 255 []) (7 ∷ 6 ∷ 5 ∷ 4 ∷ 3 ∷ 2 ∷ 1 ∷ 0 ∷ [])

-- then of three the first and the second, the first and the third; of two the second
positions : told eight ∷ told (balise 0 7 0 255 [] ∷ eight) ∷ told (balise 0 2 0 255 [] ∷ balise 1 2 0 255 [] ∷ [])
    ∷ told (balise 0 2 0 255 [] ∷ balise 2 2 0 255 [] ∷ []) ∷ told (balise 1 1 0 255 [] ∷ []) ∷ []
    ≡ packets [] ∷ refusal 21 0 0 ∷ refusal 21 0 0 ∷ refusal 21 0 0 ∷ refusal 21 0 0 ∷ []
unfolding told_in
positions = refl

-- 7, 255 and then 7, 8, 255 or 254; 254 alone, in a balise whose M_DUP names none
counters : map (λ c. told (balise 0 2 0 7 (shunt 1) ∷ balise 1 2 0 255 [] ∷ balise 2 2 0 c [] ∷ [])) (7 ∷ 8 ∷ 255 ∷ 254 ∷ [])
    ++ (told (balise 0 0 1 254 [] ∷ []) ∷ [])
    ≡ packets ((0, 0) ∷ []) ∷ refusal 22 0 0 ∷ packets ((0, 0) ∷ []) ∷ refusal 22 0 0 ∷ refusal 22 0 0 ∷ []
unfolding told_in
counters = refl

-- the first names the second; a chain of three; the second names the first
copies : told (balise 2 2 0 255 (sight 1) ∷ balise 0 2 1 7 (shunt 1 ++ turnout) ∷ balise 1 2 0 7 (shunt 1 ++ turnout) ∷ [])
    ∷ told (balise 0 2 1 7 (shunt 1) ∷ balise 1 2 1 7 (shunt 1) ∷ balise 2 2 0 7 (shunt 1) ∷ [])
    ∷ told (balise 0 1 0 7 (shunt 1) ∷ balise 1 1 2 7 (shunt 1) ∷ []) ∷ []
    ≡ packets ((0, 0) ∷ (0, 1) ∷ (2, 0) ∷ []) ∷ packets ((0, 0) ∷ []) ∷ packets ((0, 0) ∷ []) ∷ []
unfolding told_in
copies = refl

-- a balise alone, by its M_DUP; two with other packets, by that of the second, and with both wrong
miscopies : map (λ d. told (balise 0 0 d 255 (shunt 1) ∷ [])) (0 ∷ 1 ∷ 2 ∷ [])
    ++ (map (λ d. told (balise 0 1 0 255 (shunt 1) ∷ balise 1 1 d 255 (sight 1) ∷ [])) (0 ∷ 1 ∷ 2 ∷ [])
    ++ (told (balise 1 1 2 255 (sight 1) ∷ balise 0 1 1 255 (shunt 1) ∷ []) ∷ []))
    ≡ packets ((0, 0) ∷ []) ∷ refusal 23 0 0 ∷ refusal 23 0 0
    ∷ packets ((0, 0) ∷ (1, 0) ∷ []) ∷ refusal 23 1 0 ∷ refusal 23 1 0
    ∷ refusal 23 0 0 ∷ []
unfolding told_in
miscopies = refl

-- a packet for both ways and one for one way, which arrives first; ETCS-44 twice; the packet of two copies in a third balise
collisions : told (balise 1 1 0 255 (sight 1 ++ shunt 1) ∷ balise 0 1 0 255 (shunt 2) ∷ [])
    ∷ told (balise 1 1 0 255 turnout ∷ balise 0 1 0 255 turnout ∷ [])
    ∷ told (balise 0 2 1 255 (shunt 1) ∷ balise 1 2 0 255 (shunt 1) ∷ balise 2 2 0 255 (shunt 1) ∷ []) ∷ []
    ≡ refusal 10 1 82 ∷ packets ((0, 0) ∷ (1, 0) ∷ []) ∷ refusal 10 2 58 ∷ []
unfolding told_in
collisions = refl

-- over two balises, each pair of directions: only 0 and 1 go together
directions : map (λ d. map (λ e. told (balise 0 1 0 255 (sight d) ∷ balise 1 1 0 255 (sight e) ∷ [])) (0 ∷ 1 ∷ 2 ∷ [])) (0 ∷ 1 ∷ 2 ∷ [])
    ≡ (refusal 10 1 58 ∷ packets ((0, 0) ∷ (1, 0) ∷ []) ∷ refusal 10 1 58 ∷ [])
    ∷ (packets ((0, 0) ∷ (1, 0) ∷ []) ∷ refusal 10 1 58 ∷ refusal 10 1 58 ∷ [])
    ∷ (refusal 10 1 58 ∷ refusal 10 1 58 ∷ refusal 10 1 58 ∷ []) ∷ []
unfolding told_in
directions = refl
