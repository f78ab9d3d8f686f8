-- The packets as rows of a table, which the machine of the code goes by. The rows are made here from the items, and nothing of them has
-- to be believed: proofs/Rows.antt has the checker compute that they say what the items say. Definitions alone.
use Rattle.std.specs.Prelude.{cond, ◌&&◌, List, [], ◌∷◌, ◌++◌, map, ℕ, zero, suc, ◌+◌, ◌-◌, ◌*◌, ◌%◌, ◌^◌, eqb, ltb, length, get_or}
use Rattle.format.specs.Fields.{Field, Rule, Sense, Switch, steers, NID_PACKET, NID_XUSER, END}
use Rattle.format.specs.Fields.Rule.{any, packet, user, direction, size, pig, total, radio, within}
use Rattle.format.specs.Fields.Sense.{plain, scale, distance, text_length}
use Rattle.format.specs.Packets.{Items, Packet, header, etcs, ctcs}
use Rattle.format.specs.Packets.Items.{end, nest, send, send_if, send_either, send_times}
use Rattle.format.specs.Rules.{rule_of}

-- A row for each field and each end. Acts: 0 end, 1 the CTCS packet, 2 a field, 3 a field with the next only if it is 1, 4 a field that
-- chooses, 5 a field that repeats a group. What follows, or the first choice, or the group, stands in the next row; what follows a
-- next that is left out, the second choice, and what follows the groups, in row jump. The row up repeats the group that holds
-- this one; 0 where none does. A group's end jumps there.
pub record Row : Type 0 where
  pub act : ℕ
  pub field : Field
  pub jump : ℕ
  pub up : ℕ

abbrev pub row : ℕ → Field → ℕ → ℕ → Row
row a f j u = record { act = a; field = f; jump = j; up = u }

-- the rows of items, the first of them row i, inside the group of row u
unfoldable pub rows_of : ℕ → ℕ → Items → List Row
rows_of i u end = row 0 NID_PACKET u u ∷ []
rows_of i u nest = row 1 NID_XUSER 0 u ∷ []
rows_of i u (send f r) = row 2 f 0 u ∷ rows_of (suc i) u r
rows_of i u (send_if c f r) = row 3 (steers c) (i + 2) u ∷ row 2 f 0 u ∷ rows_of (i + 2) u r
rows_of i u (send_either c a b) =
    let first = rows_of (suc i) u a in
    let j = suc i + length first in row 4 (steers c) j u ∷ (first ++ rows_of j u b)
rows_of i u (send_times c g r) =
    let group = rows_of (suc i) i g in
    let j = suc i + length group in row 5 (steers c) j u ∷ (group ++ rows_of j u r)

-- the rows of packets, one after the other, and the row where each begins
unfoldable pub packet_rows : ℕ → List Packet → List Row
unfolding rows_of
packet_rows i [] = []
packet_rows i (p ∷ ps) = let own = rows_of i 0 p.items in own ++ packet_rows (i + length own) ps

pub record Start : Type 0 where
  pub id : ℕ
  pub row : ℕ

unfoldable pub packet_starts : ℕ → List Packet → List Start
unfolding rows_of
packet_starts i [] = []
packet_starts i (p ∷ ps) = record { id = p.id; row = i } ∷ packet_starts (i + length (rows_of i 0 p.items)) ps

-- row 0 stands between packets; the header begins in row 1
unfoldable pub header_rows : List Row
unfolding rows_of header
header_rows = rows_of 0 0 end ++ rows_of 1 0 header

unfoldable pub etcs_from : ℕ
unfolding header_rows
etcs_from = length header_rows

unfoldable pub ctcs_from : ℕ
unfolding etcs_from packet_rows etcs
ctcs_from = etcs_from + length (packet_rows etcs_from etcs)

unfoldable pub rows : List Row
unfolding header_rows packet_rows etcs_from ctcs_from etcs ctcs
rows = header_rows ++ (packet_rows etcs_from etcs ++ packet_rows ctcs_from ctcs)

unfoldable pub row_at : ℕ → Row
unfolding rows
row_at k = get_or rows k (row 0 NID_PACKET 0 0)

abbrev pub act : ℕ → ℕ
act k = (row_at k).act

abbrev pub field_at : ℕ → Field
field_at k = (row_at k).field

abbrev pub jump : ℕ → ℕ
jump k = (row_at k).jump

abbrev pub up : ℕ → ℕ
up k = (row_at k).up

-- the row where the packet with an identifier begins, 0 if there is none
unfoldable pub start_of : ℕ → List Start → ℕ
start_of v [] = 0
start_of v (s ∷ ss) = cond (eqb v s.id) s.row (start_of v ss)

unfoldable pub etcs_row : ℕ → ℕ
unfolding start_of packet_starts etcs_from etcs
etcs_row v = start_of v (packet_starts etcs_from etcs)

unfoldable pub ctcs_row : ℕ → ℕ
unfolding start_of packet_starts ctcs_from ctcs
ctcs_row v = start_of v (packet_starts ctcs_from ctcs)

-- ---- what a row says

abbrev pub rule_in : Sense → Rule
rule_in (plain r) = r
rule_in scale = any
rule_in distance = any
rule_in text_length = any

abbrev pub switch_of : Field → Switch
switch_of f = record { number = f.number; name = f.name; width = f.width; rule = rule_in f.sense; sized = f.sized }

-- the items of an act: of its field f, the next row's field, what stands in the next row and what in row jump
unfoldable pub shape : ℕ → Field → Field → Items → Items → Items
shape zero f g a b = end
shape (suc zero) f g a b = nest
shape (suc (suc zero)) f g a b = send f a
shape (suc (suc (suc zero))) f g a b = send_if (switch_of f) g b
shape (suc (suc (suc (suc zero)))) f g a b = send_either (switch_of f) a b
shape (suc (suc (suc (suc (suc n))))) f g a b = send_times (switch_of f) a b

-- what the rows say from row i on
unfoldable pub nodes_from : ℕ → List Row → List Items
unfolding shape
nodes_from i [] = []
nodes_from i (r ∷ rs) =
    let later = nodes_from (suc i) rs in
    shape r.act r.field (get_or rs 0 (row 0 NID_PACKET 0 0)).field (get_or later 0 end) (get_or later (r.jump - suc i) end) ∷ later

-- the items that row k says
unfoldable pub node : ℕ → Items
unfolding nodes_from rows
node k = get_or (nodes_from 0 rows) k end

-- ---- a row as one number

-- the code of a sense, from 0: anything, a distance, the text length, L_PACKET, N_PIG, N_TOTAL, NID_RADIO, NID_PACKET, NID_XUSER,
-- Q_DIR, a range, the scale
abbrev pub code_of : Sense → ℕ
code_of (plain any) = 0
code_of (plain size) = 3
code_of (plain pig) = 4
code_of (plain total) = 5
code_of (plain radio) = 6
code_of (plain packet) = 7
code_of (plain user) = 8
code_of (plain direction) = 9
code_of (plain (within a b)) = 10
code_of scale = 11
code_of distance = 1
code_of text_length = 2

abbrev low_in : Rule → ℕ
low_in any = 0
low_in packet = 0
low_in user = 0
low_in direction = 0
low_in size = 0
low_in pig = 0
low_in total = 0
low_in radio = 0
low_in (within a b) = a

abbrev high_in : Rule → ℕ
high_in any = 0
high_in packet = 0
high_in user = 0
high_in direction = 0
high_in size = 0
high_in pig = 0
high_in total = 0
high_in radio = 0
high_in (within a b) = b

abbrev pub low_of : Field → ℕ
low_of f = low_in (rule_of f.sense)

abbrev pub high_of : Field → ℕ
high_of f = high_in (rule_of f.sense)

-- the number of a sense: of a field that is free its code; of a range that begins at 0, 16 and its high end; of the scale 32 and its high end;
-- of a range that begins at 1, 48 and its high end; of any other 52 and its code
abbrev range_number : ℕ → ℕ → ℕ
range_number zero b = 16 + b
range_number (suc zero) b = 48 + b
range_number (suc (suc a)) b = 62

abbrev pub rule_number : Sense → ℕ
rule_number (plain any) = 0
rule_number (plain size) = 55
rule_number (plain pig) = 56
rule_number (plain total) = 57
rule_number (plain radio) = 58
rule_number (plain packet) = 59
rule_number (plain user) = 60
rule_number (plain direction) = 61
rule_number (plain (within a b)) = range_number a b
rule_number scale = 34
rule_number distance = 1
rule_number text_length = 2

-- what the number of row k says beside its act and its field's width. At a group's end and at the field that repeats it: how many rows lie
-- from that field to that end; at a field that chooses, how many it may jump. At a packet's end 0. Else the number of the field's sense; the
-- field that is left out unless its switch is 1 is one row, so that its jump needs no number
abbrev rest_by : ℕ → ℕ → ℕ → ℕ → ℕ
rest_by zero k j n = cond (eqb j 0) 0 (suc k - j)
rest_by (suc zero) k j n = n
rest_by (suc (suc zero)) k j n = n
rest_by (suc (suc (suc zero))) k j n = n
rest_by (suc (suc (suc (suc a)))) k j n = j - k

abbrev pub rest_of : ℕ → Row → ℕ
rest_of k r = rest_by r.act k r.jump (rule_number r.field.sense)

abbrev pub rest : ℕ → ℕ
rest k = rest_of k (row_at k)

-- from the lowest bit: 3 of the act, 7 of the width, 6 of the rest
abbrev word : ℕ → Row → ℕ
word k r = r.act + r.field.width * 2 ^ 3 + rest_of k r * 2 ^ 10

unfoldable words_from : ℕ → List Row → List ℕ
words_from k [] = []
words_from k (r ∷ rs) = word k r ∷ words_from (suc k) rs

unfoldable pub words : List ℕ
unfolding rows words_from
words = words_from 0 rows

-- the code of a row's field, and the ends of its range, by the row's act and rest
abbrev pub free_by : ℕ → ℕ → ℕ
free_by a r = cond (eqb a 0) 7 (cond (eqb a 2) r 0)

abbrev pub code_by : ℕ → ℕ → ℕ
code_by a r = cond (ltb r 10) (free_by a r) (cond (ltb r 32) 10 (cond (ltb r 48) 11 (cond (ltb r 52) 10 (r - 52))))

abbrev pub low_by : ℕ → ℕ
low_by r = cond (ltb r 48) 0 (cond (ltb r 52) 1 (cond (eqb r 62) 16 0))

abbrev pub high_by : ℕ → ℕ
high_by r = cond (ltb r 10) 0 (cond (ltb r 52) (r % 16) (cond (eqb r 62) 16 0))

-- how many rows ahead a field leads that steers, unless it is followed by the next row; the field that is left out unless its switch is 1 is one row
abbrev pub leap_by : ℕ → ℕ → ℕ
leap_by a r = cond (eqb a 3) 2 r

-- the row that repeats the group which ends with row k, by the rest of row k; 0 where that is 0, at a packet's end
abbrev pub back_by : ℕ → ℕ → ℕ
back_by k r = cond (eqb r 0) 0 (k + 1 - r)

-- the number of the field in a row with this act and this field's number, where it holds v: between packets 255 is the end mark
abbrev pub number_by : ℕ → ℕ → ℕ → ℕ
number_by a v f = cond (eqb a 0 && eqb v 255) END.number f

-- the number of each row's field
unfoldable pub field_numbers : List ℕ
unfolding rows
field_numbers = map (λ r. r.field.number) rows
