-- docs/RULES.md, "Refusal numbers": the number of each kind, and what an answer says in numbers. Definitions alone.
use Rattle.std.specs.Prelude.{ℕ, ◌+◌, ◌*◌, Result, Ok, Err}
use Rattle.format.specs.declared.Kind.{Kind}
use Rattle.format.specs.declared.Refusal.{Refusal}
use Rattle.format.specs.declared.Kind.TheVariants.{Room, Size, Padding, Header, Ended, Unknown, Value, Length, Direction, Repeated, Trailing, Wide, Full}

-- what a reader, a writer or a normaliser answers: accepted, with a count, or refused
abbrev pub Answer : Type 0
Answer = Result ℕ Refusal

abbrev pub number_of : Kind → ℕ
-- output shorter than 830 values or 104 bytes
number_of Room = 1
-- n outside 58..830, or input is not ceil(n/8) bytes
number_of Size = 2
-- an unused low bit of the last byte is 1
number_of Padding = 3
-- a header rule is broken
number_of Header = 4
-- the bits, or the values, end inside a field or before the end mark
number_of Ended = 5
-- NID_PACKET or NID_XUSER is not in the tables below
number_of Unknown = 6
-- a field holds a value not allowed below
number_of Value = 7
-- L_PACKET is not the number of bits its packet takes
number_of Length = 8
-- a CTCS packet's Q_DIR differs from that of its ETCS-44
number_of Direction = 9
-- a second packet, other than ETCS-44, has the NID_PACKET of an earlier one and a Q_DIR that collides with its Q_DIR
number_of Repeated = 10
-- bits, or values, follow the end mark
number_of Trailing = 11
-- writer: a value does not fit its field's width
number_of Wide = 12
-- writer: the field would end past bit 830
number_of Full = 13

-- "When an answer is an enum, a definition specifies [the rules'] number and values for each of its cases": 0 and what is given; or the
-- refusal's number and its place. `answer-is` in proofs/Numbers.antt says that an answer is known by them.
abbrev pub in_numbers : Answer → ℕ × ℕ
in_numbers (Ok given) = (0, given)
in_numbers (Err r) = (number_of r.kind, r.place)

-- "there the answer is 0, or 1,024 times the refusal number plus the place"
abbrev pub code_of : Answer → ℕ
code_of (Ok given) = 0
code_of (Err r) = 1024 * (in_numbers (Err r)).0 + (in_numbers (Err r)).1
