-- The middle of the packets passed, which moves on at half their pace. Definitions alone.
use Rattle.std.specs.Prelude.{true, false, cond, ◌&&◌, List, ℕ, ◌+◌, ◌/◌, leb, length}
use Rattle.bits.specs.Bits.{value_of}
use Rattle.bits.specs.Take.{field_bits}
use Rattle.lookback.specs.declared.Middle.{Middle}

-- behind the packet at a bit, by its L_PACKET, of 13 bits behind the first ten: of a telegram, and of which four bytes are there
unfoldable pub edge_behind : List ℕ → ℕ → ℕ
edge_behind s at = cond (leb at 830 && leb (at / 8 + 4) (length s)) (at + value_of (field_bits s 13 (at + 10))) at

-- after a packet more
abbrev pub moved_on : List ℕ → Middle → Middle
moved_on s m = cond m.late (record { at = edge_behind s m.at; late = false }) (record { at = m.at; late = true })
