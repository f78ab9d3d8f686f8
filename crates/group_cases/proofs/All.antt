-- Every claim of the table holds of the definitions: the checker computes it. Assumes nothing.
use mathlib.Core.Path.{◌≡◌, refl}
use mathlib.Core.Bool.{true}
use Rattle.bits.specs.Bits.{digits, value_of, bits_of}
use Rattle.format.specs.Packets.{◌⧺◌, times, header, etcs, ctcs, find}
use Rattle.format.specs.Rules.{begun, next, misdirected, broken, noted, closes, settled, onward, step, radio_from, clash, among, spot_of, spot_at, place_from, field_place, collides_by}
use Rattle.format.specs.Telegrams.{bits_in, from_bits, drive, read, divided}
use Rattle.states.specs.Reader.{checked}
use Rattle.group.specs.Groups.{parts, arrived, grouped, in_order, counted, miscopied, counting, packets_from, collision, lined, message, group}
use Rattle.group_cases.specs.Cases.{holds, hold, cases}

pub all_hold : hold cases ≡ true
unfolding holds cases group message lined parts arrived grouped in_order counted miscopied counting packets_from collision divided checked read drive begun from_bits bits_in bits_of digits value_of spot_of spot_at place_from field_place step next find etcs ctcs header times ◌⧺◌ broken misdirected noted settled onward closes radio_from collides_by among clash
all_hold = refl
