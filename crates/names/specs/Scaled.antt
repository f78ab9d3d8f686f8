-- docs/RULES.md, "Distances and the normal form": that the fields which count as distances are those that it names, computed by the checker over all fields.
-- Assumes nothing.
use Rattle.std.specs.Prelude.{Bool, true, false, not, ◌&&◌, ◌||◌, map, ◌≡◌, refl}
use Rattle.bits.specs.Bits.{same}
use Rattle.format.specs.Fields.{Field, Sense, fields}
use Rattle.format.specs.Fields.Sense.{plain, scale, distance, text_length}
use Rattle.pieces.specs.Pieces.{begins}
use Rattle.sheet.specs.Rows.{text_of}

-- "Scaled fields: every field above beginning with D_ , every L_ field but L_PACKET and L_TEXT, and M_POSITION"
abbrev pub scaled_by_name : Field → Bool
scaled_by_name f =
    let name = text_of f.name in
    begins (text_of "D_") name
    || (begins (text_of "L_") name && (not (same name (text_of "L_PACKET")) && not (same name (text_of "L_TEXT"))))
    || same name (text_of "M_POSITION")

-- a text length is a distance unless it is unlimited
abbrev pub scaled_by_sense : Sense → Bool
scaled_by_sense (plain r) = false
scaled_by_sense scale = false
scaled_by_sense distance = true
scaled_by_sense text_length = true

pub scaled_fields : map (λ f. scaled_by_sense f.sense) fields ≡ map scaled_by_name fields
unfolding fields begins
scaled_fields = refl
