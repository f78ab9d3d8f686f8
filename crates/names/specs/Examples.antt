-- Worked examples of the definitions, each computed by the checker. Assumes nothing.
use Rattle.std.specs.Prelude.{◌≡◌, refl, [], ◌∷◌}
use Rattle.sheet.specs.Rows.{text_of}
use Rattle.names.specs.Names.{name_text}

-- the first field of a header, a packet's L_PACKET, the longest name, and the end mark
named : name_text 0 ∷ name_text 13 ∷ name_text 46 ∷ name_text 71 ∷ []
    ≡ text_of "Q_UPDOWN" ∷ text_of "L_PACKET" ∷ text_of "M_LEVELTEXTDISPLAY" ∷ text_of "END" ∷ []
unfolding name_text
named = refl

-- numbers that no field has
nameless : name_text 72 ∷ name_text 255 ∷ [] ≡ [] ∷ [] ∷ []
unfolding name_text
nameless = refl
