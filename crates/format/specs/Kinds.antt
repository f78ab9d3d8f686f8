-- docs/RULES.md, "Forms of the code", asked for as "Each kind of packet keeps its identifier and fixed widths with the kind".
-- What the kinds' choice answers. Definitions alone.
use Rattle.std.specs.Prelude.{cond, ◌||◌, List, [], ◌∷◌, ℕ, ◌+◌, eqb}
use Rattle.format.specs.Fields.{Q_DIR, L_PACKET, Q_SCALE}
use Rattle.format.specs.Packets.{Items, Packet, etcs, ctcs}
use Rattle.format.specs.Packets.Items.{end, nest, send, send_if, send_either, send_times}
use Rattle.format.specs.Table.{etcs_row, ctcs_row}
use Rattle.format.specs.declared.Start.{Start}

abbrev pub starts_at : ℕ → ℕ → Start
starts_at k h = record { row = k; head = h }

-- the bits of a head: those of the identifier, Q_DIR, L_PACKET and Q_SCALE
unfoldable pub head_from : ℕ → Items → ℕ
head_from n end = n
head_from n nest = n
head_from n (send f r) =
    cond (eqb f.number Q_DIR.number || eqb f.number L_PACKET.number || eqb f.number Q_SCALE.number) (head_from (n + f.width) r) n
head_from n (send_if c f r) = n
head_from n (send_either c a b) = n
head_from n (send_times c g r) = n

unfoldable pub head_of : ℕ → ℕ → List Packet → ℕ
unfolding head_from
head_of w v [] = 0
head_of w v (p ∷ ps) = cond (eqb v p.id) (head_from w p.items) (head_of w v ps)

-- "NID_PACKET 8"
unfoldable pub etcs_start : ℕ → Start
unfolding etcs_row head_of etcs
etcs_start v = starts_at (etcs_row v) (head_of 8 v etcs)

-- "NID_XUSER 9"
unfoldable pub ctcs_start : ℕ → Start
unfolding ctcs_row head_of ctcs
ctcs_start v = starts_at (ctcs_row v) (head_of 9 v ctcs)
