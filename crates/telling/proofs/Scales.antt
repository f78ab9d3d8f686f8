-- In every packet of the tables a distance stands only behind the packet's own Q_SCALE, of which there is one at most: a test of the items. Assumes nothing.
use mathlib.Core.Bool.{Bool, true, false, not, ◌&&◌}
use Rattle.format.specs.Fields.{Field, Sense, Switch, steers}
use Rattle.format.specs.Fields.Sense.{plain, scale, distance, text_length}
use Rattle.format.specs.Packets.{Items}
use Rattle.format.specs.Packets.Items.{end, nest, send, send_if, send_either, send_times}
use Rattle.format.specs.Telegrams.{begins}
use Rattle.telling.proofs.Once.{Phase}
use Rattle.telling.proofs.Once.Phase.{heading, ahead, behind}

-- ---- the test

-- a packet, or the end mark, begins with the field
abbrev pub opens : Field → Bool
opens f = begins (record { field = f; value = 0 })

abbrev pub early : Phase → Bool
early heading = false
early ahead = true
early behind = false

abbrev pub late : Phase → Bool
late heading = false
late ahead = false
late behind = true

-- a field that may stand in a phase and does not end it
abbrev pub same : Phase → Sense → Bool
same k (plain r) = true
same k scale = false
same k distance = late k
same k text_length = late k

abbrev pub stays_in : Phase → Field → Bool
stays_in k f = not (opens f) && same k f.sense

abbrev pub shut : Switch → Bool
shut c = not (opens (steers c))

-- a field that may stand in a phase: a holds of what follows if the phase goes on, b if it was the scale
abbrev pub tests : Phase → Sense → Bool → Bool → Bool
tests k (plain r) a b = a
tests k scale a b = early k && b
tests k distance a b = late k && a
tests k text_length a b = late k && a

-- every field of a group stays in a phase
abbrev pub holds : Phase → Items → Bool
holds k end = true
holds k nest = false
holds k (send f r) = stays_in k f && holds k r
holds k (send_if c f r) = shut c && (stays_in k f && holds k r)
holds k (send_either c a b) = shut c && (holds k a && holds k b)
holds k (send_times c g r) = shut c && (holds k g && holds k r)

-- items from a phase on: no distance but behind the scale, one scale at most, and no field that begins a packet
abbrev pub ordered : Phase → Items → Bool
ordered k end = true
ordered k nest = early k
ordered k (send f r) = not (opens f) && tests k f.sense (ordered k r) (ordered behind r)
ordered k (send_if c f r) = shut c && (stays_in k f && ordered k r)
ordered k (send_either c a b) = shut c && (ordered k a && ordered k b)
ordered k (send_times c g r) = shut c && (holds k g && ordered k r)
