-- Each promise of this crate is met by one answer alone. Assumes nothing.
use mathlib.Core.Path.{refl, sym, ap, ◌∙◌}
use Rattle.packets.specs.contracts as promises
use Rattle.format.specs.declared.Start.{Start}
use Rattle.bits.proofs.Once.{OneOutcome}
use Rattle.packets.proofs.etcs
use Rattle.packets.proofs.ctcs
use Rattle.packets.proofs.Linking
use Rattle.packets.proofs.LinkingPacket.START as linking
use Rattle.packets.proofs.Gradient
use Rattle.packets.proofs.GradientPacket.START as gradient
use Rattle.packets.proofs.Speed
use Rattle.packets.proofs.SpeedPacket.START as speed
use Rattle.packets.proofs.Level
use Rattle.packets.proofs.LevelPacket.START as level
use Rattle.packets.proofs.Session
use Rattle.packets.proofs.SessionPacket.START as session
use Rattle.packets.proofs.National
use Rattle.packets.proofs.NationalPacket.START as national
use Rattle.packets.proofs.Conditional
use Rattle.packets.proofs.ConditionalPacket.START as conditional
use Rattle.packets.proofs.Track
use Rattle.packets.proofs.TrackPacket.START as track
use Rattle.packets.proofs.Text
use Rattle.packets.proofs.TextPacket.START as text
use Rattle.packets.proofs.Position
use Rattle.packets.proofs.PositionPacket.START as position
use Rattle.packets.proofs.Transition
use Rattle.packets.proofs.TransitionPacket.START as transition
use Rattle.packets.proofs.Shunting
use Rattle.packets.proofs.ShuntingPacket.START as shunting
use Rattle.packets.proofs.Sight
use Rattle.packets.proofs.SightPacket.START as sight
use Rattle.packets.proofs.Default
use Rattle.packets.proofs.DefaultPacket.START as default
use Rattle.packets.proofs.Circuits
use Rattle.packets.proofs.CircuitsPacket.START as circuits
use Rattle.packets.proofs.Restriction
use Rattle.packets.proofs.RestrictionPacket.START as restriction
use Rattle.packets.proofs.Reversing
use Rattle.packets.proofs.ReversingPacket.START as reversing
use Rattle.packets.proofs.Turnout
use Rattle.packets.proofs.TurnoutPacket.START as turnout
use Rattle.packets.proofs.Stopping
use Rattle.packets.proofs.StoppingPacket.START as stopping

pub etcs_once : OneOutcome promises.etcs.ended etcs.Reads.Post
etcs_once κs args r t u v p q = (p ∙ sym q, refl)

pub ctcs_once : OneOutcome promises.ctcs.ended ctcs.Reads.Post
ctcs_once κs args r t u v p q = (p ∙ sym q, refl)

-- ---- the kinds: each is known by its start

pub linking_once : OneOutcome promises.Linking.new.ended Linking.new.Reads.Post
linking_once κs args r t u v p q = (ap (λ (s : Start). record { start = s }) (p ∙ sym q), refl)

pub gradient_once : OneOutcome promises.Gradient.new.ended Gradient.new.Reads.Post
gradient_once κs args r t u v p q = (ap (λ (s : Start). record { start = s }) (p ∙ sym q), refl)

pub speed_once : OneOutcome promises.Speed.new.ended Speed.new.Reads.Post
speed_once κs args r t u v p q = (ap (λ (s : Start). record { start = s }) (p ∙ sym q), refl)

pub level_once : OneOutcome promises.Level.new.ended Level.new.Reads.Post
level_once κs args r t u v p q = (ap (λ (s : Start). record { start = s }) (p ∙ sym q), refl)

pub session_once : OneOutcome promises.Session.new.ended Session.new.Reads.Post
session_once κs args r t u v p q = (ap (λ (s : Start). record { start = s }) (p ∙ sym q), refl)

pub national_once : OneOutcome promises.National.new.ended National.new.Reads.Post
national_once κs args r t u v p q = (ap (λ (s : Start). record { start = s }) (p ∙ sym q), refl)

pub conditional_once : OneOutcome promises.Conditional.new.ended Conditional.new.Reads.Post
conditional_once κs args r t u v p q = (ap (λ (s : Start). record { start = s }) (p ∙ sym q), refl)

pub track_once : OneOutcome promises.Track.new.ended Track.new.Reads.Post
track_once κs args r t u v p q = (ap (λ (s : Start). record { start = s }) (p ∙ sym q), refl)

pub text_once : OneOutcome promises.Text.new.ended Text.new.Reads.Post
text_once κs args r t u v p q = (ap (λ (s : Start). record { start = s }) (p ∙ sym q), refl)

pub position_once : OneOutcome promises.Position.new.ended Position.new.Reads.Post
position_once κs args r t u v p q = (ap (λ (s : Start). record { start = s }) (p ∙ sym q), refl)

pub transition_once : OneOutcome promises.Transition.new.ended Transition.new.Reads.Post
transition_once κs args r t u v p q = (ap (λ (s : Start). record { start = s }) (p ∙ sym q), refl)

pub shunting_once : OneOutcome promises.Shunting.new.ended Shunting.new.Reads.Post
shunting_once κs args r t u v p q = (ap (λ (s : Start). record { start = s }) (p ∙ sym q), refl)

pub sight_once : OneOutcome promises.Sight.new.ended Sight.new.Reads.Post
sight_once κs args r t u v p q = (ap (λ (s : Start). record { start = s }) (p ∙ sym q), refl)

pub default_once : OneOutcome promises.Default.new.ended Default.new.Reads.Post
default_once κs args r t u v p q = (ap (λ (s : Start). record { start = s }) (p ∙ sym q), refl)

pub circuits_once : OneOutcome promises.Circuits.new.ended Circuits.new.Reads.Post
circuits_once κs args r t u v p q = (ap (λ (s : Start). record { start = s }) (p ∙ sym q), refl)

pub restriction_once : OneOutcome promises.Restriction.new.ended Restriction.new.Reads.Post
restriction_once κs args r t u v p q = (ap (λ (s : Start). record { start = s }) (p ∙ sym q), refl)

pub reversing_once : OneOutcome promises.Reversing.new.ended Reversing.new.Reads.Post
reversing_once κs args r t u v p q = (ap (λ (s : Start). record { start = s }) (p ∙ sym q), refl)

pub turnout_once : OneOutcome promises.Turnout.new.ended Turnout.new.Reads.Post
turnout_once κs args r t u v p q = (ap (λ (s : Start). record { start = s }) (p ∙ sym q), refl)

pub stopping_once : OneOutcome promises.Stopping.new.ended Stopping.new.Reads.Post
stopping_once κs args r t u v p q = (ap (λ (s : Start). record { start = s }) (p ∙ sym q), refl)

-- ---- what each promises of its START

pub linking_start_once : OneOutcome promises.LinkingPacket.START.ended linking.Reads.Post
linking_start_once κs args r t u v p q = (p ∙ sym q, refl)

pub gradient_start_once : OneOutcome promises.GradientPacket.START.ended gradient.Reads.Post
gradient_start_once κs args r t u v p q = (p ∙ sym q, refl)

pub speed_start_once : OneOutcome promises.SpeedPacket.START.ended speed.Reads.Post
speed_start_once κs args r t u v p q = (p ∙ sym q, refl)

pub level_start_once : OneOutcome promises.LevelPacket.START.ended level.Reads.Post
level_start_once κs args r t u v p q = (p ∙ sym q, refl)

pub session_start_once : OneOutcome promises.SessionPacket.START.ended session.Reads.Post
session_start_once κs args r t u v p q = (p ∙ sym q, refl)

pub national_start_once : OneOutcome promises.NationalPacket.START.ended national.Reads.Post
national_start_once κs args r t u v p q = (p ∙ sym q, refl)

pub conditional_start_once : OneOutcome promises.ConditionalPacket.START.ended conditional.Reads.Post
conditional_start_once κs args r t u v p q = (p ∙ sym q, refl)

pub track_start_once : OneOutcome promises.TrackPacket.START.ended track.Reads.Post
track_start_once κs args r t u v p q = (p ∙ sym q, refl)

pub text_start_once : OneOutcome promises.TextPacket.START.ended text.Reads.Post
text_start_once κs args r t u v p q = (p ∙ sym q, refl)

pub position_start_once : OneOutcome promises.PositionPacket.START.ended position.Reads.Post
position_start_once κs args r t u v p q = (p ∙ sym q, refl)

pub transition_start_once : OneOutcome promises.TransitionPacket.START.ended transition.Reads.Post
transition_start_once κs args r t u v p q = (p ∙ sym q, refl)

pub shunting_start_once : OneOutcome promises.ShuntingPacket.START.ended shunting.Reads.Post
shunting_start_once κs args r t u v p q = (p ∙ sym q, refl)

pub sight_start_once : OneOutcome promises.SightPacket.START.ended sight.Reads.Post
sight_start_once κs args r t u v p q = (p ∙ sym q, refl)

pub default_start_once : OneOutcome promises.DefaultPacket.START.ended default.Reads.Post
default_start_once κs args r t u v p q = (p ∙ sym q, refl)

pub circuits_start_once : OneOutcome promises.CircuitsPacket.START.ended circuits.Reads.Post
circuits_start_once κs args r t u v p q = (p ∙ sym q, refl)

pub restriction_start_once : OneOutcome promises.RestrictionPacket.START.ended restriction.Reads.Post
restriction_start_once κs args r t u v p q = (p ∙ sym q, refl)

pub reversing_start_once : OneOutcome promises.ReversingPacket.START.ended reversing.Reads.Post
reversing_start_once κs args r t u v p q = (p ∙ sym q, refl)

pub turnout_start_once : OneOutcome promises.TurnoutPacket.START.ended turnout.Reads.Post
turnout_start_once κs args r t u v p q = (p ∙ sym q, refl)

pub stopping_start_once : OneOutcome promises.StoppingPacket.START.ended stopping.Reads.Post
stopping_start_once κs args r t u v p q = (p ∙ sym q, refl)
