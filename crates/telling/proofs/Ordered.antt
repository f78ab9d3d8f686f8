-- The tables keep the test of a packet's scale, and what a value leads to where it holds. Assumes nothing.
use mathlib.Core.Bool.{Bool, true, false, cond, not, ◌&&◌}
use mathlib.Core.List.{List, [], ◌∷◌}
use mathlib.Core.Option.{Option, some, none}
use mathlib.Core.Path.{◌≡◌, refl, subst}
use Prim.Native.Nat.{ℕ, zero, suc}
use lib.Dec.{T, eqb}
use Rattle.format.specs.Fields.{Field, Sense, NID_PACKET, Q_SCALE, D_LINK, Q_FRONT, END}
use Rattle.format.specs.Fields.Sense.{plain, scale, distance, text_length}
use Rattle.format.specs.Packets.{Items, Packet, ◌⧺◌, times, find, header, etcs, ctcs}
use Rattle.format.specs.Packets.Items.{end, nest, send, send_if, send_either, send_times}
use Rattle.format.specs.Rules.{named, or_end, next}
use Rattle.format.specs.Telegrams.{begins}
use Rattle.format.proofs.Rows.{and_left, and_right}
use Rattle.laws.proofs.Every.{IfSome, Throughout, taken, found}
use Rattle.telling.proofs.Once.{Phase}
use Rattle.telling.proofs.Once.Phase.{heading, ahead, behind}
use Rattle.telling.proofs.Scales.{opens, early, late, same, stays_in, shut, tests, holds, ordered}

-- ---- the tables, computed

abbrev all_ordered : List Packet → Bool
all_ordered [] = true
all_ordered (p ∷ ps) = ordered ahead p.items && all_ordered ps

table : (ps : List Packet) → T (all_ordered ps) → Throughout (λ t. T (ordered ahead t)) ps
table [] h = tt
table (p ∷ ps) h = (and_left (ordered ahead p.items) (all_ordered ps) h, table ps (and_right (ordered ahead p.items) (all_ordered ps) h))

-- the fourteen ETCS packets
pub etcs_ordered : Throughout (λ t. T (ordered ahead t)) etcs
unfolding etcs
etcs_ordered = table etcs tt

-- the five CTCS packets
pub ctcs_ordered : Throughout (λ t. T (ordered ahead t)) ctcs
unfolding ctcs
ctcs_ordered = table ctcs tt

pub header_ordered : T (ordered heading header)
unfolding header
header_ordered = tt

-- the test tells: a distance ahead of the scale, a distance with no scale, a second scale, a CTCS packet behind the scale
refuses_early : ordered ahead (send D_LINK (send Q_SCALE end)) ≡ false
refuses_early = refl

refuses_bare : ordered ahead (send Q_FRONT (send D_LINK end)) ≡ false
refuses_bare = refl

refuses_second : ordered ahead (send Q_SCALE (send D_LINK (send Q_SCALE end))) ≡ false
refuses_second = refl

refuses_carried : ordered ahead (send Q_SCALE nest) ≡ false
refuses_carried = refl

-- ---- after a value

both : (a b : Bool) → T a → T b → T (a && b)
both true b h k = k
both false b h k = absurd h

two : (a b : Bool) → T (a && b) → T a × T b
two a b h = (and_left a b h, and_right a b h)

same_tests : (k : Phase) (s : Sense) (a b : Bool) → T (same k s) → T a → T (tests k s a b)
same_tests k (plain r) a b h o = o
same_tests k scale a b h o = absurd h
same_tests k distance a b h o = both (late k) a h o
same_tests k text_length a b h o = both (late k) a h o

sent_ordered : (k : Phase) (f : Field) (r : Items) → T (stays_in k f) → T (ordered k r) → T (ordered k (send f r))
sent_ordered k f r h o =
    let x = two (not (opens f)) (same k f.sense) h in
    both (not (opens f)) (tests k f.sense (ordered k r) (ordered behind r)) x.0
    (same_tests k f.sense (ordered k r) (ordered behind r) x.1 o)

ordered_append : (k : Phase) (g r : Items) → T (holds k g) → T (ordered k r) → T (ordered k (g ⧺ r))
unfolding ◌⧺◌
ordered_append k end r h o = o
ordered_append k nest r h o = absurd h
ordered_append k (send f a) r h o =
    let x = two (stays_in k f) (holds k a) h in
    sent_ordered k f (a ⧺ r) x.0 (ordered_append k a r x.1 o)
ordered_append k (send_if c f a) r h o =
    let x = two (shut c) (stays_in k f && holds k a) h in
    let y = two (stays_in k f) (holds k a) x.1 in
    both (shut c) (stays_in k f && ordered k (a ⧺ r)) x.0 (both (stays_in k f) (ordered k (a ⧺ r)) y.0 (ordered_append k a r y.1 o))
ordered_append k (send_either c a b) r h o =
    let x = two (shut c) (holds k a && holds k b) h in
    let y = two (holds k a) (holds k b) x.1 in
    both (shut c) (ordered k (a ⧺ r) && ordered k (b ⧺ r)) x.0
    (both (ordered k (a ⧺ r)) (ordered k (b ⧺ r)) (ordered_append k a r y.0 o) (ordered_append k b r y.1 o))
ordered_append k (send_times c g a) r h o =
    let x = two (shut c) (holds k g && holds k a) h in
    let y = two (holds k g) (holds k a) x.1 in
    both (shut c) (holds k g && ordered k (a ⧺ r)) x.0 (both (holds k g) (ordered k (a ⧺ r)) y.0 (ordered_append k a r y.1 o))

ordered_times : (k : Phase) (n : ℕ) (g r : Items) → T (holds k g) → T (ordered k r) → T (ordered k (times n g r))
unfolding times
ordered_times k zero g r h o = o
ordered_times k (suc n) g r h o = ordered_append k g (times n g r) h (ordered_times k n g r h o)

-- and items that stay in a phase are ordered from it
pub holds_ordered : (k : Phase) (t : Items) → T (holds k t) → T (ordered k t)
holds_ordered k end h = tt
holds_ordered k nest h = absurd h
holds_ordered k (send f r) h =
    let x = two (stays_in k f) (holds k r) h in
    sent_ordered k f r x.0 (holds_ordered k r x.1)
holds_ordered k (send_if c f r) h =
    let x = two (shut c) (stays_in k f && holds k r) h in
    let y = two (stays_in k f) (holds k r) x.1 in
    both (shut c) (stays_in k f && ordered k r) x.0 (both (stays_in k f) (ordered k r) y.0 (holds_ordered k r y.1))
holds_ordered k (send_either c a b) h =
    let x = two (shut c) (holds k a && holds k b) h in
    let y = two (holds k a) (holds k b) x.1 in
    both (shut c) (ordered k a && ordered k b) x.0 (both (ordered k a) (ordered k b) (holds_ordered k a y.0) (holds_ordered k b y.1))
holds_ordered k (send_times c g r) h =
    let x = two (shut c) (holds k g && holds k r) h in
    let y = two (holds k g) (holds k r) x.1 in
    both (shut c) (holds k g && ordered k r) x.0 (both (holds k g) (ordered k r) y.0 (holds_ordered k r y.1))

-- what a field f does in a phase, where the items u follow: it begins a packet, or leaves the phase as it is, or is the scale
pub data Fares (k : Phase) (f : Field) (u : Items) : Type 0 where
  edge : T (opens f) → T (same heading f.sense) → T (ordered ahead u) → Fares k f u
  stays : T (not (opens f)) → T (same k f.sense) → T (ordered k u) → Fares k f u
  turns : k ≡ ahead → T (not (opens f)) → f.sense ≡ scale → T (ordered behind u) → Fares k f u

pub fares_edge : (k : Phase) (v : ℕ) (u : Items) → T (ordered ahead u) → Fares k (named end v) u
fares_edge k v u o = by_test (eqb v 255)
  where
    by_test : (b : Bool) → Fares k (cond b END NID_PACKET) u
    by_test true = edge tt tt o
    by_test false = edge tt tt o

fares_sent : (k : Phase) (f : Field) (r : Items) → T (ordered k (send f r)) → Fares k f r
fares_sent k f r h =
    let x = two (not (opens f)) (tests k f.sense (ordered k r) (ordered behind r)) h in
    by_sense x.0 f.sense refl x.1
  where
    is_early : (j : Phase) → T (early j) → j ≡ ahead
    is_early heading i = absurd i
    is_early ahead i = refl
    is_early behind i = absurd i

    by_sense : T (not (opens f)) → (s : Sense) → f.sense ≡ s → T (tests k s (ordered k r) (ordered behind r)) → Fares k f r
    by_sense n (plain c) e i = stays n (rw e tt) i
    by_sense n scale e i = let y = two (early k) (ordered behind r) i in turns (is_early k y.0) n e y.1
    by_sense n distance e i = let y = two (late k) (ordered k r) i in stays n (rw e y.0) y.1
    by_sense n text_length e i = let y = two (late k) (ordered k r) i in stays n (rw e y.0) y.1

or_end_lem : (o : Option Items) → IfSome (λ t. T (ordered ahead t)) o → T (ordered ahead (or_end o))
or_end_lem none h = tt
or_end_lem (some t) h = h

pub fares : (k : Phase) (t : Items) (v : ℕ) (u : Items) → T (ordered k t) → next t v ≡ some u → Fares k (named t v) u
unfolding next
fares k end v u o e = fares_edge k v u (rw e at (found (λ t. T (ordered ahead t)) v etcs etcs_ordered))
fares heading nest v u o e = absurd o
fares ahead nest v u o e =
    let i : or_end (find v ctcs) ≡ u = cc in
    stays tt tt (subst (λ t. T (ordered ahead t)) i (or_end_lem (find v ctcs) (found (λ t. T (ordered ahead t)) v ctcs ctcs_ordered)))
fares behind nest v u o e = absurd o
fares k (send f r) v u o e = let i : r ≡ u = cc in subst (Fares k f) i (fares_sent k f r o)
fares k (send_if c f r) v u o e =
    let i : cond (eqb v 1) (send f r) r ≡ u = cc in
    let x = two (shut c) (stays_in k f && ordered k r) o in
    let y = two (stays_in k f) (ordered k r) x.1 in
    stays x.0 tt (subst (λ t. T (ordered k t)) i (taken (λ t. T (ordered k t)) (eqb v 1) (send f r) r (sent_ordered k f r y.0 y.1) y.1))
fares k (send_either c a b) v u o e =
    let i : cond (eqb v 1) a b ≡ u = cc in
    let x = two (shut c) (ordered k a && ordered k b) o in
    let y = two (ordered k a) (ordered k b) x.1 in
    stays x.0 tt (subst (λ t. T (ordered k t)) i (taken (λ t. T (ordered k t)) (eqb v 1) a b y.0 y.1))
fares k (send_times c g r) v u o e =
    let i : times v g r ≡ u = cc in
    let x = two (shut c) (holds k g && ordered k r) o in
    let y = two (holds k g) (ordered k r) x.1 in
    stays x.0 tt (subst (λ t. T (ordered k t)) i (ordered_times k v g r y.0 y.1))

pub is_late : (k : Phase) → T (late k) → k ≡ behind
is_late heading i = absurd i
is_late ahead i = absurd i
is_late behind i = refl
