-- In an accepted telegram, as in the tables, a distance stands only behind its packet's own Q_SCALE, of which there is one at most. For any terms.
-- Assumes nothing.
use mathlib.Core.Bool.{Bool, true, false, cond, not}
use mathlib.Core.List.{List, [], ◌∷◌}
use mathlib.Core.Path.{◌≡◌, refl, sym, subst}
use Prim.Native.Nat.{ℕ}
use lib.Dec.{T, eqb}
use Rattle.format.specs.Fields.{Field, Sense}
use Rattle.format.specs.Fields.Sense.{plain, scale, distance, text_length}
use Rattle.format.specs.Packets.{Items}
use Rattle.format.specs.Packets.Items.{end}
use Rattle.format.specs.Rules.{State, Terms, begun, named}
use Rattle.format.specs.Telegrams.{Entry, entry, begins, Divided, before, divided, Run, Telegram}
use Rattle.format.specs.Telegrams.Run.{last, more}
use Rattle.format.specs.Normal.{view_of}
use Rattle.format.specs.Normal.View.{kept, measures}
use Rattle.laws.proofs.Steps.{go_next, over_mark}
use Rattle.laws.proofs.Told.{choose_t}
use Rattle.telling.proofs.Once.{Phase, Shape}
use Rattle.telling.proofs.Once.Phase.{heading, ahead, behind}
use Rattle.telling.proofs.Scales.{same, ordered}
use Rattle.telling.proofs.Ordered.{header_ordered, Fares, fares_edge, fares, is_late}
use Rattle.telling.proofs.Ordered.Fares.{edge, stays, turns}

abbrev pub AllShaped : List (List Entry) → Type 0
AllShaped [] = Unit
AllShaped (es ∷ ps) = Shape ahead es × AllShaped ps

shape_stays : (k : Phase) (s : Sense) (v : ℕ) (es : List Entry) → T (same k s) → Shape k es
    → choose_t (view_of s v) (Shape k es) ((k ≡ ahead) × Shape behind es) ((k ≡ behind) × Shape k es)
shape_stays k (plain r) v es h i = i
shape_stays k scale v es h i = absurd h
shape_stays k distance v es h i = (is_late k h, i)
shape_stays k text_length v es h i = by_test (eqb v 32767)
  where
    by_test : (b : Bool) → choose_t (cond b kept measures) (Shape k es) ((k ≡ ahead) × Shape behind es) ((k ≡ behind) × Shape k es)
    by_test true = i
    by_test false = (is_late k h, i)

heading_ahead : (s : Sense) → T (same heading s) → T (same ahead s)
heading_ahead (plain r) h = tt
heading_ahead scale h = absurd h
heading_ahead distance h = absurd h
heading_ahead text_length h = absurd h

opened : (b : Bool) → T b → b ≡ true
opened true h = refl
opened false h = absurd h

unopened : (b : Bool) → T (not b) → b ≡ false
unopened true h = absurd h
unopened false h = refl

-- the phase of what follows
after : {k : Phase} {f : Field} {u : Items} → Fares k f u → (j : Phase) × T (ordered j u)
after (edge o s i) = (ahead, i)
after {k} (stays o s i) = (k, i)
after (turns a o s i) = (behind, i)

-- an entry in front of what was divided
before_shaped : (k : Phase) (e : Entry) (u : Items) (d : Divided) → Fares k e.field u → ((j : Phase) → T (ordered j u) → Shape j d.header)
    → AllShaped d.packets → Shape k (before (begins e) e d).header × AllShaped (before (begins e) e d).packets
before_shaped k e u d (edge o s i) h r =
    rw (opened (begins e) o) (tt, (shape_stays ahead e.field.sense e.value d.header (heading_ahead e.field.sense s) (h ahead i), r))
before_shaped k e u d (stays o s i) h r =
    rw (unopened (begins e) o) (shape_stays k e.field.sense e.value d.header s (h k i), r)
before_shaped k e u d (turns a o s i) h r = rw (unopened (begins e) o, s) ((a, h behind i), r)

module _ (p : Terms) where
  pub shaped_run : {s : State} {es : List Entry} → Run p s es → (k : Phase) → T (ordered k s.todo)
      → Shape k (divided es).header × AllShaped (divided es).packets
  unfolding divided
  shaped_run (last {s = s} {v = v} f e) k o =
      let m : s.todo ≡ end = (over_mark p s v e).0 in
      before_shaped k (entry s v) end (divided []) (subst (λ t. Fares k (named t v) end) (sym m) (fares_edge k v end tt)) (λ j i. tt) tt
  shaped_run (more {s = s} {v = v} {t = t} {c = c} {es = es} f e r) k o =
      let g : Fares k (named s.todo v) t = fares k s.todo v t o (go_next p s v t c e) in
      before_shaped k (entry s v) t (divided es) g (λ j i. (shaped_run r j i).0) (shaped_run r (after g).0 (after g).1).1

  -- the header has neither a scale nor a distance, and each packet no distance but behind its one scale
  pub shaped : {es : List Entry} → Telegram p es → Shape heading (divided es).header × AllShaped (divided es).packets
  unfolding begun
  shaped r = shaped_run r heading header_ordered
