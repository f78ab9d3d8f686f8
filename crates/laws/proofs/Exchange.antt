-- Neither a scale nor a distance steers: with another value there, the field has the same name and the same comes after it. For any
-- terms. Assumes nothing.
use mathlib.Core.Bool.{Bool, true, false, cond, ◌&&◌}
use mathlib.Core.Path.{◌≡◌, refl, sym, ap, ◌∙◌, subst}
use Prim.Native.Nat.{ℕ, ◌≤◌}
use native.Mathlib.Omega.{arith}
use lib.Dec.{eqb, leb}
use borrow.Author.Tests.{leb-true, le-leb}
use Rattle.format.specs.Fields.{Field, Sense, NID_PACKET, END}
use Rattle.format.specs.Fields.Rule.{within}
use Rattle.format.specs.Fields.Sense.{plain, scale, distance, text_length}
use Rattle.format.specs.Packets.{Items}
use Rattle.format.specs.Packets.Items.{end, nest, send, send_if, send_either, send_times}
use Rattle.format.specs.Rules.{State, Context, Terms, Next, step, field, due, named, past, next, rule_of, broken, noted, onward, verdict, unless, forbidden}
use Rattle.format.specs.Rules.Next.{go, over, breaks}
use Rattle.format.specs.Telegrams.{entry}
use Rattle.format.specs.Normal.{view_of, view, put}
use Rattle.format.specs.Normal.View.{kept, scales, measures}

-- ---- fields by whose value nothing goes but their own rule

abbrev Free : Sense → Type 0
Free (plain r) = ⊥
Free scale = Unit
Free distance = Unit
Free text_length = Unit

-- one value's name for the field that is due is any value's
named_free : (t : Items) (u v : ℕ) → Free (named t v).sense → (named t u ≡ named t v) × (named t v ≡ due t)
named_free end u v h = absurd (by_test (eqb v 255) h)
  where
    by_test : (b : Bool) → Free (cond b END NID_PACKET).sense → ⊥
    by_test true h = h
    by_test false h = h
named_free nest u v h = absurd h
named_free (send f r) u v h = (refl, refl)
named_free (send_if c f r) u v h = absurd h
named_free (send_either c a b) u v h = absurd h
named_free (send_times c g r) u v h = absurd h

next_free : (t : Items) (u v : ℕ) → Free (due t).sense → next t u ≡ next t v
unfolding next
next_free end u v h = absurd h
next_free nest u v h = absurd h
next_free (send f r) u v h = refl
next_free (send_if c f r) u v h = absurd h
next_free (send_either c a b) u v h = absurd h
next_free (send_times c g r) u v h = absurd h

noted_free : (k : Sense) (c : Context) (at u v : ℕ) → Free k → noted (rule_of k) c at u ≡ noted (rule_of k) c at v
unfolding noted
noted_free (plain r) c at u v h = absurd h
noted_free scale c at u v h = refl
noted_free distance c at u v h = refl
noted_free text_length c at u v h = refl

-- ---- which fields have which view

not_scales : (b : Bool) → cond b kept measures ≡ scales → ⊥
not_scales true h = let z : ◌≡◌ {A = ℕ} 0 1 = cc in omega arith
not_scales false h = let z : ◌≡◌ {A = ℕ} 0 1 = cc in omega arith

scales_is : (k : Sense) (v : ℕ) → view_of k v ≡ scales → k ≡ scale
scales_is (plain r) v h = cc
scales_is scale v h = refl
scales_is distance v h = cc
scales_is text_length v h = absurd (not_scales (eqb v 32767) h)

-- a scale is one with any value
pub scale_still : (k : Sense) (u v : ℕ) → view_of k v ≡ scales → view_of k u ≡ scales
scale_still k u v h = rw (scales_is k v h)

pub data Metric : Sense → Type 0 where
  always : Metric distance
  mostly : Metric text_length

pub measures_is : (k : Sense) (v : ℕ) → view_of k v ≡ measures → Metric k
measures_is (plain r) v h = let z : ◌≡◌ {A = ℕ} 0 1 = cc in absurd (omega arith)
measures_is scale v h = let z : ◌≡◌ {A = ℕ} 0 1 = cc in absurd (omega arith)
measures_is distance v h = always
measures_is text_length v h = mostly

metric_free : {k : Sense} → Metric k → Free k
metric_free always = tt
metric_free mostly = tt

-- ---- another value

-- the values v and u at one state: one name, and the same comes after them
pub record Alike (p : Terms) (s : State) (v u : ℕ) : Type 0 where
  pub name : named s.todo u ≡ named s.todo v
  pub same : step p s u ≡ step p s v

pub put_entry : {p : Terms} {s : State} {v u : ℕ} → Alike p s v u → put (entry s v) u ≡ entry s u
put_entry {s = s} {v = v} {u = u} a = ap (λ (f : Field). put (record { field = f; value = 0 }) u) (sym a.name)

module _ (p : Terms) (s : State) (v u : ℕ) where
  free_alike : Free (named s.todo v).sense
      → broken p s.context (rule_of (field s).sense) u ≡ broken p s.context (rule_of (field s).sense) v → Alike p s v u
  unfolding step
  free_alike h e =
      let n = named_free s.todo u v h in
      let d : Free (field s).sense = subst (λ (f : Field). Free f.sense) n.1 h in
      record { name = n.0; same = rw (e, next_free s.todo u v d, noted_free (field s).sense s.context s.at u v d) }

  due_sense : Free (named s.todo v).sense → (field s).sense ≡ (named s.todo v).sense
  due_sense h = ap (λ (f : Field). f.sense) (sym (named_free s.todo u v h).1)

  broken_metric : {k : Sense} → Metric k → broken p s.context (rule_of k) u ≡ broken p s.context (rule_of k) v
  unfolding broken
  broken_metric always = refl
  broken_metric mostly = refl

  pub distance_alike : view (entry s v) ≡ measures → Alike p s v u
  distance_alike h =
      let m = measures_is (named s.todo v).sense v h in
      let f = metric_free m in
      free_alike f (rw (due_sense f) (broken_metric m))

  broken_scale : u ≤ 2 → v ≤ 2 → broken p s.context (within 0 2) u ≡ broken p s.context (within 0 2) v
  unfolding broken
  broken_scale hu hv = rw (le-leb u 2 hu, le-leb v 2 hv, le-leb 0 u (omega arith), le-leb 0 v (omega arith))

  pub scale_alike : view (entry s v) ≡ scales → u ≤ 2 → v ≤ 2 → Alike p s v u
  scale_alike h hu hv =
      let k = scales_is (named s.todo v).sense v h in
      let f : Free (named s.todo v).sense = rw k tt in
      free_alike f (rw (due_sense f, k) (broken_scale hu hv))

pub scale_named : (s : State) (u v : ℕ) → view (entry s v) ≡ scales → view (entry s u) ≡ scales
scale_named s u v h =
    let k = scales_is (named s.todo v).sense v h in
    let f : Free (named s.todo v).sense = rw k tt in
    rw (named_free s.todo u v f).0 (scale_still (named s.todo v).sense u v h)

-- ---- a scale that breaks no rule is 0, 1 or 2

abbrev pub Passes : Next → Type 0
Passes (go t c) = Unit
Passes over = Unit
Passes (breaks k) = ⊥

passed_scale : (p : Terms) (c : Context) (v : ℕ) (x : Next) → Passes (verdict (broken p c (within 0 2) v) x) → v ≤ 2
unfolding broken
passed_scale p c v x h = by_test (leb 0 v) (leb v 2) refl h
  where
    by_test : (a b : Bool) → leb v 2 ≡ b → Passes (verdict (unless (a && b) (forbidden c.level)) x) → v ≤ 2
    by_test true true e h = leb-true v 2 e
    by_test true false e h = absurd h
    by_test false b e h = absurd h

pub scale_le : (p : Terms) (s : State) (v : ℕ) → view (entry s v) ≡ scales → Passes (step p s v) → v ≤ 2
unfolding step
scale_le p s v h ok =
    let k = scales_is (named s.todo v).sense v h in
    let f : Free (named s.todo v).sense = rw k tt in
    passed_scale p s.context v (onward (past s) (next s.todo v) (noted (within 0 2) s.context s.at v))
    (rw (due_sense p s v v f ∙ k) at ok)
