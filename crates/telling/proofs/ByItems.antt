-- The metric test of items from the bits where they begin: field by field, each group as many times as the field before it says. One law for every
-- kind; a kind's own is then a computation. Assumes nothing.
use mathlib.Core.Bool.{Bool, true, false, cond, not, ◌&&◌}
use mathlib.Core.List.{List, [], ◌∷◌}
use mathlib.Core.Option.{some}
use mathlib.Core.Path.{◌≡◌, refl, sym, ap, ap₂, ◌∙◌, subst}
use Prim.Native.Nat.{ℕ, zero, suc, ◌+◌}
use native.Mathlib.Omega.{arith}
use lib.Dec.{T, eqb}
use Rattle.format.specs.Fields.{Field, Switch, steers}
use Rattle.format.specs.Packets.{Items, ◌⧺◌, times}
use Rattle.format.specs.Packets.Items.{end, nest, send, send_if, send_either, send_times}
use Rattle.format.specs.Rules.{named, next}
use Rattle.format.specs.Telegrams.{Entry}
use Rattle.format.specs.Normal.{metric}
use Rattle.format.proofs.Rows.{and_left, and_right}
use Rattle.laws.proofs.Tile.{sent_next}
use Rattle.laws.proofs.Told.{AllFair}
use Rattle.laws.proofs.Views.{metric_none}
use Rattle.laws.proofs.Whole.{Goes}
use Rattle.telling.proofs.Once.Phase.{behind}
use Rattle.telling.proofs.Scales.{opens, same, stays_in, shut, holds}
use Rattle.telling.proofs.Faced.{goes_none, goes_first}
use Rattle.telling.proofs.AtBits.{AtBit, value_there, value_there_lem, next_there, metric_field, and_true, metric_field_lem}

-- ---- what the bits say

-- so many rounds from a bit on, each behind the one before it: where they end, and whether each passes a test
abbrev pub rounds : (ℕ → ℕ) → ℕ → ℕ → ℕ
rounds past zero x = x
rounds past (suc k) x = rounds past k (past x)

abbrev pub each_round : (ℕ → Bool) → (ℕ → ℕ) → ℕ → ℕ → Bool
each_round test past zero x = true
each_round test past (suc k) x = test x && each_round test past k (past x)

-- the bit behind items that begin at the bit x
abbrev pub past_at : List ℕ → Items → ℕ → ℕ
past_at s end x = x
past_at s nest x = x
past_at s (send f r) x = past_at s r (x + f.width)
past_at s (send_if c f r) x = cond (eqb (value_there s (steers c) x) 1) (past_at s r (x + c.width + f.width)) (past_at s r (x + c.width))
past_at s (send_either c a b) x = cond (eqb (value_there s (steers c) x) 1) (past_at s a (x + c.width)) (past_at s b (x + c.width))
past_at s (send_times c g r) x = past_at s r (rounds (past_at s g) (value_there s (steers c) x) (x + c.width))

-- every distance among them, under the scale q, is a whole number of metres that fits its field
abbrev pub metric_at : List ℕ → ℕ → Items → ℕ → Bool
metric_at s q end x = true
metric_at s q nest x = true
metric_at s q (send f r) x = metric_field q f (value_there s f x) && metric_at s q r (x + f.width)
metric_at s q (send_if c f r) x =
    cond (eqb (value_there s (steers c) x) 1)
    (metric_field q f (value_there s f (x + c.width)) && metric_at s q r (x + c.width + f.width))
    (metric_at s q r (x + c.width))
metric_at s q (send_either c a b) x = cond (eqb (value_there s (steers c) x) 1) (metric_at s q a (x + c.width)) (metric_at s q b (x + c.width))
metric_at s q (send_times c g r) x =
    each_round (metric_at s q g) (past_at s g) (value_there s (steers c) x) (x + c.width)
    && metric_at s q r (rounds (past_at s g) (value_there s (steers c) x) (x + c.width))

-- ---- entries that stand there

-- entries, of which some are tested, and the rest leads on from the items r at the bit y
pub record Tested (s : List ℕ) (q : ℕ) (es : List Entry) (b : Bool) (r : Items) (y : ℕ) : Type 0 where
  pub left : List Entry
  pub goes : Goes r left end
  pub fair : AllFair left
  pub there : AtBit s y left
  pub tested : metric q es ≡ b && metric q left

pub and_more : (a b c : Bool) → a && (b && c) ≡ (a && b) && c
and_more true b c = refl
and_more false b c = refl

-- one test, and then another
pub tested_then : {s : List ℕ} {q : ℕ} {es : List Entry} {a b : Bool} {r u : Items} {x y : ℕ} (t : Tested s q es a r x)
    → Tested s q t.left b u y → Tested s q es (a && b) u y
tested_then {q = q} {a = a} {b = b} t w =
    record {
      left = w.left;
      goes = w.goes;
      fair = w.fair;
      there = w.there;
      tested = t.tested ∙ ap (λ (c : Bool). a && c) w.tested ∙ and_more a b (metric q w.left);
    }

-- the same, said in other words
pub tested_as : {s : List ℕ} {q : ℕ} {es : List Entry} {r : Items} (a b : Bool) (x y : ℕ) → a ≡ b → x ≡ y → Tested s q es a r x → Tested s q es b r y
tested_as a b x y e h t = rw (sym e, sym h) t

items_end : (t : Items) → t ⧺ end ≡ t
unfolding ◌⧺◌
items_end end = refl
items_end nest = refl
items_end (send f r) = ap (send f) (items_end r)
items_end (send_if c f r) = ap (send_if c f) (items_end r)
items_end (send_either c a b) = ap₂ (send_either c) (items_end a) (items_end b)
items_end (send_times c g r) = ap (send_times c g) (items_end r)

module _ (s : List ℕ) (q : ℕ) where
  -- entries from the bit x on, that lead from the items t to their end
  abbrev Here : Items → List Entry → ℕ → Type 0
  Here t es x = Goes t es end × (AllFair es × AtBit s x es)

  abbrev still : {es : List Entry} {b : Bool} {r : Items} {y : ℕ} (t : Tested s q es b r y) → Here r t.left y
  still t = (t.goes, (t.fair, t.there))

  -- a field that is sent
  field_tested : (f : Field) (r : Items) → T (same behind f.sense) → (es : List Entry) (x : ℕ) → Here (send f r) es x
      → Tested s q es (metric_field q f (value_there s f x)) r (x + f.width)
  field_tested f r h [] x g =
      let k : send f r ≡ end = goes_none g.0 refl in
      let z : ◌≡◌ {A = ℕ} 0 1 = cc in
      absurd (omega arith)
  field_tested f r h (e ∷ es) x g =
      let y = goes_first g.0 e es refl in
      let n : e.field ≡ f = y.name in
      let at = g.1.1 in
      let v : e.value ≡ value_there s f x = value_there_lem s x e es at g.1.0.0.small ∙ ap (λ (c : Field). value_there s c x) n in
      record {
        left = es;
        goes = subst (λ (t : Items). Goes t es end) (sent_next f r y.items e.value y.leads) y.rest;
        fair = g.1.0.1;
        there = subst (λ (c : Field). AtBit s (x + c.width) es) n (next_there s x e es at);
        tested =
            metric_field_lem q e es (subst (λ (c : Field). T (same behind c.sense)) (sym n) h)
            ∙ ap₂ (λ (c : Field) (u : ℕ). metric_field q c u && metric q es) n v;
      }

  -- a field that steers, c, and the items that its value leads to
  switch_tested : (t : Items) (c : Switch) → ((v : ℕ) → named t v ≡ steers c) → (t ≡ end → ⊥) → (u : ℕ → Items) → ((v : ℕ) → next t v ≡ some (u v))
      → (es : List Entry) (x : ℕ) → Here t es x → Tested s q es true (u (value_there s (steers c) x)) (x + c.width)
  switch_tested t c m k u l [] x g = absurd (k (goes_none g.0 refl))
  switch_tested t c m k u l (e ∷ es) x g =
      let y = goes_first g.0 e es refl in
      let n : e.field ≡ steers c = y.name ∙ m e.value in
      let at = g.1.1 in
      let v : e.value ≡ value_there s (steers c) x = value_there_lem s x e es at g.1.0.0.small ∙ ap (λ (f : Field). value_there s f x) n in
      let a = y.leads in
      let b = l e.value in
      let i : y.items ≡ u e.value = cc in
      record {
        left = es;
        goes = subst (λ (w : Items). Goes w es end) (i ∙ ap u v) y.rest;
        fair = g.1.0.1;
        there = subst (λ (f : Field). AtBit s (x + f.width) es) n (next_there s x e es at);
        tested = metric_field_lem q e es (rw n tt) ∙ ap (λ (f : Field). metric_field q f e.value && metric q es) n;
      }

  -- what is promised of items g, whatever follows them
  abbrev Tests : Items → Type 0
  Tests g = (r : Items) (es : List Entry) (x : ℕ) → Here (g ⧺ r) es x → Tested s q es (metric_at s q g x) r (past_at s g x)

  -- a group so many times
  times_tested : (g : Items) → Tests g → (k : ℕ) (r : Items) (es : List Entry) (x : ℕ) → Here (times k g r) es x
      → Tested s q es (each_round (metric_at s q g) (past_at s g) k x) r (rounds (past_at s g) k x)
  unfolding times
  times_tested g ih zero r es x h = record { left = es; goes = h.0; fair = h.1.0; there = h.1.1; tested = refl }
  times_tested g ih (suc k) r es x h =
      let t = ih (times k g r) es x h in
      tested_then t (times_tested g ih k r t.left (past_at s g x) (still t))

  -- one of two ways
  either_tested : (c : Bool) (a b r : Items) → Tests a → Tests b → (es : List Entry) (x : ℕ) → Here (cond c (a ⧺ r) (b ⧺ r)) es x
      → Tested s q es (cond c (metric_at s q a x) (metric_at s q b x)) r (cond c (past_at s a x) (past_at s b x))
  either_tested true a b r ha hb es x h = ha r es x h
  either_tested false a b r ha hb es x h = hb r es x h

  sent_tested : (f : Field) (a : Items) → T (stays_in behind f) → Tests a → Tests (send f a)
  unfolding ◌⧺◌
  sent_tested f a h ih r es x g =
      let t = field_tested f (a ⧺ r) (and_right (not (opens f)) (same behind f.sense) h) es x g in
      tested_then t (ih r t.left (x + f.width) (still t))

  pub items_tested : (g : Items) → T (holds behind g) → Tests g
  unfolding ◌⧺◌ next
  items_tested end h r es x g = record { left = es; goes = g.0; fair = g.1.0; there = g.1.1; tested = refl }
  items_tested nest h r es x g = absurd h
  items_tested (send f a) h r es x g =
      sent_tested f a (and_left (stays_in behind f) (holds behind a) h) (items_tested a (and_right (stays_in behind f) (holds behind a) h)) r es x g
  items_tested (send_if c f a) h r es x g =
      let i = and_right (shut c) (stays_in behind f && holds behind a) h in
      let ih = items_tested a (and_right (stays_in behind f) (holds behind a) i) in
      let t =
      switch_tested (send_if c f (a ⧺ r)) c (λ v. refl) (λ k. let z : ◌≡◌ {A = ℕ} 0 1 = cc in omega arith)
      (λ (v : ℕ). cond (eqb v 1) (send f (a ⧺ r)) (a ⧺ r)) (λ v. refl) es x g in
      tested_then t
      (either_tested (eqb (value_there s (steers c) x) 1) (send f a) a r (sent_tested f a (and_left (stays_in behind f) (holds behind a) i) ih) ih
      t.left (x + c.width) (still t))
  items_tested (send_either c a b) h r es x g =
      let i = and_right (shut c) (holds behind a && holds behind b) h in
      let t =
      switch_tested (send_either c (a ⧺ r) (b ⧺ r)) c (λ v. refl) (λ k. let z : ◌≡◌ {A = ℕ} 0 1 = cc in omega arith)
      (λ (v : ℕ). cond (eqb v 1) (a ⧺ r) (b ⧺ r)) (λ v. refl) es x g in
      tested_then t
      (either_tested (eqb (value_there s (steers c) x) 1) a b r (items_tested a (and_left (holds behind a) (holds behind b) i))
      (items_tested b (and_right (holds behind a) (holds behind b) i)) t.left (x + c.width) (still t))
  items_tested (send_times c b a) h r es x g =
      let i = and_right (shut c) (holds behind b && holds behind a) h in
      let k = value_there s (steers c) x in
      let t =
      switch_tested (send_times c b (a ⧺ r)) c (λ v. refl) (λ k. let z : ◌≡◌ {A = ℕ} 0 1 = cc in omega arith)
      (λ (v : ℕ). times v b (a ⧺ r)) (λ v. refl) es x g in
      let u = times_tested b (items_tested b (and_left (holds behind b) (holds behind a) i)) k (a ⧺ r) t.left (x + c.width) (still t) in
      tested_then t
      (tested_then u
      (items_tested a (and_right (holds behind b) (holds behind a) i) r u.left (rounds (past_at s b) k (x + c.width)) (still u)))

  -- ---- items to their end

  none_left : (l : List Entry) → Goes end l end → metric q l ≡ true
  none_left [] g = metric_none q
  none_left (e ∷ es) g = absurd (goes_first g e es refl).goes

  pub tested_end : {es : List Entry} {b : Bool} {y : ℕ} → Tested s q es b end y → metric q es ≡ b
  tested_end {b = b} t = t.tested ∙ ap (λ (c : Bool). b && c) (none_left t.left t.goes) ∙ and_true b

  pub items_metric : (t : Items) → T (holds behind t) → (es : List Entry) (x : ℕ) → Goes t es end → AllFair es → AtBit s x es
      → metric q es ≡ metric_at s q t x
  items_metric t h es x g fair at =
      tested_end (items_tested t h end es x (subst (λ (u : Items). Goes u es end) (sym (items_end t)) g, (fair, at)))
