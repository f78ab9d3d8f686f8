-- Items told in metres from the bit where they begin: field by field, each group as many times as the field before it says. One law for every kind; a
-- kind's own is then a computation. Assumes nothing.
use mathlib.Core.Bool.{Bool, true, false, cond, not, ◌&&◌}
use mathlib.Core.List.{List, [], ◌∷◌, ◌++◌, append_assoc, append-nil}
use mathlib.Core.Option.{some}
use mathlib.Core.Path.{◌≡◌, refl, sym, ap, ap₂, ◌∙◌, subst}
use Prim.Native.Nat.{ℕ, zero, suc, ◌+◌, ◌%◌, ◌^◌, ◌<◌}
use native.Mathlib.Omega.{arith}
use lib.Dec.{T, eqb, ltb}
use borrow.Author.Tests.{ltb-true}
use Rattle.distance.specs.Steps.{step, decimetres, steps}
use Rattle.format.specs.Fields.{Field, Sense, Switch, steers}
use Rattle.format.specs.Fields.Sense.{plain, scale, distance, text_length}
use Rattle.format.specs.Normal.{view, view_of, choose, metres}
use Rattle.format.specs.Normal.View.{kept, measures}
use Rattle.format.specs.Packets.{Items, ◌⧺◌, times}
use Rattle.format.specs.Packets.Items.{end, nest, send, send_if, send_either, send_times}
use Rattle.format.specs.Rules.{named, next}
use Rattle.format.specs.Telegrams.{Entry, bit_count}
use Rattle.format.proofs.Rows.{and_left, and_right}
use Rattle.laws.proofs.Tile.{sent_next}
use Rattle.laws.proofs.Told.{AllFair, and_two}
use Rattle.laws.proofs.Whole.{Goes}
use Rattle.telling.proofs.Once.Phase.{behind}
use Rattle.telling.proofs.Scales.{opens, same, stays_in, shut, holds}
use Rattle.telling.proofs.Faced.{goes_none, goes_first}
use Rattle.telling.proofs.AtBits.{AtBit, value_there, value_there_lem, next_there, metric_sense, metric_field}
use Rattle.telling.proofs.ByItems.{rounds, each_round, past_at, metric_at}
use Rattle.told.specs.Metres.{number_in, in_metres, each_put}
use Rattle.told.proofs.Overwritten.{Tells, tells_as, tells_none, tells_then, kept_tells, measures_tells}

-- ---- what is put

-- of a field at the bit x: a distance in metres, and nothing else
abbrev pub told_sense : List ℕ → ℕ → ℕ → Sense → ℕ → List ℕ → List ℕ
told_sense s q w (plain r) x out = out
told_sense s q w scale x out = out
told_sense s q w distance x out = in_metres s q w x out
told_sense s q w text_length x out = cond (eqb (number_in s w x) 32767) out (in_metres s q w x out)

abbrev pub told_field : List ℕ → ℕ → Field → ℕ → List ℕ → List ℕ
told_field s q f x out = told_sense s q f.width f.sense x out

-- of items that begin at the bit x
abbrev pub told_at : List ℕ → ℕ → Items → ℕ → List ℕ → List ℕ
told_at s q end x out = out
told_at s q nest x out = out
told_at s q (send f r) x out = told_at s q r (x + f.width) (told_field s q f x out)
told_at s q (send_if c f r) x out =
    cond (eqb (value_there s (steers c) x) 1) (told_at s q r (x + c.width + f.width) (told_field s q f (x + c.width) out))
    (told_at s q r (x + c.width) out)
told_at s q (send_either c a b) x out =
    cond (eqb (value_there s (steers c) x) 1) (told_at s q a (x + c.width) out) (told_at s q b (x + c.width) out)
told_at s q (send_times c g r) x out =
    told_at s q r (rounds (past_at s g) (value_there s (steers c) x) (x + c.width))
    (each_put (told_at s q g) (past_at s g) (value_there s (steers c) x) (x + c.width) out)

-- ---- one field

module _ (s : List ℕ) (q x : ℕ) (e : Entry) (n : e.value ≡ value_there s e.field x) where
  -- of a distance that is whole metres the number of these fits
  metres_small : metres e.field (decimetres q e.value) ≡ true → steps 1 (decimetres q e.value) < 2 ^ e.field.width
  metres_small h =
      let d = decimetres q e.value in
      let w = ltb (steps 1 d) (2 ^ e.field.width) in
      let a = and_two (eqb (d % step 1) 0 && w) (choose (view_of e.field.sense (steps 1 d)) _ _ _) h in
      ltb-true (steps 1 d) (2 ^ e.field.width) (and_two (eqb (d % step 1) 0) w a.0).1

  limited : (b : Bool) → view e ≡ cond b kept measures → cond b true (metres e.field (decimetres q e.value)) ≡ true
      → Tells q x (e ∷ []) (λ out. cond b out (in_metres s q e.field.width x out))
  limited true h m = kept_tells s q x e h
  limited false h m = measures_tells s q x e h n (metres_small m)

  pub field_tells : T (same behind e.field.sense) → metric_field q e.field e.value ≡ true → Tells q x (e ∷ []) (told_field s q e.field x)
  field_tells g m = by_sense e.field.sense refl g m
    where
      by_sense : (k : Sense) → e.field.sense ≡ k → T (same behind k) → metric_sense q e.field k e.value ≡ true
          → Tells q x (e ∷ []) (told_sense s q e.field.width k x)
      by_sense (plain r) i h m = kept_tells s q x e (rw i)
      by_sense scale i h m = absurd h
      by_sense distance i h m =
          let d = decimetres q e.value in
          let a = and_two (eqb (d % step 1) 0) (ltb (steps 1 d) (2 ^ e.field.width)) m in
          measures_tells s q x e (rw i) n (ltb-true (steps 1 d) (2 ^ e.field.width) a.1)
      by_sense text_length i h m =
          subst (λ (v : ℕ). Tells q x (e ∷ []) (λ out. cond (eqb v 32767) out (in_metres s q e.field.width x out))) n
          (limited (eqb e.value 32767) (rw i) m)

-- ---- entries that stand there

-- Entries, of which those in front are told in metres by what is put, and those left lead on from the items r at the bit y.
pub record Retold (s : List ℕ) (q : ℕ) (es : List Entry) (x : ℕ) (puts : List ℕ → List ℕ) (r : Items) (y : ℕ) : Type 0 where
  pub front : List Entry
  pub left : List Entry
  pub parts : es ≡ front ++ left
  pub past : y ≡ x + bit_count front
  pub goes : Goes r left end
  pub fair : AllFair left
  pub there : AtBit s y left
  pub tells : Tells q x front puts

count_append : (xs ys : List Entry) → bit_count (xs ++ ys) ≡ bit_count xs + bit_count ys
count_append [] ys = omega arith
count_append (e ∷ xs) ys = let h = count_append xs ys in omega arith

-- some, and then others
pub retold_then : {s : List ℕ} {q : ℕ} {es : List Entry} {a b : List ℕ → List ℕ} {r u : Items} {x y z : ℕ} (t : Retold s q es x a r y)
    → Retold s q t.left y b u z → Retold s q es x (λ out. b (a out)) u z
retold_then {q = q} {b = b} {x = x} {y = y} {z = z} t w =
    let i = t.past in
    let j = w.past in
    let k = count_append t.front w.front in
    record {
      front = t.front ++ w.front;
      left = w.left;
      parts = t.parts ∙ ap (λ (l : List Entry). t.front ++ l) w.parts ∙ sym (append_assoc t.front w.front w.left);
      past = omega arith;
      goes = w.goes;
      fair = w.fair;
      there = w.there;
      tells = tells_then q x t.tells (subst (λ (m : ℕ). Tells q m w.front b) i w.tells);
    }

-- the same, said in other words
pub retold_as : {s : List ℕ} {q : ℕ} {es : List Entry} {x : ℕ} {r : Items} (a b : List ℕ → List ℕ) (y z : ℕ) → ((out : List ℕ) → a out ≡ b out)
    → y ≡ z → Retold s q es x a r y → Retold s q es x b r z
retold_as {s} {q} {es} {x} {r} a b y z e h t =
    subst (Retold s q es x b r) h
    (record {
      front = t.front;
      left = t.left;
      parts = t.parts;
      past = t.past;
      goes = t.goes;
      fair = t.fair;
      there = t.there;
      tells = tells_as a b e t.tells;
    })

items_end : (t : Items) → t ⧺ end ≡ t
unfolding ◌⧺◌
items_end end = refl
items_end nest = refl
items_end (send f r) = ap (send f) (items_end r)
items_end (send_if c f r) = ap (send_if c f) (items_end r)
items_end (send_either c a b) = ap₂ (send_either c) (items_end a) (items_end b)
items_end (send_times c g r) = ap (send_times c g) (items_end r)

module _ (s : List ℕ) (q : ℕ) where
  -- entries from the bit x on, that lead from the items t to their end
  abbrev Here : Items → List Entry → ℕ → Type 0
  Here t es x = Goes t es end × (AllFair es × AtBit s x es)

  abbrev still : {es : List Entry} {a : List ℕ → List ℕ} {r : Items} {x y : ℕ} (t : Retold s q es x a r y) → Here r t.left y
  still t = (t.goes, (t.fair, t.there))

  none_told : (r : Items) (es : List Entry) (x : ℕ) → Here r es x → Retold s q es x (λ out. out) r x
  none_told r es x h =
      record { front = []; left = es; parts = refl; past = omega arith; goes = h.0; fair = h.1.0; there = h.1.1; tells = tells_none q x }

  -- the first of them, of the field f
  first_told : (f : Field) (r : Items) (e : Entry) (es : List Entry) (x : ℕ) → e.field ≡ f → T (same behind f.sense)
      → metric_field q f (value_there s f x) ≡ true → Goes r es end → AllFair (e ∷ es) → AtBit s x (e ∷ es)
      → Retold s q (e ∷ es) x (told_field s q f x) r (x + f.width)
  first_told f r e es x n h m g fair at =
      let v : e.value ≡ value_there s e.field x = value_there_lem s x e es at fair.0.small in
      let w : e.field.width ≡ f.width = ap (λ (c : Field). c.width) n in
      let t : Tells q x (e ∷ []) (told_field s q e.field x) =
      field_tells s q x e v (subst (λ (c : Field). T (same behind c.sense)) (sym n) h)
      (ap (metric_field q e.field) v ∙ ap (λ (c : Field). metric_field q c (value_there s c x)) n ∙ m) in
      record {
        front = e ∷ [];
        left = es;
        parts = refl;
        past = omega arith;
        goes = g;
        fair = fair.1;
        there = subst (λ (c : Field). AtBit s (x + c.width) es) n (next_there s x e es at);
        tells = subst (λ (c : Field). Tells q x (e ∷ []) (told_field s q c x)) n t;
      }

  -- a field that is sent
  field_told : (f : Field) (r : Items) → T (same behind f.sense) → (es : List Entry) (x : ℕ) → metric_field q f (value_there s f x) ≡ true
      → Here (send f r) es x → Retold s q es x (told_field s q f x) r (x + f.width)
  field_told f r h [] x m g =
      let k : send f r ≡ end = goes_none g.0 refl in
      let z : ◌≡◌ {A = ℕ} 0 1 = cc in
      absurd (omega arith)
  field_told f r h (e ∷ es) x m g =
      let y = goes_first g.0 e es refl in
      first_told f r e es x y.name h m (subst (λ (t : Items). Goes t es end) (sent_next f r y.items e.value y.leads) y.rest) g.1.0
      g.1.1

  -- a field that steers, c, and the items that its value leads to
  switch_told : (t : Items) (c : Switch) → ((v : ℕ) → named t v ≡ steers c) → (t ≡ end → ⊥) → (u : ℕ → Items) → ((v : ℕ) → next t v ≡ some (u v))
      → (es : List Entry) (x : ℕ) → Here t es x → Retold s q es x (λ out. out) (u (value_there s (steers c) x)) (x + c.width)
  switch_told t c m k u l [] x g = absurd (k (goes_none g.0 refl))
  switch_told t c m k u l (e ∷ es) x g =
      let y = goes_first g.0 e es refl in
      let n : e.field ≡ steers c = y.name ∙ m e.value in
      let at = g.1.1 in
      let v : e.value ≡ value_there s (steers c) x = value_there_lem s x e es at g.1.0.0.small ∙ ap (λ (f : Field). value_there s f x) n in
      let a = y.leads in
      let b = l e.value in
      let i : y.items ≡ u e.value = cc in
      let rest : Goes (u (value_there s (steers c) x)) es end = subst (λ (w : Items). Goes w es end) (i ∙ ap u v) y.rest in
      first_told (steers c) (u (value_there s (steers c) x)) e es x n tt refl rest g.1.0 at

  -- what is promised of items g, whatever follows them
  abbrev Retells : Items → Type 0
  Retells g = (r : Items) (es : List Entry) (x : ℕ) → metric_at s q g x ≡ true → Here (g ⧺ r) es x → Retold s q es x (told_at s q g x) r (past_at s g x)

  -- a group so many times
  times_told : (g : Items) → Retells g → (k : ℕ) (r : Items) (es : List Entry) (x : ℕ) → each_round (metric_at s q g) (past_at s g) k x ≡ true
      → Here (times k g r) es x → Retold s q es x (each_put (told_at s q g) (past_at s g) k x) r (rounds (past_at s g) k x)
  unfolding times
  times_told g ih zero r es x m h = none_told r es x h
  times_told g ih (suc k) r es x m h =
      let two = and_two (metric_at s q g x) (each_round (metric_at s q g) (past_at s g) k (past_at s g x)) m in
      let t = ih (times k g r) es x two.0 h in
      retold_then t (times_told g ih k r t.left (past_at s g x) two.1 (still t))

  -- one of two ways
  either_told : (c : Bool) (a b r : Items) → Retells a → Retells b → (es : List Entry) (x : ℕ) → cond c (metric_at s q a x) (metric_at s q b x) ≡ true
      → Here (cond c (a ⧺ r) (b ⧺ r)) es x
      → Retold s q es x (λ out. cond c (told_at s q a x out) (told_at s q b x out)) r (cond c (past_at s a x) (past_at s b x))
  either_told true a b r ha hb es x m h = ha r es x m h
  either_told false a b r ha hb es x m h = hb r es x m h

  sent_told : (f : Field) (a : Items) → T (stays_in behind f) → Retells a → Retells (send f a)
  unfolding ◌⧺◌
  sent_told f a h ih r es x m g =
      let two = and_two (metric_field q f (value_there s f x)) (metric_at s q a (x + f.width)) m in
      let t = field_told f (a ⧺ r) (and_right (not (opens f)) (same behind f.sense) h) es x two.0 g in
      retold_then t (ih r t.left (x + f.width) two.1 (still t))

  -- Where every distance among the items is whole metres that fit, what is put tells just these in metres; beside `items-tested`.
  pub items_told : (g : Items) → T (holds behind g) → Retells g
  unfolding ◌⧺◌ next
  items_told end h r es x m g = none_told r es x g
  items_told nest h r es x m g = absurd h
  items_told (send f a) h r es x m g =
      sent_told f a (and_left (stays_in behind f) (holds behind a) h) (items_told a (and_right (stays_in behind f) (holds behind a) h)) r es x m g
  items_told (send_if c f a) h r es x m g =
      let i = and_right (shut c) (stays_in behind f && holds behind a) h in
      let ih = items_told a (and_right (stays_in behind f) (holds behind a) i) in
      let t =
      switch_told (send_if c f (a ⧺ r)) c (λ v. refl) (λ k. let z : ◌≡◌ {A = ℕ} 0 1 = cc in omega arith)
      (λ (v : ℕ). cond (eqb v 1) (send f (a ⧺ r)) (a ⧺ r)) (λ v. refl) es x g in
      retold_then t
      (either_told (eqb (value_there s (steers c) x) 1) (send f a) a r (sent_told f a (and_left (stays_in behind f) (holds behind a) i) ih) ih
      t.left (x + c.width) m (still t))
  items_told (send_either c a b) h r es x m g =
      let i = and_right (shut c) (holds behind a && holds behind b) h in
      let t =
      switch_told (send_either c (a ⧺ r) (b ⧺ r)) c (λ v. refl) (λ k. let z : ◌≡◌ {A = ℕ} 0 1 = cc in omega arith)
      (λ (v : ℕ). cond (eqb v 1) (a ⧺ r) (b ⧺ r)) (λ v. refl) es x g in
      retold_then t
      (either_told (eqb (value_there s (steers c) x) 1) a b r (items_told a (and_left (holds behind a) (holds behind b) i))
      (items_told b (and_right (holds behind a) (holds behind b) i)) t.left (x + c.width) m (still t))
  items_told (send_times c b a) h r es x m g =
      let i = and_right (shut c) (holds behind b && holds behind a) h in
      let k = value_there s (steers c) x in
      let y = x + c.width in
      let z = rounds (past_at s b) k y in
      let two = and_two (each_round (metric_at s q b) (past_at s b) k y) (metric_at s q a z) m in
      let t =
      switch_told (send_times c b (a ⧺ r)) c (λ v. refl) (λ k. let z : ◌≡◌ {A = ℕ} 0 1 = cc in omega arith)
      (λ (v : ℕ). times v b (a ⧺ r)) (λ v. refl) es x g in
      let u = times_told b (items_told b (and_left (holds behind b) (holds behind a) i)) k (a ⧺ r) t.left y two.0 (still t) in
      retold_then t (retold_then u (items_told a (and_right (holds behind b) (holds behind a) i) r u.left z two.1 (still u)))

  -- ---- items to their end

  none_left : (l : List Entry) → Goes end l end → l ≡ []
  none_left [] g = refl
  none_left (e ∷ es) g = absurd (goes_first g e es refl).goes

  pub told_end : {es : List Entry} {x : ℕ} {a : List ℕ → List ℕ} {y : ℕ} → Retold s q es x a end y → Tells q x es a
  told_end {es} {x} {a} t =
      let e : es ≡ t.front = t.parts ∙ ap (λ (l : List Entry). t.front ++ l) (none_left t.left t.goes) ∙ append-nil t.front in
      subst (λ (l : List Entry). Tells q x l a) (sym e) t.tells

  pub items_tell : (t : Items) → T (holds behind t) → (es : List Entry) (x : ℕ) → Goes t es end → AllFair es → AtBit s x es
      → metric_at s q t x ≡ true → Tells q x es (told_at s q t x)
  items_tell t h es x g fair at m = told_end (items_told t h end es x m (subst (λ (u : Items). Goes u es end) (sym (items_end t)) g, (fair, at)))
