-- Items from their bits, put together: what stands behind what, groups of which nothing is a distance, and a list of groups. Assumes nothing.
use mathlib.Core.Bool.{Bool, true, false, cond, not, ◌&&◌}
use mathlib.Core.List.{List}
use mathlib.Core.Path.{◌≡◌, refl, ap, ap₂, ◌∙◌}
use Prim.Native.Nat.{ℕ, zero, suc, ◌+◌, ◌*◌}
use native.Mathlib.Omega.{arith}
use lib.Dec.{T, eqb}
use Rattle.format.specs.Fields.{Field, Sense, steers, N_ITER}
use Rattle.format.specs.Fields.Sense.{plain, scale, distance, text_length}
use Rattle.format.specs.Packets.{Items, ◌⧺◌}
use Rattle.format.specs.Packets.Items.{end, nest, send, send_if, send_either, send_times}
use Rattle.format.specs.Telegrams.{Entry}
use Rattle.format.proofs.Rows.{and_left, and_right}
use Rattle.laws.proofs.Told.{AllFair}
use Rattle.laws.proofs.Whole.{Goes}
use Rattle.telling.proofs.Once.{Phase}
use Rattle.telling.proofs.Once.Phase.{heading, behind}
use Rattle.telling.proofs.Scales.{opens, same, stays_in, shut, holds}
use Rattle.telling.proofs.AtBits.{AtBit, value_there, metric_sense, metric_field, and_true}
use Rattle.telling.proofs.ByItems.{rounds, each_round, past_at, metric_at, Tested, tested_as, and_more, items_tested}

-- ---- rounds

-- by what a test says, and where a round ends
pub rounds_same : (past past2 : ℕ → ℕ) → ((y : ℕ) → past y ≡ past2 y) → (k x : ℕ) → rounds past k x ≡ rounds past2 k x
rounds_same past past2 p zero x = refl
rounds_same past past2 p (suc k) x = rounds_same past past2 p k (past x) ∙ ap (rounds past2 k) (p x)

pub each_same : (test test2 : ℕ → Bool) (past past2 : ℕ → ℕ) → ((y : ℕ) → test y ≡ test2 y) → ((y : ℕ) → past y ≡ past2 y)
    → (k x : ℕ) → each_round test past k x ≡ each_round test2 past2 k x
each_same test test2 past past2 t p zero x = refl
each_same test test2 past past2 t p (suc k) x =
    ap₂ ◌&&◌ (t x) (each_same test test2 past past2 t p k (past x) ∙ ap (each_round test2 past2 k) (p x))

-- rounds of w bits each
pub rounds_wide : (w k x : ℕ) → rounds (λ y. y + w) k x ≡ x + k * w
rounds_wide w zero x = omega arith
rounds_wide w (suc k) x = let h = rounds_wide w k (x + w) in h ∙ omega arith

-- where nothing is tested
pub each_true : (past : ℕ → ℕ) (k x : ℕ) → each_round (λ y. true) past k x ≡ true
each_true past zero x = refl
each_true past (suc k) x = each_true past k (past x)

-- ---- one behind the other

-- one of two ways, and then on
pub cond_to : {A B : Type 0} (f : A → B) (c : Bool) (a b : A) (x y : B) → x ≡ f a → y ≡ f b → cond c x y ≡ f (cond c a b)
cond_to f true a b x y h i = h
cond_to f false a b x y h i = i

cond_and : (f : ℕ → Bool) (c a b x y : Bool) (m n : ℕ) → x ≡ a && f m → y ≡ b && f n → cond c x y ≡ cond c a b && f (cond c m n)
cond_and f true a b x y m n h i = h
cond_and f false a b x y m n h i = i

module _ (s : List ℕ) where
  pub past_append : (k : Phase) (g r : Items) → T (holds k g) → (x : ℕ) → past_at s (g ⧺ r) x ≡ past_at s r (past_at s g x)
  unfolding ◌⧺◌
  past_append k end r h x = refl
  past_append k nest r h x = absurd h
  past_append k (send f a) r h x = past_append k a r (and_right (stays_in k f) (holds k a) h) (x + f.width)
  past_append k (send_if c f a) r h x =
      let i = and_right (stays_in k f) (holds k a) (and_right (shut c) (stays_in k f && holds k a) h) in
      let y = x + c.width in
      cond_to (past_at s r) (eqb (value_there s (steers c) x) 1) (past_at s a (y + f.width)) (past_at s a y) (past_at s (a ⧺ r) (y + f.width))
      (past_at s (a ⧺ r) y) (past_append k a r i (y + f.width)) (past_append k a r i y)
  past_append k (send_either c a b) r h x =
      let i = and_right (shut c) (holds k a && holds k b) h in
      let y = x + c.width in
      cond_to (past_at s r) (eqb (value_there s (steers c) x) 1) (past_at s a y) (past_at s b y) (past_at s (a ⧺ r) y) (past_at s (b ⧺ r) y)
      (past_append k a r (and_left (holds k a) (holds k b) i) y) (past_append k b r (and_right (holds k a) (holds k b) i) y)
  past_append k (send_times c b a) r h x =
      past_append k a r (and_right (holds k b) (holds k a) (and_right (shut c) (holds k b && holds k a) h))
      (rounds (past_at s b) (value_there s (steers c) x) (x + c.width))

  -- a list: a group, N_ITER, and that many further groups
  abbrev pub list_at : (ℕ → Bool) → (ℕ → ℕ) → ℕ → Bool
  list_at test past x = test x && each_round test past (value_there s (steers N_ITER) (past x)) (past x + 5)

  module _ (q : ℕ) where
    pub metric_behind : (k : Phase) (g r : Items) → T (holds k g) → (x : ℕ)
        → metric_at s q (g ⧺ r) x ≡ metric_at s q g x && metric_at s q r (past_at s g x)
    unfolding ◌⧺◌
    metric_behind k end r h x = refl
    metric_behind k nest r h x = absurd h
    metric_behind k (send f a) r h x =
        let y = x + f.width in
        let m = metric_field q f (value_there s f x) in
        ap (λ (b : Bool). m && b) (metric_behind k a r (and_right (stays_in k f) (holds k a) h) y)
        ∙ and_more m (metric_at s q a y) (metric_at s q r (past_at s a y))
    metric_behind k (send_if c f a) r h x =
        let i = and_right (stays_in k f) (holds k a) (and_right (shut c) (stays_in k f && holds k a) h) in
        let y = x + c.width in
        let z = y + f.width in
        let m = metric_field q f (value_there s f y) in
        cond_and (metric_at s q r) (eqb (value_there s (steers c) x) 1) (m && metric_at s q a z) (metric_at s q a y) (m && metric_at s q (a ⧺ r) z)
        (metric_at s q (a ⧺ r) y) (past_at s a z) (past_at s a y)
        (ap (λ (b : Bool). m && b) (metric_behind k a r i z) ∙ and_more m (metric_at s q a z) (metric_at s q r (past_at s a z)))
        (metric_behind k a r i y)
    metric_behind k (send_either c a b) r h x =
        let i = and_right (shut c) (holds k a && holds k b) h in
        let y = x + c.width in
        cond_and (metric_at s q r) (eqb (value_there s (steers c) x) 1) (metric_at s q a y) (metric_at s q b y) (metric_at s q (a ⧺ r) y)
        (metric_at s q (b ⧺ r) y) (past_at s a y) (past_at s b y) (metric_behind k a r (and_left (holds k a) (holds k b) i) y)
        (metric_behind k b r (and_right (holds k a) (holds k b) i) y)
    metric_behind k (send_times c b a) r h x =
        let i = and_right (holds k b) (holds k a) (and_right (shut c) (holds k b && holds k a) h) in
        let n = value_there s (steers c) x in
        let y = x + c.width in
        let z = rounds (past_at s b) n y in
        let m = each_round (metric_at s q b) (past_at s b) n y in
        ap (λ (d : Bool). m && d) (metric_behind k a r i z) ∙ and_more m (metric_at s q a z) (metric_at s q r (past_at s a z))

    -- ---- no distance, nothing to test

    quiet_field : (f : Field) (v : ℕ) → T (stays_in heading f) → metric_field q f v ≡ true
    quiet_field f v h = by_sense f.sense (and_right (not (opens f)) (same heading f.sense) h)
      where
        by_sense : (k : Sense) → T (same heading k) → metric_sense q f k v ≡ true
        by_sense (plain r) g = refl
        by_sense scale g = refl
        by_sense distance g = absurd g
        by_sense text_length g = absurd g

    both_true : (a b : Bool) → a ≡ true → b ≡ true → (a && b) ≡ true
    both_true a b h i = rw (h, i)

    either_true : (c a b : Bool) → a ≡ true → b ≡ true → cond c a b ≡ true
    either_true true a b h i = h
    either_true false a b h i = i

    pub metric_quiet : (g : Items) → T (holds heading g) → (x : ℕ) → metric_at s q g x ≡ true
    metric_quiet end h x = refl
    metric_quiet nest h x = absurd h
    metric_quiet (send f a) h x =
        both_true (metric_field q f (value_there s f x)) (metric_at s q a (x + f.width))
        (quiet_field f (value_there s f x) (and_left (stays_in heading f) (holds heading a) h))
        (metric_quiet a (and_right (stays_in heading f) (holds heading a) h) (x + f.width))
    metric_quiet (send_if c f a) h x =
        let i = and_right (shut c) (stays_in heading f && holds heading a) h in
        let j = and_right (stays_in heading f) (holds heading a) i in
        let y = x + c.width in
        either_true (eqb (value_there s (steers c) x) 1) (metric_field q f (value_there s f y) && metric_at s q a (y + f.width)) (metric_at s q a y)
        (both_true (metric_field q f (value_there s f y)) (metric_at s q a (y + f.width))
        (quiet_field f (value_there s f y) (and_left (stays_in heading f) (holds heading a) i)) (metric_quiet a j (y + f.width)))
        (metric_quiet a j y)
    metric_quiet (send_either c a b) h x =
        let i = and_right (shut c) (holds heading a && holds heading b) h in
        let y = x + c.width in
        either_true (eqb (value_there s (steers c) x) 1) (metric_at s q a y) (metric_at s q b y)
        (metric_quiet a (and_left (holds heading a) (holds heading b) i) y) (metric_quiet b (and_right (holds heading a) (holds heading b) i) y)
    metric_quiet (send_times c b a) h x =
        let i = and_right (shut c) (holds heading b && holds heading a) h in
        let n = value_there s (steers c) x in
        let y = x + c.width in
        both_true (each_round (metric_at s q b) (past_at s b) n y) (metric_at s q a (rounds (past_at s b) n y))
        (each_same (metric_at s q b) (λ z. true) (past_at s b) (past_at s b) (metric_quiet b (and_left (holds heading b) (holds heading a) i))
        (λ z. refl) n y
        ∙ each_true (past_at s b) n y)
        (metric_quiet a (and_right (holds heading b) (holds heading a) i) (rounds (past_at s b) n y))

    -- ---- a group, and a list of it

    -- what a group that begins at a bit asks, and where it ends
    pub record Group (g : Items) (test : ℕ → Bool) (past : ℕ → ℕ) : Type 0 where
      pub stays : T (holds behind g)
      pub asks : (y : ℕ) → metric_at s q g y ≡ test y
      pub ends : (y : ℕ) → past_at s g y ≡ past y

    -- one group, whatever follows it: a turn of a loop over entries
    pub group_tested : {g : Items} {test : ℕ → Bool} {past : ℕ → ℕ} → Group g test past → (r : Items) (es : List Entry) (x : ℕ)
        → Goes (g ⧺ r) es end → AllFair es → AtBit s x es → Tested s q es (test x) r (past x)
    group_tested {g} {test} {past} h r es x l fair at =
        tested_as (metric_at s q g x) (test x) (past_at s g x) (past x) (h.asks x) (h.ends x) (items_tested s q g h.stays r es x (l, (fair, at)))

    -- the list: a turn of a loop over bits is a turn of `each_round`
    pub metric_list : {g : Items} {test : ℕ → Bool} {past : ℕ → ℕ} → Group g test past → (x : ℕ)
        → metric_at s q (g ⧺ send_times N_ITER g end) x ≡ list_at test past x
    metric_list {g} {test} {past} h x =
        let from : ℕ → Bool = λ y. each_round (metric_at s q g) (past_at s g) (value_there s (steers N_ITER) y) (y + 5) in
        metric_behind behind g (send_times N_ITER g end) h.stays x
        ∙ ap₂ ◌&&◌ (h.asks x)
        (and_true (from (past_at s g x))
        ∙ ap from (h.ends x)
        ∙ each_same (metric_at s q g) test (past_at s g) past h.asks h.ends (value_there s (steers N_ITER) (past x)) (past x + 5))
