-- What is put into the bytes of items, put together: what stands behind what, groups of which nothing is a distance, and a list of groups. Assumes
-- nothing.
use mathlib.Core.Bool.{Bool, true, false, cond, not, ◌&&◌}
use mathlib.Core.List.{List}
use mathlib.Core.Path.{◌≡◌, refl, ap, ◌∙◌}
use Prim.Native.Nat.{ℕ, zero, suc, ◌+◌}
use lib.Dec.{T, eqb}
use Rattle.format.specs.Fields.{Field, Sense, steers, N_ITER}
use Rattle.format.specs.Fields.Sense.{plain, scale, distance, text_length}
use Rattle.format.specs.Packets.{Items, ◌⧺◌}
use Rattle.format.specs.Packets.Items.{end, nest, send, send_if, send_either, send_times}
use Rattle.format.specs.Telegrams.{Entry}
use Rattle.format.proofs.Rows.{and_left, and_right}
use Rattle.laws.proofs.Told.{AllFair}
use Rattle.laws.proofs.Whole.{Goes}
use Rattle.telling.proofs.Once.{Phase}
use Rattle.telling.proofs.Once.Phase.{heading, behind}
use Rattle.telling.proofs.Scales.{opens, same, stays_in, shut, holds}
use Rattle.telling.proofs.AtBits.{AtBit, value_there}
use Rattle.telling.proofs.ByItems.{rounds, past_at, metric_at}
use Rattle.told.specs.Metres.{number_in, each_put, list_put}
use Rattle.told.proofs.ToldItems.{told_sense, told_field, told_at, Retold, retold_as, items_told}

-- ---- rounds

-- by what each puts, and where it ends
pub each_put_same : (puts puts2 : ℕ → List ℕ → List ℕ) (past past2 : ℕ → ℕ) → ((y : ℕ) (out : List ℕ) → puts y out ≡ puts2 y out)
    → ((y : ℕ) → past y ≡ past2 y) → (k x : ℕ) (out : List ℕ) → each_put puts past k x out ≡ each_put puts2 past2 k x out
each_put_same puts puts2 past past2 p h zero x out = refl
each_put_same puts puts2 past past2 p h (suc k) x out =
    each_put_same puts puts2 past past2 p h k (past x) (puts x out)
    ∙ ap (λ (y : ℕ). each_put puts2 past2 k y (puts x out)) (h x)
    ∙ ap (each_put puts2 past2 k (past2 x)) (p x out)

-- where nothing is put
pub each_put_none : (past : ℕ → ℕ) (k x : ℕ) (out : List ℕ) → each_put (λ y o. o) past k x out ≡ out
each_put_none past zero x out = refl
each_put_none past (suc k) x out = each_put_none past k (past x) out

-- ---- one behind the other

-- one of two ways, and then on
cond_both : (f : ℕ → List ℕ → List ℕ) (c : Bool) (m n : ℕ) (a b x y : List ℕ) → x ≡ f m a → y ≡ f n b → cond c x y ≡ f (cond c m n) (cond c a b)
cond_both f true m n a b x y h i = h
cond_both f false m n a b x y h i = i

pub cond_alike : {A : Type 0} (c : Bool) (a b z : A) → a ≡ z → b ≡ z → cond c a b ≡ z
cond_alike true a b z h i = h
cond_alike false a b z h i = i

module _ (s : List ℕ) (q : ℕ) where
  pub told_behind : (k : Phase) (g r : Items) → T (holds k g) → (x : ℕ) (out : List ℕ)
      → told_at s q (g ⧺ r) x out ≡ told_at s q r (past_at s g x) (told_at s q g x out)
  unfolding ◌⧺◌
  told_behind k end r h x out = refl
  told_behind k nest r h x out = absurd h
  told_behind k (send f a) r h x out = told_behind k a r (and_right (stays_in k f) (holds k a) h) (x + f.width) (told_field s q f x out)
  told_behind k (send_if c f a) r h x out =
      let i = and_right (stays_in k f) (holds k a) (and_right (shut c) (stays_in k f && holds k a) h) in
      let y = x + c.width in
      let z = y + f.width in
      let o = told_field s q f y out in
      cond_both (told_at s q r) (eqb (value_there s (steers c) x) 1) (past_at s a z) (past_at s a y) (told_at s q a z o) (told_at s q a y out)
      (told_at s q (a ⧺ r) z o) (told_at s q (a ⧺ r) y out) (told_behind k a r i z o) (told_behind k a r i y out)
  told_behind k (send_either c a b) r h x out =
      let i = and_right (shut c) (holds k a && holds k b) h in
      let y = x + c.width in
      cond_both (told_at s q r) (eqb (value_there s (steers c) x) 1) (past_at s a y) (past_at s b y) (told_at s q a y out) (told_at s q b y out)
      (told_at s q (a ⧺ r) y out) (told_at s q (b ⧺ r) y out) (told_behind k a r (and_left (holds k a) (holds k b) i) y out)
      (told_behind k b r (and_right (holds k a) (holds k b) i) y out)
  told_behind k (send_times c b a) r h x out =
      let n = value_there s (steers c) x in
      let y = x + c.width in
      told_behind k a r (and_right (holds k b) (holds k a) (and_right (shut c) (holds k b && holds k a) h)) (rounds (past_at s b) n y)
      (each_put (told_at s q b) (past_at s b) n y out)

  -- ---- no distance, nothing to put

  quiet_field : (f : Field) (x : ℕ) (out : List ℕ) → T (stays_in heading f) → told_field s q f x out ≡ out
  quiet_field f x out h = by_sense f.sense (and_right (not (opens f)) (same heading f.sense) h)
    where
      by_sense : (k : Sense) → T (same heading k) → told_sense s q f.width k x out ≡ out
      by_sense (plain r) g = refl
      by_sense scale g = refl
      by_sense distance g = absurd g
      by_sense text_length g = absurd g

  pub told_quiet : (g : Items) → T (holds heading g) → (x : ℕ) (out : List ℕ) → told_at s q g x out ≡ out
  told_quiet end h x out = refl
  told_quiet nest h x out = refl
  told_quiet (send f a) h x out =
      told_quiet a (and_right (stays_in heading f) (holds heading a) h) (x + f.width) (told_field s q f x out)
      ∙ quiet_field f x out (and_left (stays_in heading f) (holds heading a) h)
  told_quiet (send_if c f a) h x out =
      let i = and_right (shut c) (stays_in heading f && holds heading a) h in
      let j = and_right (stays_in heading f) (holds heading a) i in
      let y = x + c.width in
      let o = told_field s q f y out in
      cond_alike (eqb (value_there s (steers c) x) 1) (told_at s q a (y + f.width) o) (told_at s q a y out) out
      (told_quiet a j (y + f.width) o ∙ quiet_field f y out (and_left (stays_in heading f) (holds heading a) i)) (told_quiet a j y out)
  told_quiet (send_either c a b) h x out =
      let i = and_right (shut c) (holds heading a && holds heading b) h in
      let y = x + c.width in
      cond_alike (eqb (value_there s (steers c) x) 1) (told_at s q a y out) (told_at s q b y out) out
      (told_quiet a (and_left (holds heading a) (holds heading b) i) y out) (told_quiet b (and_right (holds heading a) (holds heading b) i) y out)
  told_quiet (send_times c b a) h x out =
      let i = and_right (shut c) (holds heading b && holds heading a) h in
      let n = value_there s (steers c) x in
      let y = x + c.width in
      let p = past_at s b in
      told_quiet a (and_right (holds heading b) (holds heading a) i) (rounds p n y) (each_put (told_at s q b) p n y out)
      ∙ each_put_same (told_at s q b) (λ z o. o) p p (told_quiet b (and_left (holds heading b) (holds heading a) i)) (λ z. refl) n y out
      ∙ each_put_none p n y out

  -- ---- a group, and a list of it

  -- what a group that begins at a bit puts, and where it ends
  pub record Puts (g : Items) (puts : ℕ → List ℕ → List ℕ) (past : ℕ → ℕ) : Type 0 where
    pub stays : T (holds behind g)
    pub leaves : (y : ℕ) (out : List ℕ) → told_at s q g y out ≡ puts y out
    pub ends : (y : ℕ) → past_at s g y ≡ past y

  -- one group, whatever follows it: a turn of a loop over entries
  pub group_told : {g : Items} {puts : ℕ → List ℕ → List ℕ} {past : ℕ → ℕ} → Puts g puts past → (r : Items) (es : List Entry) (x : ℕ)
      → metric_at s q g x ≡ true → Goes (g ⧺ r) es end → AllFair es → AtBit s x es → Retold s q es x (puts x) r (past x)
  group_told {g} {puts} {past} h r es x m l fair at =
      retold_as (told_at s q g x) (puts x) (past_at s g x) (past x) (h.leaves x) (h.ends x) (items_told s q g h.stays r es x m (l, (fair, at)))

  -- the list: a turn of a loop over bits is a turn of `each_put`
  pub told_list : {g : Items} {puts : ℕ → List ℕ → List ℕ} {past : ℕ → ℕ} → Puts g puts past → (x : ℕ) (out : List ℕ)
      → told_at s q (g ⧺ send_times N_ITER g end) x out ≡ list_put s puts past x out
  told_list {g} {puts} {past} h x out =
      let from : ℕ → List ℕ → List ℕ = λ y o. each_put (told_at s q g) (past_at s g) (number_in s 5 y) (y + 5) o in
      told_behind behind g (send_times N_ITER g end) h.stays x out
      ∙ ap (from (past_at s g x)) (h.leaves x out)
      ∙ ap (λ (y : ℕ). from y (puts x out)) (h.ends x)
      ∙ each_put_same (told_at s q g) puts (past_at s g) past h.leaves h.ends (number_in s 5 (past x)) (past x + 5) (puts x out)
