-- The items of a row, by its act: what is due, what is next, and what follows. Assumes nothing.
use mathlib.Core.Path.{◌≡◌, refl, ◌∙◌, subst, sym, ap}
use mathlib.Core.Bool.{Bool, true, false, cond}
use mathlib.Core.Logic.{◌⊎◌, inl, inr, ⊎_elim}
use mathlib.Core.Option.{some}
use Prim.Native.Nat.{ℕ, zero, suc, ◌+◌, ◌-◌, ◌<◌}
use native.Mathlib.Nat.{eq-or-lt_of_le}
use native.Mathlib.Omega.{arith}
use lib.Dec.{eqb}
use Rattle.format.specs.Fields.{Field}
use Rattle.format.specs.Packets.{Items, ◌⧺◌}
use Rattle.format.specs.Packets.Items.{end, nest, send, send_if, send_either, send_times}
use Rattle.format.specs.Rules.{Context, due, named, next, settled}
use Rattle.format.specs.Rules.Next.{go}
use Rattle.format.specs.Table.{act, field_at, jump, shape, node}
use Rattle.format.proofs.Rows.{shaped, due_at, field_due}
use Rattle.states.specs.Lookback.{begins}
use Rattle.states.specs.Machine.{after}

-- the acts of the fields that steer and repeat nothing
pub three_or_four : (n : ℕ) → 2 < n → n < 5 → (n ≡ 3) ⊎ (n ≡ 4)
three_or_four n l m = ⊎_elim (λ e. inl (sym e)) (λ h. inr (omega arith)) (eq-or-lt_of_le l)

-- ---- items

-- nothing more to send
pub append_end : (i : Items) → i ⧺ end ≡ i
unfolding ◌⧺◌
append_end end = refl
append_end nest = refl
append_end (send f r) = ap (send f) (append_end r)
append_end (send_if c f r) = ap (send_if c f) (append_end r)
append_end (send_either c a b) = cc (append_end a, append_end b)
append_end (send_times c g r) = ap (send_times c g) (append_end r)

-- a choice, and what follows both
choice_append : (b : Bool) (i j x : Items) → cond b (i ⧺ x) (j ⧺ x) ≡ cond b i j ⧺ x
choice_append true i j x = refl
choice_append false i j x = refl

-- a field that may be left out, and what follows
option_append : (b : Bool) (f : Field) (r x : Items) → cond b (send f (r ⧺ x)) (r ⧺ x) ≡ cond b (send f r) r ⧺ x
unfolding ◌⧺◌
option_append true f r x = refl
option_append false f r x = refl

-- the items of an act, with x after them
module _ (f g : Field) (a b x : Items) where
  -- the field that is due is the act's
  shape_due : (n : ℕ) → 0 < n → due (shape n f g a b ⧺ x) ≡ due_at n f
  unfolding shape ◌⧺◌
  shape_due zero l = absurd (omega arith)
  shape_due (suc zero) l = refl
  shape_due (suc (suc zero)) l = refl
  shape_due (suc (suc (suc zero))) l = refl
  shape_due (suc (suc (suc (suc zero)))) l = refl
  shape_due (suc (suc (suc (suc (suc n))))) l = refl

  -- no end, so that no packet begins
  shape_begins : (n : ℕ) → 0 < n → begins (shape n f g a b ⧺ x) ≡ false
  unfolding shape ◌⧺◌
  shape_begins zero l = absurd (omega arith)
  shape_begins (suc zero) l = refl
  shape_begins (suc (suc zero)) l = refl
  shape_begins (suc (suc (suc zero))) l = refl
  shape_begins (suc (suc (suc (suc zero)))) l = refl
  shape_begins (suc (suc (suc (suc (suc n))))) l = refl

  -- no end, so that its value is sent under the name of that field, whatever it is
  shape_named : (n : ℕ) → 0 < n → (v : ℕ) → named (shape n f g a b ⧺ x) v ≡ due_at n f
  unfolding shape ◌⧺◌
  shape_named zero l v = absurd (omega arith)
  shape_named (suc zero) l v = refl
  shape_named (suc (suc zero)) l v = refl
  shape_named (suc (suc (suc zero))) l v = refl
  shape_named (suc (suc (suc (suc zero)))) l v = refl
  shape_named (suc (suc (suc (suc (suc n))))) l v = refl

  -- no end, so that no packet's length is tested
  shape_goes : (n : ℕ) → 0 < n → (p : ℕ) (c : Context) → settled p (shape n f g a b ⧺ x) c ≡ go (shape n f g a b ⧺ x) c
  unfolding shape ◌⧺◌ settled
  shape_goes zero l p c = absurd (omega arith)
  shape_goes (suc zero) l p c = refl
  shape_goes (suc (suc zero)) l p c = refl
  shape_goes (suc (suc (suc zero))) l p c = refl
  shape_goes (suc (suc (suc (suc zero)))) l p c = refl
  shape_goes (suc (suc (suc (suc (suc n))))) l p c = refl

  -- what is next is what is after the field
  shape_next : (n : ℕ) → 1 < n → (v : ℕ) → next (shape n f g a b ⧺ x) v ≡ some (after (shape n f g a b ⧺ x) v)
  unfolding shape ◌⧺◌ next after
  shape_next zero l v = absurd (omega arith)
  shape_next (suc zero) l v = absurd (omega arith)
  shape_next (suc (suc zero)) l v = refl
  shape_next (suc (suc (suc zero))) l v = refl
  shape_next (suc (suc (suc (suc zero)))) l v = refl
  shape_next (suc (suc (suc (suc (suc n))))) l v = refl

  -- what is after a field that repeats nothing ends in x
  shape_after : (n : ℕ) → 1 < n → n < 5 → (v : ℕ) → after (shape n f g a b ⧺ x) v ≡ after (shape n f g a b) v ⧺ x
  unfolding shape ◌⧺◌ after
  shape_after zero l m v = absurd (omega arith)
  shape_after (suc zero) l m v = absurd (omega arith)
  shape_after (suc (suc zero)) l m v = refl
  shape_after (suc (suc (suc zero))) l m v = option_append (eqb v 1) g b x
  shape_after (suc (suc (suc (suc zero)))) l m v = choice_append (eqb v 1) a b x
  shape_after (suc (suc (suc (suc (suc n))))) l m v = absurd (omega arith)

-- ---- the items of a row

-- what holds of any items of its act holds of a row's
by_shape : (P : Items → Type 0) (k : ℕ) → ((f g : Field) (a b : Items) → P (shape (act k) f g a b)) → P (node k)
by_shape P k h = subst P (sym (shaped k)) (h (field_at k) (field_at (suc k)) (node (suc k)) (node (suc (k + (jump k - suc k)))))

module _ (k : ℕ) (x : Items) where
  -- the field that is due is the row's
  pub row_due : 0 < act k → due (node k ⧺ x) ≡ field_at k
  row_due l = ap (λ i. due (i ⧺ x)) (shaped k) ∙ shape_due _ _ _ _ x (act k) l ∙ field_due k

  -- no end, so that its value is sent under the name of that field
  pub row_named : 0 < act k → (v : ℕ) → named (node k ⧺ x) v ≡ field_at k
  row_named l v = ap (λ i. named (i ⧺ x) v) (shaped k) ∙ shape_named _ _ _ _ x (act k) l v ∙ field_due k

  -- no end, so that no packet begins
  pub row_begins : 0 < act k → begins (node k ⧺ x) ≡ false
  row_begins l = by_shape (λ i. begins (i ⧺ x) ≡ false) k (λ f g a b. shape_begins f g a b x (act k) l)

  -- no end, so that no packet's length is tested
  pub row_goes : 0 < act k → (p : ℕ) (c : Context) → settled p (node k ⧺ x) c ≡ go (node k ⧺ x) c
  row_goes l p c = by_shape (λ i. settled p (i ⧺ x) c ≡ go (i ⧺ x) c) k (λ f g a b. shape_goes f g a b x (act k) l p c)

  -- what is next is what is after the field
  pub row_next : 1 < act k → (v : ℕ) → next (node k ⧺ x) v ≡ some (after (node k ⧺ x) v)
  row_next l v = by_shape (λ i. next (i ⧺ x) v ≡ some (after (i ⧺ x) v)) k (λ f g a b. shape_next f g a b x (act k) l v)

  -- what is after a field that repeats nothing ends in x
  pub row_after : 1 < act k → act k < 5 → (v : ℕ) → after (node k ⧺ x) v ≡ after (node k) v ⧺ x
  row_after l m v = by_shape (λ i. after (i ⧺ x) v ≡ after i v ⧺ x) k (λ f g a b. shape_after f g a b x (act k) l m v)
