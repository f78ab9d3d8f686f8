-- What holds of every field that items can send still holds after a value; for any table, and any law of fields. Assumes nothing.
use mathlib.Core.Bool.{Bool, true, false, cond, ◌&&◌}
use mathlib.Core.List.{List, [], ◌∷◌}
use mathlib.Core.Option.{Option, some, none}
use mathlib.Core.Path.{◌≡◌, refl}
use Prim.Native.Nat.{ℕ, zero, suc}
use lib.Dec.{T, eqb}
use Rattle.format.specs.Fields.{Field, steers, NID_XUSER}
use Rattle.format.specs.Packets.{Items, Packet, ◌⧺◌, times, find, etcs, ctcs}
use Rattle.format.specs.Packets.Items.{end, nest, send, send_if, send_either, send_times}
use Rattle.format.specs.Rules.{named, or_end, next}
use Rattle.format.proofs.Rows.{and_left, and_right}

-- of each field that items can send; what comes after them, or in a CTCS packet, is not theirs
abbrev pub Every : (Field → Type 0) → Items → Type 0
Every P end = Unit
Every P nest = P NID_XUSER
Every P (send f r) = P f × Every P r
Every P (send_if c f r) = P (steers c) × (P f × Every P r)
Every P (send_either c a b) = P (steers c) × (Every P a × Every P b)
Every P (send_times c g r) = P (steers c) × (Every P g × Every P r)

-- of the items, if there are any
abbrev pub IfSome : (Items → Type 0) → Option Items → Type 0
IfSome P none = Unit
IfSome P (some t) = P t

-- what holds of both holds of the one that a test takes
pub taken : {A : Type 0} (P : A → Type 0) (b : Bool) (x y : A) → P x → P y → P (cond b x y)
taken P true x y k l = k
taken P false x y k l = l

-- ---- after a value

module _ (P : Field → Type 0) where
  -- of a group, and then the rest
  every_append : (a r : Items) → Every P a → Every P r → Every P (a ⧺ r)
  unfolding ◌⧺◌
  every_append end r k l = l
  every_append nest r k l = k
  every_append (send f a) r k l = (k.0, every_append a r k.1 l)
  every_append (send_if c f a) r k l = (k.0, (k.1.0, every_append a r k.1.1 l))
  every_append (send_either c a b) r k l = (k.0, (every_append a r k.1.0 l, every_append b r k.1.1 l))
  every_append (send_times c g a) r k l = (k.0, (k.1.0, every_append a r k.1.1 l))

  -- of a group any number of times, and then the rest
  every_times : (n : ℕ) (g r : Items) → Every P g → Every P r → Every P (times n g r)
  unfolding times
  every_times zero g r k l = l
  every_times (suc n) g r k l = every_append g (times n g r) k (every_times n g r k l)

  -- of the field that is due, under the name of its value
  pub every_named : (t : Items) (v : ℕ) → Every P t → (t ≡ end → P (named end v)) → P (named t v)
  every_named end v k h = h refl
  every_named nest v k h = k
  every_named (send f r) v k h = k.0
  every_named (send_if c f r) v k h = k.0
  every_named (send_either c a b) v k h = k.0
  every_named (send_times c g r) v k h = k.0

  -- where nothing is found, nothing is left to send
  or_end_lem : (o : Option Items) → IfSome (Every P) o → Every P (or_end o)
  or_end_lem none k = tt
  or_end_lem (some t) k = k

  -- of what comes next, if it holds of the packet that does
  pub every_next : (t : Items) (v : ℕ) → Every P t → (t ≡ end → IfSome (Every P) (find v etcs))
      → (t ≡ nest → IfSome (Every P) (find v ctcs)) → IfSome (Every P) (next t v)
  unfolding next
  every_next end v k h i = h refl
  every_next nest v k h i = or_end_lem (find v ctcs) (i refl)
  every_next (send f r) v k h i = k.1
  every_next (send_if c f r) v k h i = taken (Every P) (eqb v 1) (send f r) r k.1 k.1.1
  every_next (send_either c a b) v k h i = taken (Every P) (eqb v 1) a b k.1.0 k.1.1
  every_next (send_times c g r) v k h i = every_times v g r k.1.0 k.1.1

-- ---- a test of fields, that the checker computes over given items

abbrev pub passes : (Field → Bool) → Items → Bool
passes q end = true
passes q nest = q NID_XUSER
passes q (send f r) = q f && passes q r
passes q (send_if c f r) = q (steers c) && (q f && passes q r)
passes q (send_either c a b) = q (steers c) && (passes q a && passes q b)
passes q (send_times c g r) = q (steers c) && (passes q g && passes q r)

-- two tests, taken apart
both_hold : {A B : Type 0} (a b : Bool) → (T a → A) → (T b → B) → T (a && b) → A × B
both_hold a b f g h = (f (and_left a b h), g (and_right a b h))

pub passed : (q : Field → Bool) (t : Items) → T (passes q t) → Every (λ f. T (q f)) t
passed q end h = tt
passed q nest h = h
passed q (send f r) h = both_hold (q f) (passes q r) (λ i. i) (passed q r) h
passed q (send_if c f r) h =
    both_hold (q (steers c)) (q f && passes q r) (λ i. i) (both_hold (q f) (passes q r) (λ i. i) (passed q r)) h
passed q (send_either c a b) h =
    both_hold (q (steers c)) (passes q a && passes q b) (λ i. i) (both_hold (passes q a) (passes q b) (passed q a) (passed q b)) h
passed q (send_times c g r) h =
    both_hold (q (steers c)) (passes q g && passes q r) (λ i. i) (both_hold (passes q g) (passes q r) (passed q g) (passed q r)) h

-- ---- a table

-- of the items of each packet
abbrev pub Throughout : (Items → Type 0) → List Packet → Type 0
Throughout P [] = Unit
Throughout P (p ∷ ps) = P p.items × Throughout P ps

-- and so of the packet that is found
pub found : (P : Items → Type 0) (v : ℕ) (ps : List Packet) → Throughout P ps → IfSome P (find v ps)
unfolding find
found P v [] h = tt
found P v (p ∷ ps) h = taken (IfSome P) (eqb v p.id) (some p.items) (find v ps) h.0 (found P v ps h.1)
