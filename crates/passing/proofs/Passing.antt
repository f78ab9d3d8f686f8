-- Fields that are passed one after another, each with the bits that stand there: by what is to be sent, with no rows and no context. Assumes nothing.
use mathlib.Core.Bool.{true, false}
use mathlib.Core.List.{List}
use mathlib.Core.Option.{some, none}
use mathlib.Core.Path.{◌≡◌, refl, sym, ap, ◌∙◌}
use Prim.Native.Nat.{ℕ, zero, suc, ◌+◌, ◌-◌, ◌*◌, ◌≤◌, ◌<◌}
use native.Mathlib.Nat.{zero-mul}
use native.Mathlib.Omega.{arith}
use borrow.Author.Tests.{le-leb, eq-eqb, ne_eqb}
use lib.Dec.{T}
use Rattle.bits.specs.Bits.{value_of}
use Rattle.bits.specs.Take.{field_bits}
use Rattle.format.specs.Fields.{Field, Switch, Rule}
use Rattle.format.specs.Fields.Rule.{any, packet, user, direction, size, pig, total, radio, within}
use Rattle.format.specs.Packets.{Items, ◌⧺◌, times}
use Rattle.format.specs.Packets.Items.{end, nest, send, send_if, send_either, send_times}
use Rattle.format.specs.Rules.{Context, Terms, due, next, rule_of, broken, noted, radio_from}
use Rattle.laws.proofs.Steps.{going}
use Rattle.laws.proofs.Tile.{widths}
use Rattle.laws.proofs.Whole.{field_count}

-- ---- a value that keeps its rule, where the rule looks at nothing else and nothing is kept

abbrev pub Keeps : Rule → ℕ → Type 0
Keeps any v = Unit
Keeps packet v = ⊥
Keeps user v = ⊥
Keeps direction v = ⊥
Keeps size v = ⊥
Keeps pig v = ⊥
Keeps total v = ⊥
Keeps radio v = radio_from 16 false v ≡ true
Keeps (within a b) v = (a ≤ v) × (v ≤ b)

pub keeps_unbroken : (p : Terms) (c : Context) (r : Rule) (v : ℕ) → Keeps r v → broken p c r v ≡ none
unfolding broken
keeps_unbroken p c any v h = refl
keeps_unbroken p c packet v h = absurd h
keeps_unbroken p c user v h = absurd h
keeps_unbroken p c direction v h = absurd h
keeps_unbroken p c size v h = absurd h
keeps_unbroken p c pig v h = absurd h
keeps_unbroken p c total v h = absurd h
keeps_unbroken p c radio v h = rw h
keeps_unbroken p c (within a b) v h = rw (le-leb a v h.0, le-leb v b h.1)

pub keeps_noted : (c : Context) (r : Rule) (at v : ℕ) → Keeps r v → noted r c at v ≡ c
unfolding noted
keeps_noted c any at v h = refl
keeps_noted c packet at v h = absurd h
keeps_noted c user at v h = absurd h
keeps_noted c direction at v h = absurd h
keeps_noted c size at v h = absurd h
keeps_noted c pig at v h = absurd h
keeps_noted c total at v h = absurd h
keeps_noted c radio at v h = refl
keeps_noted c (within a b) at v h = refl

-- ---- fields that are passed

-- the number in the bits of the field that is due, where it begins at a bit
abbrev pub value_at : List ℕ → Items → ℕ → ℕ
value_at s t at = value_of (field_bits s (due t).width at)

-- from the items t at the bit x, so many fields, each of which keeps its rule, lead to the items w at the bit y
pub data Passed (s : List ℕ) : Items → ℕ → ℕ → Items → ℕ → Type 0 where
  stay : {t : Items} {x : ℕ} → Passed s t x 0 t x
  pass : {t u w : Items} {x m y : ℕ} → T (going t) → Keeps (rule_of (due t).sense) (value_at s t x) → next t (value_at s t x) ≡ some u
      → Passed s u (x + (due t).width) m w y → Passed s t x (suc m) w y

pub passed_grows : {s : List ℕ} {t w : Items} {x m y : ℕ} → Passed s t x m w y → x ≤ y
passed_grows stay = omega arith
passed_grows (pass g k e p) = let h = passed_grows p in omega arith

-- something is left to send where it is after them
pub passed_going : {s : List ℕ} {t w : Items} {x m y : ℕ} → Passed s t x m w y → T (going w) → T (going t)
passed_going stay h = h
passed_going (pass g k e p) h = g

-- to other numbers that are the same
pub passed_so : {s : List ℕ} {t w : Items} {x m y : ℕ} → Passed s t x m w y → {m₁ y₁ : ℕ} → m ≡ m₁ → y ≡ y₁ → Passed s t x m₁ w y₁
passed_so p em ey = rw (← em, ← ey) p

pub passed_from : {s : List ℕ} {t w : Items} {x m y : ℕ} → Passed s t x m w y → {x₁ : ℕ} → x ≡ x₁ → Passed s t x₁ m w y
passed_from p ex = rw (← ex) p

-- one after the other
pub passed_then : {s : List ℕ} {t u w : Items} {x y z m k : ℕ} → Passed s t x m u y → Passed s u y k w z → Passed s t x (m + k) w z
passed_then {k = k} stay q = passed_so q (omega arith) refl
passed_then {k = k} (pass {m = m} g h e p) q =
    let n : suc (m + k) ≡ suc m + k = omega arith in passed_so (pass g h e (passed_then p q)) n refl

-- a field alone
pub passed_one : {s : List ℕ} {t u : Items} {x : ℕ} → T (going t) → Keeps (rule_of (due t).sense) (value_at s t x) → next t (value_at s t x) ≡ some u
    → Passed s t x 1 u (x + (due t).width)
passed_one g k e = pass g k e stay

-- a field, and the second only if that is 1
module _ {s : List ℕ} {c : Switch} {f : Field} {r : Items} {x : ℕ} (k : Keeps c.rule (value_of (field_bits s c.width x))) where
  pub passed_with : value_of (field_bits s c.width x) ≡ 1 → Passed s (send_if c f r) x 1 (send f r) (x + c.width)
  unfolding next
  passed_with e = passed_one tt k (rw (eq-eqb (value_of (field_bits s c.width x)) 1 e))

  pub passed_without : (value_of (field_bits s c.width x) ≡ 1 → ⊥) → Passed s (send_if c f r) x 1 r (x + c.width)
  unfolding next
  passed_without n = passed_one tt k (rw (ne_eqb (value_of (field_bits s c.width x)) 1 n))

-- a field that says which of two ways it goes on
module _ {s : List ℕ} {c : Switch} {a b : Items} {x : ℕ} (k : Keeps c.rule (value_of (field_bits s c.width x))) where
  pub passed_first : value_of (field_bits s c.width x) ≡ 1 → Passed s (send_either c a b) x 1 a (x + c.width)
  unfolding next
  passed_first e = passed_one tt k (rw (eq-eqb (value_of (field_bits s c.width x)) 1 e))

  pub passed_second : (value_of (field_bits s c.width x) ≡ 1 → ⊥) → Passed s (send_either c a b) x 1 b (x + c.width)
  unfolding next
  passed_second n = passed_one tt k (rw (ne_eqb (value_of (field_bits s c.width x)) 1 n))

-- ---- fields in a row

-- each of them keeps its rule
abbrev pub Ruled : List ℕ → Items → ℕ → Type 0
Ruled s end x = Unit
Ruled s nest x = ⊥
Ruled s (send f r) x = Keeps (rule_of f.sense) (value_of (field_bits s f.width x)) × Ruled s r (x + f.width)
Ruled s (send_if c f r) x = ⊥
Ruled s (send_either c a b) x = ⊥
Ruled s (send_times c g r) x = ⊥

pub ruled_run : (s : List ℕ) (g r : Items) (x : ℕ) → Ruled s g x → Passed s (g ⧺ r) x (field_count g) r (x + widths g)
unfolding ◌⧺◌ next
ruled_run s end r x h = passed_so stay refl (omega arith)
ruled_run s nest r x h = absurd h
ruled_run s (send f g) r x h = passed_so (pass tt h.0 refl (ruled_run s g r (x + f.width) h.1)) refl (omega arith)
ruled_run s (send_if c f g) r x h = absurd h
ruled_run s (send_either c a b) r x h = absurd h
ruled_run s (send_times c g a) r x h = absurd h

-- as many groups of them
pub ruled_times : (s : List ℕ) (v : ℕ) (g r : Items) (x : ℕ) → ((k : ℕ) → k < v → Ruled s g (x + k * widths g))
    → Passed s (times v g r) x (v * field_count g) r (x + v * widths g)
unfolding times
ruled_times s zero g r x h = passed_so stay (sym (zero-mul (field_count g))) (rw (zero-mul (widths g)) (omega arith))
ruled_times s (suc v) g r x h =
    passed_so (passed_then (ruled_run s g (times v g r) x first) (ruled_times s v g r (x + widths g) rest)) (more (field_count g)) (so v)
  where
    more : (a : ℕ) → a + v * a ≡ suc v * a
    more a = omega arith

    so : (k : ℕ) → x + widths g + k * widths g ≡ x + suc k * widths g
    so k = omega arith

    first : Ruled s g x
    first = let e : x + 0 * widths g ≡ x = omega arith in rw e at (h 0 (omega arith))

    rest : (k : ℕ) → k < v → Ruled s g (x + widths g + k * widths g)
    rest k l = rw (so k) (h (suc k) (omega arith))

-- each of them may hold anything
abbrev pub Free : Items → Type 0
Free end = Unit
Free nest = ⊥
Free (send f r) = (rule_of f.sense ≡ any) × Free r
Free (send_if c f r) = ⊥
Free (send_either c a b) = ⊥
Free (send_times c g r) = ⊥

keeps_any : (r : Rule) (v : ℕ) → r ≡ any → Keeps r v
keeps_any r v e = rw e tt

pub free_ruled : (s : List ℕ) (g : Items) (x : ℕ) → Free g → Ruled s g x
free_ruled s end x h = tt
free_ruled s nest x h = absurd h
free_ruled s (send f g) x h = (keeps_any (rule_of f.sense) _ h.0, free_ruled s g (x + f.width) h.1)
free_ruled s (send_if c f g) x h = absurd h
free_ruled s (send_either c a b) x h = absurd h
free_ruled s (send_times c g a) x h = absurd h

pub free_run : (s : List ℕ) (g r : Items) (x : ℕ) → Free g → Passed s (g ⧺ r) x (field_count g) r (x + widths g)
free_run s g r x h = ruled_run s g r x (free_ruled s g x h)

pub free_times : (s : List ℕ) (v : ℕ) (g r : Items) (x : ℕ) → Free g → Passed s (times v g r) x (v * field_count g) r (x + v * widths g)
free_times s v g r x h = ruled_times s v g r x (λ k l. free_ruled s g (x + k * widths g) h)

-- ---- groups of their own widths, one a turn of a loop

pub times_none : (g r : Items) → times 0 g r ≡ r
unfolding times
times_none g r = refl

times_one : (k : ℕ) (g r : Items) → times (suc k) g r ≡ g ⧺ times k g r
unfolding times
times_one k g r = refl

pub times_more : (k : ℕ) (g r : Items) → 0 < k → times k g r ≡ g ⧺ times (k - 1) g r
times_more k g r h = let e : k ≡ suc (k - 1) = omega arith in ap (λ (n : ℕ). times n g r) e ∙ times_one (k - 1) g r

-- a loop's invariant, over what is left: one group more
pub switched_times : (left : ℕ) (g r : Items) {s : List ℕ} {t : Items} {x y z m k : ℕ} → Passed s t x m (times left g r) y → 0 < left
    → Passed s (g ⧺ times (left - 1) g r) y k (times (left - 1) g r) z → Passed s t x (m + k) (times (left - 1) g r) z
switched_times left g r p h q = passed_then p (rw (times_more left g r h) q)
