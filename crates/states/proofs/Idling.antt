-- A field of which nothing is kept and whose value keeps its rule: the definition's step comes to the state behind it, with nothing else
-- changed. Assumes nothing.
use Rattle.std.specs.Prelude.{Some, Ok, Result, Option}
use mathlib.Core.Bool.{Bool, true, false, cond, ◌&&◌, ◌||◌}
use mathlib.Core.List.{List}
use mathlib.Core.Option.{none}
use mathlib.Core.Path.{◌≡◌, refl, sym, ap, ◌∙◌}
use Prim.Native.Nat.{ℕ, ◌+◌, ◌-◌, ◌%◌, ◌<◌, ◌≤◌}
use native.Mathlib.Decide.{dec_le}
use native.Mathlib.Nat.{lt_of_not-le}
use native.Mathlib.Omega.{arith}
use borrow.Author.Tests.{eqb-true, eqb-false, ltb-true, ltb-false, leb-true}
use lib.Dec.{eqb, leb, ltb}
use Rattle.format.specs.Rules.{Earlier, broken, unless, forbidden}
use Rattle.format.specs.Table.{act, jump, rest, field_at, code_of}
use Rattle.format.proofs.Rests.{field_free, Ranges, from_zero, from_one}
use Rattle.laws.proofs.Told.{and_two}
use Rattle.states.specs.Machine.{context_of, level_of, rule_at, Tidy, Idle, later, Slight, slight, reached, Advanced, Noted, Sound, Judged, Settled, Entered}
use Rattle.states.specs.declared.State.{State}
use Rattle.states.specs.declared.Todo.{Todo}
use Rattle.states.proofs.Advancing.{advances_next, again_field, advances_again}
use Rattle.states.proofs.Directions.{Away, Passed, away_not, passes}
use Rattle.states.proofs.Noting.{nothing}
use Rattle.states.proofs.Senses.{judge_free, judge_range, range_in}
use Rattle.states.proofs.Stepping.{entered_on, stepped_goes}
use Rattle.format.specs.declared.Kind.{Kind}

-- what follows a field that steers nothing, and that it is a field
module _ (t : Todo) (d : Tidy t) (i : Idle t) (v : ℕ) where
  abbrev k : ℕ
  k = t.node + 1

  abbrev Follows : Todo → Type 0
  Follows u = Advanced t v (Some u) × (act u.node ≡ 0 → ⊥)

  by_test : (b : Bool) → eqb (act k) 0 ≡ b
      → Follows (cond b (record { node = jump k + 1; left = t.left - 1; outer = t.outer }) (record { node = k; left = t.left; outer = t.outer }))
  by_test true e =
      let z = eqb-true (act k) 0 e in
      let g = i.again z in
      let f = again_field t v d i.plain z g.0 g.1 in
      (advances_again t v d i.plain z g.0 g.1, λ h. omega arith)
  by_test false e = let n = eqb-false (act k) 0 e in (advances_next t v d i.plain n, n)

  pub idle_ahead : Follows (later t)
  idle_ahead = by_test (eqb (act k) 0) refl

-- a value that keeps its rule, where no packet's Q_DIR is due
pub fine_passed : (s : State) → Sound s → (v : ℕ) → Judged s v false (Ok tt) → Away s → {r : Result (Option State) Kind} → Entered s v r → (l : List Earlier)
    → Passed l s v r
fine_passed s d v j away {r} e l = passes l s v false r (λ k h. absurd (away k h)) (stepped_goes s v false d r j e)

-- whatever a field holds that may hold anything
pub slight_free : {k v : ℕ} → code_of (field_at k).sense < 3 → Slight k v
slight_free h = record { unkept = λ l. absurd (omega arith); allowed = λ l. absurd (omega arith) }

-- what the test of a value says
module _ (k v : ℕ) (l : k < 213) where
  -- of a range that begins at a
  slight_in : {a : ℕ} → Ranges a k → a ≤ v → v ≤ rest k % 16 → Slight k v
  slight_in g h i =
      record { unkept = λ x. g.ranged; allowed = λ x. (rw g.low h, rw g.high i) }

  pub slight_so : (r : ℕ) → r ≡ rest k → 1 < act k → slight r v ≡ true → Slight k v
  slight_so r e p h = by_free (ltb (rest k) 10) refl (sym (ap (λ x. slight x v) e) ∙ h)
    where
      by_one : 9 < rest k → v ≤ rest k % 16 → (t : Bool) → ltb (rest k) 48 ≡ t → (t || leb (rest k) 51 && ltb 0 v) ≡ true → Slight k v
      by_one x i true z y = slight_in (from_zero k l x (ltb-true (rest k) 48 z)) (omega arith) i
      by_one x i false z y =
          let d = and_two (leb (rest k) 51) (ltb 0 v) y in
          let m = leb-true (rest k) 51 d.0 in
          let n = ltb-true 0 v d.1 in
          let o = ltb-false (rest k) 48 z in
          slight_in (from_one k l (omega arith) (omega arith)) (omega arith) i

      by_free : (t : Bool) → ltb (rest k) 10 ≡ t → (t || leb v (rest k % 16) && (ltb (rest k) 48 || leb (rest k) 51 && ltb 0 v)) ≡ true → Slight k v
      by_free true z y = slight_free (field_free k l p (ltb-true (rest k) 10 z))
      by_free false z y =
          let d = and_two (leb v (rest k % 16)) (ltb (rest k) 48 || leb (rest k) 51 && ltb 0 v) y in
          let o = ltb-false (rest k) 10 z in
          by_one (omega arith) (leb-true v (rest k % 16) d.0) (ltb (rest k) 48) refl d.1

module _ (s : State) (d : Sound s) (v : ℕ) (q : Slight s.todo.node v) {u : Todo} (a : Advanced s.todo v (Some u))
    {x : ℕ} (ex : x ≡ s.at + (field_at s.todo.node).width) where
  abbrev code : ℕ
  code = code_of (field_at s.todo.node).sense

  abbrev after : State
  after = reached s x u

  -- the codes of fields of which something is kept
  kept_not : (c : ℕ) → 2 < c → c < 10 → code ≡ c → ⊥
  kept_not c l h e = let w = q.unkept (omega arith) in omega arith

  notes : Noted s code v s
  notes =
      nothing s v code (kept_not 9 (omega arith) (omega arith)) (kept_not 3 (omega arith) (omega arith)) (kept_not 7 (omega arith) (omega arith))
      (kept_not 8 (omega arith) (omega arith)) (kept_not 4 (omega arith) (omega arith))

  pub sound_after : Sound after
  sound_after = record { tidy = a.tidy; first = omega (arith, d.first); second = omega (arith, d.second) }

  pub slight_entered : {r : Result (Option State) Kind} → Settled after r → Entered s v r
  slight_entered {r} t = entered_on s v u s x r a notes ex t

  pub slight_judged : Judged s v false (Ok tt)
  slight_judged p l h = by (dec_le 3 code)
    where
      by : Dec (3 ≤ code) → none ≡ broken p (context_of l s) (rule_at s.todo.node) v
      by (yes g) =
          let r = q.unkept (omega arith) in
          let w = q.allowed r in
          ap (λ (b : Bool). unless b (forbidden (level_of s.level))) (sym (range_in _ _ v w.0 w.1))
          ∙ judge_range p (context_of l s) (field_at s.todo.node) v r
      by (no g) = let r = lt_of_not-le g in judge_free p (context_of l s) (field_at s.todo.node) v (omega arith)

  pub slight_not : Away s
  slight_not = away_not s (kept_not 9 (omega arith) (omega arith))
