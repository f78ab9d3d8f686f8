-- The Q_DIR of packets: when one is due, and a step that is told whether its packet collides. Assumes nothing.
use Rattle.std.specs.Prelude.{Result, Option}
use mathlib.Core.Path.{◌≡◌, refl, sym, ◌∙◌}
use mathlib.Core.Bool.{Bool, true, false}
use mathlib.Core.List.{List}
use Prim.Native.Nat.{ℕ, ◌+◌}
use native.Mathlib.Omega.{arith}
use borrow.Author.Tests.{eq-eqb, ne_eqb}
use Rattle.format.specs.Fields.{Sense}
use Rattle.format.specs.Fields.Rule.{any, packet, user, direction, size, pig, total, radio, within}
use Rattle.format.specs.Fields.Sense.{plain, scale, distance, text_length}
use Rattle.format.specs.Rules.{Earlier, rule_of, step, clash, collides_among, collides_by, paper}
use Rattle.format.specs.Table.{field_at, code_of}
use Rattle.states.specs.Lookback.{is_packet, directs, repeats}
use Rattle.states.specs.Machine.{context_of, view, next_of, rule_at, earlier_after, Kept, Stepped}
use Rattle.states.specs.declared.Level.{Level}
use Rattle.states.specs.declared.Level.TheVariants.{Packet, User}
use Rattle.states.specs.declared.State.{State}
use Rattle.format.specs.declared.Kind.{Kind}

-- ---- when a packet's Q_DIR is due

-- the rule of no other code is that of Q_DIR
rule_code : (k : Sense) → rule_of k ≡ direction → code_of k ≡ 9
rule_code (plain any) e = let z : ◌≡◌ {A = ℕ} 0 1 = cc in absurd (omega arith)
rule_code (plain packet) e = let z : ◌≡◌ {A = ℕ} 0 1 = cc in absurd (omega arith)
rule_code (plain user) e = let z : ◌≡◌ {A = ℕ} 0 1 = cc in absurd (omega arith)
rule_code (plain direction) e = refl
rule_code (plain size) e = let z : ◌≡◌ {A = ℕ} 0 1 = cc in absurd (omega arith)
rule_code (plain pig) e = let z : ◌≡◌ {A = ℕ} 0 1 = cc in absurd (omega arith)
rule_code (plain total) e = let z : ◌≡◌ {A = ℕ} 0 1 = cc in absurd (omega arith)
rule_code (plain radio) e = let z : ◌≡◌ {A = ℕ} 0 1 = cc in absurd (omega arith)
rule_code (plain (within a b)) e = let z : ◌≡◌ {A = ℕ} 0 1 = cc in absurd (omega arith)
rule_code scale e = let z : ◌≡◌ {A = ℕ} 0 1 = cc in absurd (omega arith)
rule_code distance e = let z : ◌≡◌ {A = ℕ} 0 1 = cc in absurd (omega arith)
rule_code text_length e = let z : ◌≡◌ {A = ℕ} 0 1 = cc in absurd (omega arith)

-- no packet's Q_DIR is due
abbrev pub Away : State → Type 0
Away s = rule_at s.todo.node ≡ direction → s.level ≡ Packet → ⊥

module _ (s : State) where
  pub away_not : (code_of (field_at s.todo.node).sense ≡ 9 → ⊥) → Away s
  away_not n r l = n (rule_code (field_at s.todo.node).sense r)

  pub away_elsewhere : (s.level ≡ Packet → ⊥) → Away s
  away_elsewhere n r l = n l

  -- one is, where the rule of the field says so
  pub directs_so : rule_at s.todo.node ≡ direction → s.level ≡ Packet → directs s ≡ true
  directs_so r l = rw (eq-eqb _ 9 (rule_code (field_at s.todo.node).sense r), l)

  -- by the tests
  pub directs_not : (code_of (field_at s.todo.node).sense ≡ 9 → ⊥) → false ≡ directs s
  directs_not n = rw (ne_eqb _ 9 n)

  pub directs_by : code_of (field_at s.todo.node).sense ≡ 9 → {l : Level} → s.level ≡ l → is_packet l ≡ directs s
  directs_by c e = rw (eq-eqb _ 9 c, e)

pub not_user : (l : Level) → l ≡ User → l ≡ Packet → ⊥
not_user l a b = let z : ◌≡◌ {A = ℕ} 0 1 = cc in omega arith

-- whether its packet collides, by the test for that
module _ (s : State) (v : ℕ) (before : List Earlier) {d : Bool} (e : d ≡ directs s) where
  pub repeats_not : d ≡ false → false ≡ repeats s v before
  repeats_not n = let z : directs s ≡ false = sym e ∙ n in rw z

  pub repeats_by : d ≡ true → {r : Bool} → r ≡ collides_among clash s.id v before → r ≡ repeats s v before
  repeats_by n h = let z : directs s ≡ true = sym e ∙ n in rw z h

pub repeats_so : (s : State) (v : ℕ) (before : List Earlier) {r : Bool} → rule_at s.todo.node ≡ direction → s.level ≡ Packet → r ≡ repeats s v before
    → r ≡ collides_among clash s.id v before
repeats_so s v before k l e = let z = directs_so s k l in e ∙ rw z

-- ---- a driver's turn

-- one step of the rules from a state with these packets before
pub record Passed (l : List Earlier) (s : State) (v : ℕ) (r : Result (Option State) Kind) : Type 0 where
  pub right : step paper (view l s) v ≡ next_of (earlier_after l s v) r
  pub goes : Kept (s.at + (field_at s.todo.node).width) r

-- where twice says whether the packet collides, if its Q_DIR is due
pub passes : (l : List Earlier) (s : State) (v : ℕ) (twice : Bool) (r : Result (Option State) Kind)
    → (rule_at s.todo.node ≡ direction → s.level ≡ Packet → collides_by clash (context_of l s) v ≡ twice) → Stepped s v twice r → Passed l s v r
passes l s v twice r told o = record { right = o.right paper l told; goes = o.kept }
