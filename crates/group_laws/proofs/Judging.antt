-- What the tests of a group come to, one after the other. Assumes nothing.
use Rattle.std.specs.Prelude.{Err, Some, None, Ok, Result, ⊤}
use mathlib.Core.Bool.{Bool, true, false, cond}
use mathlib.Core.List.{List, []}
use mathlib.Core.Option.{Option, some, none}
use mathlib.Core.Path.{◌≡◌, refl, sym, ap, ◌∙◌}
use Prim.Native.Nat.{ℕ, ◌≤◌, ◌<◌}
use native.Mathlib.Omega.{arith}
use borrow.Author.Tests.{le-leb, lt-leb, leb-true}
use lib.Dec.{leb}
use lib.ListN.{length}
use Rattle.format.specs.Rules.{paper}
use Rattle.format.specs.Telegrams.{Entry}
use Rattle.format.specs.declared.Refusal.{Refusal}
use Rattle.group.specs.declared.Cause.TheVariants.{Room, Single, Identity, Counters, Copied}
use Rattle.group.specs.declared.Fault.{Fault}
use Rattle.group.specs.Groups.{Arrived, arrived, parts, grouped, counted, miscopied, in_order, Message, lined, message, listed, counting, collision, uncollided, uncopied, fault, group, judged}
use Rattle.group.specs.Groups.Arrived.{all, stops}
use Rattle.group.specs.Walks.{Arrives, Lineup, all_accepted, telegrams_of, those, line_of, came_of, found_of, copy_verdict, line_verdict, verdict_of, arrival_verdict, group_verdict, last_test, judged_by}

-- ---- the tests, as the functions make them

abbrev Telegrams : Type 0
Telegrams = List (List Entry)

module _ (s ns : List ℕ) where
  abbrev ts : Telegrams
  ts = telegrams_of s ns

  pub verdict_identity : false ≡ grouped ts → Err (fault Identity 0 0) ≡ verdict_of ts
  verdict_identity h = rw (← h)

  pub verdict_counters : true ≡ grouped ts → false ≡ counted (line_of s ns) → Err (fault Counters 0 0) ≡ verdict_of ts
  verdict_counters h k = rw (← h, ← k)

  pub verdict_copied : true ≡ grouped ts → true ≡ counted (line_of s ns) → (j : ℕ) → Some j ≡ found_of (miscopied 0 none (line_of s ns)) → Err (fault Copied j 0) ≡ verdict_of ts
  verdict_copied h k j e = rw (← h, ← k) (by_way (miscopied 0 none (line_of s ns)) e)
    where
      by_way : (o : Option ℕ) → Some j ≡ found_of o → Err (fault Copied j 0) ≡ copy_verdict o
      by_way (some i) f = let q : j ≡ i = cc in rw q
      by_way none f = let z : ◌≡◌ {A = ℕ} 0 1 = cc in absurd (omega arith)

  pub verdict_fine : true ≡ grouped ts → true ≡ counted (line_of s ns) → None ≡ found_of (miscopied 0 none (line_of s ns)) → (Ok tt) ≡ verdict_of ts
  verdict_fine h k e = rw (← h, ← k) (by_way (miscopied 0 none (line_of s ns)) e)
    where
      by_way : (o : Option ℕ) → None ≡ found_of o → (Ok tt) ≡ copy_verdict o
      by_way (some i) f = let z : ◌≡◌ {A = ℕ} 0 1 = cc in absurd (omega arith)
      by_way none f = refl

  -- a test for telegrams that are all accepted, and for those that stand in line
  pub arrives_of : all_accepted (arrived paper 0 (parts s ns)) ≡ true → Arrives s ns
  unfolding telegrams_of
  arrives_of h = record { goes = by_way (arrived paper 0 (parts s ns)) h }
    where
      by_way : (x : Arrived) → all_accepted x ≡ true → x ≡ all (those x)
      by_way (all ts) f = refl
      by_way (stops j q) f = let z : ◌≡◌ {A = ℕ} 0 1 = cc in absurd (omega arith)

  pub lineup_of : all_accepted (arrived paper 0 (parts s ns)) ≡ true → grouped ts ≡ true → Lineup s ns
  lineup_of h k = record { arrives = arrives_of h; whole = k }

  pub line_up : Arrives s ns → true ≡ grouped ts → Lineup s ns
  line_up a h = record { arrives = a; whole = sym h }

-- what two equal refusals hold is equal
held : (x y : ℕ × Refusal) → ◌≡◌ {A = Result ⊤ (ℕ × Refusal)} (Err x) (Err y) → x ≡ y
held x y e = cc

module _ (s ns : List ℕ) (room : ℕ) where
  pub verdict_room : room < 264 → Err (fault Room 0 0) ≡ group_verdict s ns room
  verdict_room h = rw (lt-leb 264 room h)

  pub verdict_single : 264 ≤ room → (i : ℕ) (r : Refusal) → Err (i, r) ≡ came_of (arrived paper 0 (parts s ns)) → Err (fault (Single r.kind) i r.place) ≡ group_verdict s ns room
  verdict_single h i r e = rw (le-leb 264 room h) (by_way (arrived paper 0 (parts s ns)) e)
    where
      by_way : (x : Arrived) → Err (i, r) ≡ came_of x → Err (fault (Single r.kind) i r.place) ≡ arrival_verdict x
      by_way (all ts) f = let z : ◌≡◌ {A = ℕ} 0 1 = cc in absurd (omega arith)
      by_way (stops j q) f = ap (λ (x : ℕ × Refusal). Err (fault (Single x.1.kind) x.0 x.1.place)) (held (i, r) (j, q) f)

  pub verdict_arrived : 264 ≤ room → Arrives s ns → verdict_of (telegrams_of s ns) ≡ group_verdict s ns room
  verdict_arrived h a = rw (le-leb 264 room h, a.goes)

-- ---- what they say of the group

-- where they find no fault, the telegrams stand in line, and there is room
pub record Ready (s ns : List ℕ) (room : ℕ) : Type 0 where
  pub lineup : Lineup s ns
  pub roomy : 264 ≤ room

faulty_fine : {A : Type 0} (f : Fault) → ◌≡◌ {A = Result ⊤ Fault} (Err f) (Ok tt) → A
faulty_fine f e = let z : ◌≡◌ {A = ℕ} 0 1 = cc in absurd (omega arith)

module _ (s ns : List ℕ) (room : ℕ) where
  pub fine_ready : (Ok tt) ≡ group_verdict s ns room → Ready s ns room
  unfolding telegrams_of
  fine_ready h = by_room (leb 264 room) refl h
    where
      by_group : (ts : Telegrams) (b : Bool) → grouped ts ≡ b → (Ok tt) ≡ cond b (line_verdict (in_order 0 (length ts) ts)) (Err (fault Identity 0 0)) → grouped ts ≡ true
      by_group ts true e f = e
      by_group ts false e f = faulty_fine (fault Identity 0 0) (sym f)

      by_arrival : (a : Arrived) → arrived paper 0 (parts s ns) ≡ a → (Ok tt) ≡ arrival_verdict a → 264 ≤ room → Ready s ns room
      by_arrival (all ts) e f r =
          let i : those (arrived paper 0 (parts s ns)) ≡ ts = ap those e in
          record {
            lineup = record { arrives = record { goes = e ∙ ap all (sym i) }; whole = ap grouped i ∙ by_group ts (grouped ts) refl f };
            roomy = r;
          }
      by_arrival (stops j q) e f r = faulty_fine (fault (Single q.kind) j q.place) (sym f)

      by_room : (b : Bool) → leb 264 room ≡ b → (Ok tt) ≡ cond b (arrival_verdict (arrived paper 0 (parts s ns))) (Err (fault Room 0 0)) → Ready s ns room
      by_room true e f = by_arrival (arrived paper 0 (parts s ns)) refl f (leb-true 264 room e)
      by_room false e f = faulty_fine (fault Room 0 0) (sym f)

  -- and the group's message is the fault that they find, or what the last test says
  pub group_judged : group paper s ns room ≡ judged_by (group_verdict s ns room) (last_test s ns)
  unfolding group message lined telegrams_of
  group_judged = by_room (leb 264 room)
    where
      by_copies : (ts : Telegrams) (o : Option ℕ) → uncopied ts o ≡ judged_by (copy_verdict o) (uncollided (listed (counting 0 none ts)) (collision [] (listed (counting 0 none ts))))
      by_copies ts none = refl
      by_copies ts (some k) = refl

      last : Telegrams → Message
      last ts = uncollided (listed (counting 0 none ts)) (collision [] (listed (counting 0 none ts)))

      by_line : (ts : Telegrams) (b : Bool) → cond b (uncopied ts (miscopied 0 none ts)) (Message.refuses (fault Counters 0 0)) ≡ judged_by (cond b (copy_verdict (miscopied 0 none ts)) (Err (fault Counters 0 0))) (last ts)
      by_line ts true = by_copies ts (miscopied 0 none ts)
      by_line ts false = refl

      by_group : (ts : Telegrams) (b : Bool)
          → cond b (lined (in_order 0 (length ts) ts)) (Message.refuses (fault Identity 0 0))
          ≡ judged_by (cond b (line_verdict (in_order 0 (length ts) ts)) (Err (fault Identity 0 0))) (last (in_order 0 (length ts) ts))
      by_group ts true = by_line (in_order 0 (length ts) ts) (counted (in_order 0 (length ts) ts))
      by_group ts false = refl

      by_arrival : (a : Arrived) → judged a ≡ judged_by (arrival_verdict a) (last (in_order 0 (length (those a)) (those a)))
      by_arrival (all ts) = by_group ts (grouped ts)
      by_arrival (stops j q) = refl

      by_room : (b : Bool)
          → cond b (judged (arrived paper 0 (parts s ns))) (Message.refuses (fault Room 0 0))
          ≡ judged_by (cond b (arrival_verdict (arrived paper 0 (parts s ns))) (Err (fault Room 0 0))) (last_test s ns)
      by_room true = by_arrival (arrived paper 0 (parts s ns))
      by_room false = refl
