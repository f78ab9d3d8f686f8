-- What the tests, the look and the runs come to is the group's message. Assumes nothing.
use Rattle.std.specs.Prelude.{Ok, Err, Result, ⊤}
use mathlib.Core.List.{List, [], ◌++◌, map}
use mathlib.Core.Option.{Option, some, none}
use mathlib.Core.Path.{◌≡◌, refl, sym, ap, ◌∙◌}
use Prim.Native.Nat.{ℕ, ◌+◌, ◌≤◌, min}
use native.Mathlib.Omega.{arith}
use lib.ListN.{length, drop}
use lib.Seq.{sets, sets-eq}
use Rattle.format.specs.Rules.{paper}
use Rattle.group.specs.declared.Cause.TheVariants.{Repeated}
use Rattle.group.specs.declared.Fault.{Fault}
use Rattle.group.specs.Groups.{Member, Message, collision, fault, uncollided, group, group_in, reply_of, over, Replied}
use Rattle.group.specs.Groups.Message.{lists, refuses}
use Rattle.group.specs.Walks.{Lineup, group_verdict, packets_of_all, last_test, judged_by}
use Rattle.group_laws.proofs.Judging.{group_judged, Ready, fine_ready}
use Rattle.group_laws.proofs.Enough.{lineup_most}
use Rattle.message.specs.Passing.{Stores, clash_of}
use Rattle.message.proofs.Colliding.{held}
use Rattle.message.proofs.Placing.{map_length}

module _ (s ns pigs numbers : List ℕ) (room : ℕ) (r : room ≡ min (length pigs) (length numbers)) where
  judged : (v : Result ⊤ Fault) → v ≡ group_verdict s ns room → group_in paper s ns pigs numbers ≡ judged_by v (last_test s ns)
  judged v e = ap (group paper s ns) (sym r) ∙ group_judged s ns room ∙ ap (λ (x : Result ⊤ Fault). judged_by x (last_test s ns)) (sym e)

  -- a refusal leaves both runs
  refused : (f : Fault) → group_in paper s ns pigs numbers ≡ refuses f → Replied paper s ns pigs numbers (Err f) pigs numbers
  refused f e = record {
    answers = sym (ap reply_of e);
    pigs_then = sym (ap (λ (m : Message). over (λ (x : Member). x.pig) m pigs) e);
    numbers_then = sym (ap (λ (m : Message). over (λ (x : Member). x.number) m numbers) e);
  }

  pub replied_faulty : (f : Fault) → Err f ≡ group_verdict s ns room → Replied paper s ns pigs numbers (Err f) pigs numbers
  replied_faulty f e = refused f (judged (Err f) e)

  module _ (e : (Ok tt) ≡ group_verdict s ns room) where
    ready : Ready s ns room
    ready = fine_ready s ns room e

    pub in_line : Lineup s ns
    in_line = ready.lineup

    pub runs_long : (264 ≤ length pigs) × (264 ≤ length numbers)
    runs_long = let h = ready.roomy in (omega (arith, r), omega (arith, r))

    pub replied_clash : (w a : ℕ) → Err (w, a) ≡ clash_of (collision [] (packets_of_all s ns)) → Replied paper s ns pigs numbers (Err (fault Repeated w a)) pigs numbers
    replied_clash w a c = refused (fault Repeated w a) (judged (Ok tt) e ∙ by_way (collision [] (packets_of_all s ns)) c)
      where
        by_way : (o : Option Member) → Err (w, a) ≡ clash_of o → uncollided (packets_of_all s ns) o ≡ refuses (fault Repeated w a)
        by_way none q = let z : ◌≡◌ {A = ℕ} 0 1 = cc in absurd (omega arith)
        by_way (some m) q = ap (λ (x : ℕ × ℕ). refuses (fault Repeated x.0 x.1)) (sym (held (w, a) (m.pig, m.at) q))

    stored : (part : Member → ℕ) (l : List ℕ) → 264 ≤ length l → sets l 0 (map part (packets_of_all s ns)) ≡ map part (packets_of_all s ns) ++ drop (length (packets_of_all s ns)) l
    stored part l h =
        let m = lineup_most in_line in
        let c = map_length part (packets_of_all s ns) in
        let z : 0 + length (map part (packets_of_all s ns)) ≡ length (packets_of_all s ns) = omega arith in
        sets-eq (map part (packets_of_all s ns)) l 0 (omega arith) ∙ ap (λ (x : ℕ). map part (packets_of_all s ns) ++ drop x l) z

    pub replied_lists : Ok tt ≡ clash_of (collision [] (packets_of_all s ns)) → (n : ℕ) (p q : List ℕ) → Stores (packets_of_all s ns) pigs numbers n p q
        → Replied paper s ns pigs numbers (Ok n) p q
    replied_lists c n p q t =
        let i : group_in paper s ns pigs numbers ≡ lists (packets_of_all s ns) = judged (Ok tt) e ∙ by_way (collision [] (packets_of_all s ns)) c in
        let h = runs_long in
        record {
          answers = ap Ok t.answer ∙ sym (ap reply_of i);
          pigs_then = t.pigs_then ∙ stored (λ m. m.pig) pigs h.0 ∙ sym (ap (λ (m : Message). over (λ (x : Member). x.pig) m pigs) i);
          numbers_then = t.numbers_then ∙ stored (λ m. m.number) numbers h.1 ∙ sym (ap (λ (m : Message). over (λ (x : Member). x.number) m numbers) i);
        }
      where
        by_way : (o : Option Member) → Ok tt ≡ clash_of o → uncollided (packets_of_all s ns) o ≡ lists (packets_of_all s ns)
        by_way none w = refl
        by_way (some m) w = let z : ◌≡◌ {A = ℕ} 0 1 = cc in absurd (omega arith)
