-- "a refusal leaves everything as it was" and "it gives their count", of what is promised alone: what both runs hold after either answer. Assumes nothing.
use Rattle.std.specs.Prelude.{Ok, Err}
use mathlib.Core.List.{List, ◌++◌, map}
use mathlib.Core.Path.{◌≡◌, sym, ap, ◌∙◌}
use Prim.Native.Nat.{ℕ, min}
use native.Mathlib.Omega.{arith}
use lib.ListN.{length, drop}
use Rattle.format.specs.Rules.{Terms}
use Rattle.group.specs.declared.Fault.{Fault}
use Rattle.group.specs.Groups.{Member, Message, reply_of, over, group, group_in, Replied}
use Rattle.group.specs.Groups.Message.{lists, refuses}
use Rattle.group_laws.proofs.AnyOrder.{reply_lists}

-- a refusal is answered of a refusal alone
reply_refuses : (m : Message) (f : Fault) → Err f ≡ reply_of m → m ≡ refuses f
reply_refuses (lists ms) f e = let z : ◌≡◌ {A = ℕ} 0 1 = cc in absurd (omega arith)
reply_refuses (refuses g) f e = let i : f ≡ g = cc in ap refuses (sym i)

-- after a refusal: it is the group's, and both runs hold what they held
pub record Untouched (p : Terms) (s ns pigs numbers : List ℕ) (f : Fault) (pigs' numbers' : List ℕ) : Type 0 where
  pub answer : group p s ns (min (length pigs) (length numbers)) ≡ refuses f
  pub pigs_kept : pigs' ≡ pigs
  pub numbers_kept : numbers' ≡ numbers

-- after a count: the group's packets stand in front, by N_PIG in the one run and by number in the other, and behind them what stood there
pub record Filled (p : Terms) (s ns pigs numbers : List ℕ) (c : ℕ) (pigs' numbers' : List ℕ) : Type 0 where
  pub packets : List Member
  pub answer : group p s ns (min (length pigs) (length numbers)) ≡ lists packets
  pub count : c ≡ length packets
  pub pigs_then : pigs' ≡ map (λ m. m.pig) packets ++ drop c pigs
  pub numbers_then : numbers' ≡ map (λ m. m.number) packets ++ drop c numbers

module _ {p : Terms} {s ns pigs numbers pigs' numbers' : List ℕ} where
  pub left_untouched : (f : Fault) → Replied p s ns pigs numbers (Err f) pigs' numbers' → Untouched p s ns pigs numbers f pigs' numbers'
  left_untouched f r =
      let e = reply_refuses (group_in p s ns pigs numbers) f r.answers in
      record {
        answer = e;
        pigs_kept = r.pigs_then ∙ ap (λ (x : Message). over (λ m. m.pig) x pigs) e;
        numbers_kept = r.numbers_then ∙ ap (λ (x : Message). over (λ m. m.number) x numbers) e;
      }

  pub left_filled : (c : ℕ) → Replied p s ns pigs numbers (Ok c) pigs' numbers' → Filled p s ns pigs numbers c pigs' numbers'
  left_filled c r =
      let l = reply_lists (group_in p s ns pigs numbers) c (sym r.answers) in
      let ms = l.0 in
      let n : c ≡ length ms = let q = r.answers ∙ ap reply_of l.1 in cc in
      record {
        packets = ms;
        answer = l.1;
        count = n;
        pigs_then = r.pigs_then ∙ ap (λ (x : Message). over (λ m. m.pig) x pigs) l.1 ∙ ap (λ (x : ℕ). map (λ m. m.pig) ms ++ drop x pigs) (sym n);
        numbers_then = r.numbers_then ∙ ap (λ (x : Message). over (λ m. m.number) x numbers) l.1 ∙ ap (λ (x : ℕ). map (λ m. m.number) ms ++ drop x numbers) (sym n);
      }
