-- "The order of arrival changes neither acceptance nor an accepted group's answer", of what is promised alone: two calls with the same telegrams in any order. Assumes nothing.
use Rattle.std.specs.Prelude.{Ok}
use mathlib.Core.List.{List}
use mathlib.Core.List.Permᴰ
use mathlib.Core.List.{Permᴰ}
use mathlib.Core.Logic.{◌↔◌}
use mathlib.Core.Path.{◌≡◌, refl, sym, ap, ◌∙◌, subst}
use Prim.Native.Nat.{ℕ, min}
use native.Mathlib.Omega.{arith}
use lib.ListN.{length}
use Rattle.format.specs.Rules.{Terms}
use Rattle.group.specs.Groups.{Part, Member, Message, parts, reply_of, over, group_in, Replied}
use Rattle.group.specs.Groups.Message.{lists, refuses}
use Rattle.group_laws.proofs.Arrival.{order_of_arrival}
use Rattle.group_laws.proofs.Joined.{buffer, sizes, Exact, parts_joined}
use Rattle.group.specs.Replies.{Reply}

-- a count is given of a list alone
pub reply_lists : (m : Message) (c : ℕ) → reply_of m ≡ Ok c → (ms : List Member) × (m ≡ lists ms)
reply_lists (lists ms) c e = (ms, refl)
reply_lists (refuses f) c e = let z : ◌≡◌ {A = ℕ} 0 1 = cc in absurd (omega arith)

-- what two calls leave is the same: the answer, and both runs
pub record Same (r r' : Reply) (a b a' b' : List ℕ) : Type 0 where
  pub answer : r ≡ r'
  pub pigs : a ≡ a'
  pub numbers : b ≡ b'

module _ {p : Terms} {s ns s' ns' pigs numbers : List ℕ} {r r' : Reply} {a b a' b' : List ℕ} (one : Replied p s ns pigs numbers r a b)
    (other : Replied p s' ns' pigs numbers r' a' b') (d : Permᴰ (parts s ns) (parts s' ns')) where
  -- "nor an accepted group's answer"
  pub same_answer : (c : ℕ) → r ≡ Ok c → Same r r' a b a' b'
  same_answer c h =
      let l = reply_lists (group_in p s ns pigs numbers) c (sym one.answers ∙ h) in
      let m = order_of_arrival p s s' ns ns' (min (length pigs) (length numbers)) l.0 d l.1 in
      let i : group_in p s ns pigs numbers ≡ group_in p s' ns' pigs numbers = l.1 ∙ sym m in
      record {
        answer = one.answers ∙ ap reply_of i ∙ sym other.answers;
        pigs = one.pigs_then ∙ ap (λ (x : Message). over (λ m. m.pig) x pigs) i ∙ sym other.pigs_then;
        numbers = one.numbers_then ∙ ap (λ (x : Message). over (λ m. m.number) x numbers) i ∙ sym other.numbers_then;
      }

module _ {p : Terms} {s ns s' ns' pigs numbers : List ℕ} {r r' : Reply} {a b a' b' : List ℕ} (one : Replied p s ns pigs numbers r a b)
    (other : Replied p s' ns' pigs numbers r' a' b') (d : Permᴰ (parts s ns) (parts s' ns')) where
  -- "changes neither acceptance": the one is accepted just where the other is
  pub same_acceptance : (c : ℕ) → (r ≡ Ok c) ↔ (r' ≡ Ok c)
  same_acceptance c = (λ h. sym (same_answer one other d c h).answer ∙ h, λ h. sym (same_answer other one (Permᴰ.symm d) c h).answer ∙ h)

-- of telegrams put one after the other into a buffer, in two orders
module _ {p : Terms} {pigs numbers : List ℕ} {r r' : Reply} {a b a' b' : List ℕ} (xs ys : List Part) (e : Exact xs) (f : Exact ys)
    (one : Replied p (buffer xs) (sizes xs) pigs numbers r a b) (other : Replied p (buffer ys) (sizes ys) pigs numbers r' a' b') (d : Permᴰ xs ys) where
  ordered : Permᴰ (parts (buffer xs) (sizes xs)) (parts (buffer ys) (sizes ys))
  ordered = subst (λ z. Permᴰ z (parts (buffer ys) (sizes ys))) (sym (parts_joined xs e)) (subst (λ z. Permᴰ xs z) (sym (parts_joined ys f)) d)

  pub put_acceptance : (c : ℕ) → (r ≡ Ok c) ↔ (r' ≡ Ok c)
  put_acceptance c = same_acceptance one other ordered c

  pub put_answer : (c : ℕ) → r ≡ Ok c → Same r r' a b a' b'
  put_answer c h = same_answer one other ordered c h
