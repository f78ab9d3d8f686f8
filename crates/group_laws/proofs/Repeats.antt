-- "and rule 3) then holds over the group .. then 10": a group that passes all other tests is refused just where two packets that count are of one kind but ETCS-44 and a train gets both, at the first that repeats one. Assumes nothing.
use mathlib.Core.Bool.{Bool, true, false, cond}
use mathlib.Core.List.{List, []}
use mathlib.Core.Logic.{◌↔◌}
use mathlib.Core.Option.{Option, some, none}
use mathlib.Core.Path.{◌≡◌, refl, sym, ap, ◌∙◌}
use Prim.Native.Nat.{ℕ, ◌≤◌}
use native.Mathlib.Omega.{arith}
use borrow.Author.Tests.{leb-true, le-leb}
use lib.Dec.{leb}
use Rattle.format.specs.Rules.{Terms}
use Rattle.laws.proofs.EachWay.{telegram_small}
use Rattle.group.specs.declared.Cause.{Cause}
use Rattle.group.specs.declared.Cause.TheVariants.{Room, Single, Identity, Counters, Copied, Repeated}
use Rattle.group.specs.declared.Fault.{Fault}
use Rattle.group.specs.Groups.{Member, Arrived, arrived, parts, grouped, counted, miscopied, counting, listed, collision, uncollided, uncopied, lined, message, judged, fault, group}
use Rattle.group.specs.Groups.Arrived.{all, stops}
use Rattle.group.specs.Groups.Message.{lists, refuses}
use Rattle.group_laws.proofs.Sorting.{listed_sorted}
use Rattle.group_laws.proofs.Passing.{Telegrams, line_from, no_refusal}
use Rattle.group_laws.proofs.Enough.{arrived_telegrams}
use Rattle.group_laws.proofs.InLine.{telegram_in_lem}
use Rattle.group_laws.proofs.Answer.{Answered, line_every, line_only}
use Rattle.group_laws.proofs.Meeting.{NoneMeet, FirstMeets, Small, no_meeting, no_test, first_of_test, test_at_first}

-- ---- of a group

-- the packets that count
abbrev pub packets_in : Telegrams → List Member
packets_in ts = listed (counting 0 none (line_from ts))

-- all tests but the last are passed
pub record Tested (p : Terms) (s ns : List ℕ) (room : ℕ) (ts : Telegrams) : Type 0 where
  pub roomy : 264 ≤ room
  pub arrives : arrived p 0 (parts s ns) ≡ all ts
  pub whole : grouped ts ≡ true
  pub counters : counted (line_from ts) ≡ true
  pub copies : miscopied 0 none (line_from ts) ≡ none

module _ {p : Terms} {s ns : List ℕ} {room : ℕ} {ts : Telegrams} (t : Tested p s ns room ts) where
  -- the packets that count are those of the answer in words, also where 10 refuses it
  pub tested_answered : Answered ts (packets_in ts)
  tested_answered =
      let h = arrived_telegrams p 0 (parts s ns) ts t.arrives in
      record { every = line_every p ts h t.whole; only = line_only p ts h t.whole; sorted = listed_sorted 0 none (line_from ts) }

  pub tested_small : Small (packets_in ts)
  tested_small m i =
      let d = tested_answered.only m i in
      let l = telegram_small (telegram_in_lem p ts d.telegram (arrived_telegrams p 0 (parts s ns) ts t.arrives) d.came) d.packet in
      let e = ap (λ (x : Member). x.dir) d.is in
      omega arith

  last_test : group p s ns room ≡ uncollided (packets_in ts) (collision [] (packets_in ts))
  unfolding group message lined
  last_test = rw (le-leb 264 room t.roomy, t.arrives, t.whole, t.counters, t.copies)

  -- "then 10": refused at the first packet that meets one before it, with its balise's N_PIG and the bit where its Q_DIR begins
  pub tested_refused : (m : Member) → FirstMeets (packets_in ts) m → group p s ns room ≡ refuses (fault Repeated m.pig m.at)
  tested_refused m f = last_test ∙ ap (uncollided (packets_in ts)) (test_at_first (packets_in ts) tested_small m f)

  -- accepted just where no two packets meet
  pub tested_accepted : ((ms : List Member) × (group p s ns room ≡ lists ms)) ↔ NoneMeet (packets_in ts)
  tested_accepted = (λ a. by_test (collision [] (packets_in ts)) refl a.0 (sym last_test ∙ a.1), λ n. (packets_in ts, last_test ∙ ap (uncollided (packets_in ts)) (no_test (packets_in ts) tested_small n)))
    where
      by_test : (o : Option Member) → collision [] (packets_in ts) ≡ o → (ms : List Member) → uncollided (packets_in ts) (collision [] (packets_in ts)) ≡ lists ms → NoneMeet (packets_in ts)
      by_test none e ms g = no_meeting (packets_in ts) e
      by_test (some m) e ms g = no_refusal _ ms (rw e at g)

-- ---- and a 10 over the group is nothing else

pub record Repeating (p : Terms) (s ns : List ℕ) (room : ℕ) (f : Fault) : Type 0 where
  pub telegrams : Telegrams
  pub tested : Tested p s ns room telegrams
  pub packet : Member
  pub first : FirstMeets (packets_in telegrams) packet
  pub is : f ≡ fault Repeated packet.pig packet.at

same_fault : (f g : Fault) → refuses f ≡ refuses g → f ≡ g
same_fault f g e = cc

abbrev at_last : Cause → Bool
at_last Room = false
at_last (Single k) = false
at_last Identity = false
at_last Counters = false
at_last Copied = false
at_last Repeated = true

module _ (p : Terms) (s ns : List ℕ) (room : ℕ) (f : Fault) where
  pub repeating : group p s ns room ≡ refuses f → f.cause ≡ Repeated → Repeating p s ns room f
  unfolding group message lined
  repeating h c = by_room (leb 264 room) refl h
    where
      other : {g : Fault} → at_last g.cause ≡ false → refuses g ≡ refuses f → ⊥
      other {g} n e =
          let z : true ≡ false = sym (ap at_last (ap (λ (x : Fault). x.cause) (same_fault g f e) ∙ c)) ∙ n in
          let one : ◌≡◌ {A = ℕ} 0 1 = cc in
          omega arith

      by_last : (ts : Telegrams) → Tested p s ns room ts → (o : Option Member) → collision [] (packets_in ts) ≡ o → uncollided (packets_in ts) o ≡ refuses f → Repeating p s ns room f
      by_last ts t none e g = let z : ◌≡◌ {A = ℕ} 0 1 = cc in absurd (omega arith)
      by_last ts t (some m) e g =
          record { telegrams = ts; tested = t; packet = m; first = first_of_test (packets_in ts) (tested_small t) m e; is = sym (same_fault (fault Repeated m.pig m.at) f g) }

      by_copies : (ts : Telegrams) → 264 ≤ room → arrived p 0 (parts s ns) ≡ all ts → grouped ts ≡ true → counted (line_from ts) ≡ true
          → (o : Option ℕ) → miscopied 0 none (line_from ts) ≡ o → uncopied (line_from ts) o ≡ refuses f → Repeating p s ns room f
      by_copies ts r a w n none e g = by_last ts (record { roomy = r; arrives = a; whole = w; counters = n; copies = e }) (collision [] (packets_in ts)) refl g
      by_copies ts r a w n (some k) e g = absurd (other refl g)

      by_counters : (ts : Telegrams) → 264 ≤ room → arrived p 0 (parts s ns) ≡ all ts → grouped ts ≡ true → (b : Bool) → counted (line_from ts) ≡ b
          → cond b (uncopied (line_from ts) (miscopied 0 none (line_from ts))) (refuses (fault Counters 0 0)) ≡ refuses f → Repeating p s ns room f
      by_counters ts r a w true e g = by_copies ts r a w e (miscopied 0 none (line_from ts)) refl g
      by_counters ts r a w false e g = absurd (other refl g)

      by_group : (ts : Telegrams) → 264 ≤ room → arrived p 0 (parts s ns) ≡ all ts → (b : Bool) → grouped ts ≡ b
          → cond b (lined (line_from ts)) (refuses (fault Identity 0 0)) ≡ refuses f → Repeating p s ns room f
      by_group ts r a true e g = by_counters ts r a e (counted (line_from ts)) refl g
      by_group ts r a false e g = absurd (other refl g)

      by_arrival : 264 ≤ room → (a : Arrived) → arrived p 0 (parts s ns) ≡ a → judged a ≡ refuses f → Repeating p s ns room f
      by_arrival r (all ts) e g = by_group ts r e (grouped ts) refl g
      by_arrival r (stops i q) e g = absurd (other refl g)

      by_room : (b : Bool) → leb 264 room ≡ b → cond b (judged (arrived p 0 (parts s ns))) (refuses (fault Room 0 0)) ≡ refuses f → Repeating p s ns room f
      by_room true e g = by_arrival (leb-true 264 room e) (arrived p 0 (parts s ns)) refl g
      by_room false e g = absurd (other refl g)

-- and conversely
pub repeating_refused : {p : Terms} {s ns : List ℕ} {room : ℕ} {f : Fault} → Repeating p s ns room f → group p s ns room ≡ refuses f
repeating_refused r = tested_refused r.tested r.packet r.first ∙ ap refuses (sym r.is)
