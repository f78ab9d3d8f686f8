-- A group is accepted just where each test in turn is passed, and then the answer is the packets of the balises that count. Assumes nothing.
use mathlib.Core.Bool.{Bool, true, false, cond}
use mathlib.Core.List.{List, []}
use mathlib.Core.Option.{Option, some, none}
use mathlib.Core.Path.{◌≡◌, refl, sym, ap, ◌∙◌}
use Prim.Native.Nat.{ℕ, ◌≤◌}
use native.Mathlib.Omega.{arith}
use borrow.Author.Tests.{leb-true, le-leb}
use lib.Dec.{leb}
use lib.ListN.{length}
use Rattle.format.specs.Rules.{Terms}
use Rattle.format.specs.Telegrams.{Entry}
use Rattle.group.specs.declared.Cause.TheVariants.{Room, Identity, Counters}
use Rattle.group.specs.declared.Fault.{Fault}
use Rattle.group.specs.Groups.{Arrived, arrived, parts, grouped, in_order, counted, miscopied, counting, listed, Member, collision, uncollided, uncopied, lined, message, judged, fault, group}
use Rattle.group.specs.Groups.Arrived.{all, stops}
use Rattle.group.specs.Groups.Message.{lists, refuses}

abbrev pub Telegrams : Type 0
Telegrams = List (List Entry)

-- the telegrams by their N_PIG
abbrev pub line_from : Telegrams → Telegrams
line_from ts = in_order 0 (length ts) ts

-- what telegrams pass whose packets are these: 21, 22, 23 and 10
pub record Gives (ts : Telegrams) (ms : List Member) : Type 0 where
  pub whole : grouped ts ≡ true
  pub counters : counted (line_from ts) ≡ true
  pub copies : miscopied 0 none (line_from ts) ≡ none
  pub packets : ms ≡ listed (counting 0 none (line_from ts))
  pub apart : collision [] ms ≡ none

-- and what a group passes before: room, and each of its telegrams is accepted
pub record Passes (p : Terms) (s ns : List ℕ) (room : ℕ) (ms : List Member) : Type 0 where
  pub roomy : 264 ≤ room
  pub telegrams : Telegrams
  pub arrives : arrived p 0 (parts s ns) ≡ all telegrams
  pub gives : Gives telegrams ms

-- a list is no refusal
pub no_refusal : {A : Type 0} (f : Fault) (ms : List Member) → refuses f ≡ lists ms → A
no_refusal f ms e = let z : ◌≡◌ {A = ℕ} 0 1 = cc in absurd (omega arith)

pub same_lists : (ms ls : List Member) → lists ms ≡ lists ls → ms ≡ ls
same_lists ms ls e = cc

module _ (ts : Telegrams) (ms : List Member) where
  pub message_gives : message ts ≡ lists ms → Gives ts ms
  unfolding message lined
  message_gives h = by_group (grouped ts) refl h
    where
      by_last : grouped ts ≡ true → counted (line_from ts) ≡ true → miscopied 0 none (line_from ts) ≡ none → (o : Option Member)
          → collision [] (listed (counting 0 none (line_from ts))) ≡ o → uncollided (listed (counting 0 none (line_from ts))) o ≡ lists ms → Gives ts ms
      by_last a b c none e g =
          let i : listed (counting 0 none (line_from ts)) ≡ ms = same_lists (listed (counting 0 none (line_from ts))) ms g in
          record { whole = a; counters = b; copies = c; packets = sym i; apart = ap (collision []) (sym i) ∙ e }
      by_last a b c (some m) e g = no_refusal _ ms g

      by_copies : grouped ts ≡ true → counted (line_from ts) ≡ true → (o : Option ℕ) → miscopied 0 none (line_from ts) ≡ o → uncopied (line_from ts) o ≡ lists ms → Gives ts ms
      by_copies a b none e g = by_last a b e (collision [] (listed (counting 0 none (line_from ts)))) refl g
      by_copies a b (some k) e g = no_refusal _ ms g

      by_counters : grouped ts ≡ true → (b : Bool) → counted (line_from ts) ≡ b
          → cond b (uncopied (line_from ts) (miscopied 0 none (line_from ts))) (refuses (fault Counters 0 0)) ≡ lists ms → Gives ts ms
      by_counters a true e g = by_copies a e (miscopied 0 none (line_from ts)) refl g
      by_counters a false e g = no_refusal _ ms g

      by_group : (b : Bool) → grouped ts ≡ b → cond b (lined (line_from ts)) (refuses (fault Identity 0 0)) ≡ lists ms → Gives ts ms
      by_group true e g = by_counters e (counted (line_from ts)) refl g
      by_group false e g = no_refusal _ ms g

  pub gives_message : Gives ts ms → message ts ≡ lists ms
  unfolding message lined
  gives_message g = rw (g.whole, g.counters, g.copies, ← g.packets, g.apart)

module _ (p : Terms) (s ns : List ℕ) (room : ℕ) (ms : List Member) where
  pub group_passes : group p s ns room ≡ lists ms → Passes p s ns room ms
  unfolding group
  group_passes h = by_room (leb 264 room) refl h
    where
      by_arrival : 264 ≤ room → (a : Arrived) → arrived p 0 (parts s ns) ≡ a → judged a ≡ lists ms → Passes p s ns room ms
      by_arrival r (all ts) e g = record { roomy = r; telegrams = ts; arrives = e; gives = message_gives ts ms g }
      by_arrival r (stops i q) e g = no_refusal _ ms g

      by_room : (b : Bool) → leb 264 room ≡ b → cond b (judged (arrived p 0 (parts s ns))) (refuses (fault Room 0 0)) ≡ lists ms → Passes p s ns room ms
      by_room true e g = by_arrival (leb-true 264 room e) (arrived p 0 (parts s ns)) refl g
      by_room false e g = no_refusal _ ms g

  pub passes_group : Passes p s ns room ms → group p s ns room ≡ lists ms
  unfolding group
  passes_group g = rw (le-leb 264 room g.roomy, g.arrives) (gives_message g.telegrams ms g.gives)
