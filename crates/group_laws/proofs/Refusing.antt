-- "Refusals: 1 ..; the first refusal of a single telegram ..; 21 ..; 22 ..; 23 ..; then 10": each refusal of a group is given just where its rule, in the request's words, is the first that is broken, and a group is accepted just where none is. Assumes nothing.
use mathlib.Core.Bool.{Bool, true, false}
use mathlib.Core.List.{List, []}
use mathlib.Core.Logic.{◌↔◌}
use mathlib.Core.Option.{Option, some, none}
use mathlib.Core.Path.{◌≡◌, refl, sym, ap, ◌∙◌, subst}
use Prim.Native.Nat.{ℕ, ◌≤◌, ◌<◌}
use borrow.Author.Tests.{leb-true, leb-false, le-leb, lt-leb}
use lib.Dec.{leb}
use Rattle.format.specs.Rules.{Terms}
use Rattle.format.specs.Telegrams.{Entry}
use Rattle.format.specs.declared.Kind.{Kind}
use Rattle.format.specs.declared.Refusal.{Refusal}
use Rattle.group.specs.declared.Cause.{Cause}
use Rattle.group.specs.declared.Cause.TheVariants.{Room, Single, Identity, Counters, Copied, Repeated}
use Rattle.group.specs.declared.Fault.{Fault}
use Rattle.group.specs.Groups.{Member, Arrived, arrived, parts, grouped, counted, miscopied, collision, lined, message, fault, Message, group}
use Rattle.group.specs.Groups.Arrived.{all, stops}
use Rattle.group.specs.Groups.Message.{lists, refuses}
use Rattle.group_laws.proofs.Passing.{Telegrams, line_from, group_passes}
use Rattle.group_laws.proofs.Enough.{AllTelegrams, arrived_telegrams}
use Rattle.group_laws.proofs.Listing.{In}
use Rattle.group_laws.proofs.Singles.{FirstRefused, single_refused, refused_single}
use Rattle.group_laws.proofs.Meeting.{NoneMeet, FirstMeets, no_meeting, first_of_test}
use Rattle.group_laws.proofs.Repeats.{Tested, packets_in, tested_small, tested_accepted, repeating_refused}
use Rattle.group_laws.proofs.OneCounter.{OneCounter, group_counted}
use Rattle.group_laws.proofs.Misnamed.{Wrong, LowestWrong, two_tests, misnamed_at, misnamed_nowhere}
use Rattle.group_laws.proofs.OneGroup.{OneGroup, grouped_one}

-- ---- in words

-- there is room, and these are the telegrams, each accepted
pub record Read (p : Terms) (s ns : List ℕ) (room : ℕ) (ts : Telegrams) : Type 0 where
  pub roomy : 264 ≤ room
  pub arrives : arrived p 0 (parts s ns) ≡ all ts

-- no M_DUP names no balise or one with other packets
abbrev pub NoneWrong : Telegrams → Type 0
NoneWrong ts = (t : List Entry) → In t ts → Wrong ts t → ⊥

-- a single telegram: this is the first that is refused, and for this
pub record BreaksSingle (p : Terms) (s ns : List ℕ) (room : ℕ) (k : Kind) (which place : ℕ) : Type 0 where
  pub roomy : 264 ≤ room
  pub refusal : Refusal
  pub breaks : FirstRefused p (parts s ns) which refusal
  pub of_kind : refusal.kind ≡ k
  pub at_bit : refusal.place ≡ place

-- 21: they are not one group
pub record Breaks21 (p : Terms) (s ns : List ℕ) (room : ℕ) : Type 0 where
  pub telegrams : Telegrams
  pub reads : Read p s ns room telegrams
  pub breaks : OneGroup telegrams → ⊥

-- 22: they are, but not of one counter
pub record Breaks22 (p : Terms) (s ns : List ℕ) (room : ℕ) : Type 0 where
  pub telegrams : Telegrams
  pub reads : Read p s ns room telegrams
  pub group : OneGroup telegrams
  pub breaks : OneCounter telegrams → ⊥

-- 23: of one counter too, but this is the lowest N_PIG of one whose M_DUP names no balise or one with other packets
pub record Breaks23 (p : Terms) (s ns : List ℕ) (room k : ℕ) : Type 0 where
  pub telegrams : Telegrams
  pub reads : Read p s ns room telegrams
  pub group : OneGroup telegrams
  pub counter : OneCounter telegrams
  pub breaks : LowestWrong telegrams k

-- and none of these is broken
pub record Keeps (p : Terms) (s ns : List ℕ) (room : ℕ) (ts : Telegrams) : Type 0 where
  pub reads : Read p s ns room ts
  pub group : OneGroup ts
  pub counter : OneCounter ts
  pub named : NoneWrong ts

-- 10: but this is the first packet that counts and meets one before it, in the balise with this N_PIG, and its Q_DIR begins at this bit
pub record Breaks10 (p : Terms) (s ns : List ℕ) (room pig at : ℕ) : Type 0 where
  pub telegrams : Telegrams
  pub keeps : Keeps p s ns room telegrams
  pub packet : Member
  pub breaks : FirstMeets (packets_in telegrams) packet
  pub in_balise : pig ≡ packet.pig
  pub at_bit : at ≡ packet.at

-- nothing is broken: these are the packets that count, and no two of them meet
pub record BreaksNone (p : Terms) (s ns : List ℕ) (room : ℕ) (ms : List Member) : Type 0 where
  pub telegrams : Telegrams
  pub keeps : Keeps p s ns room telegrams
  pub packets : ms ≡ packets_in telegrams
  pub apart : NoneMeet ms

-- what is broken first where this is the answer
abbrev pub Broken : Terms → List ℕ → List ℕ → ℕ → Cause → ℕ → ℕ → Type 0
Broken p s ns room Room w a = room < 264
Broken p s ns room (Single k) w a = BreaksSingle p s ns room k w a
Broken p s ns room Identity w a = Breaks21 p s ns room
Broken p s ns room Counters w a = Breaks22 p s ns room
Broken p s ns room Copied w a = Breaks23 p s ns room w
Broken p s ns room Repeated w a = Breaks10 p s ns room w a

abbrev pub Due : Terms → List ℕ → List ℕ → ℕ → Message → Type 0
Due p s ns room (lists ms) = BreaksNone p s ns room ms
Due p s ns room (refuses f) = Broken p s ns room f.cause f.which f.place

-- ---- from words to the tests and back

not_passed : (b : Bool) → (b ≡ true → ⊥) → b ≡ false
not_passed true n = absurd (n refl)
not_passed false n = refl

same_kind : {k l : Kind} → Single k ≡ Single l → l ≡ k
same_kind e = cc

same_telegrams : {ts us : Telegrams} → all ts ≡ all us → ts ≡ us
same_telegrams e = cc

module _ {p : Terms} {s ns : List ℕ} {room : ℕ} {ts : Telegrams} where
  read_telegrams : Read p s ns room ts → AllTelegrams p ts
  read_telegrams r = arrived_telegrams p 0 (parts s ns) ts r.arrives

  read_message : Read p s ns room ts → group p s ns room ≡ message ts
  unfolding group
  read_message r = rw (le-leb 264 room r.roomy, r.arrives)

  pub keeps_tested : Keeps p s ns room ts → Tested p s ns room ts
  keeps_tested k =
      let h = read_telegrams k.reads in
      let g = (grouped_one ts).1 k.group in
      record {
        roomy = k.reads.roomy;
        arrives = k.reads.arrives;
        whole = g;
        counters = (group_counted p ts h g).1 k.counter;
        copies = (misnamed_nowhere p ts h g).1 k.named;
      }

  pub tested_keeps : Tested p s ns room ts → Keeps p s ns room ts
  tested_keeps t =
      let r : Read p s ns room ts = record { roomy = t.roomy; arrives = t.arrives } in
      let h = read_telegrams r in
      let g = t.whole in
      record {
        reads = r;
        group = (grouped_one ts).0 g;
        counter = (group_counted p ts h g).0 t.counters;
        named = (misnamed_nowhere p ts h g).0 t.copies;
      }

module _ (p : Terms) (s ns : List ℕ) (room : ℕ) where
  -- ---- a broken rule is refused

  refused_1 : room < 264 → group p s ns room ≡ refuses (fault Room 0 0)
  unfolding group
  refused_1 h = rw (lt-leb 264 room h)

  refused_one : (k : Kind) (i a : ℕ) → BreaksSingle p s ns room k i a → group p s ns room ≡ refuses (fault (Single k) i a)
  refused_one k i a b =
      single_refused p s ns room b.roomy i b.refusal b.breaks ∙ ap refuses (ap (λ (x : Kind). fault (Single x) i b.refusal.place) b.of_kind ∙ ap (fault (Single k) i) b.at_bit)

  one_refused : (k : Kind) (i a : ℕ) → group p s ns room ≡ refuses (fault (Single k) i a) → BreaksSingle p s ns room k i a
  one_refused k i a h =
      let d = refused_single p s ns room (fault (Single k) i a) k h refl in
      let r = d.1.0 in
      record { roomy = d.0; refusal = r; breaks = d.1.1.1; of_kind = same_kind (ap (λ (x : Fault). x.cause) d.1.1.0); at_bit = sym (ap (λ (x : Fault). x.place) d.1.1.0) }

  stopped : (i : ℕ) (r : Refusal) → 264 ≤ room → arrived p 0 (parts s ns) ≡ stops i r → group p s ns room ≡ refuses (fault (Single r.kind) i r.place)
  unfolding group
  stopped i r h e = rw (le-leb 264 room h, e)

  refused_21 : Breaks21 p s ns room → group p s ns room ≡ refuses (fault Identity 0 0)
  unfolding message
  refused_21 b =
      let ts = b.telegrams in
      read_message b.reads ∙ rw (not_passed (grouped ts) (λ e. b.breaks ((grouped_one ts).0 e)))

  refused_22 : Breaks22 p s ns room → group p s ns room ≡ refuses (fault Counters 0 0)
  unfolding message lined
  refused_22 b =
      let ts = b.telegrams in
      let g = (grouped_one ts).1 b.group in
      let c = not_passed (counted (line_from ts)) (λ e. b.breaks ((group_counted p ts (read_telegrams b.reads) g).0 e)) in
      read_message b.reads ∙ rw (g, c)

  refused_23 : (k : ℕ) → Breaks23 p s ns room k → group p s ns room ≡ refuses (fault Copied k 0)
  unfolding message lined
  refused_23 k b =
      let ts = b.telegrams in
      let h = read_telegrams b.reads in
      let g = (grouped_one ts).1 b.group in
      read_message b.reads ∙ rw (g, (group_counted p ts h g).1 b.counter, (misnamed_at p ts h g k).1 b.breaks)

  refused_10 : (pig at : ℕ) → Breaks10 p s ns room pig at → group p s ns room ≡ refuses (fault Repeated pig at)
  refused_10 pig at b =
      repeating_refused (record { telegrams = b.telegrams; tested = keeps_tested b.keeps; packet = b.packet; first = b.breaks; is = rw (b.in_balise, b.at_bit) })

  accepted_none : (ms : List Member) → BreaksNone p s ns room ms → group p s ns room ≡ lists ms
  accepted_none ms b =
      let t = keeps_tested b.keeps in
      let a = (tested_accepted t).1 (subst NoneMeet b.packets b.apart) in
      let w = group_passes p s ns room a.0 a.1 in
      let i = same_telegrams (sym w.arrives ∙ t.arrives) in
      a.1 ∙ ap lists (w.gives.packets ∙ ap packets_in i ∙ sym b.packets)

  -- ---- whatever is answered, just that is broken first, or nothing is

  pub due : Due p s ns room (group p s ns room)
  due = by_room (leb 264 room) refl
    where
      Here : Message → Type 0
      Here = Due p s ns room

      by_last : (ts : Telegrams) → Tested p s ns room ts → (o : Option Member) → collision [] (packets_in ts) ≡ o → Here (group p s ns room)
      by_last ts t none e =
          let b : BreaksNone p s ns room (packets_in ts) = record { telegrams = ts; keeps = tested_keeps t; packets = refl; apart = no_meeting (packets_in ts) e } in
          subst Here (sym (accepted_none (packets_in ts) b)) b
      by_last ts t (some m) e =
          let b : Breaks10 p s ns room m.pig m.at =
          record { telegrams = ts; keeps = tested_keeps t; packet = m; breaks = first_of_test (packets_in ts) (tested_small t) m e; in_balise = refl; at_bit = refl } in
          subst Here (sym (refused_10 m.pig m.at b)) b

      by_copies : (ts : Telegrams) → Read p s ns room ts → grouped ts ≡ true → counted (line_from ts) ≡ true → (o : Option ℕ) → miscopied 0 none (line_from ts) ≡ o
          → Here (group p s ns room)
      by_copies ts r g c none e = by_last ts (record { roomy = r.roomy; arrives = r.arrives; whole = g; counters = c; copies = e }) (collision [] (packets_in ts)) refl
      by_copies ts r g c (some k) e =
          let h = read_telegrams r in
          let b : Breaks23 p s ns room k =
          record { telegrams = ts; reads = r; group = (grouped_one ts).0 g; counter = (group_counted p ts h g).0 c; breaks = (misnamed_at p ts h g k).0 e } in
          subst Here (sym (refused_23 k b)) b

      by_counters : (ts : Telegrams) → Read p s ns room ts → grouped ts ≡ true → (b : Bool) → counted (line_from ts) ≡ b → Here (group p s ns room)
      by_counters ts r g true e = by_copies ts r g e (miscopied 0 none (line_from ts)) refl
      by_counters ts r g false e =
          let b : Breaks22 p s ns room =
          record { telegrams = ts; reads = r; group = (grouped_one ts).0 g; breaks = λ o. two_tests (counted (line_from ts)) ((group_counted p ts (read_telegrams r) g).1 o) e } in
          subst Here (sym (refused_22 b)) b

      by_group : (ts : Telegrams) → Read p s ns room ts → (b : Bool) → grouped ts ≡ b → Here (group p s ns room)
      by_group ts r true e = by_counters ts r e (counted (line_from ts)) refl
      by_group ts r false e =
          let b : Breaks21 p s ns room = record { telegrams = ts; reads = r; breaks = λ o. two_tests (grouped ts) ((grouped_one ts).1 o) e } in
          subst Here (sym (refused_21 b)) b

      by_arrival : 264 ≤ room → (a : Arrived) → arrived p 0 (parts s ns) ≡ a → Here (group p s ns room)
      by_arrival r (all ts) e = by_group ts (record { roomy = r; arrives = e }) (grouped ts) refl
      by_arrival r (stops i q) e = let h = stopped i q r e in subst Here (sym h) (one_refused q.kind i q.place h)

      by_room : (b : Bool) → leb 264 room ≡ b → Here (group p s ns room)
      by_room true e = by_arrival (leb-true 264 room e) (arrived p 0 (parts s ns)) refl
      by_room false e = let h = leb-false 264 room e in subst Here (sym (refused_1 h)) h

  due_for : (m : Message) → group p s ns room ≡ m → Due p s ns room m
  due_for m h = subst (Due p s ns room) h due

  -- ---- just then

  -- "1 for room under 264 packets"
  pub refuses_1 : (group p s ns room ≡ refuses (fault Room 0 0)) ↔ (room < 264)
  refuses_1 = (due_for (refuses (fault Room 0 0)), refused_1)

  -- "the first refusal of a single telegram in arrival order, with its arrival number from 0"
  pub refuses_single : (k : Kind) (which place : ℕ) → (group p s ns room ≡ refuses (fault (Single k) which place)) ↔ BreaksSingle p s ns room k which place
  refuses_single k i a = (one_refused k i a, refused_one k i a)

  -- "21 identity or positions"
  pub refuses_21 : (group p s ns room ≡ refuses (fault Identity 0 0)) ↔ Breaks21 p s ns room
  refuses_21 = (due_for (refuses (fault Identity 0 0)), refused_21)

  -- "22 counters"
  pub refuses_22 : (group p s ns room ≡ refuses (fault Counters 0 0)) ↔ Breaks22 p s ns room
  refuses_22 = (due_for (refuses (fault Counters 0 0)), refused_22)

  -- "23 M_DUP naming no balise or one with other packets, at the lowest such N_PIG"
  pub refuses_23 : (k : ℕ) → (group p s ns room ≡ refuses (fault Copied k 0)) ↔ Breaks23 p s ns room k
  refuses_23 k = (due_for (refuses (fault Copied k 0)), refused_23 k)

  -- "then 10"
  pub refuses_10 : (pig at : ℕ) → (group p s ns room ≡ refuses (fault Repeated pig at)) ↔ Breaks10 p s ns room pig at
  refuses_10 pig at = (due_for (refuses (fault Repeated pig at)), refused_10 pig at)

  -- and accepted, with the packets that count
  pub accepts : (ms : List Member) → (group p s ns room ≡ lists ms) ↔ BreaksNone p s ns room ms
  accepts ms = (due_for (lists ms), accepted_none ms)
