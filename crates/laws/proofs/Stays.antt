-- What a field leaves of the packet in hand: where it began, its L_PACKET and the packets before stay; and a packet that ends takes the bits that
-- it says. Assumes nothing.
use mathlib.Core.Bool.{Bool, true, false, cond}
use mathlib.Core.List.{List}
use mathlib.Core.Option.{some, none}
use mathlib.Core.Path.{◌≡◌, refl, sym, ap, ◌∙◌}
use Prim.Native.Nat.{ℕ, ◌-◌}
use native.Mathlib.Omega.{arith}
use borrow.Author.Tests.{eqb-true}
use lib.Dec.{T, eqb}
use Rattle.format.specs.Fields.{Rule}
use Rattle.format.specs.Fields.Rule.{any, packet, user, direction, size, pig, total, radio, within}
use Rattle.format.specs.Packets.{Items}
use Rattle.format.specs.Packets.Items.{end}
use Rattle.format.specs.Rules.{State, Context, Terms, Level, step, field, past, due, next, rule_of, broken, noted, closes, settled, onward, fresh}
use Rattle.format.specs.Rules.Level.{in_header, in_packet, in_user}
use Rattle.format.specs.Rules.Next.{go, breaks}
use Rattle.format.specs.Telegrams.{Entry}
use Rattle.format.specs.declared.Kind.TheVariants.{Length}
use Rattle.laws.proofs.Steps.{going}
use Rattle.laws.proofs.Told.{and_two}
use Rattle.laws.proofs.Headed.{of_header, InHeader, InBody, every_due}
use Rattle.laws.proofs.Headed.Carried.{carrying, filled}
use Rattle.laws.proofs.Noted.{direction_in_packet, size_in_packet, direction_in_user, size_in_user, user_noted, body_noted}
use Rattle.laws.proofs.Standing.{Amid}
use Rattle.laws.proofs.Standing.Begun.{identified, directed, sized}
use Rattle.laws.proofs.Standing.Amid.{amid_header, amid_packet, amid_user}
use Rattle.laws.proofs.Whole.{Past}

-- ---- a packet that ends here is as long as it says

module _ (p : Terms) (s : State) (v : ℕ) where
  abbrev after : Context
  after = noted (rule_of (field s).sense) s.context s.at v

  step_end : broken p s.context (rule_of (field s).sense) v ≡ none → next s.todo v ≡ some end
      → step p s v ≡ cond (closes (past s) after after.level) (go end (fresh (past s) after)) (breaks Length)
  unfolding step onward settled
  step_end b j = rw (b, j)

  pub closes_so : {t : Items} {c : Context} → broken p s.context (rule_of (field s).sense) v ≡ none → next s.todo v ≡ some end
      → step p s v ≡ go t c → closes (past s) after after.level ≡ true
  closes_so {t} {c} b j e = by_test (closes (past s) after after.level) refl (sym (step_end b j) ∙ e)
    where
      by_test : (x : Bool) → closes (past s) after after.level ≡ x → cond x (go end (fresh (past s) after)) (breaks Length) ≡ go t c
          → closes (past s) after after.level ≡ true
      by_test true q h = q
      by_test false q h = let z : ◌≡◌ {A = ℕ} 0 1 = cc in absurd (omega arith)

-- it takes the bits from its beginning on
pub closed_size : (at : ℕ) (c : Context) (l : Level) → (l ≡ in_header → ⊥) → closes at c l ≡ true → at - c.start ≡ c.long
unfolding closes
closed_size at c in_header n h = absurd (n refl)
closed_size at c in_packet n h = eqb-true (at - c.start) c.long h
closed_size at c in_user n h =
    eqb-true (at - c.start) c.long (and_two (eqb (at - c.user_start) c.user_long) (eqb (at - c.start) c.long) h).1

-- ---- what a field leaves of the packet in hand

-- where it began, its L_PACKET and the packets before stay
pub record Stays (c d : Context) : Type 0 where
  pub start : d.start ≡ c.start
  pub long : d.long ≡ c.long
  pub earlier : d.earlier ≡ c.earlier

stays : {c d : Context} → d ≡ c → Stays c d
stays e = rw e (record { start = refl; long = refl; earlier = refl })

module _ (c : Context) (at v : ℕ) where
  -- a field of the header
  header_stays : (r : Rule) → T (of_header r) → Stays c (noted r c at v)
  unfolding noted
  header_stays any h = stays refl
  header_stays packet h = absurd h
  header_stays user h = absurd h
  header_stays direction h = absurd h
  header_stays size h = absurd h
  header_stays pig h = record { start = refl; long = refl; earlier = refl }
  header_stays total h = stays refl
  header_stays radio h = absurd h
  header_stays (within a b) h = stays refl

  -- any field behind the packet's L_PACKET
  pub amid_stays : {es : List Entry} (t : Items) → T (going t) → Past es → Amid es t c → Stays c (noted (rule_of (due t).sense) c at v)
  amid_stays t g q (amid_header l k) = header_stays (rule_of (due t).sense) (every_due InHeader t g k)
  amid_stays t g q (amid_packet l (identified b n e x y)) = absurd (q.unnamed b n e)
  amid_stays t g q (amid_packet l (directed b n d e x y)) = absurd (q.undirected b n d e)
  amid_stays t g q (amid_packet l (sized h x y carrying)) = rw (user_noted c at v) (record { start = refl; long = refl; earlier = refl })
  amid_stays t g q (amid_packet l (sized h x y (filled w))) = stays (body_noted c at v (rule_of (due t).sense) (every_due InBody t g w))
  amid_stays t g q (amid_user l o x y k z (identified b n e h w)) = stays (direction_in_user c at v l)
  amid_stays t g q (amid_user l o x y k z (directed b n d e h w)) = rw (size_in_user c at v l) (record { start = refl; long = refl; earlier = refl })
  amid_stays t g q (amid_user l o x y k z (sized h i b w)) = stays (body_noted c at v (rule_of (due t).sense) (every_due InBody t g w))

  -- amid a packet, and not in the header
  pub amid_level : {es : List Entry} (t : Items) → T (going t) → (c.level ≡ in_header → ⊥) → Amid es t c → (noted (rule_of (due t).sense) c at v).level ≡ in_header → ⊥
  amid_level t g n (amid_header l k) e = n l
  amid_level t g n (amid_packet l (identified b m i x y)) e = let z : ◌≡◌ {A = ℕ} 0 1 = cc (direction_in_packet c at v l) in omega arith
  amid_level t g n (amid_packet l (directed b m d i x y)) e = let z : ◌≡◌ {A = ℕ} 0 1 = cc (size_in_packet c at v l) in omega arith
  amid_level t g n (amid_packet l (sized h x y carrying)) e = let z : ◌≡◌ {A = ℕ} 0 1 = cc (user_noted c at v) in omega arith
  amid_level t g n (amid_packet l (sized h x y (filled w))) e = n (ap (λ (d : Context). d.level) (sym (body_noted c at v (rule_of (due t).sense) (every_due InBody t g w))) ∙ e)
  amid_level t g n (amid_user l o x y k z (identified b m i h w)) e = n (ap (λ (d : Context). d.level) (sym (direction_in_user c at v l)) ∙ e)
  amid_level t g n (amid_user l o x y k z (directed b m d i h w)) e = let z : ◌≡◌ {A = ℕ} 0 1 = cc (size_in_user c at v l) in omega arith
  amid_level t g n (amid_user l o x y k z (sized h i b w)) e = n (ap (λ (d : Context). d.level) (sym (body_noted c at v (rule_of (due t).sense) (every_due InBody t g w))) ∙ e)
