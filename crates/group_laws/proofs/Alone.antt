-- A telegram alone, where it is accepted, is a group just where its N_TOTAL and M_DUP are 0 and its counter is not 254; and then the answer is its
-- own packets. Assumes nothing.
use mathlib.Core.Bool.{Bool, true, false, cond, not, ◌&&◌, ◌||◌}
use mathlib.Core.List.{List, [], ◌∷◌, ◌++◌, append-nil, append_assoc}
use mathlib.Core.Option.{Option, some, none}
use mathlib.Core.Path.{◌≡◌, refl, sym, ap, ap₂, ◌∙◌, subst}
use Prim.Native.Nat.{ℕ, zero, suc, ◌+◌, ◌≤◌}
use native.Mathlib.Omega.{arith}
use borrow.Author.Tests.{eqb-true, eqb-false, eq-eqb, ne_eqb}
use lib.Dec.{eqb}
use lib.ListN.{length, length-append}
use Rattle.format.specs.Among.{PacketIn}
use Rattle.format.specs.Fields.{N_PIG, N_TOTAL, M_DUP, M_MCOUNT}
use Rattle.format.specs.Rules.{Earlier, clash, among, collides_among, field_place, paper}
use Rattle.format.specs.Telegrams.{Entry, divided, bit_count, Telegram}
use Rattle.format.specs.Telegrams.Result.{accepted}
use Rattle.laws.proofs.Pairs.{Order, packets_ordered}
use Rattle.laws.proofs.Pairs.Order.{same, ahead, behind}
use Rattle.laws.proofs.Apart.{telegram_apart}
use Rattle.laws.proofs.EachWay.{clash_symmetric}
use Rattle.states.specs.Reader.{checked}
use Rattle.states.proofs.Answers.{check_judges}
use Rattle.group.specs.Groups.{Member, arrived, parts, held, standing, once, grouped, in_order, counted, miscopied, counting, packets_of, listed, collision, group}
use Rattle.group.specs.Groups.Arrived.{all}
use Rattle.group.specs.Groups.Message.{lists}
use Rattle.group_laws.proofs.Listing.{In, member_of, only_listed}
use Rattle.group_laws.proofs.Sorting.{once_each, packets_sorted}
use Rattle.group_laws.proofs.Passing.{Gives, line_from, group_passes, passes_group}
use Rattle.group_laws.proofs.Position.{telegram_position}

-- ---- where no two packets collide, there is no collision

abbrev pub earlier_of : Member → Earlier
earlier_of m = record { id = m.id; dir = m.dir }

-- two packets of one kind, but ETCS-44, whose directions collide
abbrev pub Collide : Member → Earlier → Type 0
Collide m e = (m.id ≡ e.id) × ((m.id ≡ 44 → ⊥) × (clash m.dir e.dir ≡ true))

pub met : (i d : ℕ) (es : List Earlier) → among clash i d es ≡ true → (e : Earlier) × (In e es × ((i ≡ e.id) × (clash d e.dir ≡ true)))
unfolding among
met i d [] h = let z : ◌≡◌ {A = ℕ} 0 1 = cc in absurd (omega arith)
met i d (e ∷ es) h = by_tests (eqb i e.id) (clash d e.dir) refl refl h (λ g. met i d es g)
  where
    Found : Type 0
    Found = (f : Earlier) × (In f (e ∷ es) × ((i ≡ f.id) × (clash d f.dir ≡ true)))

    later : (f : Earlier) × (In f es × ((i ≡ f.id) × (clash d f.dir ≡ true))) → Found
    later r = (r.0, (record { before = e ∷ r.1.0.before; after = r.1.0.after; is = ap (λ (l : List Earlier). e ∷ l) r.1.0.is }, r.1.1))

    by_tests : (a b : Bool) → eqb i e.id ≡ a → clash d e.dir ≡ b → (a && b || among clash i d es) ≡ true
        → (among clash i d es ≡ true → (f : Earlier) × (In f es × ((i ≡ f.id) × (clash d f.dir ≡ true)))) → Found
    by_tests true true p q g on = (e, (record { before = []; after = es; is = refl }, (eqb-true i e.id p, q)))
    by_tests true false p q g on = later (on g)
    by_tests false b p q g on = later (on g)

pub no_collision : (seen : List Earlier) (ms : List Member) → ((m : Member) → In m ms → (e : Earlier) → In e seen → Collide m e → ⊥)
    → ((x : List Member) (o : Member) (y : List Member) (m : Member) (z : List Member) → ms ≡ x ++ o ∷ (y ++ m ∷ z) → Collide m (earlier_of o) → ⊥) → collision seen ms ≡ none
unfolding collision
no_collision seen [] a b = refl
no_collision seen (m ∷ ms) a b =
    by_test (collides_among clash m.id m.dir seen) refl
    (no_collision (earlier_of m ∷ seen) ms (λ w i e j c. by_place w i e j.before j.after j.is c)
    (λ x o y w z e c. b (m ∷ x) o y w z (ap (λ (l : List Member). m ∷ l) e) c))
  where
    by_place : (w : Member) → In w ms → (e : Earlier) (x y : List Earlier) → earlier_of m ∷ seen ≡ x ++ e ∷ y → Collide w e → ⊥
    by_place w i e [] y q c =
        let k : earlier_of m ≡ e = cc in
        b [] m i.before w i.after (ap (λ (l : List Member). m ∷ l) i.is) (subst (Collide w) (sym k) c)
    by_place w i e (v ∷ x) y q c =
        a w (record { before = m ∷ i.before; after = i.after; is = ap (λ (l : List Member). m ∷ l) i.is }) e (record { before = x; after = y; is = cc }) c

    collides : collides_among clash m.id m.dir seen ≡ true → ⊥
    collides h = by_44 (eqb m.id 44) refl h
      where
        by_44 : (t : Bool) → eqb m.id 44 ≡ t → (not t && among clash m.id m.dir seen) ≡ true → ⊥
        by_44 true e g = let z : ◌≡◌ {A = ℕ} 0 1 = cc in omega arith
        by_44 false e g =
            let r = met m.id m.dir seen g in
            a m (record { before = []; after = ms; is = refl }) r.0 r.1.0 (r.1.1.0, (eqb-false m.id 44 e, r.1.1.1))

    by_test : (t : Bool) → collides_among clash m.id m.dir seen ≡ t → collision (earlier_of m ∷ seen) ms ≡ none
        → cond t (some m) (collision (earlier_of m ∷ seen) ms) ≡ none
    by_test true h on = absurd (collides h)
    by_test false h on = on

-- ---- so of the packets of one telegram

module _ {es : List Entry} (telegram : Telegram paper es) (k : ℕ) where
  abbrev own : List Member
  own = packets_of (record { pig = k; telegram = es })

  abbrev listing : List Entry → ℕ → ℕ → Member
  listing b i d = record { pig = k; number = length (divided b).packets; id = i; dir = d; at = bit_count b + 8 }

  -- two that collide are one
  own_one : {i d j f : ℕ} (h : PacketIn es i d) (g : PacketIn es j f) → Collide (member_of k g) (earlier_of (member_of k h)) → member_of k h ≡ member_of k g
  own_one {i} {d} {j} {f} h g c = by_order (packets_ordered h g)
    where
      by_order : Order h.before g.before i d j f → member_of k h ≡ member_of k g
      by_order (same b n q) =
          ap (λ (x : List Entry). listing x i d) b ∙ ap₂ (listing g.before) n q
      by_order (ahead w v) =
          absurd (telegram_apart field_place clash telegram
          (record { id = j; dir = f; later = g; not_44 = c.1.0; earlier = record { other = d; packet = subst (λ (x : ℕ). PacketIn g.before x d) (sym c.0) w; collides = c.1.1 } }))
      by_order (behind w v) =
          absurd (telegram_apart field_place clash telegram
          (record {
            id = i;
            dir = d;
            later = h;
            not_44 = λ q. c.1.0 (c.0 ∙ q);
            earlier = record { other = f; packet = subst (λ (x : ℕ). PacketIn h.before x f) c.0 w; collides = clash_symmetric d f ∙ c.1.1 };
          }))

  pub own_apart : collision [] own ≡ none
  own_apart = no_collision [] own (λ m i e j c. let q = ap length j.is in let n = length-append j.before (e ∷ j.after) in omega arith) pair
    where
      pair : (x : List Member) (o : Member) (y : List Member) (m : Member) (z : List Member) → own ≡ x ++ o ∷ (y ++ m ∷ z) → Collide m (earlier_of o) → ⊥
      pair x o y m z e c =
          let a = only_listed telegram k o (record { before = x; after = y ++ m ∷ z; is = e }) in
          let b = only_listed telegram k m (record { before = x ++ o ∷ y; after = z; is = e ∙ sym (append_assoc x (o ∷ y) (m ∷ z)) }) in
          let h = a.1.1.0 in
          let g = b.1.1.0 in
          let p : o ≡ member_of k h = a.1.1.1 in
          let q : m ≡ member_of k g = b.1.1.1 in
          let one = own_one h g (subst (λ (v : Member). Collide v (earlier_of (member_of k h))) q (subst (λ (v : Member). Collide m (earlier_of v)) p c)) in
          once_each own (packets_sorted (record { pig = k; telegram = es })) x o y m z e (p ∙ one ∙ sym q)

-- ---- a group of one

module _ (s : List ℕ) (n room : ℕ) (es : List Entry) (h : checked paper s n ≡ accepted es) where
  telegram : Telegram paper es
  telegram = (((check_judges paper s n).accepts es).0 h).telegram

  one_arrives : arrived paper 0 (parts s (n ∷ [])) ≡ all (es ∷ [])
  unfolding arrived parts
  one_arrives = rw h

  module _ (pig : held N_PIG es ≡ 0) where
    one_stands : standing 0 (es ∷ []) ≡ es ∷ []
    one_stands = rw (eq-eqb (held N_PIG es) 0 pig)

    one_line : line_from (es ∷ []) ≡ es ∷ []
    unfolding in_order
    one_line = rw one_stands

    one_group : held N_TOTAL es ≡ 0 → grouped (es ∷ []) ≡ true
    unfolding grouped
    one_group t = rw (one_stands, t)

  one_counts : (held M_MCOUNT es ≡ 254 → ⊥) → counted (es ∷ []) ≡ true
  unfolding counted
  one_counts c = rw (ne_eqb (held M_MCOUNT es) 254 c)

  one_copies : held M_DUP es ≡ 0 → miscopied 0 none (es ∷ []) ≡ none
  unfolding miscopied
  one_copies d = rw d

  one_listed : packets_of (record { pig = 0; telegram = es }) ≡ listed (counting 0 none (es ∷ []))
  unfolding counting
  one_listed = sym (append-nil (packets_of (record { pig = 0; telegram = es })))

  pub alone_lists : 264 ≤ room → held N_TOTAL es ≡ 0 → held M_DUP es ≡ 0 → (held M_MCOUNT es ≡ 254 → ⊥)
      → group paper s (n ∷ []) room ≡ lists (packets_of (record { pig = 0; telegram = es }))
  alone_lists r t d c =
      let p = (telegram_position telegram).0 in
      let pig : held N_PIG es ≡ 0 = omega arith in
      let line = one_line pig in
      passes_group paper s (n ∷ []) room (packets_of (record { pig = 0; telegram = es }))
      (record {
        roomy = r;
        telegrams = es ∷ [];
        arrives = one_arrives;
        gives = record {
          whole = one_group pig t;
          counters = ap counted line ∙ one_counts c;
          copies = ap (miscopied 0 none) line ∙ one_copies d;
          packets = one_listed ∙ ap (λ (l : List (List Entry)). listed (counting 0 none l)) (sym line);
          apart = own_apart telegram 0;
        };
      })

  -- and in no other case
  total_zero : grouped (es ∷ []) ≡ true → held N_TOTAL es ≡ 0
  unfolding grouped
  total_zero g = by_test (eqb (suc (held N_TOTAL es)) 1) refl g
    where
      by_test : (b : Bool) → eqb (suc (held N_TOTAL es)) 1 ≡ b → ((b && true) && once 1 (es ∷ [])) ≡ true → held N_TOTAL es ≡ 0
      by_test true e k = let i = eqb-true (suc (held N_TOTAL es)) 1 e in omega arith
      by_test false e k = let z : ◌≡◌ {A = ℕ} 0 1 = cc in absurd (omega arith)

  counter_odd : counted (es ∷ []) ≡ true → held M_MCOUNT es ≡ 254 → ⊥
  unfolding counted
  counter_odd g e = let k = (rw e at g) in let z : ◌≡◌ {A = ℕ} 0 1 = cc in omega arith

  dup_zero : miscopied 0 none (es ∷ []) ≡ none → held M_DUP es ≤ 2 → held M_DUP es ≡ 0
  unfolding miscopied
  dup_zero g l = by_number (held M_DUP es) g l
    where
      by_number : (d : ℕ) → cond {A = Option ℕ} (cond (eqb d 1) false (cond (eqb d 2) false true)) none (some 0) ≡ none → d ≤ 2 → d ≡ 0
      by_number zero g l = refl
      by_number (suc zero) g l = let z : ◌≡◌ {A = ℕ} 0 1 = cc in absurd (omega arith)
      by_number (suc (suc zero)) g l = let z : ◌≡◌ {A = ℕ} 0 1 = cc in absurd (omega arith)
      by_number (suc (suc (suc d))) g l = absurd (omega arith)

  pub record Lone (ms : List Member) : Type 0 where
    pub roomy : 264 ≤ room
    pub total : held N_TOTAL es ≡ 0
    pub dup : held M_DUP es ≡ 0
    pub counter : held M_MCOUNT es ≡ 254 → ⊥
    pub packets : ms ≡ packets_of (record { pig = 0; telegram = es })

  pub alone_only : (ms : List Member) → group paper s (n ∷ []) room ≡ lists ms → Lone ms
  alone_only ms g =
      let w = group_passes paper s (n ∷ []) room ms g in
      let i : w.telegrams ≡ es ∷ [] = let j = sym w.arrives ∙ one_arrives in cc in
      let v : Gives (es ∷ []) ms = subst (λ (l : List (List Entry)). Gives l ms) i w.gives in
      let t = total_zero v.whole in
      let p = telegram_position telegram in
      let q = p.0 in
      let pig : held N_PIG es ≡ 0 = omega arith in
      let line = one_line pig in
      record {
        roomy = w.roomy;
        total = t;
        dup = dup_zero (sym (ap (miscopied 0 none) line) ∙ v.copies) p.1;
        counter = counter_odd (sym (ap counted line) ∙ v.counters);
        packets = v.packets ∙ ap (λ (l : List (List Entry)). listed (counting 0 none l)) line ∙ sym one_listed;
      }
