-- Rule 8: where a packet ends, its length is wrong by the test just where it is wrong over the entries. Assumes nothing.
use mathlib.Core.Bool.{Bool, true, false, ◌&&◌}
use mathlib.Core.List.{List, [], ◌∷◌, ◌++◌}
use mathlib.Core.Option.{some, none}
use mathlib.Core.Path.{◌≡◌, refl, sym, subst}
use Prim.Native.Nat.{ℕ, ◌+◌, ◌-◌}
use native.Mathlib.Omega.{arith}
use borrow.Author.Tests.{eqb-true}
use lib.Dec.{eqb}
use Rattle.format.specs.Among.{holding, Inside, size_at, Fitting}
use Rattle.format.specs.Fields.{NID_PACKET, NID_XUSER, Q_DIR, L_PACKET}
use Rattle.format.specs.Packets.Items.{end}
use Rattle.format.specs.Rules.{State, Context, Level, field, past, next, rule_of, broken, noted, closes, step, paper}
use Rattle.format.specs.Rules.Level.{in_user}
use Rattle.format.specs.Rules.Next.{breaks}
use Rattle.format.specs.Telegrams.{Entry, entry, bit_count}
use Rattle.format.specs.declared.Kind.TheVariants.{Length}
use Rattle.laws.proofs.Tile.{bit_count_append}
use Rattle.laws.proofs.Order.{order_length}
use Rattle.laws.proofs.Points.{within, Wrong, Sends}
use Rattle.laws.proofs.Standing.{Amid, body_at, inside_bits, stands_next}
use Rattle.laws.proofs.Standing.Begun.{sized}
use Rattle.laws.proofs.Standing.Amid.{amid_header, amid_packet, amid_user}
use Rattle.laws.proofs.OnePlace.{packet_other, user_other}
use Rattle.laws.proofs.Pointed.{past_bits, sends_at}
use Rattle.laws.proofs.Offending.{wrong}
use Rattle.laws.proofs.Recalled.{sends_stands}
use Rattle.given.specs.Broken.{Misfits}
use Rattle.given.specs.Broken.Misfits.{inner, outer}
use Rattle.given.proofs.Insides.{inside_without, one_after, both_fit}
use Rattle.given.proofs.Along.{Told, told_next, sends_told}

-- the L_PACKET of a CTCS packet, among all the entries and behind the L_PACKET of the packet around it
inner_at : {es : List Entry} (o : Inside NID_PACKET es) (h : Inside NID_XUSER o.after) → size_at (within o h) ≡ size_at o + L_PACKET.width + size_at h
inner_at o h =
    let head : List Entry = holding NID_XUSER h.name ∷ holding Q_DIR h.dir ∷ [] in
    let a = bit_count_append (within o h).before head in
    let b = bit_count_append o.before (holding NID_PACKET o.name ∷ holding Q_DIR o.dir ∷ holding L_PACKET o.size ∷ h.before) in
    let c = bit_count_append o.before (holding NID_PACKET o.name ∷ holding Q_DIR o.dir ∷ []) in
    let d = bit_count_append h.before head in
    omega arith

module _ {es : List Entry} {c : Context} (told : Told es c) where
  -- what is wrong by the level of the last field is wrong over the entries
  pub wrong_misfits : {l : Level} {x : ℕ} → l ≡ c.level → Wrong es l x → Misfits es x
  wrong_misfits e (Wrong.alone h m) = outer h (λ k. absurd (inside_without k (told.plain (sym e) h))) m
  wrong_misfits e (Wrong.inner o h m) = subst (Misfits es) (sym (inner_at o h)) (inner o h m)
  wrong_misfits e (Wrong.outer o h f m) = outer o (λ k. both_fit user_other h k f) m

  -- and what is wrong over the entries does not pass the test
  module _ (past : ℕ) (at : past ≡ bit_count es) where
    fits_outer : (o : Inside NID_PACKET es) → c.start ≡ bit_count o.before → c.long ≡ o.size → past - c.start ≡ c.long → Fitting o
    fits_outer o x y e = let b = inside_bits o in omega arith

    fits_inner : (o : Inside NID_PACKET es) (h : Inside NID_XUSER o.after) → c.user_start ≡ body_at o + bit_count h.before → c.user_long ≡ h.size
        → past - c.user_start ≡ c.user_long → Fitting h
    fits_inner o h x y e = let b = inside_bits o in let d = inside_bits h in omega arith

    by_one : (a b : ℕ) → (a ≡ b → ⊥) → eqb a b ≡ false
    by_one a b n = by_test (eqb a b) refl
      where
        by_test : (x : Bool) → eqb a b ≡ x → x ≡ false
        by_test true e = absurd (n (eqb-true a b e))
        by_test false e = refl

    by_two : (a b d e : ℕ) → (a ≡ b → d ≡ e → ⊥) → (eqb a b && eqb d e) ≡ false
    by_two a b d e n = by_tests (eqb a b) (eqb d e) refl refl
      where
        by_tests : (x y : Bool) → eqb a b ≡ x → eqb d e ≡ y → (x && y) ≡ false
        by_tests true true i j = absurd (n (eqb-true a b i) (eqb-true d e j))
        by_tests true false i j = refl
        by_tests false y i j = refl

    pub misfits_wrong : {x : ℕ} → Amid es end c → Misfits es x → (closes past c c.level ≡ false) × Wrong es c.level x
    unfolding closes
    misfits_wrong (amid_header l k) (inner o h m) = absurd (told.front l o)
    misfits_wrong (amid_header l k) (outer o f m) = absurd (told.front l o)
    misfits_wrong (amid_packet l (sized k u w z)) (inner o h m) = absurd (inside_without h (told.plain l o))
    misfits_wrong (amid_packet l (sized k u w z)) (outer o f m) =
        rw l (by_one (past - c.start) c.long (λ e. m (both_fit packet_other k o (fits_outer k u w e))), Wrong.alone o m)
    misfits_wrong (amid_user l q u w n z (sized k i j g)) (inner o h m) =
        let a : c.user_start ≡ body_at q + bit_count k.before = omega arith in
        rw l (
          by_two (past - c.user_start) c.user_long (past - c.start) c.long
              (λ d e. m (both_fit user_other (within q k) (within o h) (fits_inner q k a j d))),
          subst (Wrong es in_user) (inner_at o h) (Wrong.inner o h m),
        )
    misfits_wrong (amid_user l q u w n z (sized k i j g)) (outer o f m) =
        let h : Inside NID_XUSER o.after = subst (Inside NID_XUSER) (one_after packet_other q o) k in
        rw l (
          by_two (past - c.user_start) c.user_long (past - c.start) c.long (λ d e. m (both_fit packet_other q o (fits_outer q u w e))),
          Wrong.outer o h (f h) m,
        )

-- ---- after entries that were sent

module _ {es : List Entry} {s : State} (h : Sends paper es s) (v : ℕ) (b : broken paper s.context (rule_of (field s).sense) v ≡ none)
    (j : next s.todo v ≡ some end) where
  abbrev after : Context
  after = noted (rule_of (field s).sense) s.context s.at v

  abbrev more : List Entry
  more = es ++ (entry s v ∷ [])

  told : Told more after
  told = told_next paper es s v end (sends_stands h) (λ g. sends_told h g) j

  leads_amid : Amid more end after
  leads_amid = (stands_next paper es s v end (sends_at h) (sends_stands h) b j).amid

  same_level : s.context.level ≡ after.level
  same_level = ((stands_next paper es s v end (sends_at h) (sends_stands h) b j).still refl).level

  at_end : past s ≡ bit_count more
  at_end = past_bits paper es s v (sends_at h)

  pub sized_wrong : {x : ℕ} → Wrong more s.context.level x → Misfits more x
  sized_wrong w = wrong_misfits told same_level w

  pub closed_wrong : closes (past s) after after.level ≡ false → (x : ℕ) × Misfits more x
  closed_wrong e = (_, wrong_misfits told refl (wrong (past s) after at_end s.at leads_amid e))

  pub eight_breaks : {x : ℕ} → Misfits more x → (step paper s v ≡ breaks Length) × Wrong more s.context.level x
  eight_breaks {x} m =
      let w = misfits_wrong told (past s) at_end leads_amid m in
      ((order_length paper s v).1 (b, j, w.0), subst (λ l. Wrong more l x) (sym same_level) w.1)
