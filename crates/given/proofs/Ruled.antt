-- After entries that were sent: a value that is forbidden breaks the rule of that kind, and a value that breaks a rule is forbidden. Assumes nothing.
use mathlib.Core.Bool.{Bool, true, false, not}
use mathlib.Core.List.{List, [], ◌∷◌, ◌++◌, append_assoc}
use mathlib.Core.Logic.{◌⊎◌, inl, inr}
use mathlib.Core.Option.{Option, some}
use mathlib.Core.Path.{◌≡◌, refl, sym, ap, ◌∙◌, subst}
use Prim.Native.Nat.{ℕ, ◌≤◌, ◌<◌}
use native.Mathlib.Omega.{arith}
use borrow.Author.Tests.{eqb-false}
use lib.Dec.{T, eqb}
use Rattle.format.specs.Among.{holding, Inside}
use Rattle.format.specs.Fields.{Field, N_TOTAL, NID_PACKET, NID_XUSER, Q_DIR, L_PACKET}
use Rattle.format.specs.Fields.Rule.{any}
use Rattle.format.specs.Packets.{Items}
use Rattle.format.specs.Packets.Items.{end, nest, send, send_if, send_either, send_times}
use Rattle.format.specs.Rules.{State, Context, field, due, rule_of, unless, misdirected, broken, clash, collides_by, field_place, paper}
use Rattle.format.specs.Rules.Level.{in_header, in_user}
use Rattle.format.specs.Telegrams.{Entry, bit_count}
use Rattle.format.specs.declared.Kind.{Kind}
use Rattle.format.specs.declared.Kind.TheVariants.{Header, Unknown, Value, Direction, Repeated}
use Rattle.laws.proofs.Steps.{going}
use Rattle.laws.proofs.Every.{Every}
use Rattle.laws.proofs.Order.{order_repeated, order_direction, unless_is}
use Rattle.laws.proofs.Points.{Sends}
use Rattle.laws.proofs.Headed.{InHeader, InBody, every_due, named_due}
use Rattle.laws.proofs.Headed.Carried.{carrying, filled}
use Rattle.laws.proofs.Standing.{Amid, Stands, apart}
use Rattle.laws.proofs.Standing.Begun.{identified, directed, sized}
use Rattle.laws.proofs.Standing.Amid.{amid_header, amid_packet, amid_user}
use Rattle.laws.proofs.Standing.Stands.{between, amid}
use Rattle.laws.proofs.Pairs.{one_end}
use Rattle.laws.proofs.Recalled.{Recalls, sends_stands, sends_recalls}
use Rattle.laws.proofs.Apart.{collides_met, pair_collides}
use Rattle.given.specs.Broken.{HeaderBroken, Unlisted, Disallowed, Differs, Repeats, Breaks}
use Rattle.given.specs.Broken.HeaderBroken.{updown, version, media, dup, total}
use Rattle.given.specs.Broken.Range.{q_dir}
use Rattle.given.specs.Broken.Disallowed.{outside}
use Rattle.given.specs.Broken.Differs.{differs}
use Rattle.given.specs.Broken.Repeats.{repeats}
use Rattle.given.specs.Broken.Breaks.{four, six, seven, nine, ten}
use Rattle.given.proofs.FortyFour.{forty_four}
use Rattle.given.proofs.Sorts.{HeaderField, Sort, header_number, sort_number}
use Rattle.given.proofs.Along.{Told, sends_told}
use Rattle.given.proofs.Dues.{Pig, Sorted, sends_sorted}
use Rattle.given.proofs.Dues.Sorted.{of_header_lem, of_packets}
use Rattle.given.proofs.Judged.{none_some, clash_is, is_clash, header_sound, header_complete, packet_sound, user_sound, unlisted_complete, body_sound, direction_sound, disallowed_complete}

-- ---- what is forbidden breaks a rule

not_false : (b : Bool) → not b ≡ false → b ≡ true
not_false true h = refl
not_false false h = cc

-- entries inside a packet end in what stands behind its L_PACKET
inside_ends : {es : List Entry} (o : Inside NID_PACKET es) (b : List Entry) (e : Entry) → o.after ≡ b ++ (e ∷ []) → (l : List Entry) × (es ≡ l ++ (e ∷ []))
inside_ends o b e i =
    let ahead : List Entry → List Entry = λ l. holding NID_PACKET o.name ∷ holding Q_DIR o.dir ∷ holding L_PACKET o.size ∷ l in
    (o.before ++ ahead b, o.parts ∙ ap (λ (l : List Entry). o.before ++ ahead l) i ∙ sym (append_assoc o.before (ahead b) (e ∷ [])))

module _ (c : Context) (v : ℕ) (k : Kind) where
  abbrev At : List Entry → Items → Kind → Type 0
  At es t j = Breaks es t v j (bit_count es)

  by_unless : {es : List Entry} {t : Items} (b : Bool) (j : Kind) → unless b j ≡ some k → (b ≡ false → At es t j) → At es t k
  by_unless {es} {t} b j e f = let h = unless_is b j k e in subst (At es t) h.1 (f h.0)

  -- what is so of one kind
  of_kind : {es : List Entry} {t : Items} {j : Kind} → j ≡ k → At es t j → At es t k
  of_kind {es} {t} i a = subst (At es t) i a

  amid_sound : {es : List Entry} (t : Items) → T (going t) → Told es c → Recalls es c
      → (c.level ≡ in_header → HeaderField (due t) × (due t ≡ N_TOTAL → Pig es c)) → ((c.level ≡ in_header → ⊥) → Sort (due t))
      → ((b : List Entry) (n : ℕ) → es ≡ b ++ (holding NID_XUSER n ∷ []) → c.level ≡ in_user → due t ≡ Q_DIR → (o : Inside NID_PACKET es) → o.name ≡ 44)
      → Amid es t c → broken paper c (rule_of (due t).sense) v ≡ some k → At es t k
  unfolding broken misdirected
  amid_sound {es} t g told recalls hdr srt named_44 (amid_header l x) e =
      let q = header_sound es c v (due t) (hdr l).0 (hdr l).1 l k e in
      of_kind q.0 (four q.1)
  amid_sound {es} t g told recalls hdr srt named_44 (amid_packet l (identified b n i x q)) e = by_side (direction_sound es c v k e)
    where
      collided : not (collides_by clash c v) ≡ false → Repeats es Q_DIR v
      collided h =
          let m = collides_met field_place clash b n v i recalls (not_false (collides_by clash c v) h) in
          repeats b n m.1.other i m.0 m.1.packet (clash_is v m.1.other m.1.collides)

      by_side : ((2 < v) × (Value ≡ k)) ⊎ ((v ≤ 2) × (misdirected paper c c.level v ≡ some k)) → At es t k
      by_side (inl h) = of_kind h.1 (seven (outside q_dir (inr h.0)))
      by_side (inr h) = by_unless (not (collides_by clash c v)) Repeated (subst (λ i. misdirected paper c i v ≡ some k) l h.1) (λ z. ten (collided z))
  amid_sound t g told recalls hdr srt named_44 (amid_packet l (directed b n d i x q)) e = none_some e
  amid_sound {es} t g told recalls hdr srt named_44 (amid_packet l (sized h x y carrying)) e = let q = user_sound es c v k e in of_kind q.0 (six q.1)
  amid_sound {es} t g told recalls hdr srt named_44 (amid_packet l (sized h x y (filled w))) e =
      let q = body_sound es c v (due t) (srt (λ z. let n : ◌≡◌ {A = ℕ} 0 1 = cc in omega arith)) (every_due InBody t g w) (rw l) k e in
      of_kind q.0 (seven q.1)
  amid_sound {es} t g told recalls hdr srt named_44 (amid_user l o x y z u (identified b n i h q)) e = by_side (direction_sound es c v k e)
    where
      differing : eqb v c.dir ≡ false → Differs es Q_DIR v
      differing h =
          let w = inside_ends o b (holding NID_XUSER n) i in
          differs o w.0 n (named_44 w.0 n w.1 l refl o) w.1 (λ j. eqb-false v c.dir h (j ∙ sym (told.dir o)))

      by_side : ((2 < v) × (Value ≡ k)) ⊎ ((v ≤ 2) × (misdirected paper c c.level v ≡ some k)) → At es t k
      by_side (inl h) = of_kind h.1 (seven (outside q_dir (inr h.0)))
      by_side (inr h) = by_unless (eqb v c.dir) Direction (subst (λ i. misdirected paper c i v ≡ some k) l h.1) (λ z. nine (differing z))
  amid_sound t g told recalls hdr srt named_44 (amid_user l o x y z u (directed b n d i h q)) e = none_some e
  amid_sound {es} t g told recalls hdr srt named_44 (amid_user l o x y z u (sized h a b w)) e =
      let q = body_sound es c v (due t) (srt (λ j. let n : ◌≡◌ {A = ℕ} 0 1 = cc in omega arith)) (every_due InBody t g w) (rw l) k e in
      of_kind q.0 (seven q.1)

  between_sound : {es : List Entry} (t : Items) → t ≡ end → broken paper c (rule_of (due t).sense) v ≡ some k → At es t k
  between_sound {es} t i e = let q = packet_sound es c v k (rw i at e) in of_kind q.0 (six (rw i q.1))

-- the sort of the field that is due
sort_due : (t : Items) → Every Sort t → (due t ≡ NID_PACKET) ⊎ Sort (due t)
sort_due end k = inl refl
sort_due nest k = inr k
sort_due (send f r) k = inr k.0
sort_due (send_if c f r) k = inr k.0
sort_due (send_either c a b) k = inr k.0
sort_due (send_times c g r) k = inr k.0

header_numbers : {es : List Entry} {f : Field} {v : ℕ} → HeaderBroken es f v → (f.number ≤ 5) × (rule_of f.sense ≡ any → ⊥)
header_numbers (updown n) = (omega arith, λ e. let z : ◌≡◌ {A = ℕ} 0 1 = cc in omega arith)
header_numbers (version n) = (omega arith, λ e. let z : ◌≡◌ {A = ℕ} 0 1 = cc in omega arith)
header_numbers (media n) = (omega arith, λ e. let z : ◌≡◌ {A = ℕ} 0 1 = cc in omega arith)
header_numbers (dup n) = (omega arith, λ e. let z : ◌≡◌ {A = ℕ} 0 1 = cc in omega arith)
header_numbers (total b n e h) = (omega arith, λ e. let z : ◌≡◌ {A = ℕ} 0 1 = cc in omega arith)

module _ {es : List Entry} {s : State} (h : Sends paper es s) (v : ℕ) where
  abbrev judged : Option Kind
  judged = broken paper s.context (rule_of (field s).sense) v

  -- the header's fields, and those of the packets
  headed : Sorted es s → s.context.level ≡ in_header → HeaderField (field s) × (field s ≡ N_TOTAL → Pig es s.context)
  headed (of_header_lem l g k f q) e = (every_due HeaderField s.todo g k, q)
  headed (of_packets n k) e = absurd (n e)

  sorted : Sorted es s → T (going s.todo) → (s.context.level ≡ in_header → ⊥) → Sort (field s)
  sorted (of_header_lem l g k f q) i n = absurd (n l)
  sorted (of_packets n k) i m = every_due Sort s.todo i k

  -- what is forbidden breaks the rule of its kind, at the field that is due
  pub forbidden_breaks : (k : Kind) → judged ≡ some k → Breaks es s.todo v k (bit_count es)
  forbidden_breaks k e = by_stand (sends_stands h)
    where
      by_stand : Stands es s → Breaks es s.todo v k (bit_count es)
      by_stand (between i l x) = between_sound s.context v k s.todo i e
      by_stand (amid g a) =
          amid_sound s.context v k s.todo g (sends_told h g) (sends_recalls h) (headed (sends_sorted h)) (sorted (sends_sorted h) g)
          (λ b n i l f o. forty_four h l f b n i o) a e

  -- ---- what breaks a rule is forbidden

  level_front : Sorted es s → (field s).number ≤ 5 → (rule_of (field s).sense ≡ any → ⊥) → s.context.level ≡ in_header
  level_front (of_header_lem l g k f q) i n = l
  level_front (of_packets m k) i n = by_due (sort_due s.todo k)
    where
      by_sort : (10 ≤ (field s).number) ⊎ (rule_of (field s).sense ≡ any) → s.context.level ≡ in_header
      by_sort (inl x) = absurd (omega arith)
      by_sort (inr x) = absurd (n x)

      by_due : (field s ≡ NID_PACKET) ⊎ Sort (field s) → s.context.level ≡ in_header
      by_due (inl x) = let j = ap (λ (f : Field). f.number) x in absurd (omega arith)
      by_due (inr x) = by_sort (sort_number x)

  level_behind : Sorted es s → 12 ≤ (field s).number → s.context.level ≡ in_header → ⊥
  level_behind (of_header_lem l g k f q) i e = let n = header_number (every_due HeaderField s.todo g k) in omega arith
  level_behind (of_packets m k) i e = m e

  pub four_forbids : HeaderBroken es (field s) v → judged ≡ some Header
  four_forbids w =
      let n = header_numbers w in
      let l = level_front (sends_sorted h) n.0 n.1 in
      header_complete es s.context v (field s) w (headed (sends_sorted h) l).1 l

  pub six_forbids : Unlisted (field s) v → judged ≡ some Unknown
  six_forbids w = unlisted_complete es s.context v (field s) w

  pub seven_forbids : Disallowed (field s) v → judged ≡ some Value
  seven_forbids w = disallowed_complete es s.context v (field s) w (level_behind (sends_sorted h))

  -- the Q_DIR of a CTCS packet
  pub user_level : field s ≡ Q_DIR → (b : List Entry) (n : ℕ) → es ≡ b ++ (holding NID_XUSER n ∷ []) → T (going s.todo) × (s.context.level ≡ in_user)
  user_level f b n j = by_stand (sends_stands h)
    where
      by_amid : (t : Items) → s.todo ≡ t → T (going t) → Amid es t s.context → s.context.level ≡ in_user
      by_amid t e g (amid_header l k) = absurd (subst InHeader (ap due (sym e) ∙ f) (every_due InHeader t g k))
      by_amid t e g (amid_packet l (identified a m i x q)) =
          absurd (apart NID_XUSER NID_PACKET refl (ap (λ (y : Entry). y.field) (one_end b a _ _ (sym j ∙ i)).1))
      by_amid t e g (amid_packet l (directed a m d i x q)) = absurd (apart L_PACKET Q_DIR refl (ap due (sym e) ∙ f))
      by_amid t e g (amid_packet l (sized k x y carrying)) = absurd (apart NID_XUSER Q_DIR refl (ap due (sym e) ∙ f))
      by_amid t e g (amid_packet l (sized k x y (filled w))) = absurd (subst InBody (ap due (sym e) ∙ f) (every_due InBody t g w))
      by_amid t e g (amid_user l o x y k z w) = l

      by_stand : Stands es s → T (going s.todo) × (s.context.level ≡ in_user)
      by_stand (between i l x) = absurd (apart NID_PACKET Q_DIR refl (sym (ap due i) ∙ f))
      by_stand (amid g a) = (g, by_amid s.todo refl g a)

  nine_at : (f : Field) → field s ≡ f → Differs es f v → v ≤ 2 → judged ≡ some Direction
  nine_at f e (differs o b n q i m) l =
      let u = user_level e b n i in
      let d = (sends_told h u.0).dir o in
      rw e ((order_direction paper s.context v).1 (l, u.1, λ j. m (j ∙ d)))

  pub nine_forbids : Differs es (field s) v → v ≤ 2 → judged ≡ some Direction
  nine_forbids w l = nine_at (field s) refl w l

  due_going : (t : Items) → due t ≡ Q_DIR → T (going t)
  due_going end e = absurd (apart NID_PACKET Q_DIR refl e)
  due_going nest e = tt
  due_going (send f r) e = tt
  due_going (send_if c f r) e = tt
  due_going (send_either c a b) e = tt
  due_going (send_times c g r) e = tt

  ten_at : (f : Field) → field s ≡ f → Repeats es f v → v ≤ 2 → judged ≡ some Repeated
  ten_at f e (repeats b i o j n p c) l =
      let g = due_going s.todo e in
      let w = pair_collides field_place clash b i v h (ap (λ (x : Field). holding x v) (named_due s.todo v g ∙ e)) j n
      (record { other = o; packet = p; collides = is_clash v o c }) in
      rw e ((order_repeated paper s.context v).1 (l, w.1.0, w.1.1))

  pub ten_forbids : Repeats es (field s) v → v ≤ 2 → judged ≡ some Repeated
  ten_forbids w l = ten_at (field s) refl w l
