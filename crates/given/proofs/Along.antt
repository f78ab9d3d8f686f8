-- What the context says of the entries that were sent: the Q_DIR of the packet in hand, and that no CTCS packet was begun in it. Assumes nothing.
use mathlib.Core.List.{List, [], ◌∷◌, ◌++◌, append_assoc}
use mathlib.Core.Option.{some}
use mathlib.Core.Path.{◌≡◌, refl, sym, ap, ◌∙◌, subst}
use Prim.Native.Nat.{ℕ}
use native.Mathlib.Omega.{arith}
use lib.Dec.{T}
use Rattle.format.specs.Among.{holding, Without, Inside}
use Rattle.format.specs.Fields.{Field, NID_PACKET, NID_XUSER, Q_DIR, L_PACKET}
use Rattle.format.specs.Packets.{Items}
use Rattle.format.specs.Packets.Items.{end}
use Rattle.format.specs.Rules.{State, Context, Terms, Level, Next, field, due, named, next, rule_of, noted}
use Rattle.format.specs.Rules.Level.{in_header, in_packet, in_user}
use Rattle.format.specs.Rules.Next.{go}
use Rattle.format.specs.Telegrams.{Entry, entry}
use Rattle.laws.proofs.Steps.{going, Stepped, stepped}
use Rattle.laws.proofs.Steps.Settled.{on, closed, misfitted}
use Rattle.laws.proofs.Steps.Stepped.{forbidden, marked, noticed}
use Rattle.laws.proofs.Points.{Sends}
use Rattle.laws.proofs.Points.Sends.{nothing, one_more}
use Rattle.laws.proofs.Headed.{InHeader, InBody, every_due, named_due}
use Rattle.laws.proofs.Headed.Carried.{carrying, filled}
use Rattle.laws.proofs.Noted.{direction_in_packet, size_in_packet, direction_in_user, size_in_user, user_noted, body_noted, header_noted}
use Rattle.laws.proofs.Standing.{Amid, Stands, apart, mark_apart}
use Rattle.laws.proofs.Standing.Begun.{identified, directed, sized}
use Rattle.laws.proofs.Standing.Amid.{amid_header, amid_packet, amid_user}
use Rattle.laws.proofs.Standing.Stands.{between, amid}
use Rattle.laws.proofs.Pairs.{one_end, not_empty}
use Rattle.laws.proofs.Recalled.{sends_stands}
use Rattle.given.proofs.Insides.{Grown, grown, inside_name, without_more}
use Rattle.given.proofs.Insides.Grown.{was, new}

-- ---- the packet in hand

pub record Told (es : List Entry) (c : Context) : Type 0 where
  -- right behind its Q_DIR, and from its L_PACKET on, the context has its Q_DIR
  pub directed : (b : List Entry) (i d : ℕ) → es ≡ b ++ (holding NID_PACKET i ∷ holding Q_DIR d ∷ []) → c.dir ≡ d
  pub dir : (o : Inside NID_PACKET es) → c.dir ≡ o.dir
  -- in a packet and in no CTCS packet, none was begun; and in the header there is no packet
  pub plain : c.level ≡ in_packet → (o : Inside NID_PACKET es) → Without NID_XUSER o.after
  pub front : c.level ≡ in_header → Inside NID_PACKET es → ⊥

-- two levels are not one
pub levels : {l : Level} {A : Type 0} → l ≡ in_header → l ≡ in_packet → A
levels i j = let z : ◌≡◌ {A = ℕ} 0 1 = cc in absurd (omega arith)

levels_user : {l : Level} {A : Type 0} → l ≡ in_user → l ≡ in_packet → A
levels_user i j = let z : ◌≡◌ {A = ℕ} 0 1 = cc in absurd (omega arith)

levels_front : {l : Level} {A : Type 0} → l ≡ in_user → l ≡ in_header → A
levels_front i j = let z : ◌≡◌ {A = ℕ} 0 1 = cc in absurd (omega arith)

-- entries that end in a Q_DIR right behind a NID_PACKET
ends_directed : (es b : List Entry) (e : Entry) (i d : ℕ) → es ++ (e ∷ []) ≡ b ++ (holding NID_PACKET i ∷ holding Q_DIR d ∷ [])
    → (es ≡ b ++ (holding NID_PACKET i ∷ [])) × (e ≡ holding Q_DIR d)
ends_directed es b e i d h =
    one_end es (b ++ (holding NID_PACKET i ∷ [])) e (holding Q_DIR d)
    (h ∙ sym (append_assoc b (holding NID_PACKET i ∷ []) (holding Q_DIR d ∷ [])))

module _ (es : List Entry) (e : Entry) (c d : Context) where
  -- a field that leaves the Q_DIR as it was
  told_kept : Told es c → d.dir ≡ c.dir → (e.field ≡ Q_DIR → (b : List Entry) (i : ℕ) → es ≡ b ++ (holding NID_PACKET i ∷ []) → ⊥)
      → (d.level ≡ in_packet → (c.level ≡ in_packet) × (e.field ≡ NID_XUSER → ⊥))
      → (d.level ≡ in_header → (c.level ≡ in_header) × (e.field ≡ L_PACKET → ⊥))
      → Told (es ++ (e ∷ [])) d
  told_kept h k undirected plain front =
      record {
        directed = λ b i x j. absurd (never b i x j);
        dir = λ o. by_dir o (grown NID_PACKET es e o);
        plain = λ l o. by_plain l o (grown NID_PACKET es e o);
        front = λ l o. by_front l o (grown NID_PACKET es e o);
      }
    where
      never : (b : List Entry) (i x : ℕ) → es ++ (e ∷ []) ≡ b ++ (holding NID_PACKET i ∷ holding Q_DIR x ∷ []) → ⊥
      never b i x j = let q = ends_directed es b e i x j in undirected (ap (λ (y : Entry). y.field) q.1) b i q.0

      by_dir : (o : Inside NID_PACKET (es ++ (e ∷ []))) → Grown NID_PACKET es e o → d.dir ≡ o.dir
      by_dir o (was q i j) = k ∙ h.dir q ∙ i
      by_dir o (new i j l) = k ∙ h.directed o.before o.name o.dir j

      by_plain : d.level ≡ in_packet → (o : Inside NID_PACKET (es ++ (e ∷ []))) → Grown NID_PACKET es e o → Without NID_XUSER o.after
      by_plain l o (was q i j) = subst (Without NID_XUSER) (sym j) (without_more NID_XUSER q.after e (h.plain (plain l).0 q) (plain l).1)
      by_plain l o (new i j m) = subst (Without NID_XUSER) (sym m) tt

      by_front : d.level ≡ in_header → (o : Inside NID_PACKET (es ++ (e ∷ []))) → Grown NID_PACKET es e o → ⊥
      by_front l o (was q i j) = h.front (front l).0 q
      by_front l o (new i j m) = (front l).1 (ap (λ (y : Entry). y.field) i)

  -- entries that do not end inside a packet
  told_none : (Inside NID_PACKET (es ++ (e ∷ [])) → ⊥)
      → ((b : List Entry) (i x : ℕ) → es ++ (e ∷ []) ≡ b ++ (holding NID_PACKET i ∷ holding Q_DIR x ∷ []) → d.dir ≡ x)
      → Told (es ++ (e ∷ [])) d
  told_none n k = record { directed = k; dir = λ o. absurd (n o); plain = λ l o. absurd (n o); front = λ l o. n o }

-- ---- one field more

-- a field of a body is no Q_DIR, no NID_XUSER and no L_PACKET
body_apart : (f g : Field) → InBody f → (InBody g → ⊥) → f ≡ g → ⊥
body_apart f g k n e = n (subst InBody e k)

header_apart : (f g : Field) → InHeader f → (InHeader g → ⊥) → f ≡ g → ⊥
header_apart f g k n e = n (subst InHeader e k)

module _ (at v : ℕ) (c : Context) (u : Items) where
  amid_told : {es : List Entry} (t : Items) → T (going t) → Amid es t c → Told es c
      → Told (es ++ (holding (named t v) v ∷ [])) (noted (rule_of (due t).sense) c at v)
  amid_told {es} t g (amid_header l k) h =
      let f = every_due InHeader t g k in
      let m = header_noted c at v (rule_of (due t).sense) f in
      let fe : InHeader (named t v) = rw (named_due t v g) f in
      told_none es (holding (named t v) v) c _ (λ o. h.front l (was_in o (grown NID_PACKET es _ o) fe))
      (λ b i x j. absurd (header_apart (named t v) Q_DIR fe (λ z. z) (ap (λ (y : Entry). y.field) (ends_directed es b _ i x j).1)))
    where
      was_in : (o : Inside NID_PACKET (es ++ (holding (named t v) v ∷ []))) → Grown NID_PACKET es (holding (named t v) v) o → InHeader (named t v)
          → Inside NID_PACKET es
      was_in o (was q i j) f = q
      was_in o (new i j m) f = absurd (header_apart (named t v) L_PACKET f (λ z. z) (ap (λ (y : Entry). y.field) i))
  amid_told {es} t g (amid_packet l (identified b n i x q)) h =
      rw (direction_in_packet c at v l)
      (told_none es (holding Q_DIR v) c _ (λ o. no_inside o (grown NID_PACKET es _ o))
      (λ a m y j. ap (λ (z : Entry). z.value) (ends_directed es a _ m y j).1))
    where
      no_inside : (o : Inside NID_PACKET (es ++ (holding Q_DIR v ∷ []))) → Grown NID_PACKET es (holding Q_DIR v) o → ⊥
      no_inside o (was k p j) = inside_name NID_PACKET (apart L_PACKET NID_PACKET refl) b n (subst (Inside NID_PACKET) i k)
      no_inside o (new k p j) = apart Q_DIR L_PACKET refl (ap (λ (z : Entry). z.field) k)
  amid_told {es} t g (amid_packet l (directed b n d i x q)) h =
      rw (size_in_packet c at v l)
      (told_kept es (holding L_PACKET v) c _ h refl (λ e. absurd (apart L_PACKET Q_DIR refl e)) (λ m. (l, apart L_PACKET NID_XUSER refl)) (λ m. levels m refl))
  amid_told {es} t g (amid_packet l (sized k x y carrying)) h =
      rw (user_noted c at v)
      (told_kept es (holding NID_XUSER v) c _ h refl (λ e. absurd (apart NID_XUSER Q_DIR refl e)) (λ m. levels_user refl m) (λ m. levels_front refl m))
  amid_told {es} t g (amid_packet l (sized k x y (filled w))) h =
      let f = every_due InBody t g w in
      let fe : InBody (named t v) = rw (named_due t v g) f in
      rw (body_noted c at v (rule_of (due t).sense) f)
      (told_kept es (holding (named t v) v) c c h refl (λ e. absurd (body_apart (named t v) Q_DIR fe (λ z. z) e))
      (λ m. (l, body_apart (named t v) NID_XUSER fe (λ z. z))) (λ m. levels m l))
  amid_told {es} t g (amid_user l o x y k z (identified b n i w q)) h =
      rw (direction_in_user c at v l)
      (told_kept es (holding Q_DIR v) c c h refl (λ e a m j. inside_name NID_PACKET (apart L_PACKET NID_PACKET refl) a m (subst (Inside NID_PACKET) j o))
      (λ m. levels_user l m) (λ m. levels_front l m))
  amid_told {es} t g (amid_user l o x y k z (directed b n d i w q)) h =
      rw (size_in_user c at v l)
      (told_kept es (holding L_PACKET v) c _ h refl (λ e. absurd (apart L_PACKET Q_DIR refl e)) (λ m. levels_user refl m) (λ m. levels_front refl m))
  amid_told {es} t g (amid_user l o x y k z (sized w a b q)) h =
      let f = every_due InBody t g q in
      let fe : InBody (named t v) = rw (named_due t v g) f in
      rw (body_noted c at v (rule_of (due t).sense) f)
      (told_kept es (holding (named t v) v) c c h refl (λ e. absurd (body_apart (named t v) Q_DIR fe (λ i. i) e))
      (λ m. levels_user l m) (λ m. levels_front l m))

  between_told : (es : List Entry) → Told (es ++ (holding NID_PACKET v ∷ [])) (noted (rule_of NID_PACKET.sense) c at v)
  between_told es =
      told_none es (holding NID_PACKET v) c _ (inside_name NID_PACKET (apart L_PACKET NID_PACKET refl) es v)
      (λ b i x j. absurd (apart NID_PACKET Q_DIR refl (ap (λ (y : Entry). y.field) (ends_directed es b _ i x j).1)))

pub told_next : (p : Terms) (es : List Entry) (s : State) (v : ℕ) (u : Items) → Stands es s → (T (going s.todo) → Told es s.context)
    → next s.todo v ≡ some u
    → Told (es ++ (entry s v ∷ [])) (noted (rule_of (field s).sense) s.context s.at v)
unfolding next
told_next p es s v u (between i l x) h j = rw (i, mark_apart p s.context s.at v u (rw i at j)) (between_told s.at v s.context u es)
told_next p es s v u (amid g a) h j = amid_told s.at v s.context u s.todo g a (h g)

begun_told : (c : Context) → Told [] c
begun_told c =
    record {
      directed = λ b i d e. not_empty b _ _ e;
      dir = λ o. not_empty o.before _ _ o.parts;
      plain = λ l o. not_empty o.before _ _ o.parts;
      front = λ l o. not_empty o.before _ _ o.parts;
    }

pub sends_told : {p : Terms} {es : List Entry} {s : State} → Sends p es s → T (going s.todo) → Told es s.context
sends_told nothing g = begun_told _
sends_told {p} (one_more {es = es} {s = s} v {t = t} {c = c} h f e) g = by_way (λ k. sends_told h k) (stepped p s v) e
  where
    by_way : (T (going s.todo) → Told es s.context) → {n : Next} → Stepped p s v n → n ≡ go t c → Told (es ++ (entry s v ∷ [])) c
    by_way ih (forbidden b) i = let z : ◌≡◌ {A = ℕ} 0 1 = cc in absurd (omega arith)
    by_way ih (marked b j) i = let z : ◌≡◌ {A = ℕ} 0 1 = cc in absurd (omega arith)
    by_way ih (noticed {t = u} b j (on k)) i =
        let ec : noted (rule_of (field s).sense) s.context s.at v ≡ c = cc in
        rw (← ec) (told_next p es s v u (sends_stands h) ih j)
    by_way ih (noticed b j (closed k)) i = let et : end ≡ t = cc in absurd (rw (← et) at g)
    by_way ih (noticed b j (misfitted k q)) i = let z : ◌≡◌ {A = ℕ} 0 1 = cc in absurd (omega arith)
