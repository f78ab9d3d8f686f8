-- What is due after the entries that were sent: a NID_PACKET or the end mark, the Q_DIR of a packet right behind its NID_PACKET, or a field
-- that makes no packet. Assumes nothing.
use mathlib.Core.List.{List, [], ◌∷◌, ◌++◌, append_assoc}
use mathlib.Core.Path.{◌≡◌, refl, sym, ap, ◌∙◌, subst}
use Prim.Native.Nat.{ℕ}
use native.Mathlib.Omega.{arith}
use lib.Dec.{T}
use Rattle.format.specs.Among.{holding, Inside}
use Rattle.format.specs.Fields.{Field, NID_PACKET, NID_XUSER, Q_DIR, L_PACKET}
use Rattle.format.specs.Fields.Rule.{direction}
use Rattle.format.specs.Packets.{Items}
use Rattle.format.specs.Packets.Items.{end}
use Rattle.format.specs.Rules.{State, Context, Level, field, due, rule_of}
use Rattle.format.specs.Rules.Level.{in_packet, in_user}
use Rattle.format.specs.Telegrams.{Entry}
use Rattle.laws.proofs.Steps.{going}
use Rattle.laws.proofs.Headed.{InHeader, InBody, of_header, of_body, every_due}
use Rattle.laws.proofs.Headed.Carried.{carrying, filled}
use Rattle.laws.proofs.Standing.{Amid, Stands, apart}
use Rattle.laws.proofs.Standing.Begun.{identified, directed, sized}
use Rattle.laws.proofs.Standing.Amid.{amid_header, amid_packet, amid_user}
use Rattle.laws.proofs.Standing.Stands.{between, amid}
use Rattle.laws.proofs.Pairs.{one_end}

-- a field that makes no packet: it is no NID_PACKET, and no Q_DIR right behind one; and the context takes it for no packet's Q_DIR
pub record Elsewhere (es : List Entry) (f : Field) (c : Context) : Type 0 where
  pub unnamed : f ≡ NID_PACKET → ⊥
  pub undirected : f ≡ Q_DIR → (b : List Entry) (n : ℕ) → es ≡ b ++ (holding NID_PACKET n ∷ []) → ⊥
  pub unruled : rule_of f.sense ≡ direction → c.level ≡ in_packet → ⊥

-- What is due after the entries: a NID_PACKET or the end mark; the Q_DIR of a packet, right behind its NID_PACKET; or another field
pub data Awaits (es : List Entry) (s : State) : Type 0 where
  begins : s.todo ≡ end → Awaits es s
  directs : T (going s.todo) → field s ≡ Q_DIR → s.context.level ≡ in_packet → (b : List Entry) (n : ℕ)
      → es ≡ b ++ (holding NID_PACKET n ∷ []) → Awaits es s
  goes_by : T (going s.todo) → Elsewhere es (field s) s.context → Awaits es s

-- in a CTCS packet is not in its packet alone
user_not : {l : Level} → l ≡ in_user → l ≡ in_packet → ⊥
user_not l e = let z : ◌≡◌ {A = ℕ} 0 1 = cc in omega arith

-- entries inside a packet end in what stands behind its L_PACKET
inside_end : {id : Field} {es : List Entry} (h : Inside id es) (b : List Entry) (e : Entry) → h.after ≡ b ++ (e ∷ [])
    → (c : List Entry) (x : Entry) → es ≡ c ++ (x ∷ []) → e ≡ x
inside_end {id} h b e i c x j =
    let ahead : List Entry → List Entry = λ l. holding id h.name ∷ holding Q_DIR h.dir ∷ holding L_PACKET h.size ∷ l in
    let k = ap (λ (l : List Entry). h.before ++ ahead l) i ∙ sym (append_assoc h.before (ahead b) (e ∷ [])) in
    (one_end (h.before ++ ahead b) c e x (sym k ∙ sym h.parts ∙ j)).1

-- an NID_XUSER is no NID_PACKET
user_named : (m n : ℕ) → holding NID_XUSER m ≡ holding NID_PACKET n → ⊥
user_named m n e = apart NID_XUSER NID_PACKET refl (ap (λ (x : Entry). x.field) e)

-- a field of the header makes no packet
header_elsewhere : {es : List Entry} {f : Field} {c : Context} → InHeader f → Elsewhere es f c
header_elsewhere k =
    record {
      unnamed = λ e. subst InHeader e k;
      undirected = λ e b n i. subst InHeader e k;
      unruled = λ e l. subst (λ r. T (of_header r)) e k;
    }

-- a field behind an L_PACKET makes no packet
body_elsewhere : {es : List Entry} {f : Field} {c : Context} → InBody f → Elsewhere es f c
body_elsewhere k =
    record {
      unnamed = λ e. subst InBody e k;
      undirected = λ e b n i. subst InBody e k;
      unruled = λ e l. subst (λ r. T (of_body r)) e k;
    }

-- an L_PACKET makes no packet
size_elsewhere : {es : List Entry} {c : Context} → Elsewhere es L_PACKET c
size_elsewhere =
    record {
      unnamed = apart L_PACKET NID_PACKET refl;
      undirected = λ e b n i. apart L_PACKET Q_DIR refl e;
      unruled = λ e l. let z : ◌≡◌ {A = ℕ} 0 1 = cc in omega arith;
    }

-- an NID_XUSER makes no packet
user_elsewhere : {es : List Entry} {c : Context} → Elsewhere es NID_XUSER c
user_elsewhere =
    record {
      unnamed = apart NID_XUSER NID_PACKET refl;
      undirected = λ e b n i. apart NID_XUSER Q_DIR refl e;
      unruled = λ e l. let z : ◌≡◌ {A = ℕ} 0 1 = cc in omega arith;
    }

-- what is due amid the header, a packet or a CTCS packet
amid_awaits : {es : List Entry} {s : State} (t : Items) → s.todo ≡ t → T (going t) → Amid es t s.context → Awaits es s
amid_awaits t e g (amid_header l k) = goes_by (rw e g) (header_elsewhere (rw e (every_due InHeader t g k)))
amid_awaits t e g (amid_packet l (identified b n i x q)) = directs (rw e g) (ap due e) l b n i
amid_awaits t e g (amid_packet l (directed b n d i x q)) = goes_by (rw e g) (rw e size_elsewhere)
amid_awaits t e g (amid_packet l (sized h x y carrying)) = goes_by (rw e g) (rw e user_elsewhere)
amid_awaits t e g (amid_packet l (sized h x y (filled w))) = goes_by (rw e g) (body_elsewhere (rw e (every_due InBody t g w)))
amid_awaits t e g (amid_user l o x y k z (identified b n i h q)) =
    goes_by (rw e g)
    (rw e
    (record {
      unnamed = apart Q_DIR NID_PACKET refl;
      undirected = λ f c m j. user_named n m (inside_end o b (holding NID_XUSER n) i c (holding NID_PACKET m) j);
      unruled = λ f j. user_not l j;
    }))
amid_awaits t e g (amid_user l o x y k z (directed b n d i h q)) = goes_by (rw e g) (rw e size_elsewhere)
amid_awaits t e g (amid_user l o x y k z (sized h i b w)) = goes_by (rw e g) (body_elsewhere (rw e (every_due InBody t g w)))

-- what is due wherever the entries stand
pub awaits : {es : List Entry} {s : State} → Stands es s → Awaits es s
awaits (between i l x) = begins i
awaits {s = s} (amid g h) = amid_awaits s.todo refl g h
