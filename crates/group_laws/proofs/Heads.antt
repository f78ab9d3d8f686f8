-- The packets that a telegram divides into are those that stand whole in it, each with its NID_PACKET and Q_DIR, in order of sending: so what a
-- look over its bits by L_PACKET finds. Assumes nothing.
use mathlib.Core.Bool.{Bool, true, false, not, ◌&&◌, ◌||◌}
use mathlib.Core.List.{List, [], ◌∷◌, ◌++◌, append_assoc, append-nil, map, reverse, reverse-cons}
use mathlib.Core.Path.{◌≡◌, refl, sym, ap, ◌∙◌, subst}
use Prim.Native.Nat.{ℕ}
use lib.Dec.{T, eqb}
use Rattle.format.specs.Among.{holding}
use Rattle.format.specs.Fields.{Field, NID_PACKET, Q_DIR, L_PACKET, END}
use Rattle.format.specs.Packets.{Items, Packet, etcs, ctcs}
use Rattle.format.specs.Packets.Items.{end}
use Rattle.format.specs.Rules.{Earlier, named, next}
use Rattle.format.specs.Telegrams.{Entry, Divided, begins, before, divided, bit_count}
use Rattle.laws.proofs.Steps.{going}
use Rattle.laws.proofs.Every.{Every, IfSome, Throughout, passes, passed, found, every_named, every_next}
use Rattle.laws.proofs.Whole.{Goes, Began, Whole, headed}
use Rattle.laws.proofs.Whole.Goes.{here, further}
use Rattle.laws.proofs.Whole.Whole.{front, then}
use Rattle.laws.proofs.Whole as whole
use Rattle.group.specs.Groups.{held, is_packet}

-- ---- dividing

-- no entry of these begins a packet or the end mark
abbrev pub Quiet : List Entry → Type 0
Quiet [] = Unit
Quiet (e ∷ es) = (begins e ≡ false) × Quiet es

quiet_append : (xs ys : List Entry) → Quiet xs → Quiet ys → Quiet (xs ++ ys)
quiet_append [] ys a b = b
quiet_append (x ∷ xs) ys a b = (a.0, quiet_append xs ys a.1 b)

abbrev parts : List Entry → List (List Entry) → Divided
parts h ps = record { header = h; packets = ps }

divided_quiet : (es : List Entry) → Quiet es → divided es ≡ parts es []
unfolding divided
divided_quiet [] q = refl
divided_quiet (e ∷ es) q = rw (q.0, divided_quiet es q.1)

pub header_quiet : (es : List Entry) → Quiet (divided es).header
unfolding divided
header_quiet [] = tt
header_quiet (e ∷ es) = by_test (begins e) refl (header_quiet es)
  where
    by_test : (b : Bool) → begins e ≡ b → Quiet (divided es).header → Quiet (before b e (divided es)).header
    by_test true i h = tt
    by_test false i h = (i, h)

-- where what follows begins a packet, the two are divided apart
pub divided_front : (xs ys : List Entry) → (divided ys).header ≡ [] → divided (xs ++ ys) ≡ parts (divided xs).header ((divided xs).packets ++ (divided ys).packets)
unfolding divided
divided_front [] ys h = ap (λ l. parts l (divided ys).packets) h
divided_front (x ∷ xs) ys h = by_test (begins x) (divided_front xs ys h)
  where
    by_test : (b : Bool) → divided (xs ++ ys) ≡ parts (divided xs).header ((divided xs).packets ++ (divided ys).packets)
        → before b x (divided (xs ++ ys)) ≡ parts (before b x (divided xs)).header ((before b x (divided xs)).packets ++ (divided ys).packets)
    by_test true i = ap (before true x) i
    by_test false i = ap (before false x) i

-- a packet, behind whose NID_PACKET nothing begins
divided_packet : (i : ℕ) (rest : List Entry) → Quiet rest → divided (holding NID_PACKET i ∷ rest) ≡ parts [] ((holding NID_PACKET i ∷ rest) ∷ [])
unfolding divided
divided_packet i rest q = rw (divided_quiet rest q)

-- ---- nothing begins inside a packet

abbrev quiet : Field → Bool
quiet f = not (eqb f.number NID_PACKET.number || eqb f.number END.number)

abbrev Still : Field → Type 0
Still f = T (quiet f)

still_begins : (f : Field) (v : ℕ) → Still f → begins (holding f v) ≡ false
still_begins f v h = by_test (eqb f.number NID_PACKET.number || eqb f.number END.number) h
  where
    by_test : (b : Bool) → T (not b) → b ≡ false
    by_test true k = absurd k
    by_test false k = refl

abbrev all_pass : List Packet → Bool
all_pass [] = true
all_pass (p ∷ ps) = passes quiet p.items && all_pass ps

and_two : (a b : Bool) → T (a && b) → T a × T b
and_two true true h = (tt, tt)
and_two true false h = absurd h
and_two false b h = absurd h

throughout : (ps : List Packet) → T (all_pass ps) → Throughout (Every Still) ps
throughout [] h = tt
throughout (p ∷ ps) h = let k = and_two (passes quiet p.items) (all_pass ps) h in (passed quiet p.items k.0, throughout ps k.1)

tables_pass : T (all_pass etcs) × T (all_pass ctcs)
unfolding etcs ctcs
tables_pass = (tt, tt)

not_going : {A : Type 0} (t : Items) → T (going t) → t ≡ end → A
not_going t g e = absurd (subst (λ i. T (going i)) e g)

goes_quiet : {t u : Items} {es : List Entry} → Every Still t → Goes t es u → Quiet es × Every Still u
goes_quiet k here = (tt, k)
goes_quiet k (further {es = es} {u = u} {w = w} v g o n) =
    let h = goes_quiet k g in
    let f : Still (named u v) = every_named Still u v h.1 (λ e. not_going u o e) in
    let l : IfSome (Every Still) (next u v) =
    every_next Still u v h.1 (λ e. not_going u o e) (λ e. found (Every Still) v ctcs (throughout ctcs tables_pass.1)) in
    (quiet_append es (holding (named u v) v ∷ []) h.0 (still_begins (named u v) v f, tt), (rw n at l))

began_still : {i : ℕ} (g : Began i) → Every Still g.items
unfolding next
began_still {i} g = (rw g.found at (found (Every Still) i etcs (throughout etcs tables_pass.0)))

packet_quiet : {i d n : ℕ} {body : List Entry} (p : whole.Packet i d n body) → Quiet (holding Q_DIR d ∷ holding L_PACKET n ∷ body)
packet_quiet p = (goes_quiet (began_still p.began) p.goes).0

-- ---- the packets that stand whole

abbrev pub head_of : List Entry → Earlier
head_of p = record { id = held NID_PACKET p; dir = held Q_DIR p }

abbrev pub AllPackets : List (List Entry) → Type 0
AllPackets [] = Unit
AllPackets (p ∷ ps) = (is_packet p ≡ true) × AllPackets ps

all_append : (xs ys : List (List Entry)) → AllPackets xs → AllPackets ys → AllPackets (xs ++ ys)
all_append [] ys a b = b
all_append (x ∷ xs) ys a b = (a.0, all_append xs ys a.1 b)

map_append : {A B : Type 0} (f : A → B) (xs ys : List A) → map f (xs ++ ys) ≡ map f xs ++ map f ys
map_append f [] ys = refl
map_append f (x ∷ xs) ys = ap (λ l. f x ∷ l) (map_append f xs ys)

-- each is a packet as the tables have it, with its three numbers
pub record IsHeaded (p : List Entry) : Type 0 where
  pub id : ℕ
  pub dir : ℕ
  pub long : ℕ
  pub body : List Entry
  pub is : p ≡ headed id dir long body
  pub packet : whole.Packet id dir long body

abbrev pub AllHeaded : List (List Entry) → Type 0
AllHeaded [] = Unit
AllHeaded (p ∷ ps) = IsHeaded p × AllHeaded ps

headed_append : (xs ys : List (List Entry)) → AllHeaded xs → AllHeaded ys → AllHeaded (xs ++ ys)
headed_append [] ys a b = b
headed_append (x ∷ xs) ys a b = (a.0, headed_append xs ys a.1 b)

-- where the front, of 50 bits, is quiet
pub record Divides (b : List Entry) (l : List Earlier) : Type 0 where
  pub heads : map head_of (divided b).packets ≡ reverse l
  pub packets : AllPackets (divided b).packets
  pub headed : AllHeaded (divided b).packets

pub whole_divides : {b : List Entry} {l : List Earlier} → Whole b l → ((f x : List Entry) → b ≡ f ++ x → bit_count f ≡ 50 → Quiet f) → Divides b l
whole_divides (front {es = es} e c) q =
    let h = divided_quiet es (q es [] (sym (append-nil es)) e) in
    record { heads = rw h; packets = rw h tt; headed = rw h tt }
whole_divides (then {es = b} {l = l} {i = i} {d = d} {n = n} {body = body} w p) q =
    let ih = whole_divides w (λ f x k m. q f (x ++ headed i d n body) (ap (λ y. y ++ headed i d n body) k ∙ append_assoc f x (headed i d n body)) m) in
    let one = divided_packet i (holding Q_DIR d ∷ holding L_PACKET n ∷ body) (packet_quiet p) in
    let all = divided_front b (headed i d n body) (ap (λ (x : Divided). x.header) one) in
    let is : (divided (b ++ headed i d n body)).packets ≡ (divided b).packets ++ (headed i d n body ∷ []) =
    ap (λ (x : Divided). x.packets) all ∙ ap (λ (x : Divided). (divided b).packets ++ x.packets) one in
    record {
      heads = ap (map head_of) is ∙ map_append head_of (divided b).packets (headed i d n body ∷ []) ∙ ap (λ x. x ++ (record { id = i; dir = d } ∷ [])) ih.heads
          ∙ sym (reverse-cons (record { id = i; dir = d }) l);
      packets = subst AllPackets (sym is) (all_append (divided b).packets (headed i d n body ∷ []) ih.packets (refl, tt));
      headed = subst AllHeaded (sym is)
          (headed_append (divided b).packets (headed i d n body ∷ []) ih.headed (record { id = i; dir = d; long = n; body = body; is = refl; packet = p }, tt));
    }
