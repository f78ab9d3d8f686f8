-- No wrong place can be pointed at: of one source, `Pointed` holds for one refusal alone, with its kind and its place. Assumes nothing.
use mathlib.Core.List.{List, [], ◌∷◌, ◌++◌, append_assoc, append-nil}
use mathlib.Core.Path.{◌≡◌, refl, sym, ap, ◌∙◌}
use Prim.Native.Nat.{ℕ}
use native.Mathlib.Omega.{arith}
use Rattle.format.specs.Among.{holding, Without, Inside, size_at, Fitting, Misfitting}
use Rattle.format.specs.Fields.{Field, NID_PACKET, NID_XUSER, Q_DIR, L_PACKET}
use Rattle.format.specs.Packets.{Items}
use Rattle.format.specs.Rules.{State, Context, Terms, Level, begun, step, moved}
use Rattle.format.specs.Rules.Next.{go}
use Rattle.format.specs.Telegrams.{Entry, entry, Taken, from_bits, from_values, bits_in, values_in, all, bit_count}
use Rattle.format.specs.Telegrams.Taken.{got}
use Rattle.format.specs.declared.Kind.TheVariants.{Length}
use Rattle.format.specs.declared.Refusal.{Refusal}
use Rattle.laws.proofs.Sources.{Source, Sent, Listed, from_bits_lem, from_values_lem}
use Rattle.laws.proofs.Round.{all_append}
use Rattle.laws.proofs.Tile.{bit_count_append}
use Rattle.laws.proofs.Points.{Sends, within, Wrong, Offends, Points, Pointed}
use Rattle.laws.proofs.Points.Sends.{nothing, one_more}
use Rattle.laws.proofs.Points.Wrong.{alone, inner, outer}
use Rattle.laws.proofs.Points.Points.{lacking, breaking, sizing, trailing}
use Rattle.laws.proofs.Standing.{apart}

-- ---- one last packet

-- where none of the entries is of a field, none can be found
pub not_among : (f : Field) (es : List Entry) (e : Entry) (fs : List Entry) → Without f (es ++ e ∷ fs) → e.field ≡ f → ⊥
not_among f [] e fs w = w.0
not_among f (d ∷ es) e fs w = not_among f es e fs w.1

-- so that entries are taken apart at the last of a field in one way
one_last : (f : Field) (b c : List Entry) (v u : ℕ) (m n : List Entry) → Without f m → Without f n
    → b ++ holding f v ∷ m ≡ c ++ holding f u ∷ n → (b ≡ c) × (holding f v ∷ m ≡ holding f u ∷ n)
one_last f [] [] v u m n wm wn i = (refl, i)
one_last f [] (y ∷ c) v u m n wm wn i =
    let j : m ≡ c ++ holding f u ∷ n = cc in
    absurd (not_among f c (holding f u) n (rw j at wm) refl)
one_last f (x ∷ b) [] v u m n wm wn i =
    let j : n ≡ b ++ holding f v ∷ m = cc in
    absurd (not_among f b (holding f v) m (rw j at wn) refl)
one_last f (x ∷ b) (y ∷ c) v u m n wm wn i =
    let j : b ++ holding f v ∷ m ≡ c ++ holding f u ∷ n = cc in
    let h = one_last f b c v u m n wm wn j in
    let e : x ≡ y = cc in
    (cc (e, h.0), h.1)

-- neither Q_DIR nor L_PACKET is an identifier
abbrev pub Other : Field → Type 0
Other id = (Q_DIR ≡ id → ⊥) × (L_PACKET ≡ id → ⊥)

pub packet_other : Other NID_PACKET
packet_other = (apart Q_DIR NID_PACKET refl, apart L_PACKET NID_PACKET refl)

pub user_other : Other NID_XUSER
user_other = (apart Q_DIR NID_XUSER refl, apart L_PACKET NID_XUSER refl)

-- So the entries end inside one packet of a sort: its L_PACKET stands at one place, and is not both right and wrong.
module _ {id : Field} (other : Other id) {es : List Entry} (h k : Inside id es) where
  pub one_packet : (h.before ≡ k.before)
      × (holding id h.name ∷ holding Q_DIR h.dir ∷ holding L_PACKET h.size ∷ h.after
      ≡ holding id k.name ∷ holding Q_DIR k.dir ∷ holding L_PACKET k.size ∷ k.after)
  one_packet =
      one_last id h.before k.before h.name k.name _ _ (other.0, (other.1, h.own)) (other.0, (other.1, k.own))
      (sym h.parts ∙ k.parts)

  one_size : size_at h ≡ size_at k
  one_size =
      let e = ap bit_count one_packet.0 in
      let a = bit_count_append h.before (holding id h.name ∷ holding Q_DIR h.dir ∷ []) in
      let b = bit_count_append k.before (holding id k.name ∷ holding Q_DIR k.dir ∷ []) in
      omega arith

  not_both : Fitting h → Misfitting k → ⊥
  not_both f m =
      let i = one_packet.1 in
      let j : holding L_PACKET h.size ≡ holding L_PACKET k.size = cc in
      let s = ap (λ (e : Entry). e.value) j in
      let t = ap bit_count i in
      m (omega arith)

-- and one L_PACKET is wrong: in a CTCS packet, its own or that of the packet around it, by whether its own is right
one_wrong : {es : List Entry} {l : Level} {x y : ℕ} → Wrong es l x → Wrong es l y → x ≡ y
one_wrong (alone h m) (alone k n) = one_size packet_other h k
one_wrong (inner o h m) (inner q k n) = one_size user_other (within o h) (within q k)
one_wrong (inner o h m) (outer q k f n) = absurd (not_both user_other (within q k) (within o h) f m)
one_wrong (outer o h f m) (inner q k n) = absurd (not_both user_other (within o h) (within q k) f n)
one_wrong (outer o h f m) (outer q k g n) = one_size packet_other o q

-- ---- one refusal at a field

-- no field that is due is refused as a wrong length
not_length : {f : Field} {l : Level} → Offends Length f l → ⊥
not_length o = elim o [ ]

module _ {p : Terms} {source : State → List ℕ → Taken} where
  -- after the same entries, with the same left of the source: what the source gives and what its value leads to are one
  one_points : {es : List Entry} {s : State} {xs : List ℕ} {r q : Refusal} → Points p source es s xs r → Points p source es s xs q → r ≡ q
  one_points (lacking e m) (lacking f n) = cc
  one_points (lacking e m) (breaking f i o) = cc
  one_points (lacking e m) (sizing f i w) = cc
  one_points (lacking e m) (trailing f i) = cc
  one_points (breaking e h o) (lacking f n) = cc
  one_points (breaking e h o) (breaking f i u) = cc
  one_points (breaking {k = k} e h o) (sizing f i w) = let n : k ≡ Length = cc in absurd (not_length (rw n at o))
  one_points (breaking e h o) (trailing f i) = cc
  one_points (sizing e h w) (lacking f n) = cc
  one_points (sizing e h w) (breaking {k = k} f i o) = let n : k ≡ Length = cc in absurd (not_length (rw n at o))
  one_points (sizing {v = v} e h w) (sizing {v = u} f i m) =
      let j : u ≡ v = cc in
      ap (λ (x : ℕ). record { kind = Length; place = x }) (one_wrong w (rw j at m))
  one_points (sizing e h w) (trailing f i) = cc
  one_points (trailing e h) (lacking f n) = cc
  one_points (trailing e h) (breaking f i o) = cc
  one_points (trailing e h) (sizing f i w) = cc
  one_points (trailing e h) (trailing f i) = cc

  -- where a refusal points, no field more is sent: with one, any equation would hold
  halts : {es : List Entry} {s : State} {v : ℕ} {xs ys : List ℕ} {t : Items} {c : Context} {r : Refusal} (q : Refusal)
      → Points p source es s xs r → source s xs ≡ got v ys → step p s v ≡ go t c → r ≡ q
  halts q (lacking f m) e g = cc
  halts q (breaking f i o) e g = cc
  halts q (sizing f i w) e g = cc
  halts q (trailing f i) e g = cc

-- ---- one refusal from a state on

-- The way of a source to its refusal, from the state that the entries es lead to: `Sends` grows at its end, and two ways are compared
-- from their beginning.
pub data Stops (p : Terms) (source : State → List ℕ → Taken) (r : Refusal) : List Entry → State → List ℕ → Type 0 where
  here : {es : List Entry} {s : State} {xs : List ℕ} → Points p source es s xs r → Stops p source r es s xs
  later : {es : List Entry} {s : State} {v : ℕ} {xs ys : List ℕ} {t : Items} {c : Context} → source s xs ≡ got v ys → step p s v ≡ go t c
      → Stops p source r (es ++ (entry s v ∷ [])) (moved s t c) ys → Stops p source r es s xs

one_stop : {p : Terms} {source : State → List ℕ → Taken} {r q : Refusal} {es : List Entry} {s : State} {xs : List ℕ}
    → Stops p source r es s xs → Stops p source q es s xs → r ≡ q
one_stop (here h) (here k) = one_points h k
one_stop {q = q} (here h) (later e f k) = halts q h e f
one_stop {r = r} (later e f h) (here k) = sym (halts r k e f)
one_stop (later {v = v} {ys = ys} {t = t} {c = c} e f h) (later {v = u} {ys = zs} {t = n} {c = d} g i k) =
    let ev : u ≡ v = cc in
    let ey : zs ≡ ys = cc in
    let et : n ≡ t = cc in
    let ec : d ≡ c = cc in
    one_stop h (rw (ev, ey, et, ec) at k)

-- ---- from the beginning

module _ (p : Terms) (source : State → List ℕ → Taken) (part : Entry → List ℕ) (Good : State → List ℕ → Type 0)
    (law : Source source part Good) {whole : List ℕ} where
  -- the source gives the entries that were sent, for they fit their fields
  from_begun : {es : List Entry} {s : State} {r : Refusal} (xs : List ℕ) → Sends p es s → whole ≡ all part es ++ xs → Stops p source r es s xs
      → Stops p source r [] begun whole
  from_begun xs nothing i h = rw i h
  from_begun xs (one_more {es = es} {s = s} v sends fits e) i h =
      from_begun (part (entry s v) ++ xs) sends
      (rw (all_append part es (entry s v ∷ []), append-nil (part (entry s v)), append_assoc (all part es) (part (entry s v)) xs) at i)
      (later (law.gives s v xs fits) e h)

  pub pointed_stops : {r : Refusal} → Pointed p source part whole r → Stops p source r [] begun whole
  pointed_stops h = from_begun h.left h.sends h.front (here h.points)

  pub one_pointed : {r q : Refusal} → Pointed p source part whole r → Pointed p source part whole q → r ≡ q
  one_pointed h k = one_stop (pointed_stops h) (pointed_stops k)

-- ---- reading and writing

pub read_one_place : (p : Terms) (bs : List ℕ) {r q : Refusal} → Pointed p from_bits bits_in bs r → Pointed p from_bits bits_in bs q → r ≡ q
read_one_place p bs h k = one_pointed p from_bits bits_in Sent from_bits_lem h k

pub write_one_place : (p : Terms) (vs : List ℕ) {r q : Refusal} → Pointed p from_values values_in vs r → Pointed p from_values values_in vs q → r ≡ q
write_one_place p vs h k = one_pointed p from_values values_in Listed from_values_lem h k
