-- The packets among the entries of a telegram, and the pairs of them that collide, by any rule of directions. Definitions, with the few
-- laws of lists that they need. Assumes nothing.
use mathlib.Core.Bool.{Bool, true, ◌||◌}
use mathlib.Core.List.{List, [], ◌∷◌, ◌++◌, append_assoc}
use mathlib.Core.Path.{◌≡◌, refl, sym, ap, ◌∙◌}
use Prim.Native.Nat.{ℕ}
use native.Mathlib.Omega.{arith}
use lib.Dec.{eqb}
use Rattle.format.specs.Among.{holding, PacketIn}
use Rattle.format.specs.Fields.{NID_PACKET, Q_DIR}
use Rattle.format.specs.Telegrams.{Entry, bit_count}
use Rattle.laws.proofs.Standing.{apart}

-- ---- packets, and pairs of them

-- a packet of this kind among entries, whose direction collides with this one
pub record Met (collide : ℕ → ℕ → Bool) (es : List Entry) (id dir : ℕ) : Type 0 where
  -- its direction
  pub other : ℕ
  pub packet : PacketIn es id other
  pub collides : collide dir other ≡ true

-- two packets of one kind that is not ETCS-44, whose directions collide: the later one, and the one that it meets before it
pub record Pair (collide : ℕ → ℕ → Bool) (es : List Entry) : Type 0 where
  pub id : ℕ
  pub dir : ℕ
  pub later : PacketIn es id dir
  pub not_44 : id ≡ 44 → ⊥
  pub earlier : Met collide later.before id dir

-- the bit where the later packet's Q_DIR begins
abbrev pub later_at : {collide : ℕ → ℕ → Bool} {es : List Entry} → Pair collide es → ℕ
later_at h = bit_count (h.later.before ++ (holding NID_PACKET h.id ∷ []))

-- "A packet valid both ways counts for each way": whether a packet with this Q_DIR counts for a train that runs this way
abbrev pub serves : ℕ → ℕ → Bool
serves d way = eqb d 2 || eqb d way

-- what collides by the one rule of directions collides by the other, which is the stricter
abbrev pub Implies : (ℕ → ℕ → Bool) → (ℕ → ℕ → Bool) → Type 0
Implies weak strong = (d e : ℕ) → weak d e ≡ true → strong d e ≡ true

-- ---- more entries behind

-- a packet among entries is among more of them, and the same stands before it
abbrev pub packet_grown : {es : List Entry} {i d : ℕ} → PacketIn es i d → (fs : List Entry) → PacketIn (es ++ fs) i d
packet_grown h fs =
    record {
      before = h.before;
      after = h.after ++ fs;
      parts = ap (λ (l : List Entry). l ++ fs) h.parts ∙ append_assoc h.before _ fs;
    }

-- a packet that is met is met among more
abbrev pub met_grown : {collide : ℕ → ℕ → Bool} {es : List Entry} {i d : ℕ} → Met collide es i d → (fs : List Entry) → Met collide (es ++ fs) i d
met_grown h fs = record { other = h.other; packet = packet_grown h.packet fs; collides = h.collides }

-- a pair among entries is one among more
abbrev pub pair_grown : {collide : ℕ → ℕ → Bool} {es : List Entry} → Pair collide es → (fs : List Entry) → Pair collide (es ++ fs)
pair_grown h fs = record { id = h.id; dir = h.dir; later = packet_grown h.later fs; not_44 = h.not_44; earlier = h.earlier }

-- behind entries that end in a NID_PACKET, a Q_DIR makes a packet
abbrev pub packet_made : {es : List Entry} {i : ℕ} (b : List Entry) (d : ℕ) → es ≡ b ++ (holding NID_PACKET i ∷ [])
    → PacketIn (es ++ (holding Q_DIR d ∷ [])) i d
packet_made b d e =
    record { before = b; after = []; parts = ap (λ (l : List Entry). l ++ (holding Q_DIR d ∷ [])) e ∙ append_assoc b _ (holding Q_DIR d ∷ []) }

-- ---- one entry less

-- lists that end in one element each are the same before it, and it is the same
pub one_end : (b c : List Entry) (x y : Entry) → b ++ (x ∷ []) ≡ c ++ (y ∷ []) → (b ≡ c) × (x ≡ y)
one_end [] [] x y e = (refl, cc)
one_end [] (u ∷ []) x y e = (cc, cc)
one_end [] (u ∷ v ∷ c) x y e = (cc, cc)
one_end (w ∷ []) [] x y e = (cc, cc)
one_end (w ∷ z ∷ b) [] x y e = (cc, cc)
one_end (w ∷ b) (u ∷ c) x y e =
    let i : b ++ (x ∷ []) ≡ c ++ (y ∷ []) = cc in
    let j : w ≡ u = cc in
    let h = one_end b c x y i in
    (cc (j, h.0), h.1)

-- a packet among entries and one more: it was among them, or the one more is its Q_DIR
pub data Newest (es : List Entry) (e : Entry) (b : List Entry) (i d : ℕ) : Type 0 where
  old : (a : List Entry) → es ≡ b ++ holding NID_PACKET i ∷ holding Q_DIR d ∷ a → Newest es e b i d
  new : e ≡ holding Q_DIR d → es ≡ b ++ (holding NID_PACKET i ∷ []) → Newest es e b i d

-- a list with an element in it is not empty
pub not_empty : {A : Type 0} (b : List Entry) (x : Entry) (l : List Entry) → [] ≡ b ++ x ∷ l → A
not_empty [] x l e = let z : ◌≡◌ {A = ℕ} 0 1 = cc in absurd (omega arith)
not_empty (y ∷ b) x l e = let z : ◌≡◌ {A = ℕ} 0 1 = cc in absurd (omega arith)

-- the same element in front of all of them
newest_on : {es : List Entry} {e : Entry} {b : List Entry} {i d : ℕ} (x y : Entry) → x ≡ y → Newest es e b i d → Newest (x ∷ es) e (y ∷ b) i d
newest_on x y q (old a h) = old a (cc)
newest_on x y q (new f h) = new f (cc)

-- of a list that ends in one entry more, a packet is taken apart in one of these two ways
newest : (es : List Entry) (e : Entry) (b a : List Entry) (i d : ℕ) → es ++ (e ∷ []) ≡ b ++ holding NID_PACKET i ∷ holding Q_DIR d ∷ a
    → Newest es e b i d
newest [] e [] a i d h = let z : ◌≡◌ {A = ℕ} 0 1 = cc in absurd (omega arith)
newest [] e (x ∷ b) a i d h = not_empty b (holding NID_PACKET i) (holding Q_DIR d ∷ a) (cc)
newest (x ∷ []) e [] a i d h = new (cc) (cc)
newest (x ∷ y ∷ es) e [] a i d h = old es (cc)
newest (x ∷ es) e (y ∷ b) a i d h = newest_on x y (cc) (newest es e b a i d (cc))

-- so a packet among entries and one more was among them, or ends with it
pub packet_newest : {es : List Entry} {e : Entry} {i d : ℕ} (h : PacketIn (es ++ (e ∷ [])) i d) → Newest es e h.before i d
packet_newest {es} {e} {i} {d} h = newest es e h.before h.after i d h.parts

-- where the last entry makes no pair, the pair stood there before
pub pair_before : {collide : ℕ → ℕ → Bool} {es : List Entry} {e : Entry} (h : Pair collide (es ++ (e ∷ [])))
    → (e ≡ holding Q_DIR h.dir → es ≡ h.later.before ++ (holding NID_PACKET h.id ∷ []) → ⊥) → Pair collide es
pair_before {collide} {es} {e} h never = by_last (packet_newest h.later)
  where
    by_last : Newest es e h.later.before h.id h.dir → Pair collide es
    by_last (old a i) =
        record {
          id = h.id;
          dir = h.dir;
          later = record { before = h.later.before; after = a; parts = i };
          not_44 = h.not_44;
          earlier = h.earlier;
        }
    by_last (new f i) = absurd (never f i)

-- ---- two packets

-- two packets of one list, by what stands before each: they are one, or the first stands before the second, or the second before the first
pub data Order (b c : List Entry) (i d j e : ℕ) : Type 0 where
  same : b ≡ c → i ≡ j → d ≡ e → Order b c i d j e
  ahead : (h : PacketIn c i d) → h.before ≡ b → Order b c i d j e
  behind : (h : PacketIn b j e) → h.before ≡ c → Order b c i d j e

-- a packet behind one entry more
abbrev after_one : {es : List Entry} {i d : ℕ} (x : Entry) → PacketIn es i d → PacketIn (x ∷ es) i d
after_one x h = record { before = x ∷ h.before; after = h.after; parts = ap (λ (l : List Entry). x ∷ l) h.parts }

-- the same element in front of both
order_on : {b c : List Entry} {i d j e : ℕ} (x y : Entry) → x ≡ y → Order b c i d j e → Order (x ∷ b) (y ∷ c) i d j e
order_on x y q (same h n k) = same (cc) n k
order_on x y q (ahead h k) = ahead (after_one y h) (cc)
order_on x y q (behind h k) = behind (after_one x h) (cc)

-- a Q_DIR is no NID_PACKET
direction_not : {A : Type 0} (v u : ℕ) → holding Q_DIR v ≡ holding NID_PACKET u → A
direction_not v u e = absurd (apart Q_DIR NID_PACKET refl (ap (λ (x : Entry). x.field) e))

-- two ways to take a list apart at a packet, compared from its beginning
ordered : (b c m n : List Entry) (i d j e : ℕ)
    → b ++ holding NID_PACKET i ∷ holding Q_DIR d ∷ m ≡ c ++ holding NID_PACKET j ∷ holding Q_DIR e ∷ n → Order b c i d j e
ordered [] [] m n i d j e h =
    let n : holding NID_PACKET i ≡ holding NID_PACKET j = cc in
    let q : holding Q_DIR d ≡ holding Q_DIR e = cc in
    same refl (ap (λ (x : Entry). x.value) n) (ap (λ (x : Entry). x.value) q)
ordered [] (y ∷ []) m n i d j e h = direction_not d j (cc)
ordered [] (y ∷ z ∷ c) m n i d j e h = ahead (record { before = []; after = c; parts = cc }) refl
ordered (x ∷ []) [] m n i d j e h = direction_not e i (cc)
ordered (x ∷ w ∷ b) [] m n i d j e h = behind (record { before = []; after = b; parts = cc }) refl
ordered (x ∷ b) (y ∷ c) m n i d j e h = order_on x y (cc) (ordered b c m n i d j e (cc))

-- so of two packets among entries one stands before the other, or they are one
pub packets_ordered : {es : List Entry} {i d j e : ℕ} (h : PacketIn es i d) (k : PacketIn es j e) → Order h.before k.before i d j e
packets_ordered {i = i} {d = d} {j = j} {e = e} h k = ordered h.before k.before h.after k.after i d j e (sym h.parts ∙ k.parts)
