-- Entries that end inside a packet, with one entry more; and that they end inside one packet only. Assumes nothing.
use mathlib.Core.List.{List, [], ◌∷◌, ◌++◌, append_assoc}
use mathlib.Core.Path.{◌≡◌, refl, sym, ap, ◌∙◌, subst}
use Prim.Native.Nat.{ℕ}
use native.Mathlib.Omega.{arith}
use Rattle.format.specs.Among.{holding, Without, Inside, Fitting}
use Rattle.format.specs.Fields.{Field, Q_DIR, L_PACKET}
use Rattle.format.specs.Telegrams.{Entry, bit_count}
use Rattle.laws.proofs.OnePlace.{Other, not_among, one_packet}
use Rattle.laws.proofs.Pairs.{one_end}

-- ---- the last entry of a list

pub data Snoc : List Entry → Type 0 where
  empty : Snoc []
  last : (a : List Entry) (x : Entry) → Snoc (a ++ (x ∷ []))

in_front_lem : (x : Entry) {l : List Entry} → Snoc l → Snoc (x ∷ l)
in_front_lem x empty = last [] x
in_front_lem x (last a y) = last (x ∷ a) y

pub snoc : (l : List Entry) → Snoc l
snoc [] = empty
snoc (x ∷ l) = in_front_lem x (snoc l)

-- ---- fields that do not stand among entries

pub without_front : (f : Field) (a b : List Entry) → Without f (a ++ b) → Without f a
without_front f [] b w = tt
without_front f (x ∷ a) b w = (w.0, without_front f a b w.1)

pub without_more : (f : Field) (a : List Entry) (x : Entry) → Without f a → (x.field ≡ f → ⊥) → Without f (a ++ (x ∷ []))
without_more f [] x w n = (n, tt)
without_more f (y ∷ a) x w n = (w.0, without_more f a x w.1 n)

-- ---- one entry more

-- the entries ended inside it before, or the one more is its L_PACKET
pub data Grown (id : Field) (es : List Entry) (e : Entry) (o : Inside id (es ++ (e ∷ []))) : Type 0 where
  was : (h : Inside id es) → h.dir ≡ o.dir → o.after ≡ h.after ++ (e ∷ []) → Grown id es e o
  new : e ≡ holding L_PACKET o.size → es ≡ o.before ++ (holding id o.name ∷ holding Q_DIR o.dir ∷ []) → o.after ≡ [] → Grown id es e o

pub grown : (id : Field) (es : List Entry) (e : Entry) (o : Inside id (es ++ (e ∷ []))) → Grown id es e o
grown id es e o = by_after (snoc o.after) refl
  where
    by_after : {l : List Entry} → Snoc l → o.after ≡ l → Grown id es e o
    by_after empty i =
        let k : List Entry = holding id o.name ∷ holding Q_DIR o.dir ∷ [] in
        let j = o.parts ∙ ap (λ (l : List Entry). o.before ++ holding id o.name ∷ holding Q_DIR o.dir ∷ holding L_PACKET o.size ∷ l) i
        ∙ sym (append_assoc o.before k (holding L_PACKET o.size ∷ [])) in
        let h = one_end es (o.before ++ k) e (holding L_PACKET o.size) j in
        new h.1 h.0 i
    by_after (last a x) i =
        let k : List Entry = holding id o.name ∷ holding Q_DIR o.dir ∷ holding L_PACKET o.size ∷ a in
        let j = o.parts ∙ ap (λ (l : List Entry). o.before ++ holding id o.name ∷ holding Q_DIR o.dir ∷ holding L_PACKET o.size ∷ l) i
        ∙ sym (append_assoc o.before k (x ∷ [])) in
        let h = one_end es (o.before ++ k) e x j in
        let w : Without id (a ++ (x ∷ [])) = subst (Without id) i o.own in
        was
        (record {
          before = o.before;
          name = o.name;
          dir = o.dir;
          size = o.size;
          after = a;
          parts = h.0;
          own = without_front id a (x ∷ []) w;
        })
        refl (i ∙ ap (λ (y : Entry). a ++ (y ∷ [])) (sym h.1))

-- entries that end in its identifier do not end inside it
pub inside_name : (id : Field) → (L_PACKET ≡ id → ⊥) → (b : List Entry) (n : ℕ) → Inside id (b ++ (holding id n ∷ [])) → ⊥
inside_name id other b n o = by_growth (grown id b (holding id n) o)
  where
    by_growth : Grown id b (holding id n) o → ⊥
    by_growth (was h d i) = not_among id h.after (holding id n) [] (subst (Without id) i o.own) refl
    by_growth (new e i j) = other (sym (ap (λ (x : Entry). x.field) e))

-- where none stands, none is ended inside
pub inside_without : {id : Field} {es : List Entry} → Inside id es → Without id es → ⊥
inside_without {id} {es} h w = not_among id h.before (holding id h.name) _ (subst (Without id) h.parts w) refl

-- ---- one packet only

module _ {id : Field} (other : Other id) {es : List Entry} (h k : Inside id es) where
  pub one_name : h.name ≡ k.name
  one_name = let i = (one_packet other h k).1 in let j : holding id h.name ≡ holding id k.name = cc in ap (λ (e : Entry). e.value) j

  pub one_after : h.after ≡ k.after
  one_after = let i = (one_packet other h k).1 in cc

  pub both_fit : Fitting h → Fitting k
  both_fit f =
      let i = (one_packet other h k).1 in
      let j : holding L_PACKET h.size ≡ holding L_PACKET k.size = cc in
      let s = ap (λ (e : Entry). e.value) j in
      let t = ap bit_count i in
      omega arith
