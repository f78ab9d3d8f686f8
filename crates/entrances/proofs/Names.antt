-- The first row whose name is not the one due there: by names, and by the numbers that the definitions compare. Assumes nothing.
use mathlib.Core.Path.{◌≡◌, refl, sym, ap, ap₂, ◌∙◌, subst}
use mathlib.Core.Bool.{Bool, true, false, cond}
use mathlib.Core.List.{List, [], ◌∷◌, ◌++◌, map}
use mathlib.Core.Logic.{◌↔◌}
use mathlib.Core.Option.{some}
use Prim.Native.Nat.{ℕ, suc, ◌+◌}
use native.Mathlib.Omega.{arith}
use borrow.Author.Tests.{eq-eqb, ne_eqb, eqb-true, eqb-false}
use lib.Dec.{eqb}
use lib.ListN.{length}
use Rattle.bits.specs.Bits.{same}
use Rattle.format.specs.Fields.{Field, fields}
use Rattle.format.specs.Telegrams.{Entry, names}
use Rattle.laws.proofs.Listed.{Known, AllKnown}
use Rattle.states.specs.Labels.{numbers_in, numbers}
use Rattle.sheet.specs.Rows.{text_of, field_of}
use Rattle.sheet.specs.Sheets.{other_name}
use Rattle.entrances.specs.Rows.{OtherName}
use Rattle.entrances.proofs.Fronts.{known_member, member_of_lem}

-- ---- a name tells the field

-- the number of the first of these fields that has the name
abbrev number_for : List ℕ → List Field → ℕ
number_for name [] = 72
number_for name (f ∷ fs) = cond (same name (text_of f.name)) f.number (number_for name fs)

-- no two fields have one name
own_names : map (λ f. number_for (text_of f.name) fields) fields ≡ map (λ f. f.number) fields
unfolding fields
own_names = refl

module _ {f g : Field} (k : Known f) (l : Known g) where
  name_tells : f.name ≡ g.name → f.number ≡ g.number
  name_tells e =
      sym (member_of_lem (λ h. number_for (text_of h.name) fields) (λ h. h.number) (known_member k) own_names)
      ∙ ap (λ (s : _). number_for (text_of s) fields) e
      ∙ member_of_lem (λ h. number_for (text_of h.name) fields) (λ h. h.number) (known_member l) own_names

  number_tells : f.number ≡ g.number → f.name ≡ g.name
  number_tells e = ap (λ (h : Field). h.name) (sym k ∙ ap field_of e ∙ l)

-- ---- the first that differs

-- behind n rows
record Told (n : ℕ) (rs es : List Entry) (k : ℕ) : Type 0 where
  pub place : ℕ
  pub counted : k ≡ n + place
  pub other : OtherName rs es place

module _ (x y : Entry) (rs es : List Entry) where
  told_here : (n : ℕ) → (x.field.name ≡ y.field.name → ⊥) → Told n (x ∷ rs) (y ∷ es) (suc n)
  told_here n d =
      record {
        place = 1;
        counted = omega arith;
        other =
            record {
              above = [];
              row = x;
              below = rs;
              rows = refl;
              before = [];
              due = y;
              after = es;
              entries = refl;
              same = refl;
              other = d;
              number = refl;
            };
      }

  told_below : {n k : ℕ} → x.field.name ≡ y.field.name → Told (suc n) rs es k → Told n (x ∷ rs) (y ∷ es) k
  told_below e t =
      let o = t.other in
      record {
        place = suc t.place;
        counted = omega (arith, t.counted);
        other =
            record {
              above = x ∷ o.above;
              row = o.row;
              below = o.below;
              rows = ap (λ (l : List Entry). x ∷ l) o.rows;
              before = y ∷ o.before;
              due = o.due;
              after = o.after;
              entries = ap (λ (l : List Entry). y ∷ l) o.entries;
              same = cc (e, o.same);
              other = o.other;
              number = ap suc o.number;
            };
      }

told : (n : ℕ) (rs es : List Entry) (k : ℕ) → AllKnown rs → AllKnown es → other_name n (numbers rs) (numbers es) ≡ some k → Told n rs es k
unfolding numbers_in
told n [] es k a b e = let w : ◌≡◌ {A = ℕ} 0 1 = cc in absurd (omega arith)
told n (x ∷ rs) [] k a b e = let w : ◌≡◌ {A = ℕ} 0 1 = cc in absurd (omega arith)
told n (x ∷ rs) (y ∷ es) k a b e = by (eqb x.field.number y.field.number) refl (told (suc n) rs es k a.1 b.1) e
  where
    by : (t : Bool) → eqb x.field.number y.field.number ≡ t → (other_name (suc n) (numbers rs) (numbers es) ≡ some k → Told (suc n) rs es k)
        → cond t (other_name (suc n) (numbers rs) (numbers es)) (some (suc n)) ≡ some k → Told n (x ∷ rs) (y ∷ es) k
    by true q ih z = told_below x y rs es (number_tells a.0 b.0 (eqb-true _ _ q)) (ih z)
    by false q ih z =
        let i : suc n ≡ k = cc in
        subst (Told n (x ∷ rs) (y ∷ es)) i (told_here x y rs es n (λ m. eqb-false _ _ q (name_tells a.0 b.0 m)))

-- and it is found there
module _ (x y : Entry) (below after : List Entry) (d : x.field.name ≡ y.field.name → ⊥) where
  found : (n : ℕ) (above before : List Entry) → AllKnown (above ++ (x ∷ below)) → AllKnown (before ++ (y ∷ after)) → names above ≡ names before
      → other_name n (numbers (above ++ (x ∷ below))) (numbers (before ++ (y ∷ after))) ≡ some (n + suc (length above))
  unfolding numbers_in
  found n [] [] a b e = rw (ne_eqb x.field.number y.field.number (λ i. d (number_tells a.0 b.0 i))) (ap some (omega arith))
  found n [] (v ∷ before) a b e = let w : ◌≡◌ {A = ℕ} 0 1 = cc in absurd (omega arith)
  found n (u ∷ above) [] a b e = let w : ◌≡◌ {A = ℕ} 0 1 = cc in absurd (omega arith)
  found n (u ∷ above) (v ∷ before) a b e =
      let first : u.field.name ≡ v.field.name = cc in
      let rest : names above ≡ names before = cc in
      rw (eq-eqb u.field.number v.field.number (name_tells a.0 b.0 first))
      (found (suc n) above before a.1 b.1 rest ∙ ap some (omega arith))

pub other_name_is : (rs es : List Entry) (k : ℕ) → AllKnown rs → AllKnown es → (other_name 0 (numbers rs) (numbers es) ≡ some k) ↔ OtherName rs es k
other_name_is rs es k a b = (to, from)
  where
    to : other_name 0 (numbers rs) (numbers es) ≡ some k → OtherName rs es k
    to e = let t = told 0 rs es k a b e in let i : t.place ≡ k = omega (arith, t.counted) in subst (OtherName rs es) i t.other

    from : OtherName rs es k → other_name 0 (numbers rs) (numbers es) ≡ some k
    from o =
        let c : k ≡ 0 + suc (length o.above) = omega (arith, o.number) in
        ap₂ (λ (l m : List Entry). other_name 0 (numbers l) (numbers m)) o.rows o.entries
        ∙ found o.row o.due o.below o.after o.other 0 o.above o.before
        (subst AllKnown o.rows a) (subst AllKnown o.entries b) o.same
        ∙ ap some (sym c)
