-- Where a name stands in its row's label, and that the numbers of a telegram's fields tell their names. Assumes nothing.
use mathlib.Core.Path.{◌≡◌, refl, sym, ap, ap₂, ◌∙◌, subst}
use mathlib.Core.Bool.{Bool, true, false, cond, ◌&&◌}
use mathlib.Core.List.{List, [], ◌∷◌, ◌++◌, map, append-nil}
use Prim.Native.Nat.{ℕ, ◌+◌, ◌-◌, ◌<◌, ◌≤◌}
use native.Mathlib.Nat.{add-zero}
use native.Mathlib.Omega.{arith}
use borrow.Author.Tests.{ne_eqb}
use lib.Dec.{T, eqb, leb, leb→le, ltb, ltb→lt}
use lib.ListN.{length, take, drop, get_or, get_or-map, take-append-drop}
use Rattle.format.specs.Fields.{Field, fields, END}
use Rattle.format.specs.Rules.{Terms}
use Rattle.format.specs.Telegrams.{Entry, Telegram}
use Rattle.format.proofs.Rows.{and_left, and_right}
use Rattle.laws.proofs.Listed.{AllKnown, telegram_listed, known_number}
use Rattle.pieces.specs.Numbers.{digits_of}
use Rattle.pieces.specs.Pieces.{Appended, over, past}
use Rattle.sheet.specs.Rows.{text_of, label_text, field_of}
use Rattle.sheet.proofs.Table.{field_law, number_of}
use Rattle.states.specs.Labels.{numbers, numbers_in}
use Rattle.names.specs.Names.{name_in, name_text, name_end}

abbrev name_of : Field → List ℕ
name_of f = text_of f.name

-- two functions of fields that are the same of each, taken at a number
at_number : (g : ℕ → List ℕ) → map (λ f. g f.number) fields ≡ map name_of fields → g END.number ≡ name_of END → (k : ℕ) → k < 72 → g k ≡ name_of (field_of k)
at_number g same last k h =
    ap g (sym (number_of k h))
    ∙ sym (get_or-map (λ f. g f.number) fields k END)
    ∙ ap (λ (l : List (List ℕ)). get_or l k (g END.number)) same
    ∙ ap (get_or (map name_of fields) k) last
    ∙ get_or-map name_of fields k END

-- ---- the definition

names : map (λ f. name_text f.number) fields ≡ map name_of fields
unfolding name_text
names = refl

mark_name : name_text END.number ≡ name_of END
unfolding name_text
mark_name = refl

-- the name that a number has is that of its field
pub name_of_lem : (k : ℕ) → k < 72 → name_text k ≡ name_of (field_of k)
name_of_lem k h = at_number name_text names mark_name k h

abbrev few : List Field → Bool
few [] = true
few (f ∷ fs) = ltb f.number 72 && few fs

nameless_in : (k : ℕ) (fs : List Field) → T (few fs) → 72 ≤ k → name_in k fs ≡ []
nameless_in k [] t h = refl
nameless_in k (f ∷ fs) t h =
    let less = ltb→lt f.number 72 (and_left (ltb f.number 72) (few fs) t) in
    rw (ne_eqb k f.number (λ e. absurd (omega (arith, less)))) (nameless_in k fs (and_right (ltb f.number 72) (few fs) t) h)

pub nameless : (k : ℕ) → 72 ≤ k → name_text k ≡ []
unfolding name_text
nameless k h = nameless_in k fields tt h

-- the numbers that `label` hands out for a telegram tell the names of its fields
pub names_told : (es : List Entry) → AllKnown es → map name_text (numbers es) ≡ map (λ e. text_of e.field.name) es
unfolding numbers_in
names_told [] a = refl
names_told (e ∷ es) a =
    ap₂ (λ (x : List ℕ) (l : List (List ℕ)). x ∷ l) (name_of_lem e.field.number (known_number e.field a.0) ∙ ap name_of a.0) (names_told es a.1)

pub telegram_names : (p : Terms) {es : List Entry} → Telegram p es → map name_text (numbers es) ≡ map (λ e. text_of e.field.name) es
telegram_names p {es} t = names_told es (telegram_listed p t)

-- ---- the labels

-- what stands before the width in a field's label
abbrev standing : Field → List ℕ
standing f = take (name_end (label_text f) (length (label_text f))) (label_text f)

parts : map standing fields ≡ map name_of fields
unfolding label_text fields digits_of
parts = refl

mark_part : standing END ≡ name_of END
unfolding label_text fields digits_of
mark_part = refl

stands : (k : ℕ) → k < 72 → standing (field_of k) ≡ name_text k
stands k h =
    sym (get_or-map standing fields k END)
    ∙ ap (λ (l : List (List ℕ)). get_or l k (standing END)) parts
    ∙ ap (get_or (map name_of fields) k) mark_part
    ∙ get_or-map name_of fields k END
    ∙ sym (name_of_lem k h)

some_there : (k : ℕ) → k < 72 → 4 ≤ length (label_text (field_of k))
unfolding label_text fields digits_of
some_there k h = leb→le _ _ (field_law (λ i f. leb 4 (length (label_text f))) tt k h)

-- the name ends three or four characters before its label
ends_by : (b : Bool) (e : ℕ) → 4 ≤ e → cond b (e - 3) (e - 4) ≤ e
ends_by true e h = omega arith
ends_by false e h = omega arith

-- of the name in the label l of field k
pub record Cut (l : List ℕ) (k : ℕ) : Type 0 where
  pub some_there : 4 ≤ length l
  pub ends : name_end l (length l) ≤ length l
  pub is : take (name_end l (length l)) l ≡ name_text k

pub cut : (l : List ℕ) (k : ℕ) → l ≡ label_text (field_of k) → k < 72 → Cut l k
cut l k e h = subst (λ (x : List ℕ). Cut x k) (sym e) own
  where
    own : Cut (label_text (field_of k)) k
    own =
        let long = some_there k h in
        let n = length (label_text (field_of k)) in
        record { some_there = long; ends = ends_by (eqb (get_or (label_text (field_of k)) (n - 3) 0) 44) n long; is = stands k h }

-- ---- nothing put

pub put_none : (before : List ℕ) (at : ℕ) → Appended before at [] at before
unfolding over past
put_none before at = record { ends = by (leb (at + 0) (length before)); text = stay (leb (at + 0) (length before)) }
  where
    by : (b : Bool) → at ≡ cond b (at + 0) at
    by true = sym (add-zero at)
    by false = refl

    stay : (b : Bool) → before ≡ cond b (take at before ++ [] ++ drop (at + 0) before) before
    stay true =
        sym (ap (λ (n : ℕ). take at before ++ [] ++ drop n before) (add-zero at) ∙ ap (λ (l : List ℕ). l ++ drop at before) (append-nil (take at before)) ∙ take-append-drop at before)
    stay false = refl

pub put_nameless : (before : List ℕ) (at k : ℕ) → 72 ≤ k → Appended before at (name_text k) at before
put_nameless before at k h = subst (λ (l : List ℕ). Appended before at l at before) (sym (nameless k h)) (put_none before at)
