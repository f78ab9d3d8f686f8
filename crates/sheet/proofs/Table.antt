-- The labels of the rows as the code keeps them are those of the fields: each a test that the checker computes over all of them. Assumes
-- nothing.
use mathlib.Core.Path.{◌≡◌, refl, sym, ap, ◌∙◌, subst}
use mathlib.Core.Bool.{Bool, true, false}
use mathlib.Core.List.{List, map}
use Prim.Native.Nat.{ℕ, suc, min, ◌+◌, ◌-◌, ◌<◌, ◌≤◌}
use native.Mathlib.Nat.{lt_of_not-le}
use native.Mathlib.Numerals.{add-one}
use native.Mathlib.Decide.{dec_le}
use native.Mathlib.Omega.{arith}
use borrow.Author.Tests.{eq-eqb, ne_eqb}
use lib.Dec.{T, eqb, eqb→eq, leb, leb→le}
use lib.ListN.{length, take, drop, get_or, get_or-map, get_or-eq_default}
use Rattle.format.specs.Fields.{Field, fields, END}
use Rattle.format.proofs.Rows.{every, each}
use Rattle.sheet.specs.Rows.{label_text, labels, starts, field_of, is_radio}
use Rattle.sheet.specs.Steps.{Tables}

pub length_fields : length fields ≡ 72
unfolding fields
length_fields = refl

pub length_labels : length labels ≡ 886
unfolding labels
length_labels = refl

pub length_starts : length starts ≡ 73
unfolding starts
length_starts = refl

-- what holds of each field, with its number
pub field_law : (f : ℕ → Field → Bool) → T (every f 0 fields) → (k : ℕ) → k < 72 → T (f k (field_of k))
field_law f t k h = each f END fields t k (rw length_fields h)

pub number_of : (k : ℕ) → k < 72 → (field_of k).number ≡ k
unfolding fields
number_of k h = eqb→eq _ _ (field_law (λ i f. eqb f.number i) tt k h)

-- a number past the last field is taken as the end mark's
radio_is : (k : ℕ) → is_radio (field_of k) ≡ eqb k 35
radio_is k = by (dec_le 72 k)
  where
    by : Dec (72 ≤ k) → is_radio (field_of k) ≡ eqb k 35
    by (yes h) =
        let other : k ≡ 35 → ⊥ = λ e. absurd (omega arith) in
        ap is_radio (get_or-eq_default fields END {n = k} (rw length_fields h)) ∙ sym (ne_eqb k 35 other)
    by (no h) = ap (λ (n : ℕ). eqb n 35) (number_of k (lt_of_not-le h))

pub a_radio : (k : ℕ) → k ≡ 35 → is_radio (field_of k) ≡ true
a_radio k e = radio_is k ∙ eq-eqb k 35 e

pub no_radio : (k : ℕ) → (k ≡ 35 → ⊥) → is_radio (field_of k) ≡ false
no_radio k n = radio_is k ∙ ne_eqb k 35 n

-- where a label begins and ends
abbrev pub begin : ℕ → ℕ
begin k = get_or starts k 0

in_order_lem : (k : ℕ) → k < 72 → begin k ≤ begin (suc k)
unfolding starts
in_order_lem k h = leb→le _ _ (field_law (λ i f. leb (begin i) (begin (suc i))) tt k h)

in_labels : (k : ℕ) → k < 72 → begin (suc k) ≤ 886
unfolding starts
in_labels k h = leb→le _ _ (field_law (λ i f. leb (begin (suc i)) 886) tt k h)

label_size : (k : ℕ) → k < 72 → length (label_text (field_of k)) ≡ begin (suc k) - begin k
unfolding starts
label_size k h = eqb→eq _ _ (field_law (λ i f. eqb (length (label_text f)) (begin (suc i) - begin i)) tt k h)

label_few : (k : ℕ) → k < 72 → length (label_text (field_of k)) ≤ 21
unfolding starts
label_few k h = leb→le _ _ (field_law (λ i f. leb (length (label_text f)) 21) tt k h)

label_some : (k : ℕ) → k < 72 → 1 ≤ length (label_text (field_of k))
unfolding starts
label_some k h = leb→le _ _ (field_law (λ i f. leb 1 (length (label_text f))) tt k h)

-- and what stands there
abbrev standing : ℕ → List ℕ
standing n = take (begin (suc n) - begin n) (drop (begin n) labels)

abbrev standing_for : Field → List ℕ
standing_for f = standing f.number

parts : map standing_for fields ≡ map label_text fields
unfolding labels starts
parts = refl

mark_part : standing_for END ≡ label_text END
unfolding labels starts
mark_part = refl

-- of the label of field k in what is lent
pub record Part (ls ss : List ℕ) (k : ℕ) : Type 0 where
  pub within : k + 1 < length ss
  pub order : get_or ss k 0 ≤ get_or ss (k + 1) 0
  pub inside : get_or ss (k + 1) 0 ≤ length ls
  pub size : get_or ss (k + 1) 0 - get_or ss k 0 ≡ length (label_text (field_of k))
  pub few : length (label_text (field_of k)) ≤ 21
  pub some_there : 1 ≤ length (label_text (field_of k))
  pub is : take (get_or ss (k + 1) 0 - get_or ss k 0) (drop (get_or ss k 0) ls) ≡ label_text (field_of k)

pub own_part : (k : ℕ) → k < 72 → Part labels starts k
own_part k h =
    record {
      within = rw length_starts (omega arith);
      order = rw (add-one k) (in_order_lem k h);
      inside = rw (add-one k, length_labels) (in_labels k h);
      size = rw (add-one k) (sym (label_size k h));
      few = label_few k h;
      some_there = label_some k h;
      is = rw (add-one k) here;
    }
  where
    here : standing k ≡ label_text (field_of k)
    here =
        ap standing (sym (number_of k h))
        ∙ sym (get_or-map standing_for fields k END)
        ∙ ap (λ (l : List (List ℕ)). get_or l k (standing_for END)) parts
        ∙ ap (get_or (map label_text fields) k) mark_part
        ∙ get_or-map label_text fields k END

pub part : {ls ss : List ℕ} → Tables ls ss → (k : ℕ) → k < 72 → Part ls ss k
part {ls} {ss} t k h =
    subst (λ (l : List ℕ). Part l ss k) (sym t.texts) (subst (λ (s : List ℕ). Part labels s k) (sym t.begin) (own_part k h))

-- the label that is found for any number: one past the last field is taken as the end mark's
last_field : (k : ℕ) → field_of (min k 71) ≡ field_of k
unfolding fields
last_field k = by (dec_le 72 k)
  where
    by : Dec (72 ≤ k) → field_of (min k 71) ≡ field_of k
    by (yes h) =
        let last : min k 71 ≡ 71 = omega arith in
        ap field_of last ∙ sym (get_or-eq_default fields END {n = k} (rw length_fields h))
    by (no h) = let less = lt_of_not-le h in let own : min k 71 ≡ k = omega arith in ap field_of own

-- of the label of the field that k stands for, in what is lent, where j is that field's number
pub record Cut (ls ss : List ℕ) (k j : ℕ) : Type 0 where
  pub order : get_or ss j 0 ≤ get_or ss (j + 1) 0
  pub inside : get_or ss (j + 1) 0 ≤ 886
  pub is : take (get_or ss (j + 1) 0 - get_or ss j 0) (drop (get_or ss j 0) ls) ≡ label_text (field_of k)

pub cut : {ls ss : List ℕ} → Tables ls ss → (k j : ℕ) → j ≡ min k 71 → Cut ls ss k j
cut {ls} {ss} t k j e =
    let p = part t j (omega arith) in
    record {
      order = p.order;
      inside = subst (λ (n : ℕ). get_or ss (j + 1) 0 ≤ n) (ap length t.texts ∙ length_labels) p.inside;
      is = p.is ∙ ap (λ (n : ℕ). label_text (field_of n)) e ∙ ap label_text (last_field k);
    }
