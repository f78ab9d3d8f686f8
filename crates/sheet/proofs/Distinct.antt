-- No label is the front of another: the field of a row is the one whose label it begins with. Assumes nothing.
use mathlib.Core.Path.{◌≡◌, refl, sym, ◌∙◌}
use mathlib.Core.Bool.{Bool, true, false, not, ◌&&◌, ◌||◌}
use mathlib.Core.List.{List, [], ◌∷◌, ◌++◌, map}
use mathlib.Core.Option.{some}
use Prim.Native.Nat.{ℕ, zero, suc, ◌+◌, ◌<◌}
use native.Mathlib.Nat.{add-zero}
use native.Mathlib.Omega.{arith}
use borrow.Author.Tests.{lt-ltb}
use lib.Dec.{T, eqb, ltb}
use lib.ListN.{length, drop, get_or, length-map, get_or-map}
use Rattle.pieces.specs.Pieces.{begins}
use Rattle.pieces.proofs.Starts.{begins_front}
use Rattle.format.specs.Fields.{fields, END}
use Rattle.format.proofs.Rows.{imp, imp_use, every, each}
use Rattle.sheet.specs.Rows.{label_text, labels, field_of}
use Rattle.sheet.specs.Reading.{label_in}
use Rattle.sheet.proofs.Table.{length_fields}
use Rattle.sheet.proofs.Fronts.{label_next}

-- two texts that differ where both still go on
differ : List ℕ → List ℕ → Bool
differ [] b = false
differ (x ∷ a) [] = false
differ (x ∷ a) (y ∷ b) = not (eqb x y) || differ a b

differ_begins : (a b rest : List ℕ) → differ a b ≡ true → begins a (b ++ rest) ≡ false
unfolding differ begins
differ_begins [] b rest e = cc
differ_begins (x ∷ a) [] rest e = cc
differ_begins (x ∷ a) (y ∷ b) rest e = by (eqb x y) (differ a b) refl (differ_begins a b rest) e
  where
    by : (p q : Bool) → differ a b ≡ q → (differ a b ≡ true → begins a (b ++ rest) ≡ false) → (not p || q) ≡ true → (p && begins a (b ++ rest)) ≡ false
    by true true x ih z = ih x
    by true false x ih z = cc
    by false q x ih z = refl

true_is : (b : Bool) → T b → b ≡ true
true_is true t = refl
true_is false t = absurd t

-- each label against those before it
abbrev texts : List (List ℕ)
texts = map label_text fields

apart : T (every (λ k b. every (λ j a. imp (ltb j k) (differ a b)) 0 texts) 0 texts)
unfolding labels differ
apart = tt

text_at_lem : (k : ℕ) → get_or texts k (label_text END) ≡ label_text (field_of k)
text_at_lem k = get_or-map label_text fields k END

labels_differ : (j k : ℕ) → j < k → k < 72 → differ (label_text (field_of j)) (label_text (field_of k)) ≡ true
labels_differ j k h l =
    let long : length texts ≡ 72 = length-map fields label_text ∙ length_fields in
    let row = each (λ i b. every (λ j a. imp (ltb j i) (differ a b)) 0 texts) (label_text END) texts apart k (omega (arith, long)) in
    let pair = each (λ i a. imp (ltb i k) (differ a (get_or texts k (label_text END)))) (label_text END) texts row j (omega (arith, long)) in
    let is = true_is (differ (get_or texts j (label_text END)) (get_or texts k (label_text END))) (imp_use (ltb j k) (differ (get_or texts j (label_text END)) (get_or texts k (label_text END))) pair (lt-ltb j k h)) in
    rw (text_at_lem j, text_at_lem k) at is

module _ (k : ℕ) (l : k < 72) (rest : List ℕ) where
  seek : (d j : ℕ) → j + d ≡ k → label_in j (drop j fields) (label_text (field_of k) ++ rest) ≡ some k
  seek zero j e =
      let here : j ≡ k = sym (add-zero j) ∙ e in
      rw here (label_next (label_text (field_of k) ++ rest) k l ∙ rw (begins_front (label_text (field_of k)) rest))
  seek (suc d) j e =
      let no = differ_begins (label_text (field_of j)) (label_text (field_of k)) rest (labels_differ j k (omega arith) l) in
      label_next (label_text (field_of k) ++ rest) j (omega arith) ∙ rw no (seek d (j + 1) (omega arith))

  -- the label of field k names field k, whatever follows
  pub label_first : label_in 0 fields (label_text (field_of k) ++ rest) ≡ some k
  label_first = seek k 0 (omega arith)
