-- Rows as two lists, of the fields' numbers and of the values: what they stand for, and what the loops go by that fill or write them. Assumes
-- nothing.
use Rattle.std.specs.Prelude.{Some, None, position, zip}
use Rattle.std.specs.List.{position_or_len}
use mathlib.Core.Path.{◌≡◌, refl, sym, ap, ap₂, ◌∙◌, subst}
use mathlib.Core.Bool.{Bool, true, false, not, cond}
use mathlib.Core.List.{List, [], ◌∷◌, ◌++◌, append_assoc, append-nil}
use mathlib.Core.Option.{some, none}
use Prim.Native.Nat.{ℕ, zero, suc, ◌+◌, ◌*◌, ◌≤◌, ◌<◌}
use native.Mathlib.Numerals.{add-one}
use native.Mathlib.Omega.{arith}
use borrow.Author.Tests.{lt-ltb}
use Rattle.std.proofs.lemmas.Bool.Decides.{nat_tests}
use Rattle.std.proofs.lemmas.List.Quantifiers.{position-Some}
use Rattle.std.proofs.lemmas.Slice.Zip.{length-zip}
use lib.Dec.{eqb, ltb}
use lib.ListN.{length, take, get_or, length-append}
use lib.Seq.{take-suc, take_all, length-take-le}
use Rattle.bits.specs.Bits.{Below}
use Rattle.bits.proofs.Bytes.{below_take}
use Rattle.bits.proofs.Pairs.{held}
use Rattle.format.specs.Telegrams.{Entry, all, values, values_in}
use Rattle.states.specs.Labels.{numbers, numbers_in}
use Rattle.laws.proofs.Round.{all_append}
use Rattle.laws.proofs.Listed.{AllKnown}
use Rattle.pieces.specs.Pieces.{Grown}
use Rattle.sheet.specs.Rows.{row_text, entry_of}
use Rattle.sheet.specs.Sheets.{other_name}
use Rattle.sheet.specs.Steps.{entries_of, RowPut, RowsPut, Columns}
use Rattle.sheet.proofs.Table.{number_of, own_part}
use Rattle.sheet.proofs.Texts.{row_few}

-- ---- entries of two lists

pub entries_more : (ks vs : List ℕ) (k v : ℕ) → length ks ≡ length vs → entries_of (ks ++ (k ∷ [])) (vs ++ (v ∷ [])) ≡ entries_of ks vs ++ (entry_of k v ∷ [])
entries_more [] [] k v h = refl
entries_more [] (w ∷ vs) k v h = absurd (omega arith)
entries_more (j ∷ ks) [] k v h = absurd (omega arith)
entries_more (j ∷ ks) (w ∷ vs) k v h = ap (λ (l : List Entry). entry_of j w ∷ l) (entries_more ks vs k v (omega arith))

pub values_of : (ks vs : List ℕ) → length ks ≡ length vs → values (entries_of ks vs) ≡ vs
unfolding values_in
values_of [] [] h = refl
values_of [] (w ∷ vs) h = absurd (omega arith)
values_of (k ∷ ks) [] h = absurd (omega arith)
values_of (k ∷ ks) (v ∷ vs) h = ap (λ (l : List ℕ). v ∷ l) (values_of ks vs (omega arith))

pub numbers_of : (ks vs : List ℕ) → length ks ≡ length vs → Below 72 ks → numbers (entries_of ks vs) ≡ ks
unfolding numbers_in
numbers_of [] [] h b = refl
numbers_of [] (w ∷ vs) h b = absurd (omega arith)
numbers_of (k ∷ ks) [] h b = absurd (omega arith)
numbers_of (k ∷ ks) (v ∷ vs) h b =
    ap₂ (λ (x : ℕ) (l : List ℕ). x ∷ l) (number_of k b.0) (numbers_of ks vs (omega arith) b.1)

-- entries of known fields are those of their numbers and values
pub entries_of_lem : (es : List Entry) → AllKnown es → entries_of (numbers es) (values es) ≡ es
unfolding numbers_in values_in
entries_of_lem [] a = refl
entries_of_lem (e ∷ es) a =
    ap₂ (λ (x : Entry) (l : List Entry). x ∷ l) (ap (λ f. record { field = f; value = e.value }) a.0) (entries_of_lem es a.1)

-- ---- their text

pub rows_few : (ks vs : List ℕ) → Below 72 ks → length (all row_text (entries_of ks vs)) ≤ 43 * length vs
rows_few [] vs b = omega arith
rows_few (k ∷ ks) [] b = omega arith
rows_few (k ∷ ks) (v ∷ vs) b =
    let first = row_few (own_part k b.0) v in
    let rest = rows_few ks vs b.1 in
    let both = length-append (row_text (entry_of k v)) (all row_text (entries_of ks vs)) in
    omega (arith, first, rest, both)

-- the rows before i are put
pub record Putting (ks vs before : List ℕ) (start at : ℕ) (out : List ℕ) (i : ℕ) : Type 0 where
  pub columns : Columns ks vs
  pub done : i ≤ length vs
  pub size : length out ≡ length before
  pub puts : RowsPut (take i ks) (take i vs) before start at out

pub putting_first : {ks vs : List ℕ} → Columns ks vs → (before : List ℕ) (start : ℕ) → Putting ks vs before start start before 0
putting_first c before start =
    record {
      columns = c;
      done = omega arith;
      size = refl;
      puts = λ base text g h. subst (λ (l : List ℕ). Grown base l start before) (sym (append-nil text)) g;
    }

module _ {ks vs before : List ℕ} {start at : ℕ} {out : List ℕ} {i : ℕ} (p : Putting ks vs before start at out i) where
  pub next_known : i < length vs → get_or ks i 0 < 72
  next_known h = below_at ks p.columns.known i (omega (arith, p.columns.same))
    where
      below_at : (l : List ℕ) → Below 72 l → (j : ℕ) → j < length l → get_or l j 0 < 72
      below_at [] b j g = absurd (omega arith)
      below_at (x ∷ l) b zero g = b.0
      below_at (x ∷ l) b (suc j) g = below_at l b.1 j (omega arith)

  pub putting_on : i < length vs → {end : ℕ} {after : List ℕ} → RowPut (get_or ks i 0) (get_or vs i 0) out at end after
      → length after ≡ length out → Putting ks vs before start end after (i + 1)
  putting_on h {end} {after} r e =
      record { columns = p.columns; done = omega arith; size = e ∙ p.size; puts = more }
    where
      front_long : length (take i ks) ≡ length (take i vs)
      front_long =
          let a = length-take-le i ks (omega (arith, p.columns.same, h)) in
          let b = length-take-le i vs (omega (arith, h)) in
          a ∙ sym b

      rows_then : all row_text (entries_of (take i ks) (take i vs)) ++ row_text (entry_of (get_or ks i 0) (get_or vs i 0)) ≡ all row_text (entries_of (take (i + 1) ks) (take (i + 1) vs))
      rows_then =
          let one : take (i + 1) ks ≡ take i ks ++ (get_or ks i 0 ∷ []) = ap (λ (n : ℕ). take n ks) (add-one i) ∙ take-suc ks i 0 (omega (arith, p.columns.same, h)) in
          let two : take (i + 1) vs ≡ take i vs ++ (get_or vs i 0 ∷ []) = ap (λ (n : ℕ). take n vs) (add-one i) ∙ take-suc vs i 0 h in
          let row : List ℕ = row_text (entry_of (get_or ks i 0) (get_or vs i 0)) in
          sym
          (ap₂ (λ (a b : List ℕ). all row_text (entries_of a b)) one two
          ∙ ap (all row_text) (entries_more (take i ks) (take i vs) (get_or ks i 0) (get_or vs i 0) front_long)
          ∙ all_append row_text (entries_of (take i ks) (take i vs)) (entry_of (get_or ks i 0) (get_or vs i 0) ∷ [])
          ∙ ap (λ (l : List ℕ). all row_text (entries_of (take i ks) (take i vs)) ++ l) (append-nil row))

      more : RowsPut (take (i + 1) ks) (take (i + 1) vs) before start end after
      more base text g l =
          let long = length-take-le i vs (omega (arith, h)) in
          let further = length-take-le (i + 1) vs (omega (arith, h)) in
          let few = rows_few (take i ks) (take i vs) (below_take 72 i ks p.columns.known) in
          let so_far = length-append text (all row_text (entries_of (take i ks) (take i vs))) in
          subst (λ (x : List ℕ). Grown base x end after)
          (append_assoc text (all row_text (entries_of (take i ks) (take i vs))) (row_text (entry_of (get_or ks i 0) (get_or vs i 0)))
          ∙ ap (λ (x : List ℕ). text ++ x) rows_then)
          (r base (text ++ all row_text (entries_of (take i ks) (take i vs))) (p.puts base text g (omega (arith, l, long, further)))
          (omega (arith, l, few, so_far, long, further)))

  pub put_all : length vs ≤ i → RowsPut ks vs before start at out
  put_all h =
      let k : take i ks ≡ ks = take_all i ks (omega (arith, p.columns.same, h)) in
      let v : take i vs ≡ vs = take_all i vs h in
      subst (λ (l : List ℕ). RowsPut l vs before start at out) k (subst (λ (l : List ℕ). RowsPut (take i ks) l before start at out) v p.puts)

-- ---- the first row with another name

-- two numbers that differ, as the code's search for them asks
abbrev pub unlike : ℕ × ℕ → Bool
unlike p = not (eqb p.0 p.1)

below_next : (a b : ℕ) → ltb (1 + a) (suc b) ≡ ltb a b
below_next a b = grind (arith, nat_tests)

-- how many rows there are before the first that has another name, and how many are compared
abbrev before_other : List ℕ → List ℕ → ℕ
before_other ks ds = position_or_len unlike (zip ks ds)

abbrev compared : List ℕ → List ℕ → ℕ
compared ks ds = length (zip ks ds)

other_from : (n : ℕ) (ks ds : List ℕ)
    → other_name n ks ds ≡ cond (ltb (before_other ks ds) (compared ks ds)) (some (suc (n + before_other ks ds))) none
other_from n [] ds = refl
other_from n (k ∷ ks) [] = refl
other_from n (k ∷ ks) (d ∷ ds) = by (eqb k d) (other_from (suc n) ks ds)
  where
    by : (b : Bool) → other_name (suc n) ks ds ≡ cond (ltb (before_other ks ds) (compared ks ds)) (some (suc (suc n + before_other ks ds))) none
        → cond b (other_name (suc n) ks ds) (some (suc n))
        ≡ cond (ltb (cond (not (not b)) (1 + before_other ks ds) 0) (suc (compared ks ds))) (some (suc (n + cond (not (not b)) (1 + before_other ks ds) 0))) none
    by true e =
        let next : suc (suc n + before_other ks ds) ≡ suc (n + (1 + before_other ks ds)) = omega arith in
        e ∙ rw (below_next (before_other ks ds) (compared ks ds), next)
    by false e = let here : n + 0 ≡ n = omega arith in rw (here, lt-ltb 0 (suc (compared ks ds)) (omega arith))

module _ (ks ds : List ℕ) where
  pub some_unlike : (i : ℕ) → Some i ≡ position unlike (zip ks ds) → other_name 0 ks ds ≡ some (i + 1)
  some_unlike i e = by (ltb (before_other ks ds) (compared ks ds)) refl e
    where
      by : (b : Bool) → ltb (before_other ks ds) (compared ks ds) ≡ b → Some i ≡ cond b (Some (before_other ks ds)) None → other_name 0 ks ds ≡ some (i + 1)
      by true q z =
          let same : i ≡ before_other ks ds = held i (before_other ks ds) z in
          let next : suc (0 + before_other ks ds) ≡ i + 1 = omega (arith, same) in
          other_from 0 ks ds ∙ rw (q, next)
      by false q z = let w : ◌≡◌ {A = ℕ} 0 1 = cc in absurd (omega arith)

  pub none_unlike : None ≡ position unlike (zip ks ds) → other_name 0 ks ds ≡ none
  none_unlike e = by (ltb (before_other ks ds) (compared ks ds)) refl e
    where
      by : (b : Bool) → ltb (before_other ks ds) (compared ks ds) ≡ b → None ≡ cond b (Some (before_other ks ds)) None → other_name 0 ks ds ≡ none
      by true q z = let w : ◌≡◌ {A = ℕ} 0 1 = cc in absurd (omega arith)
      by false q z = other_from 0 ks ds ∙ rw q

  pub unlike_within : (i : ℕ) → Some i ≡ position unlike (zip ks ds) → i < length ks
  unlike_within i e =
      let within : i < length (zip ks ds) = (position-Some unlike (zip ks ds) i (0, 0) (sym e)).0 in
      omega (arith, length-zip ks ds)
