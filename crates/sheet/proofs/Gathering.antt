-- The rows of a text, read one by one into two lists. Assumes nothing.
use Rattle.std.specs.Prelude.{Some, None, Ok, Err}
use mathlib.Core.Path.{◌≡◌, refl, sym, ap, ap₂, ◌∙◌, subst}
use mathlib.Core.Bool.{true, false}
use mathlib.Core.List.{List, [], ◌∷◌, ◌++◌, append_assoc, append-nil}
use mathlib.Core.Option.{Option, some, none}
use Prim.Native.Nat.{ℕ, zero, suc, ◌+◌, ◌-◌, ◌≤◌, ◌<◌}
use native.Mathlib.Numerals.{add-one}
use native.Mathlib.Omega.{arith}
use lib.Arith.{lt_of_le-ne}
use lib.ListN.{length, take, drop, set, length-set, drop_of_length-le}
use lib.Seq.{drop-cons, drop-drop, take-suc-set, length-take-le}
use Rattle.bits.specs.Bits.{Below}
use Rattle.bits.proofs.Bytes.{below_append}
use Rattle.bits.proofs.Pairs.{held}
use Rattle.format.specs.Telegrams.{Entry}
use Rattle.pieces.specs.Pieces.{begins}
use Rattle.sheet.specs.Rows.{heading, entry_of}
use Rattle.sheet.specs.Reading.{Row, Rows, row_in, above, on_row, rows_in, sheet_in}
use Rattle.sheet.specs.Reading.Rows.{rows, bad}
use Rattle.sheet.specs.Steps.{row_at, entries_of, Collecting, Collected}
use Rattle.sheet.proofs.Fronts.{row_number}
use Rattle.sheet.proofs.Columns.{entries_more}
use Rattle.std.specs.Prelude as code

-- rows behind those of a list
abbrev behind : List Entry → Rows → Rows
behind es (rows rs) = rows (es ++ rs)
behind es (bad k) = bad k

behind_above : (es : List Entry) (e : Entry) (r : Rows) → behind es (above e r) ≡ behind (es ++ (e ∷ [])) r
behind_above es e (rows rs) = ap rows (sym (append_assoc es (e ∷ []) rs))
behind_above es e (bad k) = refl

behind_none : (r : Rows) → behind [] r ≡ r
behind_none (rows rs) = refl
behind_none (bad k) = refl

-- ---- one row of a text that is not at its end

module _ (text : List ℕ) (at n : ℕ) where
  rows_end : (left : ℕ) → length text ≤ at → rows_in left n (drop at text) ≡ rows []
  unfolding rows_in
  rows_end zero h = rw (drop_of_length-le text {i = at} h)
  rows_end (suc left) h = rw (drop_of_length-le text {i = at} h)

  module _ (h : at < length text) where
    rows_full : rows_in 0 n (drop at text) ≡ bad (suc n)
    unfolding rows_in
    rows_full = rw (drop-cons text at 0 h)

    pub rows_row : (left : ℕ) → rows_in (suc left) n (drop at text) ≡ on_row (row_in (drop at text)) n (λ k. rows_in left (suc n) (drop k (drop at text)))
    unfolding rows_in
    rows_row left = rw (drop-cons text at 0 h)

    row_bad : (left : ℕ) (o : Option Row) → row_in (drop at text) ≡ o → None ≡ row_at at o → rows_in (suc left) n (drop at text) ≡ bad (suc n)
    row_bad left none e z = rows_row left ∙ rw e
    row_bad left (some r) e z = let w : ◌≡◌ {A = ℕ} 0 1 = cc in absurd (omega arith)

    -- what a row leads to
    pub record Led (left k v end : ℕ) : Type 0 where
      pub known : k < 72
      pub goes : rows_in (suc left) n (drop at text) ≡ above (entry_of k v) (rows_in left (suc n) (drop end text))

    row_good : (left k v end : ℕ) (o : Option Row) → row_in (drop at text) ≡ o → Some (k, v, end) ≡ row_at at o → Led left k v end
    row_good left k v end none e z = let w : ◌≡◌ {A = ℕ} 0 1 = cc in absurd (omega arith)
    row_good left k v end (some r) e z =
        let h = held {A = ℕ × ℕ × ℕ} (k, v, end) (r.number, r.value, at + r.count) z in
        let a : k ≡ r.number = ap (λ (q : ℕ × ℕ × ℕ). q.0) h in
        let b : v ≡ r.value = ap (λ (q : ℕ × ℕ × ℕ). q.1) h in
        let c : end ≡ at + r.count = ap (λ (q : ℕ × ℕ × ℕ). q.2) h in
        record {
          known = rw a (row_number (drop at text) r e);
          goes =
              rows_row left ∙ ap (λ (o : Option Row). on_row o n (λ j. rows_in left (suc n) (drop j (drop at text)))) e
              ∙ rw (a, b, c, drop-drop r.count at text);
        }

-- ---- the loop

pub record Gathered (text : List ℕ) (at n : ℕ) (ks vs : List ℕ) : Type 0 where
  pub few : n ≤ 830
  pub fields : length ks ≡ 830
  pub values : length vs ≡ 830
  pub known : Below 72 (take n ks)
  pub goes : sheet_in text ≡ behind (entries_of (take n ks) (take n vs)) (rows_in (830 - n) n (drop at text))

pub length_heading : length heading ≡ 21
unfolding heading
length_heading = refl

module _ (text ks vs : List ℕ) where
  pub headless : begins heading text ≡ false → Collected text (Err 0) ks vs
  unfolding sheet_in
  headless e = record { is = rw e; few = tt }

  pub gathered_first : Collecting ks vs → begins heading text ≡ true → Gathered text 21 0 ks vs
  unfolding sheet_in
  gathered_first c e =
      record {
        few = omega arith;
        fields = c.fields;
        values = c.values;
        known = tt;
        goes = rw (e, length_heading) (sym (behind_none (rows_in 830 0 (drop 21 text))));
      }

module _ {text : List ℕ} {at n : ℕ} {ks vs : List ℕ} (g : Gathered text at n ks vs) where
  pub gathered_all : length text ≤ at → Collected text (Ok n) ks vs
  gathered_all h =
      record {
        is =
            g.goes ∙ ap (behind (entries_of (take n ks) (take n vs))) (rows_end text at n (830 - n) h)
            ∙ ap rows (append-nil (entries_of (take n ks) (take n vs)));
        few = (g.few, g.known);
      }

  module _ (h : at < length text) where
    pub too_many : n ≡ 830 → Collected text (Err 831) ks vs
    too_many e =
        let none : 830 - n ≡ 0 = omega arith in
        let next : suc n ≡ 831 = omega arith in
        record {
          is =
              g.goes ∙ ap (λ (l : ℕ). behind (entries_of (take n ks) (take n vs)) (rows_in l n (drop at text))) none
              ∙ ap (behind (entries_of (take n ks) (take n vs))) (rows_full text at n h)
              ∙ ap bad next;
          few = tt;
        }

    module _ (d : n ≡ 830 → ⊥) where
      pub room : n < 830
      room = lt_of_le-ne g.few d

      left : 830 - n ≡ suc (830 - (n + 1))
      left = omega (arith, room)

      here : sheet_in text ≡ behind (entries_of (take n ks) (take n vs)) (rows_in (suc (830 - (n + 1))) n (drop at text))
      here = g.goes ∙ ap (λ (l : ℕ). behind (entries_of (take n ks) (take n vs)) (rows_in l n (drop at text))) left

      pub bad_row : {r : code.Option (ℕ × ℕ × ℕ)} → r ≡ row_at at (row_in (drop at text)) → r ≡ None → Collected text (Err (n + 1)) ks vs
      bad_row e z =
          record {
            is =
                here ∙ ap (behind (entries_of (take n ks) (take n vs))) (row_bad text at n h (830 - (n + 1)) (row_in (drop at text)) refl (sym z ∙ e))
                ∙ ap bad (sym (add-one n));
            few = tt;
          }

      module _ {r : code.Option (ℕ × ℕ × ℕ)} (e : r ≡ row_at at (row_in (drop at text))) {k v end : ℕ} (z : r ≡ Some (k, v, end)) where
        led : Led text at n h (830 - (n + 1)) k v end
        led = row_good text at n h (830 - (n + 1)) k v end (row_in (drop at text)) refl (sym z ∙ e)

        pub small : k < 72
        small = led.known

        pub gathered_on : Gathered text end (n + 1) (set ks n k) (set vs n v)
        gathered_on =
            let one : take (n + 1) (set ks n k) ≡ take n ks ++ (k ∷ []) =
            ap (λ (m : ℕ). take m (set ks n k)) (add-one n) ∙ take-suc-set ks n k (omega (arith, room, g.fields)) in
            let two : take (n + 1) (set vs n v) ≡ take n vs ++ (v ∷ []) =
            ap (λ (m : ℕ). take m (set vs n v)) (add-one n) ∙ take-suc-set vs n v (omega (arith, room, g.values)) in
            let same : length (take n ks) ≡ length (take n vs) =
            length-take-le n ks (omega (arith, room, g.fields)) ∙ sym (length-take-le n vs (omega (arith, room, g.values))) in
            record {
              few = omega (arith, room);
              fields = length-set ks n k ∙ g.fields;
              values = length-set vs n v ∙ g.values;
              known = subst (Below 72) (sym one) (below_append 72 (take n ks) (k ∷ []) g.known (small, tt));
              goes =
                  here ∙ ap (behind (entries_of (take n ks) (take n vs))) led.goes
                  ∙ behind_above (entries_of (take n ks) (take n vs)) (entry_of k v) (rows_in (830 - (n + 1)) (suc n) (drop end text))
                  ∙ ap (λ (m : ℕ). behind (entries_of (take n ks) (take n vs) ++ (entry_of k v ∷ [])) (rows_in (830 - (n + 1)) m (drop end text))) (sym (add-one n))
                  ∙ ap (λ (l : List Entry). behind l (rows_in (830 - (n + 1)) (n + 1) (drop end text)))
                  (sym (ap₂ entries_of one two ∙ entries_more (take n ks) (take n vs) k v same));
            }
