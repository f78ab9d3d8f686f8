-- A text is a column of rows or has a first bad row, and is read so: both ways. Assumes nothing.
use mathlib.Core.Path.{◌≡◌, refl, sym, ap, ◌∙◌, subst}
use mathlib.Core.Bool.{Bool, true, false, cond}
use mathlib.Core.List.{List, [], ◌∷◌, ◌++◌, append_assoc}
use mathlib.Core.Logic.{◌↔◌}
use Prim.Native.Nat.{ℕ, zero, suc, ◌+◌, ◌-◌, ◌≤◌, ◌<◌}
use native.Mathlib.Nat.{zero-add, add-zero}
use native.Mathlib.Omega.{arith}
use lib.ListN.{length, drop}
use lib.Seq.{drop_at}
use Rattle.pieces.specs.Pieces.{begins}
use Rattle.pieces.proofs.Starts.{begins_front, begins_is}
use Rattle.format.specs.Telegrams.{Entry, all}
use Rattle.sheet.specs.Rows.{heading, row_text, sheet_text}
use Rattle.sheet.specs.Reading.{above, rows_in, sheet_in}
use Rattle.sheet.specs.Reading.Rows.{rows, bad}
use Rattle.sheet.proofs.Written.{row_then, sheet_read}
use Rattle.entrances.specs.Rows.{Row, Rows, NoRow, BadRow, Column}
use Rattle.entrances.specs.Rows.BadRow.{no_header, no_row, too_many}
use Rattle.entrances.proofs.Fronts.{readable, all_readable, Front, front}
use Rattle.entrances.proofs.Fronts.Front.{a_row, nothing}

-- ---- how a bad row is read

-- rows, and behind them what is refused at row k
rows_behind : (es : List Entry) (more n k : ℕ) (rest : List ℕ) → Rows es → rows_in more (length es + n) rest ≡ bad k
    → rows_in (length es + more) n (all row_text es ++ rest) ≡ bad k
rows_behind [] more n k rest r e = rw zero-add (rw zero-add at e)
rows_behind (e ∷ es) more n k rest r q =
    let one : suc (length es) + more ≡ suc (length es + more) = omega arith in
    let two : suc (length es) + n ≡ length es + suc n = omega arith in
    rw (one, append_assoc)
    (row_then e (length es + more) n (all row_text es ++ rest) (readable r.0) ∙ ap (above e) (rows_behind es more (suc n) k rest r.1 (rw two at q)))

-- no row, and one too many
stops : (left n c : ℕ) (rest : List ℕ) → NoRow (c ∷ rest) → rows_in (suc left) n (c ∷ rest) ≡ bad (suc n)
unfolding rows_in
stops left n c rest no_such = by (front (c ∷ rest))
  where
    by : Front (c ∷ rest) → rows_in (suc left) n (c ∷ rest) ≡ bad (suc n)
    by (a_row e more r i) = absurd (no_such e more r i)
    by (nothing q y) = rw q

goes_on_lem : (n c : ℕ) (rest : List ℕ) → rows_in 0 n (c ∷ rest) ≡ bad (suc n)
unfolding rows_in
goes_on_lem n c rest = refl

-- behind the header
headed : (text : List ℕ) → sheet_in (heading ++ text) ≡ rows_in 830 0 text
unfolding sheet_in
headed text = rw (begins_front heading text) (ap (rows_in 830 0) (drop_at heading text (length heading) refl))

behind_rows : (es : List Entry) (more k : ℕ) (rest : List ℕ) → Rows es → length es + more ≡ 830 → rows_in more (length es) rest ≡ bad k
    → sheet_in (sheet_text es ++ rest) ≡ bad k
unfolding sheet_text
behind_rows es more k rest r e q =
    ap sheet_in (append_assoc heading (all row_text es) rest) ∙ headed (all row_text es ++ rest)
    ∙ rw (← e) (rows_behind es more 0 k rest r (rw add-zero q))

headless : (text : List ℕ) → ((rest : List ℕ) → text ≡ heading ++ rest → ⊥) → sheet_in text ≡ bad 0
unfolding sheet_in
headless text f = by (begins heading text) refl
  where
    by : (b : Bool) → begins heading text ≡ b → cond b (rows_in 830 0 (drop (length heading) text)) (bad 0) ≡ bad 0
    by true q = absurd (f (drop (length heading) text) (begins_is heading text q))
    by false q = refl

bad_read : {text : List ℕ} {k : ℕ} → BadRow text k → sheet_in text ≡ bad k
bad_read {text} (no_header f) = headless text f
bad_read (no_row es c left r h i f) =
    ap sheet_in i ∙ behind_rows es (suc (829 - length es)) (suc (length es)) (c ∷ left) r (omega arith) (stops (829 - length es) (length es) c left f)
bad_read (too_many es c left r h i) =
    ap sheet_in i ∙ behind_rows es 0 831 (c ∷ left) r (omega arith) (goes_on_lem (length es) c left ∙ ap (λ (n : ℕ). bad (suc n)) h)

column_read : {text : List ℕ} {rs : List Entry} → Column text rs → sheet_in text ≡ rows rs
column_read {rs = rs} c = ap sheet_in c.is ∙ sheet_read rs (all_readable rs c.rows) c.few

-- ---- every text is one or the other

-- rows to the end; or so many at most, and then no row; or as many as may be, and more
data Divided (left : ℕ) (text : List ℕ) : Type 0 where
  whole : (es : List Entry) → Rows es → length es ≤ left → text ≡ all row_text es → Divided left text
  halts : (es : List Entry) (c : ℕ) (rest : List ℕ) → Rows es → length es < left → text ≡ all row_text es ++ (c ∷ rest) → NoRow (c ∷ rest)
      → Divided left text
  full : (es : List Entry) (c : ℕ) (rest : List ℕ) → Rows es → length es ≡ left → text ≡ all row_text es ++ (c ∷ rest) → Divided left text

module _ {text : List ℕ} (e : Entry) (behind : List ℕ) (r : Row e) (i : text ≡ row_text e ++ behind) where
  joined : (es : List Entry) (more : List ℕ) → behind ≡ all row_text es ++ more → text ≡ (row_text e ++ all row_text es) ++ more
  joined es more j = i ∙ ap (λ (t : List ℕ). row_text e ++ t) j ∙ sym (append_assoc (row_text e) (all row_text es) more)

  one_more : {left : ℕ} → Divided left behind → Divided (suc left) text
  one_more (whole es a h j) = whole (e ∷ es) (r, a) (omega arith) (i ∙ ap (λ (t : List ℕ). row_text e ++ t) j)
  one_more (halts es c rest a h j f) = halts (e ∷ es) c rest (r, a) (omega arith) (joined es (c ∷ rest) j) f
  one_more (full es c rest a h j) = full (e ∷ es) c rest (r, a) (ap suc h) (joined es (c ∷ rest) j)

divide : (left : ℕ) (text : List ℕ) → Divided left text
divide zero [] = whole [] tt (omega arith) refl
divide zero (c ∷ text) = full [] c text tt refl refl
divide (suc left) [] = whole [] tt (omega arith) refl
divide (suc left) (c ∷ text) = by (divide left) (front (c ∷ text))
  where
    by : ((rest : List ℕ) → Divided left rest) → Front (c ∷ text) → Divided (suc left) (c ∷ text)
    by ih (a_row e rest r i) = one_more e rest r i (ih rest)
    by ih (nothing q f) = halts [] c text tt (omega arith) refl f

data Sorted (text : List ℕ) : Type 0 where
  column : (rs : List Entry) → Column text rs → Sorted text
  bad_at : (k : ℕ) → BadRow text k → Sorted text

sort_behind : {text : List ℕ} (behind : List ℕ) → text ≡ heading ++ behind → Divided 830 behind → Sorted text
unfolding sheet_text
sort_behind behind i (whole es a h j) = column es (record { rows = a; few = h; is = i ∙ ap (λ (t : List ℕ). heading ++ t) j })
sort_behind behind i (halts es c rest a h j f) =
    bad_at (suc (length es)) (no_row es c rest a h (i ∙ ap (λ (t : List ℕ). heading ++ t) j ∙ sym (append_assoc heading (all row_text es) (c ∷ rest))) f)
sort_behind behind i (full es c rest a h j) =
    bad_at 831 (too_many es c rest a h (i ∙ ap (λ (t : List ℕ). heading ++ t) j ∙ sym (append_assoc heading (all row_text es) (c ∷ rest))))

sort : (text : List ℕ) → Sorted text
sort text = by (begins heading text) refl
  where
    by : (b : Bool) → begins heading text ≡ b → Sorted text
    by true q = sort_behind (drop (length heading) text) (begins_is heading text q) (divide 830 (drop (length heading) text))
    by false q =
        bad_at 0 (no_header (λ rest i.
        let s = sym q ∙ ap (begins heading) i ∙ begins_front heading rest in
        let w : ◌≡◌ {A = ℕ} 0 1 = cc in absurd (omega arith)))

-- ---- both ways

module _ (text : List ℕ) where
  -- the rows that are read are the rows of the sheet
  pub sheet_rows : (rs : List Entry) → (sheet_in text ≡ rows rs) ↔ Column text rs
  sheet_rows rs = (by (sort text), column_read)
    where
      by : Sorted text → sheet_in text ≡ rows rs → Column text rs
      by (column ss c) e = let s = column_read c in let i : ss ≡ rs = cc in subst (Column text) i c
      by (bad_at k b) e = let s = bad_read b in let w : ◌≡◌ {A = ℕ} 0 1 = cc in absurd (omega arith)

  -- a row that is refused as it is read is the first that is no row
  pub sheet_bad : (k : ℕ) → (sheet_in text ≡ bad k) ↔ BadRow text k
  sheet_bad k = (by (sort text), bad_read)
    where
      by : Sorted text → sheet_in text ≡ bad k → BadRow text k
      by (column ss c) e = let s = column_read c in let w : ◌≡◌ {A = ℕ} 0 1 = cc in absurd (omega arith)
      by (bad_at j b) e = let s = bad_read b in let i : j ≡ k = cc in subst (BadRow text) i b
