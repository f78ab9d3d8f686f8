-- `sheet_in::row::row_at` meets its contract: a label, the value behind it, and CRLF behind that. Assumes nothing.
use mathlib.Core.Path.{◌≡◌, sym, ap, ◌∙◌, subst}
use mathlib.Core.List.{List}
use Prim.Native.Nat.{ℕ, ◌+◌}
use native.Mathlib.Omega.{arith}
use lib.ListN.{length, drop}
use Rattle.pieces.specs.Numbers.{read_at}
use Rattle.sheet.specs.Rows.{crlf, label_text, field_of}
use Rattle.sheet.specs.Reading.{value_in}
use Rattle.sheet.proofs.Table.{own_part}
use Rattle.sheet.proofs.Fronts.{begins_fits, begins_longer, row_nameless, row_valueless, valued_at, row_open, row_whole}
use Rattle.sheet_in.proofs.row.row_at.Goals as goal

pub returns-in_err-k : goal.returns-in_err-k
returns-in_err-k c = c.from_residual.ensures ∙ sym (row_nameless c.args.text.now c.args.at c.in_err-k.ensures)

pub overflow_add-at : goal.overflow_add-at
overflow_add-at c =
    let k = c.in_ok-k.k in
    let there = c.in_ok-k.ensures.stands in
    let p = own_part k there.0 in
    let f = begins_fits (label_text (field_of k)) c.args.text.now c.args.at there.1 p.some_there in
    omega (arith, f, ap length c.label.ensures)

pub returns-in_err-v : goal.returns-in_err-v
returns-in_err-v c =
    let k = c.in_ok-k.k in
    let a = c.args in
    let n = length (label_text (field_of k)) in
    let value_is : c.value_at.result ≡ read_at (a.at + n) (value_in (field_of k) (drop (a.at + n) a.text.now)) =
    subst (λ (l : List ℕ). c.value_at.result ≡ read_at (a.at + length l) (value_in (field_of k) (drop (a.at + length l) a.text.now))) c.label.ensures c.value_at.ensures in
    c.from_residual-in_err-v.ensures ∙ sym (row_valueless _ _ _ c.in_ok-k.ensures _ value_is c.in_err-v.was)

-- what lacks a front of CRLF lacks CRLF: the answer is right also where less is looked for
pub returns-then-not-begins : goal.returns-then-not-begins
returns-then-not-begins c =
    let k = c.in_ok-k.k in
    let a = c.args in
    let n = length (label_text (field_of k)) in
    let value_is : c.value_at.result ≡ read_at (a.at + n) (value_in (field_of k) (drop (a.at + n) a.text.now)) =
    subst (λ (l : List ℕ). c.value_at.result ≡ read_at (a.at + length l) (value_in (field_of k) (drop (a.at + length l) a.text.now))) c.label.ensures c.value_at.ensures in
    sym (row_open _ _ _ c.in_ok-k.ensures _ value_is (valued_at _ _ _ c.in_ok-k.ensures _ value_is c.in_ok-v.was) (begins_longer _ _ _ (sym c.begins.ensures ∙ c.if-not-begins.true)))

-- here a row that ends in less than CRLF is refused
pub returns : goal.returns
returns c =
    let k = c.in_ok-k.k in
    let a = c.args in
    let n = length (label_text (field_of k)) in
    let value_is : c.value_at.result ≡ read_at (a.at + n) (value_in (field_of k) (drop (a.at + n) a.text.now)) =
    subst (λ (l : List ℕ). c.value_at.result ≡ read_at (a.at + length l) (value_in (field_of k) (drop (a.at + length l) a.text.now))) c.label.ensures c.value_at.ensures in
    sym (row_whole _ _ _ c.in_ok-k.ensures _ value_is (valued_at _ _ _ c.in_ok-k.ensures _ value_is c.in_ok-v.was) (sym c.begins.ensures ∙ c.if-not-begins.false))

pub overflow_add-result : goal.overflow_add-result
overflow_add-result c =
    let f = begins_fits crlf c.args.text.now c.in_ok-v.end (sym c.begins.ensures ∙ c.if-not-begins.false) (omega arith) in
    omega (arith, f)
