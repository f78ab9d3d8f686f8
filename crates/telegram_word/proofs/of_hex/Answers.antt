-- `telegram_word::of_hex` meets its contract: one law for each way out. Assumes nothing.
use mathlib.Core.Path.{◌≡◌, sym, ◌∙◌}
use Rattle.std.specs.Prelude.{Some}
use Rattle.std.proofs.lemmas.Result.{err_from_is_err_and}
use Rattle.packing.specs.declared.PackError.TheVariants.{Other}
use native.Mathlib.Omega.{arith}
use Rattle.telegram_word.proofs.Answers.{why_none}
use Rattle.telegram_word.proofs.Forms.{hex_even, hex_no_pairs, hex_no_number, hex_roomless, hex_bytes}
use Rattle.telegram_word.proofs.of_hex.Goals as goal

pub returns-then-not-in_pairs : goal.returns-then-not-in_pairs
returns-then-not-in_pairs c =
    let s = c in
    hex_no_pairs s.args.word.now s.args.colon s.requires.0 s.args.out.now (sym c.in_pairs.ensures ∙ c.if-not-in_pairs.true)

pub returns-in_err-n : goal.returns-in_err-n
returns-in_err-n c =
    let s = c in
    let p = err_from_is_err_and c.from_residual.result c.from_residual.ensures.1 in
    let w = why_none c.number.result c.in_err-n.field-0.0 Other c.in_err-n.ensures.value in
    rw (p.1, p.2, w.1)
    (hex_no_number s.args.word.now s.args.colon s.requires.0 s.args.out.now (sym c.in_pairs.ensures ∙ c.if-not-in_pairs.false)
    c.number.result c.number.ensures w.0)

pub returns-then-out-k : goal.returns-then-out-k
returns-then-out-k c =
    let s = c in
    let e = c in
    let n = c.number in
    let is : n.result ≡ Some c.in_ok-n.n = grind (arith, c.in_ok-n.ensures) in
    hex_roomless s.args.word.now s.args.colon s.requires.0 s.args.out.now (sym e.in_pairs.ensures ∙ e.if-not-in_pairs.false)
    n.result n.ensures _ is s.requires.1 (omega arith)

pub fill-requires : goal.fill-requires
fill-requires c =
    let s = c in
    let e = c in
    let h = hex_even s.args.word.now s.args.colon (sym e.in_pairs.ensures ∙ e.if-not-in_pairs.false) (omega arith) in
    (h.0, h.1, omega arith)

pub returns : goal.returns
returns c =
    let s = c in
    let e = c in
    let n = c.number in
    let is : n.result ≡ Some c.in_ok-n.n = grind (arith, c.in_ok-n.ensures) in
    rw c.fill.ensures
    (hex_bytes s.args.word.now s.args.colon s.requires.0 s.args.out.now (sym e.in_pairs.ensures ∙ e.if-not-in_pairs.false)
    n.result n.ensures _ is s.requires.1 (omega arith))
