-- `telegram_word::of_bits` meets its contract: one law for each way out. Assumes nothing.
use native.Mathlib.Omega.{arith}
use Rattle.std.proofs.lemmas.Result.{err_from_is_err_and}
use Rattle.telegram_word.specs.Telegrams.{bits_form}
use Rattle.telegram_word.proofs.Forms.{lends_none, bits_empty, bits_long, bits_packed, bits_refused}
use Rattle.telegram_word.proofs.of_bits.Goals as goal

pub returns-then-word-lt1 : goal.returns-then-word-lt1
returns-then-word-lt1 c =
    let a = c.args in
    lends_none (bits_form a.word.now) a.out.now (bits_empty a.word.now (omega arith))

pub returns-then-word-gt1024 : goal.returns-then-word-gt1024
returns-then-word-gt1024 c =
    let a = c.args in
    lends_none (bits_form a.word.now) a.out.now (bits_long a.word.now (omega arith))

pub returns : goal.returns
returns c =
    let a = c.args in
    bits_packed a.word.now (omega arith) (omega arith) a.out.now c.pack.result _ c.pack.ensures
    _ c.bytes_for.result c.in_ok-n.was c.bytes_for.ensures

pub returns-in_err-n : goal.returns-in_err-n
returns-in_err-n c =
    let a = c.args in
    let p = err_from_is_err_and c.from_residual.result c.from_residual.ensures.1 in
    rw (p.1, p.2)
    (bits_refused a.word.now (omega arith) (omega arith) a.out.now c.pack.result _ c.pack.ensures _ c.in_err-n.was)
