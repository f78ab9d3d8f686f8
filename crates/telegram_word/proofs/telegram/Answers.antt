-- `telegram_word::telegram` meets its contract: with a colon a word is no bits, and without one it is no HEX:n. Assumes nothing.
use native.Mathlib.Omega.{arith}
use Rattle.telegram_word.proofs.Forms.{lends_hex, lends_bits}
use Rattle.telegram_word.proofs.telegram.Goals as goal

pub returns-then-colon-word : goal.returns-then-colon-word
returns-then-colon-word c =
    let w = c.args.word.now in
    lends_hex w (omega (arith, c.until-colon.ensures)) c.of_hex.ensures

pub returns : goal.returns
returns c =
    let w = c.args.word.now in
    lends_bits w (omega (arith, c.until-colon.ensures)) c.of_bits.ensures
