-- `telegram_word::digit` meets its contract: one law for each range of characters. Assumes nothing.
use mathlib.Core.Path.{sym}
use native.Mathlib.Omega.{arith}
use Rattle.telegram_word.proofs.Hexes.{hex_digit, hex_capital, hex_small, hex_front, hex_between, hex_middle, hex_behind}
use Rattle.telegram_word.proofs.digit.Goals as goal

pub returns-in-48-to-57 : goal.returns-in-48-to-57
returns-in-48-to-57 c = sym (hex_digit c.args.c (omega arith) (omega arith))

pub returns-in-65-to-70 : goal.returns-in-65-to-70
returns-in-65-to-70 c = sym (hex_capital c.args.c (omega arith) (omega arith))

pub returns-in-97-to-102 : goal.returns-in-97-to-102
returns-in-97-to-102 c = sym (hex_small c.args.c (omega arith) (omega arith))

pub returns-in_default : goal.returns-in_default
returns-in_default c = sym (hex_front c.args.c (omega arith))

pub returns-in_default-2 : goal.returns-in_default-2
returns-in_default-2 c = sym (hex_between c.args.c (omega arith) (omega arith))

pub returns-in_default-3 : goal.returns-in_default-3
returns-in_default-3 c = sym (hex_middle c.args.c (omega arith) (omega arith))

pub returns-in_default-4 : goal.returns-in_default-4
returns-in_default-4 c = sym (hex_behind c.args.c (omega arith))
