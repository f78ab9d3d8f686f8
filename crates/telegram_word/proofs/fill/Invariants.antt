-- `telegram_word::fill` meets its contract. The loop's invariant: the first i bytes of the text stand in front, and behind them what was there. Assumes nothing.
use mathlib.Core.Path.{◌≡◌}
use mathlib.Core.List.{◌++◌}
use Prim.Native.Nat.{◌*◌}
use lib.ListN.{length, take, drop}
use Rattle.telegram_word.specs.Telegrams.{bytes_in}
use Rattle.telegram_word.proofs.fill.Given as goal

abbrev pub invariant-loop-i : goal.invariant-loop-i
invariant-loop-i l = (length l.out ≡ length l.initial.out) × (l.out ≡ bytes_in (take (2 * l.i) l.text) ++ drop l.i l.initial.out)
