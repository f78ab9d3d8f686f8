-- `line_text::line::put_characters` meets its contract. The loop's invariant: the first i bits stand in front as characters, and behind them what
-- was there. Assumes nothing.
use mathlib.Core.Path.{◌≡◌}
use mathlib.Core.List.{◌++◌}
use lib.ListN.{length, take, drop}
use Rattle.bits.specs.Bits.{bits_of}
use Rattle.packing.specs.Packing.{characters}
use Rattle.line_text.proofs.line.put_characters.Given as goal

abbrev pub invariant-loop-i : goal.invariant-loop-i
invariant-loop-i l = (length l.out ≡ length l.initial.out) × (l.out ≡ characters (take l.i (bits_of l.s)) ++ drop l.i l.initial.out)
