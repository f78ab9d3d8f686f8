-- `lines::main` is safe and ends, and what it has written then is the answers to all lines. The loop's invariant: what is lent has its length, and the
-- program has run line by line. The measure is the number of turns that are left. Assumes nothing.
use mathlib.Core.Path.{◌≡◌}
use lib.ListN.{length}
use Rattle.answers.specs.Text.{response_to}
use Rattle.line_by_line.specs.Running.{Runs}
use Rattle.lines.proofs.main.Given as goal

abbrev pub invariant-loop-block : goal.invariant-loop-block
invariant-loop-block l = (65536 ≡ length l.block) × (831 ≡ length l.line) × (4096 ≡ length l.out) × Runs response_to l.block l.line l.input l.out l.q

abbrev pub decreases-loop-block : goal.decreases-loop-block
decreases-loop-block l = l.turns
