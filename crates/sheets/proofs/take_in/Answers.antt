-- `sheets::take_in` is safe and ends: what it reads lies within the buffer, which is long enough for an answer, and what it writes out within the
-- text, and is the answer. Assumes nothing.
use mathlib.Core.Path.{sym, subst}
use Prim.Native.Nat.{◌≤◌}
use native.Mathlib.Omega.{arith}
use lib.ListN.{length}
use lib.Seq.{length-take-le}
use Rattle.blocks.specs.Reading.{Within}
use Rattle.printed_in.specs.Sheet.{in_text}
use Rattle.sheets.proofs.Held.{held, grown_prints}
use Rattle.printed_in.proofs.Kept.{in_kept}
use Rattle.printed.proofs.Texts.{grown_within}
use Rattle.sheets.proofs.take_in.Goals as goal

pub from_start_of_sheet-end-requires : goal.from_start_of_sheet-end-requires
from_start_of_sheet-end-requires c =
    let read_within : c.in-Ok.n ≤ length c.fill.new.buffer = subst (Within _) c.in-Ok.is c.fill.ensures in
    (in_kept _ (omega arith), read_within, omega arith)

pub slice_bounds-text-end : goal.slice_bounds-text-end
slice_bounds-text-end c =
    let read_within : c.in-Ok.n ≤ length c.fill.new.buffer = subst (Within _) c.in-Ok.is c.fill.ensures in
    grown_within (c.from_start_of_sheet-end.ensures _ (held _ _ (read_within)))

pub slice_bounds-print_line-end : goal.slice_bounds-print_line-end
slice_bounds-print_line-end c =
    let read_within : c.in-Ok.n ≤ length c.fill.new.buffer = subst (Within _) c.in-Ok.is c.fill.ensures in
    sym (length-take-le _ _ ((grown_within (c.from_start_of_sheet-end.ensures _ (held _ _ (read_within))))))

pub print_line-requires : goal.print_line-requires
print_line-requires c =
    let read_within : c.in-Ok.n ≤ length c.fill.new.buffer = subst (Within _) c.in-Ok.is c.fill.ensures in
    grown_prints in_text _ _ (read_within) c.from_start_of_sheet-end.ensures
