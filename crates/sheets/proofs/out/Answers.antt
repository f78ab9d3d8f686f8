-- `sheets::out` is safe and ends: what it reads lies within the buffer, which is long enough for an answer, and what it writes out within the
-- text, and is the answer. Assumes nothing.
use mathlib.Core.Path.{sym, subst}
use Prim.Native.Nat.{◌≤◌}
use native.Mathlib.Omega.{arith}
use lib.ListN.{length}
use lib.Seq.{length-take-le}
use Rattle.blocks.specs.Reading.{Within}
use Rattle.printed.specs.Printed.{out_text}
use Rattle.sheets.proofs.Held.{tells_as, held, grown_prints}
use Rattle.printed.proofs.Texts.{grown_within}
use Rattle.sheets.proofs.out.Goals as goal

pub from_start_of_line-end-requires : goal.from_start_of_line-end-requires
from_start_of_line-end-requires c =
    let read_within : c.in-Ok.n ≤ length c.fill.new.buffer = subst (Within _) c.in-Ok.is c.fill.ensures in
    (tells_as c.line_buffer-input.ensures (omega arith), read_within, omega arith)

pub slice_bounds-text-end : goal.slice_bounds-text-end
slice_bounds-text-end c =
    let read_within : c.in-Ok.n ≤ length c.fill.new.buffer = subst (Within _) c.in-Ok.is c.fill.ensures in
    grown_within (c.from_start_of_line-end.ensures _ (held _ _ (read_within)))

pub slice_bounds-print_sheet-end : goal.slice_bounds-print_sheet-end
slice_bounds-print_sheet-end c =
    let read_within : c.in-Ok.n ≤ length c.fill.new.buffer = subst (Within _) c.in-Ok.is c.fill.ensures in
    sym (length-take-le _ _ ((grown_within (c.from_start_of_line-end.ensures _ (held _ _ (read_within))))))

pub print_sheet-requires : goal.print_sheet-requires
print_sheet-requires c =
    let read_within : c.in-Ok.n ≤ length c.fill.new.buffer = subst (Within _) c.in-Ok.is c.fill.ensures in
    grown_prints out_text _ _ (read_within) c.from_start_of_line-end.ensures
