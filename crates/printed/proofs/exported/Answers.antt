-- `printed::exported` meets its contract: one law for each answer of packing. Assumes nothing.
use mathlib.Core.Path.{refl, sym}
use lib.Seq.{length-take-le}
use Rattle.printed.specs.Printed.{told}
use Rattle.printed.proofs.Lines.{told_bits, prefix_fits, told_unpacked}
use Rattle.printed.proofs.Texts.{export_told, untold}
use Rattle.printed.proofs.exported.Goals as goal

pub slice_bounds-s-end : goal.slice_bounds-s-end
slice_bounds-s-end c =
    prefix_fits c.args.line.now _ c.pack.result _ c.pack.ensures _ c.bytes_for.result c.in-Ok.is c.bytes_for.ensures

pub slice_bounds-export-end : goal.slice_bounds-export-end
slice_bounds-export-end c =
    sym (length-take-le _ _ ((prefix_fits c.args.line.now _ c.pack.result _ c.pack.ensures _ c.bytes_for.result c.in-Ok.is c.bytes_for.ensures)))

pub returns : goal.returns
returns c =
    let line = c.args.line.now in
    export_told {before = c.args.out.now} (told line) c.requires
    (told_bits line _ c.pack.result _ c.pack.ensures _ c.bytes_for.result c.in-Ok.is c.bytes_for.ensures)
    c.export.ensures

pub returns-in_default : goal.returns-in_default
returns-in_default c =
    let line = c.args.line.now in
    untold (told line) c.args.out.now (rw (c.into.ensures, c.at_once.ensures) refl)
    (told_unpacked line _ c.pack.result _ c.pack.ensures refl _ c.in_default.is)
