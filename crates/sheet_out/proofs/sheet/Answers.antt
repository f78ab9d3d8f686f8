-- `sheet_out::sheet` meets its contract: the heading, and the rows behind it. Assumes nothing.
use mathlib.Core.Path.{refl, sym}
use native.Mathlib.Omega.{arith}
use lib.Seq.{length-take-le}
use Rattle.sheet.specs.Rows.{heading}
use Rattle.sheet.proofs.Making.{few_listed, labels_listed, columns, wrote}
use Rattle.sheet_out.proofs.sheet.Goals as goal

pub unwrap-requires : goal.unwrap-requires
unwrap-requires c = rw (labels_listed c.requires c.label.ensures (omega arith)) refl

pub slice_bounds-fields-end : goal.slice_bounds-fields-end
slice_bounds-fields-end c = omega (arith, few_listed c.requires)

pub slice_bounds-rows-end : goal.slice_bounds-rows-end
slice_bounds-rows-end c = sym (length-take-le _ _ (omega (arith, few_listed c.requires)))

pub rows-requires : goal.rows-requires
rows-requires c = columns c.requires c.label.ensures (omega arith)

pub returns : goal.returns
unfolding heading
returns c = wrote c.requires c.label.ensures (omega arith) c.append-head.ensures c.rows.ensures
