-- `sheet_rows::table::RowLabels::label` meets its contract. Assumes nothing.
use Rattle.sheet.proofs.Table.{cut}
use Rattle.sheet_rows.proofs.table.RowLabels.label.Goals as goal

pub slice_bounds-result-count : goal.slice_bounds-result-count
slice_bounds-result-count c = (cut c.args.self.now.tables c.args.k c.min-k.result c.min-k.ensures).order

pub slice_bounds-result-start : goal.slice_bounds-result-start
slice_bounds-result-start c = (cut c.args.self.now.tables c.args.k c.min-k.result c.min-k.ensures).order

pub slice_bounds-result-end : goal.slice_bounds-result-end
slice_bounds-result-end c = (cut c.args.self.now.tables c.args.k c.min-k.result c.min-k.ensures).inside

pub returns : goal.returns
returns c = (cut c.args.self.now.tables c.args.k c.min-k.result c.min-k.ensures).is
