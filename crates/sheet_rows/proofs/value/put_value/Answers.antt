-- `sheet_rows::value::put_value` meets its contract. Assumes nothing.
use Rattle.sheet.proofs.Table.{a_radio, no_radio}
use Rattle.sheet_rows.proofs.value.put_value.Goals as goal

pub returns-then-k-eq-RADIO : goal.returns-then-k-eq-RADIO
returns-then-k-eq-RADIO c = rw (a_radio c.args.k c.if-k-eq-RADIO.true) c.append_places.ensures

pub returns : goal.returns
returns c = rw (no_radio c.args.k c.if-k-eq-RADIO.false) c.append_decimal.ensures
