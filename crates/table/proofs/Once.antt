-- Each promise of this crate is met by one answer alone. Assumes nothing.
use mathlib.Core.Path.{refl, sym, ◌∙◌}
use Rattle.table.specs.contracts as promises
use Rattle.bits.proofs.Once.{OneOutcome}
use Rattle.table.proofs.rows
use Rattle.table.proofs.code
use Rattle.table.proofs.jumps.leap
use Rattle.table.proofs.jumps.back
use Rattle.table.proofs.ranges.low
use Rattle.table.proofs.ranges.high
use Rattle.table.proofs.numbers.fields
use Rattle.table.proofs.numbers.named

pub rows_once : OneOutcome promises.rows.ended rows.Reads.Post
rows_once κs args r t u v p q = (p ∙ sym q, refl)

pub code_once : OneOutcome promises.code.ended code.Reads.Post
code_once κs args r t u v p q = (p ∙ sym q, refl)

pub low_once : OneOutcome promises.ranges.low.ended low.Reads.Post
low_once κs args r t u v p q = (p ∙ sym q, refl)

pub high_once : OneOutcome promises.ranges.high.ended high.Reads.Post
high_once κs args r t u v p q = (p ∙ sym q, refl)

pub leap_once : OneOutcome promises.jumps.leap.ended leap.Reads.Post
leap_once κs args r t u v p q = (p ∙ sym q, refl)

pub back_once : OneOutcome promises.jumps.back.ended back.Reads.Post
back_once κs args r t u v p q = (p ∙ sym q, refl)

pub fields_once : OneOutcome promises.numbers.fields.ended fields.Reads.Post
fields_once κs args r t u v p q = (p ∙ sym q, refl)

pub named_once : OneOutcome promises.numbers.named.ended named.Reads.Post
named_once κs args r t u v p q = (p ∙ sym q, refl)
