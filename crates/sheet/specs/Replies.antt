-- What export and import answer: the length of the sheet or the n of the telegram; or why there is none. Definitions alone.
use Rattle.std.specs.Prelude.{ℕ, Result}
use Rattle.sheet.specs.declared.SheetError.{SheetError}

abbrev pub Reply : Type 0
Reply = Result ℕ SheetError
