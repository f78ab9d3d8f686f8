-- What a group answers: how many packets its message has, or why there is none. Definitions alone.
use Rattle.std.specs.Prelude.{ℕ, Result}
use Rattle.group.specs.declared.Fault.{Fault}

abbrev pub Reply : Type 0
Reply = Result ℕ Fault
