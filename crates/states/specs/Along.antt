-- Where a second run along an accepted telegram stands: it follows the rows alone. Definitions alone.
use Rattle.std.specs.Prelude.{◌≡◌, List, ℕ, ◌*◌, ◌≤◌, length, take, drop}
use Rattle.bits.specs.Bits.{bits_of}
use Rattle.format.specs.Rules.{State, paper}
use Rattle.format.specs.Telegrams.{Entry, bits, Run}
use Rattle.states.specs.Machine.{todo_of, Tidy}
use Rattle.states.specs.declared.Todo.{Todo}

-- these entries are left to send from bit at on, and t says what is to be sent
pub record Onward (t : Todo) (at : ℕ) (left : List Entry) : Type 0 where
  pub state : State
  pub run : Run paper state left
  pub here : state.at ≡ at
  pub todo : state.todo ≡ todo_of t
  pub tidy : Tidy t

-- and what is left of the first n bits of s is theirs
pub record Along (s : List ℕ) (n : ℕ) (t : Todo) (at : ℕ) (left : List Entry) : Type 0 where
  pub onward : Onward t at left
  pub ahead : drop at (take n (bits_of s)) ≡ bits left
  pub within : n ≤ 8 * length s
