-- What a step answered, by what a pattern inside its answer found. Assumes nothing.
use Rattle.std.specs.Prelude.{Option, Result, Ok}
use mathlib.Core.Path.{◌≡◌, ap, ◌∙◌}
use Rattle.format.specs.declared.Kind.{Kind}
use Rattle.states.specs.declared.State.{State}

pub goes_to : {r : Result (Option State) Kind} {x y : Option State} → r ≡ Ok x → x ≡ y → r ≡ Ok y
goes_to p q = p ∙ ap (λ (o : Option State). Ok o) q
