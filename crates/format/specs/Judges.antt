-- When an answer is right. Definitions alone.
use Rattle.std.specs.Prelude.{List, ◌↔◌, ◌⊎◌, ◌≡◌}
use Rattle.format.specs.Telegrams.{Entry, Result}
use Rattle.format.specs.Telegrams.Result.{accepted, refused}
use Rattle.format.specs.declared.Refusal.{Refusal}

-- an answer judges: it accepts just what is Right and refuses just what is Wrong; so one of the two is found, never two, and never both
pub record Judges (Right : List Entry → Type 0) (Wrong : Refusal → Type 0) (answer : Result) : Type 0 where
  pub accepts : (es : List Entry) → (answer ≡ accepted es) ↔ Right es
  pub refuses : (r : Refusal) → (answer ≡ refused r) ↔ Wrong r
  pub found : ((es : List Entry) × Right es) ⊎ ((r : Refusal) × Wrong r)
  pub never_both : (es : List Entry) (r : Refusal) → Right es → Wrong r → ⊥
  pub one_right : (es fs : List Entry) → Right es → Right fs → es ≡ fs
  pub one_wrong : (r q : Refusal) → Wrong r → Wrong q → r ≡ q
