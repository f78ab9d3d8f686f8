-- docs/RULES.md, "Groups": when a telegram of a group is refused by itself. "the first refusal of a single telegram in arrival order, with its arrival number
-- from 0". Definitions alone.
use Rattle.std.specs.Prelude.{List, [], ◌∷◌, ◌++◌, ◌≡◌, ℕ, length}
use Rattle.format.specs.Telegrams.{Entry}
use Rattle.format.specs.declared.Refusal.{Refusal}
use Rattle.group.specs.Groups.{Part}
use Rattle.entrances.specs.Entrances.{BytesGiven, BytesAccepted}

-- each of these is accepted
abbrev pub AllFine : List Part → Type 0
AllFine [] = Unit
AllFine (x ∷ xs) = ((es : List Entry) × BytesAccepted x.bytes x.size es) × AllFine xs

-- the telegram with this arrival number is the first that is refused, and this is its refusal
pub record SingleGiven (xs : List Part) (which : ℕ) (r : Refusal) : Type 0 where
  pub earlier : List Part
  pub part : Part
  pub later : List Part
  pub stands : xs ≡ earlier ++ part ∷ later
  pub number : which ≡ length earlier
  pub fine : AllFine earlier
  pub given : BytesGiven part.bytes part.size r
