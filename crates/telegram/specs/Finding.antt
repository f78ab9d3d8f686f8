-- What the check and its sweep over whole packets find, in the words of the definitions. Definitions alone.
use Rattle.std.specs.Prelude.{◌≡◌, true, false, List, ℕ, Result, Ok, Err}
use Rattle.format.specs.Refusals.{Answer}
use Rattle.format.specs.declared.Refusal.{Refusal}
use Rattle.counted.proofs.Copied.{Metric}
use Rattle.passing.proofs.Sweeping.{Sweeps}
use Rattle.telegram.specs.declared.reader.Found.{Found}
use Rattle.telegram.specs.declared.swift.Swept.{Swept}
use Rattle.telegram.specs.declared.swift.Swept.TheVariants.{Over, Stopped}

-- as an answer: its count, or the refusal
abbrev pub counted_in : Result Found Refusal → Answer
counted_in (Ok f) = Ok f.count
counted_in (Err r) = Err r

-- a sweep that is over found the telegram's count, and its mark is right; one that stopped stands at a packet's edge, or before the header
abbrev pub SweptTo : List ℕ → ℕ → Swept → Type 0
SweptTo s n (Over f) = Sweeps s n n f.count true × (f.metric ≡ true → Metric s n)
SweptTo s n (Stopped at count) = Sweeps s n at count false
