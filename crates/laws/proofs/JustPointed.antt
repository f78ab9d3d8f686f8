-- Reading and writing refuse just what can be pointed at, with that kind and place; for any rule of collisions. Assumes nothing.
use mathlib.Core.Bool.{Bool}
use mathlib.Core.List.{List}
use mathlib.Core.Logic.{◌↔◌}
use mathlib.Core.Path.{◌≡◌, ap, ◌∙◌}
use Prim.Native.Nat.{ℕ, ◌≤◌}
use lib.ListN.{length}
use Rattle.bits.specs.Bits.{Below}
use Rattle.format.specs.Rules.{State, Context, Terms, begun}
use Rattle.format.specs.Telegrams.{Entry, Taken, Result, from_bits, from_values, bits_in, values_in, read, write}
use Rattle.format.specs.Telegrams.Result.{refused}
use Rattle.format.specs.declared.Refusal.{Refusal}
use Rattle.laws.proofs.Sources.{Source, Sent, Listed, from_bits_lem, from_values_lem}
use Rattle.laws.proofs.Refused.{Refused, Decides, read_decides, write_decides}
use Rattle.laws.proofs.Refused as refusals
use Rattle.laws.proofs.Points.{Pointed}
use Rattle.laws.proofs.Points.Points.{lacking, breaking, sizing, trailing}
use Rattle.laws.proofs.Pointed.{pointing, read_pointed, write_pointed}
use Rattle.laws.proofs.OnePlace.{Stops, pointed_stops, one_pointed}
use Rattle.laws.proofs.OnePlace.Stops.{here, later}

-- where something is pointed at, the source is refused
refused_there : {p : Terms} {source : State → List ℕ → Taken} {q : Refusal} {es : List Entry} {s : State} {xs : List ℕ}
    → Stops p source q es s xs → (r : Refusal) × Refused p source s xs r
refused_there (here (lacking e m)) = (_, refusals.lacking e)
refused_there (here (breaking e f o)) = (_, refusals.breaking e f)
refused_there (here (sizing e f w)) = (_, refusals.breaking e f)
refused_there (here (trailing e f)) = (_, refusals.trailing e f)
refused_there (later e f h) = let r = refused_there h in (r.0, refusals.later e f r.1)

-- and an answer that points at what it refuses can only refuse it as that
module _ (p : Terms) (source : State → List ℕ → Taken) (part : Entry → List ℕ) (Good : State → List ℕ → Type 0)
    (law : Source source part Good) where
  just_pointed : {whole : List ℕ} {answer : Result} → Decides p source part begun whole answer
      → ((r : Refusal) → answer ≡ refused r → Pointed p source part whole r) → (r : Refusal) → (answer ≡ refused r) ↔ Pointed p source part whole r
  just_pointed decides points r = (
    points r,
    λ h. let q = refused_there (pointed_stops p source part Good law h) in
        let e = (decides.refuses q.0).1 q.1 in
        e ∙ ap refused (one_pointed p source part Good law (points q.0 e) h),
  )

module _ (collides : Context → ℕ → Bool) where
  pub read_refuses : (bs : List ℕ) → Below 2 bs → length bs ≤ 830 → (r : Refusal)
      → (read (pointing collides) bs ≡ refused r) ↔ Pointed (pointing collides) from_bits bits_in bs r
  read_refuses bs b n =
      just_pointed (pointing collides) from_bits bits_in Sent from_bits_lem (read_decides (pointing collides) bs b n) (read_pointed collides bs b n)

  pub write_refuses : (vs : List ℕ) (r : Refusal)
      → (write (pointing collides) vs ≡ refused r) ↔ Pointed (pointing collides) from_values values_in vs r
  write_refuses vs =
      just_pointed (pointing collides) from_values values_in Listed from_values_lem (write_decides (pointing collides) vs) (write_pointed collides vs)
