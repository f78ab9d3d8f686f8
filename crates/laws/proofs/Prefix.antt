-- No telegram is the beginning of a longer one, from any source. Assumes nothing.
use mathlib.Core.List.{List, [], ◌++◌, append-nil}
use mathlib.Core.Path.{◌≡◌, sym, ap, ◌∙◌}
use Prim.Native.Nat.{ℕ, ◌+◌}
use native.Mathlib.Omega.{arith}
use lib.ListN.{length}
use Rattle.format.specs.Rules.{State, Terms}
use Rattle.format.specs.Telegrams.{Entry, Taken, drive, from_bits, from_values, bits_in, values_in, bits, values, all, Run, Telegram}
use Rattle.format.specs.Telegrams.Driven.{ended}
use Rattle.laws.proofs.Sources.{Source, Sent, Listed, from_bits_lem, from_values_lem}
use Rattle.laws.proofs.Round.{before_mark, complete}

module _ (p : Terms) (source : State → List ℕ → Taken) (part : Entry → List ℕ) (Good : State → List ℕ → Type 0)
    (law : Source source part Good) where
  pub no_prefix : {s : State} {es fs : List Entry} → Run p s es → Run p s fs → (xs : List ℕ) → all part es ++ xs ≡ all part fs
      → (es ≡ fs) × (xs ≡ [])
  no_prefix {s} {es} {fs} a b xs h =
      let k = length (all part es) + length (all part fs) in
      let da : drive p source k s (all part es ++ xs) ≡ ended es (before_mark a) xs = complete p source part Good law a xs k (omega arith) in
      let db : drive p source k s (all part fs ++ []) ≡ ended fs (before_mark b) [] = complete p source part Good law b [] k (omega arith) in
      let same : ended es (before_mark a) xs ≡ ended fs (before_mark b) [] = sym da ∙ ap (drive p source k s) (h ∙ sym (append-nil (all part fs))) ∙ db in
      (cc, cc)

module _ (p : Terms) where
  -- no telegram's bits begin those of a longer one, and no telegram's values do
  pub bits_no_prefix : {es fs : List Entry} → Telegram p es → Telegram p fs → (bs : List ℕ) → bits es ++ bs ≡ bits fs → (es ≡ fs) × (bs ≡ [])
  bits_no_prefix a b bs h = no_prefix p from_bits bits_in Sent from_bits_lem a b bs h

  pub values_no_prefix : {es fs : List Entry} → Telegram p es → Telegram p fs → (vs : List ℕ) → values es ++ vs ≡ values fs
      → (es ≡ fs) × (vs ≡ [])
  values_no_prefix a b vs h = no_prefix p from_values values_in Listed from_values_lem a b vs h
