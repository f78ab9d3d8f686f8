-- The normaliser by the tests that it makes: 1, then the check's answer, then the normal form of what it accepted. Assumes nothing.
use Rattle.std.specs.Prelude.{Ok, Err}
use mathlib.Core.Path.{◌≡◌, refl, ap, ◌∙◌}
use mathlib.Core.List.{List}
use Prim.Native.Nat.{ℕ, ◌≤◌, ◌<◌}
use lib.ListN.{length}
use Rattle.format.specs.Normal.{normal}
use Rattle.format.specs.Refusals.{in_numbers, Answer}
use Rattle.format.specs.Rules.{paper}
use Rattle.format.specs.Telegrams.{Entry, bit_count, values}
use Rattle.format.specs.declared.Kind.TheVariants.{Room}
use Rattle.format.specs.declared.Refusal.{Refusal}
use Rattle.laws.proofs.Demand2.{length_bits}
use Rattle.states.specs.Normaliser.{normal_of, normalise_into, Normalise, Telling, Normalised}
use Rattle.states.specs.Reader.{early, answer_of, checked}
use Rattle.states.proofs.Checking.{holds, was_accepted, was_refused}
use Rattle.states.proofs.Rooms.{with_room, without_room}
use Rattle.states.proofs.Telling.{normal_all}

abbrev counted : List Entry → ℕ
counted es = length (values es)

module _ (s : List ℕ) (n : ℕ) (before : List ℕ) where
  pub normalises_roomless : length before < 104 → Normalise paper s n before (Err (early Room)) before
  unfolding normalise_into
  normalises_roomless h =
      let e = without_room 104 (length before) (normal_of (checked paper s n)) h in record { answers = rw e; contents = rw e }

  module _ (h : 104 ≤ length before) where
    into : normalise_into paper s n (length before) ≡ normal_of (checked paper s n)
    unfolding normalise_into
    into = with_room 104 (length before) (normal_of (checked paper s n)) h

    module _ {a : Answer} (p : a ≡ answer_of (checked paper s n)) where
      -- "the reader's refusal as it stands"
      pub normalises_refused : {x : Refusal} → a ≡ Err x → Normalise paper s n before a before
      normalises_refused {x} q =
          let r = was_refused counted (checked paper s n) a x p q in
          record { answers = rw (into, r) (ap in_numbers q); contents = rw (into, r) refl }

      module _ {k : ℕ} (q : a ≡ Ok k) where
        -- what is told is a telegram
        pub tellable : Telling s n before
        tellable =
            let w = was_accepted counted (checked paper s n) a k p q in
            let g = holds s n w.entries w.is in
            record { entries = w.entries; telegram = g.telegram; same = g.same; within = g.within; bytes = g.bytes; clear = g.clear; room = h }

        pub normalises_accepted : (after : List ℕ) → Normalised s n before after → Normalise paper s n before (Ok n) after
        normalises_accepted after f =
            let w = was_accepted counted (checked paper s n) a k p q in
            let g = holds s n w.entries w.is in
            let size : n ≡ bit_count (normal w.entries) = normal_all {out = before} (record { entries = w.entries; telegram = g.telegram; same = g.same; within = g.within; bytes = g.bytes; clear = g.clear; room = h }) ∙ length_bits (normal w.entries) in
            record {
              answers = rw (into, w.is) (ap (λ (k : ℕ). in_numbers (Ok k)) size);
              contents = rw (into, w.is) (f w.entries g.telegram g.same);
            }
