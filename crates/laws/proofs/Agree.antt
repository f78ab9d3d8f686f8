-- Reading and writing agree on what is refused: after the same entries and at the same next value, one that fits its field and ends by bit
-- 830, the same of the rules 4 and 6 to 10 breaks first, or none does. For any terms. Assumes nothing.
use mathlib.Core.Path.{◌≡◌, refl}
use mathlib.Core.List.{[], List, ◌∷◌, ◌++◌}
use Prim.Native.Nat.{ℕ, suc}
use Rattle.format.specs.Packets.{Items}
use Rattle.format.specs.Rules.{Terms, State, Context, Next, step, moved}
use Rattle.format.specs.Rules.Next.{go, over, breaks}
use Rattle.format.specs.Telegrams.{entry, Driven, refusal, push, from_bits, from_values, bits_in, values_in, drive, Fits}
use Rattle.format.specs.Telegrams.Driven.{ended, stopped}
use Rattle.format.specs.declared.Kind.{Kind}
use Rattle.laws.proofs.Sources.{from_bits_lem, from_values_lem}
use Rattle.laws.proofs.Turns.{one_field, one_mark, one_broken}

-- what one field comes to, read from bits that begin with the value's and written from a list that begins with it
pub data Alike (p : Terms) (s : State) (v : ℕ) (bs vs : List ℕ) (j k : ℕ) : Driven → Driven → Type 0 where
  -- both are refused, by the same rule at the same place
  both_refuse : (x : Kind) → Alike p s v bs vs j k (stopped (refusal p x s)) (stopped (refusal p x s))
  -- both go on, with the same entry and from the same state
  both_go : (t : Items) (c : Context)
      → Alike p s v bs vs j k (push (entry s v) (drive p from_bits j (moved s t c) bs)) (push (entry s v) (drive p from_values k (moved s t c) vs))
  -- both come to the end mark
  both_end : Alike p s v bs vs j k (ended (entry s v ∷ []) s bs) (ended (entry s v ∷ []) s vs)

module _ (p : Terms) (s : State) (v : ℕ) (bs vs : List ℕ) (j k : ℕ) (f : Fits s v) where
  by_step : (n : Next) → step p s v ≡ n
      → Alike p s v bs vs j k (drive p from_bits (suc j) s (bits_in (entry s v) ++ bs)) (drive p from_values (suc k) s (values_in (entry s v) ++ vs))
  by_step (breaks x) e =
      rw (
        one_broken p from_bits j s (bits_in (entry s v) ++ bs) v bs x (from_bits_lem.gives s v bs f) e,
        one_broken p from_values k s (values_in (entry s v) ++ vs) v vs x (from_values_lem.gives s v vs f) e,
      )
      (both_refuse x)
  by_step (go t c) e =
      rw (
        one_field p from_bits j s (bits_in (entry s v) ++ bs) v bs t c (from_bits_lem.gives s v bs f) e,
        one_field p from_values k s (values_in (entry s v) ++ vs) v vs t c (from_values_lem.gives s v vs f) e,
      )
      (both_go t c)
  by_step over e =
      rw (
        one_mark p from_bits j s (bits_in (entry s v) ++ bs) v bs (from_bits_lem.gives s v bs f) e,
        one_mark p from_values k s (values_in (entry s v) ++ vs) v vs (from_values_lem.gives s v vs f) e,
      )
      both_end

  pub read_write_agree : Alike p s v bs vs j k (drive p from_bits (suc j) s (bits_in (entry s v) ++ bs))
      (drive p from_values (suc k) s (values_in (entry s v) ++ vs))
  read_write_agree = by_step (step p s v) refl
