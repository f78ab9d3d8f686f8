-- The second run of the reader: what it has stored, and that the fields it takes are the entries of the telegram. Assumes nothing.
use Rattle.std.specs.Prelude.{Some, Option, ℕ, None}
use mathlib.Core.Path.{◌≡◌, refl, sym, ap, ◌∙◌}
use mathlib.Core.List.{List, [], ◌∷◌, ◌++◌, append-nil, append_assoc}
use Prim.Native.Nat.{ℕ, suc, ◌+◌, ◌<◌, ◌≤◌}
use native.Mathlib.Nat.{add-zero}
use native.Mathlib.Numerals.{add-one, one-add}
use native.Mathlib.Omega.{arith}
use lib.ListN.{length, take, drop, set, length-set}
use lib.Seq.{set_split, take-suc-set, drop-set-lt}
use Rattle.bits.specs.Bits.{bits_of}
use Rattle.bits.specs.Take.{taken_at}
use Rattle.bits.specs.declared.Cursor.{Cursor}
use Rattle.format.specs.Rules.{paper}
use Rattle.format.specs.Table.{field_at}
use Rattle.format.specs.Telegrams.{Entry, bits, values, Telegram}
use Rattle.format.specs.Telegrams.Result.{accepted}
use Rattle.laws.proofs.Prefix.{bits_no_prefix}
use Rattle.states.specs.Along.{Onward, Along}
use Rattle.states.specs.Machine.{Advanced}
use Rattle.states.specs.Filling.{Filling, Filled}
use Rattle.states.specs.Reader.{values_over}
use Rattle.states.specs.declared.Todo.{Todo}
use Rattle.states.proofs.Taking.{along_first, value_is, along_next, next_at}
use Rattle.states.proofs.Runs.{stored, rest_due, values_front, positive, low, nothing_left}

-- ---- the run of values

pub stored_more : (out xs : List ℕ) (i v : ℕ) → i < length out → stored out (v ∷ xs) i ≡ stored (set out i v) xs (i + 1)
stored_more out xs i v l =
    rw (
      add-one i,
      take-suc-set out i v l,
      drop-set-lt (length xs + suc i) out i v (omega arith),
      append_assoc (take i out) (v ∷ []) (xs ++ drop (length xs + suc i) out),
    )
    (ap (λ (k : ℕ). take i out ++ (v ∷ (xs ++ drop k out))) further)
  where
    further : length (v ∷ xs) + i ≡ length xs + suc i
    further = omega arith

pub stored_last : (out : List ℕ) (i v : ℕ) → i < length out → stored out (v ∷ []) i ≡ set out i v
stored_last out i v l = rw (one-add i) (sym (set_split out i v l))

-- ---- a turn

-- before a field: with the values that are left stored from i on, the run is what is promised
pub record Going (s : List ℕ) (n : ℕ) (before out : List ℕ) (t : Todo) (at i : ℕ) : Type 0 where
  -- the telegram, and what is left of it
  pub entries : List Entry
  pub telegram : Telegram paper entries
  pub same : take n (bits_of s) ≡ bits entries
  pub left : List Entry
  pub along : Along s n t at left
  -- and what is stored
  pub holds : values_over (accepted entries) before ≡ stored out (values left) i
  pub count : i ≤ at
  pub size : length out ≡ length before
  pub room : 830 ≤ length before

-- before the first field
pub going_first : (s : List ℕ) (n : ℕ) (out : List ℕ) → Filling s n out
    → Going s n out out (record { node = 1; left = 0; outer = 0 }) 0 0
going_first s n out f =
    record {
      entries = f.entries;
      telegram = f.telegram;
      same = f.same;
      left = f.entries;
      along = along_first s n f.telegram f.same f.within;
      holds = ap (λ (k : ℕ). values f.entries ++ drop k out) (sym (add-zero (length (values f.entries))));
      count = omega arith;
      size = refl;
      room = f.room;
    }

module _ {s : List ℕ} {n : ℕ} {before out : List ℕ} {t : Todo} {at i : ℕ} (g : Going s n before out t at i) where
  abbrev o : Onward t at g.left
  o = g.along.onward

  -- the telegram in hand is any with these bits
  filled_by : (after : List ℕ) → after ≡ values_over (accepted g.entries) before → Filled s n before after
  filled_by after h es tel e =
      let one = bits_no_prefix paper tel g.telegram [] (append-nil (bits es) ∙ sym e ∙ g.same) in
      h ∙ ap (λ x. values_over (accepted x) before) (sym one.0)

  module _ {w : ℕ} (ew : w ≡ (field_at t.node).width) where
    -- the run has room for its value
    pub in_out : i < length out
    in_out = omega (arith, low o ew, positive o ew, g.count, g.size, g.room)

    module _ {r : Option (ℕ × Cursor)} (er : r ≡ taken_at s n w at) {v : ℕ} {d : Cursor} (ed : r ≡ Some (v, d)) where
      values_left : values g.left ≡ v ∷ values (rest_due o)
      values_left = values_front o ∙ ap (λ x. x ∷ values (rest_due o)) (sym (value_is g.along ew er ed))

      -- after the end mark every value is stored
      pub fills : {x : Option Todo} → Advanced t v x → x ≡ None → Filled s n before (set out i v)
      fills a m =
          let ends = nothing_left o ew (value_is g.along ew er ed) a m in
          filled_by (set out i v)
          (sym (g.holds ∙ ap (λ y. stored out y i) (values_left ∙ ap (λ y. v ∷ values y) ends) ∙ stored_last out i v in_out))

      -- after another field the run goes on
      pub goes_further : {x : Option Todo} {u : Todo} → Advanced t v x → x ≡ Some u → Going s n before (set out i v) u d.at (i + 1)
      goes_further a m =
          record {
            entries = g.entries;
            telegram = g.telegram;
            same = g.same;
            left = rest_due o;
            along = along_next g.along ew er ed a m;
            holds = g.holds ∙ ap (λ y. stored out y i) values_left ∙ stored_more out (values (rest_due o)) i v in_out;
            count = omega (arith, next_at g.along ew er ed, positive o ew, g.count);
            size = length-set out i v ∙ g.size;
            room = g.room;
          }
