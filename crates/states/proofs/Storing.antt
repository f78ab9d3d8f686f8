-- The second run of the writer: the values that it goes over are the telegram's. Assumes nothing.
use Rattle.std.specs.Prelude.{Some, None, Option}
use mathlib.Core.Path.{◌≡◌, refl, sym, ap, ◌∙◌}
use mathlib.Core.List.{List}
use mathlib.Core.Bool.{Bool}
use Prim.Native.Nat.{ℕ, ◌+◌, ◌-◌, ◌/◌}
use lib.ListN.{length, get_or, set, length-set}
use Rattle.bits.specs.Bits.{Below}
use Rattle.bits.specs.Put.{Put}
use Rattle.format.specs.Table.{field_at}
use Rattle.format.specs.Telegrams.{Entry, bits}
use Rattle.format.specs.Telegrams.Result.{accepted}
use Rattle.laws.proofs.Demand2.{length_bits}
use Rattle.states.specs.Along.{Onward}
use Rattle.states.specs.Machine.{Advanced}
use Rattle.states.specs.Writer.{bytes_over, Storing, Stored}
use Rattle.states.specs.declared.Todo.{Todo}
use Rattle.states.proofs.Laying.{Laid, laid_first, laid_whole, laid_on}
use Rattle.states.proofs.Runs.{value_due, rest_due, nothing_left}
use Rattle.states.proofs.Valued.{Valued, valued_first, valued_next, value_is, one_telegram}

-- before a field
pub record Laying (vs : List ℕ) (n : ℕ) (base out : List ℕ) (t : Todo) (at i : ℕ) : Type 0 where
  pub entries : List Entry
  pub left : List Entry
  pub valued : Valued vs t at i entries left
  pub laid : Laid entries n base out at left

module _ {vs : List ℕ} {n : ℕ} {out : List ℕ} (s : Storing vs n out) where
  pub bits_all : n ≡ length (bits s.entries)
  bits_all = s.size ∙ sym (length_bits s.entries)

  -- before the first field
  pub laying_first : Laying vs n (set out ((n - 1) / 8) 0) (set out ((n - 1) / 8) 0) (record { node = 1; left = 0; outer = 0 }) 0 0
  laying_first =
      record {
        entries = s.entries;
        left = s.entries;
        valued = valued_first s.telegram s.same;
        laid = laid_first (set out ((n - 1) / 8) 0) s.telegram bits_all (rw (length-set out ((n - 1) / 8) 0) s.room);
      }

-- the value is put
module _ {vs : List ℕ} {n : ℕ} {base out : List ℕ} {t : Todo} {at i : ℕ} (g : Laying vs n base out t at i)
    {w : ℕ} (ew : w ≡ (field_at t.node).width) {wrote : Bool} {after : List ℕ} (p : Put out at w (get_or vs i 0) wrote after)
    {x : Option Todo} (a : Advanced t (get_or vs i 0) x) where
  abbrev o : Onward t at g.left
  o = g.valued.onward

  ev : get_or vs i 0 ≡ value_due o
  ev = value_is g.valued

  -- after the end mark the bytes are the telegram's, whichever it is that has these values
  pub stores : x ≡ None → (before : List ℕ) → Below 256 before → base ≡ set before ((n - 1) / 8) 0 → Stored vs before after
  stores m before b e es tel same =
      laid_whole g.laid o ew ev p (nothing_left o ew ev a m) before b e
      ∙ ap (λ (l : List Entry). bytes_over (accepted l) before) (sym (one_telegram g.valued es tel same))

  -- after another field the run goes on
  pub lays_on : {u : Todo} → x ≡ Some u → Laying vs n base after u (at + w) (i + 1)
  lays_on m =
      record {
        entries = g.entries;
        left = rest_due o;
        valued = valued_next g.valued ew a m;
        laid = laid_on g.laid o ew ev p refl;
      }
