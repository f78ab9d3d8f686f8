-- The second run of `label`: the number that it stores for each value is that of the entry's field. And `label` by the tests that it makes.
-- Assumes nothing.
use Rattle.std.specs.Prelude.{Ok, Err, Some, None, Option}
use mathlib.Core.Path.{◌≡◌, refl, sym, ap, ◌∙◌}
use mathlib.Core.List.{List, ◌∷◌, ◌++◌}
use Prim.Native.Nat.{ℕ, ◌+◌, ◌≤◌, ◌<◌}
use native.Mathlib.Nat.{add-zero}
use native.Mathlib.Omega.{arith}
use lib.ListN.{length, drop, get_or, set, length-set}
use Rattle.format.specs.Refusals.{in_numbers, Answer}
use Rattle.format.specs.Rules.{paper, named}
use Rattle.format.specs.Telegrams.{Entry, bit_count, write}
use Rattle.format.specs.Telegrams.Result.{accepted}
use Rattle.format.specs.declared.Kind.TheVariants.{Room}
use Rattle.format.specs.declared.Refusal.{Refusal}
use Rattle.states.specs.Along.{Onward}
use Rattle.states.specs.Labels.{numbers_in, numbers, label_into, numbers_over, Label, Labelling, Labelled, number_at}
use Rattle.states.specs.Machine.{Advanced}
use Rattle.states.specs.Reader.{early}
use Rattle.states.specs.Writer.{size_of}
use Rattle.states.specs.declared.Todo.{Todo}
use Rattle.states.proofs.Checking.{was_refused}
use Rattle.states.proofs.Filling.{stored_more, stored_last}
use Rattle.states.proofs.Moves.{named_right}
use Rattle.states.proofs.Rooms.{with_room, without_room}
use Rattle.states.proofs.Runs.{stored, held, value_due, rest_due, positive, low, nothing_left}
use Rattle.states.proofs.Valued.{Valued, valued_first, valued_next, value_is, one_telegram}
use Rattle.states.proofs.Writing.{written}

-- ---- a turn

-- before a field: with the numbers of the fields that are left stored from i on, the run is what is promised
pub record Naming (vs before out : List ℕ) (t : Todo) (i : ℕ) : Type 0 where
  pub at : ℕ
  pub entries : List Entry
  pub left : List Entry
  pub valued : Valued vs t at i entries left
  pub holds : numbers_over (accepted entries) before ≡ stored out (numbers left) i
  pub size : length out ≡ length before
  pub room : 830 ≤ length before

-- before the first field
pub naming_first : (vs out : List ℕ) → Labelling vs out → Naming vs out out (record { node = 1; left = 0; outer = 0 }) 0
naming_first vs out f =
    record {
      at = 0;
      entries = f.entries;
      left = f.entries;
      valued = valued_first f.telegram f.same;
      holds = ap (λ (k : ℕ). numbers f.entries ++ drop k out) (sym (add-zero (length (numbers f.entries))));
      size = refl;
      room = f.room;
    }

module _ {vs before out : List ℕ} {t : Todo} {i : ℕ} (g : Naming vs before out t i) where
  abbrev o : Onward t g.at g.left
  o = g.valued.onward

  ev : get_or vs i 0 ≡ value_due o
  ev = value_is g.valued

  -- fewer than 830 fields came before, and the run has room for this one
  pub few : i < 830
  few = omega (arith, low o refl, positive o refl, g.valued.count)

  pub in_out : i < length out
  in_out = omega (arith, few, g.size, g.room)

  -- the number that is stored is that of the entry's field
  module _ {r : ℕ} (er : r ≡ number_at t.node (get_or vs i 0)) where
    number_is : (named o.state.todo (value_due o)).number ≡ r
    number_is =
        ap (λ u. (named u (value_due o)).number) o.todo
        ∙ named_right t o.tidy (value_due o)
        ∙ ap (number_at t.node) (sym ev)
        ∙ sym er

    numbers_left : numbers g.left ≡ r ∷ numbers (rest_due o)
    unfolding numbers_in
    numbers_left = ap numbers (held o.run).front ∙ ap (λ x. x ∷ numbers (rest_due o)) number_is

    module _ {x : Option Todo} (a : Advanced t (get_or vs i 0) x) where
      -- after the end mark every number is stored, whichever telegram it is that has these values
      pub labels : x ≡ None → Labelled vs before (set out i r)
      labels m es tel same =
          sym
          (g.holds
          ∙ ap (λ y. stored out y i) (numbers_left ∙ ap (λ y. r ∷ numbers y) (nothing_left o refl ev a m))
          ∙ stored_last out i r in_out)
          ∙ ap (λ (l : List Entry). numbers_over (accepted l) before) (sym (one_telegram g.valued es tel same))

      -- after another field the run goes on
      pub names_on : {u : Todo} → x ≡ Some u → Naming vs before (set out i r) u (i + 1)
      names_on m =
          record {
            at = _;
            entries = g.entries;
            left = rest_due o;
            valued = valued_next g.valued refl a m;
            holds = g.holds ∙ ap (λ y. stored out y i) numbers_left ∙ stored_more out (numbers (rest_due o)) i r in_out;
            size = length-set out i r ∙ g.size;
            room = g.room;
          }

-- ---- 1, then as the writer

module _ (vs before : List ℕ) where
  pub labels_roomless : length before < 830 → Label paper vs before (Err (early Room)) before
  unfolding label_into
  labels_roomless h = let e = without_room 830 (length before) (write paper vs) h in record { answers = rw e; contents = rw e }

  module _ (h : 830 ≤ length before) where
    into : label_into paper vs (length before) ≡ write paper vs
    unfolding label_into
    into = with_room 830 (length before) (write paper vs) h

    pub labels_refused : {a : Answer} {x : Refusal} → a ≡ size_of (write paper vs) → a ≡ Err x → Label paper vs before a before
    labels_refused {a} {x} p q = record { answers = rw into (ap in_numbers p); contents = rw (into, was_refused bit_count (write paper vs) a x p q) }

    module _ {a : Answer} {n : ℕ} (p : a ≡ size_of (write paper vs)) (q : a ≡ Ok n) where
      -- what is labelled is a telegram with these values
      pub labelable : Labelling vs before
      labelable =
          let w = written vs p q in
          record { entries = w.entries; telegram = w.telegram; same = w.same; room = h }

      pub labels_accepted : (after : List ℕ) → Labelled vs before after → Label paper vs before a after
      labels_accepted after f =
          let w = written vs p q in
          record { answers = rw into (ap in_numbers p); contents = rw (into, w.is) (f w.entries w.telegram w.same) }
