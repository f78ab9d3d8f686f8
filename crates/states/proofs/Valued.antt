-- A second run over the values of a telegram in hand: the next value is the next entry's, wherever the run stands. Assumes nothing.
use Rattle.std.specs.Prelude.{Some, Option}
use mathlib.Core.Path.{◌≡◌, sym, ap, ◌∙◌}
use mathlib.Core.List.{List, [], ◌∷◌, append-nil}
use Prim.Native.Nat.{ℕ, suc, ◌+◌, ◌-◌, ◌<◌, ◌≤◌}
use native.Mathlib.Nat.{add-zero}
use native.Mathlib.Omega.{arith}
use lib.ListN.{length, drop, get_or, length-drop}
use lib.Seq.{drop-drop, get_or-drop}
use Rattle.format.specs.Rules.{paper}
use Rattle.format.specs.Table.{field_at}
use Rattle.format.specs.Telegrams.{Entry, Telegram, values}
use Rattle.laws.proofs.Prefix.{values_no_prefix}
use Rattle.states.specs.Along.{Onward}
use Rattle.states.specs.Machine.{Advanced}
use Rattle.states.specs.declared.Todo.{Todo}
use Rattle.states.proofs.Runs.{onward_first, value_due, rest_due, values_front, positive, onward_next}

-- vs are the values of a telegram's entries, and those from the i-th on the values of the entries that are left
pub record Valued (vs : List ℕ) (t : Todo) (at i : ℕ) (entries left : List Entry) : Type 0 where
  pub telegram : Telegram paper entries
  pub same : vs ≡ values entries
  pub onward : Onward t at left
  pub ahead : drop i vs ≡ values left
  -- no field is empty
  pub count : i ≤ at

-- before the first field
pub valued_first : {vs : List ℕ} {es : List Entry} → Telegram paper es → vs ≡ values es
    → Valued vs (record { node = 1; left = 0; outer = 0 }) 0 0 es es
valued_first tel e = record { telegram = tel; same = e; onward = onward_first tel; ahead = e; count = omega arith }

module _ {vs : List ℕ} {t : Todo} {at i : ℕ} {entries left : List Entry} (g : Valued vs t at i entries left) where
  abbrev o : Onward t at left
  o = g.onward

  values_left : drop i vs ≡ value_due o ∷ values (rest_due o)
  values_left = g.ahead ∙ values_front o

  -- there is a value for the field
  pub in_values : i < length vs
  in_values =
      let h : length vs - i ≡ suc (length (values (rest_due o))) = sym (length-drop i vs) ∙ ap length values_left in
      omega arith

  -- and it is the entry's
  pub value_is : get_or vs i 0 ≡ value_due o
  value_is = ap (λ (k : ℕ). get_or vs k 0) (sym (add-zero i)) ∙ sym (get_or-drop i vs 0 0) ∙ ap (λ (l : List ℕ). get_or l 0 0) values_left

  -- the telegram in hand is any with these values
  pub one_telegram : (es : List Entry) → Telegram paper es → vs ≡ values es → es ≡ entries
  one_telegram es tel same = (values_no_prefix paper tel g.telegram [] (append-nil (values es) ∙ sym same ∙ g.same)).0

  -- after a field that is not the last the run goes on
  pub valued_next : {w : ℕ} → w ≡ (field_at t.node).width → {x : Option Todo} → Advanced t (get_or vs i 0) x → {u : Todo} → x ≡ Some u
      → Valued vs u (at + w) (i + 1) entries (rest_due o)
  valued_next ew a m =
      record {
        telegram = g.telegram;
        same = g.same;
        onward = onward_next o ew value_is a m;
        ahead = sym (drop-drop 1 i vs) ∙ ap (drop 1) values_left;
        count = omega (arith, positive o ew, g.count);
      }
