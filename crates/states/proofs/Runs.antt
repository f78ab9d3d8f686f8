-- A second run along a telegram in hand: it follows the rows alone, and each field that they lead to is the telegram's next entry. Assumes
-- nothing.
use Rattle.std.specs.Prelude.{Some, None, Option}
use mathlib.Core.Path.{◌≡◌, refl, sym, ap, ◌∙◌, subst}
use mathlib.Core.List.{List, [], ◌∷◌, ◌++◌}
use mathlib.Core.Option.{some, none}
use Prim.Native.Nat.{ℕ, ◌+◌, ◌^◌, ◌<◌, ◌≤◌}
use native.Mathlib.Omega.{arith}
use lib.ListN.{length, take, drop}
use Rattle.bits.specs.Bits.{digits}
use Rattle.format.specs.Packets.{Items, find, etcs}
use Rattle.format.specs.Packets.Items.{end}
use Rattle.format.specs.Rules.{State, paper, begun, due, field, past, moved, next, step}
use Rattle.format.specs.Rules.Next.{over}
use Rattle.format.specs.Table.{field_at, row_at}
use Rattle.format.specs.Telegrams.{Entry, entry, bits, values, values_in, Fits, Run, Telegram}
use Rattle.format.specs.Telegrams.Run.{last, more}
use Rattle.format.proofs.Rows.{header_at}
use Rattle.laws.proofs.Sources.{bits_in_entry, width_positive}
use Rattle.laws.proofs.Steps.{go_next, over_mark}
use Rattle.states.specs.Along.{Onward}
use Rattle.states.specs.Machine.{todo_of, items_of, TidyOn, Advanced}
use Rattle.states.specs.declared.Todo.{Todo}
use Rattle.states.proofs.Moves.{due_right, start_todo}
use Rattle.states.proofs.Stepping.{width_in}

-- ---- what is stored

-- what is stored before i, the numbers xs from there on, and behind them what is there
abbrev pub stored : List ℕ → List ℕ → ℕ → List ℕ
stored out xs i = take i out ++ (xs ++ drop (length xs + i) out)

-- ---- the first entry of a run

-- from a state on, where u is to be sent
pub record Goes (q : State) (u : Items) (rest : List Entry) : Type 0 where
  pub state : State
  pub here : state.at ≡ past q
  pub todo : state.todo ≡ u
  pub run : Run paper state rest

-- a run has a first entry: it is the last if nothing is next, and else the run goes on with what is
pub record Held (q : State) (left : List Entry) : Type 0 where
  pub value : ℕ
  pub rest : List Entry
  pub fits : Fits q value
  pub front : left ≡ entry q value ∷ rest
  pub mark : next q.todo value ≡ none → rest ≡ []
  pub ends : next q.todo value ≡ none → q.todo ≡ end
  pub goes : (u : Items) → next q.todo value ≡ some u → Goes q u rest

mark_last : next end 255 ≡ none
unfolding next find etcs
mark_last = refl

over_next : (q : State) (v : ℕ) → step paper q v ≡ over → next q.todo v ≡ none
over_next q v e = let m = over_mark paper q v e in rw (m.0, m.1) mark_last

pub held : {q : State} {left : List Entry} → Run paper q left → Held q left
held (last {s = q} {v = v} f e) =
    let n = over_next q v e in
    record {
      value = v;
      rest = [];
      fits = f;
      front = refl;
      mark = λ h. refl;
      ends = λ h. (over_mark paper q v e).0;
      goes = λ u h. let z : ◌≡◌ {A = ℕ} 0 1 = cc in absurd (omega arith);
    }
held (more {s = q} {v = v} {t = t} {c = c} {es = es} f e r) =
    let n = go_next paper q v t c e in
    record {
      value = v;
      rest = es;
      fits = f;
      front = refl;
      mark = λ h. cc;
      ends = λ h. cc;
      goes = λ u h. record { state = moved q t c; here = refl; todo = cc; run = r };
    }

-- ---- before a field

-- before the first field, the whole telegram
pub onward_first : {es : List Entry} → Telegram paper es → Onward (record { node = 1; left = 0; outer = 0 }) 0 es
unfolding begun row_at
onward_first r =
    record {
      state = begun;
      run = r;
      here = refl;
      todo = sym (start_todo 1 refl ∙ header_at);
      tidy = record { inside = omega arith; settled = λ e. refl };
    }

module _ {t : Todo} {at : ℕ} {left : List Entry} (o : Onward t at left) where
  -- the value of the first entry, and the entries behind it
  abbrev pub value_due : ℕ
  value_due = (held o.run).value

  abbrev pub rest_due : List Entry
  rest_due = (held o.run).rest

  pub values_front : values left ≡ value_due ∷ values rest_due
  unfolding values_in
  values_front = ap values (held o.run).front

  module _ {w : ℕ} (ew : w ≡ (field_at t.node).width) where
    width_due : (field o.state).width ≡ w
    width_due = ap (λ x. (due x).width) o.todo ∙ ap (λ x. x.width) (sym (due_right t o.tidy)) ∙ sym ew

    pub positive : 0 < w
    positive = rw ew (width_positive (field_at t.node))

    pub narrow : w ≤ 64
    narrow = rw ew (width_in (field_at t.node))

    -- no field ends past bit 830
    pub low : at + w ≤ 830
    low = rw (← width_due, ← o.here) (held o.run).fits.room

    pub small : value_due < 2 ^ w
    small = subst (λ k. value_due < 2 ^ k) width_due (held o.run).fits.small

    pub bits_front : bits left ≡ digits w value_due ++ bits rest_due
    bits_front =
        ap bits (held o.run).front
        ∙ ap (λ x. x ++ bits rest_due) (bits_in_entry o.state value_due ∙ ap (λ k. digits k value_due) width_due)

    -- what the rows say is next, with the entry's value, is what is
    module _ {v : ℕ} (ev : v ≡ value_due) {x : Option Todo} (a : Advanced t v x) where
      items_next : next o.state.todo value_due ≡ items_of x
      items_next = ap (λ y. next y value_due) o.todo ∙ ap (next (todo_of t)) (sym ev) ∙ a.items

      -- the mark is the last
      pub nothing_left : x ≡ None → rest_due ≡ []
      nothing_left m = (held o.run).mark (items_next ∙ ap items_of m)

      -- it is due where packets are
      pub at_end : x ≡ None → o.state.todo ≡ end
      at_end m = (held o.run).ends (items_next ∙ ap items_of m)

      -- and else the rest is left
      pub onward_next : {u : Todo} → x ≡ Some u → Onward u (at + w) rest_due
      onward_next {u} m =
          let go = (held o.run).goes (todo_of u) (items_next ∙ ap items_of m) in
          record {
            state = go.state;
            run = go.run;
            here = go.here ∙ rw (width_due, o.here);
            todo = go.todo;
            tidy = subst TidyOn m a.tidy;
          }
