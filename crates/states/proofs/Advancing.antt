-- What is to be sent after a value: an identifier leads to its packet's first row, and a field is passed with as many groups' ends as can
-- stand together. Assumes nothing.
use Rattle.std.specs.Prelude.{Some, None}
use mathlib.Core.Path.{◌≡◌, refl, ◌∙◌, subst, sym, ap}
use mathlib.Core.Option.{some}
use Prim.Native.Nat.{ℕ, zero, suc, ◌+◌, ◌-◌, ◌<◌}
use native.Mathlib.Numerals.{add-one}
use native.Mathlib.Omega.{arith}
use Rattle.format.specs.Rules.{next, or_end}
use Rattle.format.specs.Table.{act, jump, up, node, etcs_row, ctcs_row}
use Rattle.format.specs.Kinds.{etcs_start, ctcs_start}
use Rattle.format.specs.declared.Start.{Start}
use Rattle.format.proofs.Rows.{three_up, end_jump, up_in, up_repeats, group_starts, node_end, root_at, etcs_root, ctcs_root, etcs_in, ctcs_in, etcs_up, ctcs_up, none_act, none_up}
use Rattle.states.specs.Machine.{todo_of, Tidy, Moved, Turned, Advanced}
use Rattle.states.specs.declared.Todo.{Todo}
use Rattle.states.proofs.Moves.{todo_end, todo_nest, todo_next, start_todo, follows_next, moves_on, turns_none, turns_again}

-- no group holds a group that holds a group: after two turns it is no group's end
two_turns : (t r s : Todo) → t.node < 213 → Turned t r → Turned r s → Tidy s
two_turns t r s l p q =
    record { inside = q.inside; settled = λ e. q.out e ∙ ap up (p.out (q.was e)) ∙ three_up t.node l }

-- at no end, nothing turns
stays : (t : Todo) → t.node < 213 → (act t.node ≡ 0 → ⊥) → Turned t t
stays t l n = record { inside = l; items = refl; was = λ e. e; out = λ e. absurd (n e) }

-- the items that begin in a row; of row 0, nothing
root_end : (k : ℕ) → or_end (root_at k) ≡ node k
root_end zero = sym (node_end 0 none_act)
root_end (suc k) = refl

-- the items that begin in a row, if it is one
root_some : (k : ℕ) → (k ≡ 0 → ⊥) → root_at k ≡ some (node k)
root_some zero n = absurd (n refl)
root_some (suc k) n = refl

-- a packet's first row is no group's end
starts_tidy : (k : ℕ) → k < 213 → up k ≡ 0 → Tidy (record { node = k; left = 0; outer = 0 })
starts_tidy k l u = record { inside = l; settled = λ e. u }

module _ (t : Todo) (v : ℕ) (d : Tidy t) where
  -- between packets: the identifier's packet, or the end mark
  module _ (s : Start) (q : s ≡ etcs_start v) (e : act t.node ≡ 0) where
    -- the start that is told has the packet's row
    row_is : s.row ≡ etcs_row v
    unfolding etcs_start
    row_is = ap (λ x. x.row) q

    -- the items that begin there are next
    next_is : next (todo_of t) v ≡ root_at s.row
    unfolding next
    next_is =
        ap (λ i. next i v) (todo_end t.node t.left t.outer e (d.settled e)) ∙ etcs_root v ∙ ap root_at (sym row_is)

    -- there is none: the end mark
    pub advances_over : s.row ≡ 0 → Advanced t v None
    advances_over z = record { tidy = tt; items = next_is ∙ ap root_at z }

    -- its first row
    pub advances_to : (s.row ≡ 0 → ⊥) → Advanced t v (Some (record { node = s.row; left = 0; outer = 0 }))
    advances_to n =
        let u : up s.row ≡ 0 = ap up row_is ∙ etcs_up v in
        record {
          tidy = starts_tidy s.row (subst (λ (k : ℕ). k < 213) (sym row_is) (etcs_in v)) u;
          items = next_is ∙ root_some s.row n ∙ ap some (sym (start_todo s.row u));
        }

  -- at the CTCS packet's identifier: that packet, or nothing
  module _ (s : Start) (q : s ≡ ctcs_start v) (e : act t.node ≡ 1) where
    -- the start that is told has the packet's row
    user_row_is : s.row ≡ ctcs_row v
    unfolding ctcs_start
    user_row_is = ap (λ x. x.row) q

    -- its first row, or row 0
    pub advances_inside : Advanced t v (Some (record { node = s.row; left = 0; outer = 0 }))
    unfolding next
    advances_inside =
        let u : up s.row ≡ 0 = ap up user_row_is ∙ ctcs_up v in
        record {
          tidy = starts_tidy s.row (subst (λ (k : ℕ). k < 213) (sym user_row_is) (ctcs_in v)) u;
          items =
              ap (λ i. next i v) (todo_nest t.node t.left t.outer e)
              ∙ ap (λ o. some (or_end o)) (ctcs_root v ∙ ap root_at (sym user_row_is))
              ∙ ap some (root_end s.row ∙ sym (start_todo s.row u));
        }

  -- at a field: it is passed, and then up to two ends
  pub advances_on : (m r s : Todo) → 1 < act t.node → Moved t v m → Turned m r → Turned r s → Advanced t v (Some s)
  advances_on m r s a p f g =
      record {
        tidy = two_turns m r s p.inside f g;
        items =
            todo_next t.node t.left t.outer a v ∙ ap some (sym (g.items ∙ f.items ∙ p.items));
      }

  -- and at no end, that is all
  pub advances_turned : (m r : Todo) → 1 < act t.node → Moved t v m → Turned m r → (act r.node ≡ 0 → ⊥) → Advanced t v (Some r)
  advances_turned m r a p f n = advances_on m r r a p f (stays r f.inside n)

  -- nor at a packet's end
  pub advances_ending : (m r : Todo) → 1 < act t.node → Moved t v m → Turned m r → act r.node ≡ 0 → jump r.node ≡ 0 → Advanced t v (Some r)
  advances_ending m r a p f z j = advances_on m r r a p f (turns_none r 0 f.inside z (sym j) refl)

  advances_moved : (m : Todo) → 1 < act t.node → Moved t v m → (act m.node ≡ 0 → ⊥) → Advanced t v (Some m)
  advances_moved m a p n = advances_turned m m a p (stays m p.inside n) n

  -- at a field that steers nothing
  module _ (e : act t.node ≡ 2) where
    abbrev next_row : Todo
    next_row = record { node = t.node + 1; left = t.left; outer = t.outer }

    passed : Moved t v next_row
    passed =
        moves_on t v d.inside (t.node + 1) (omega arith) (omega arith)
        (follows_next t.node v d.inside (omega arith) (omega arith) (λ h. absurd (omega arith)))

    -- before a row that is no end: that row
    pub advances_next : (act (t.node + 1) ≡ 0 → ⊥) → Advanced t v (Some next_row)
    advances_next n = advances_moved next_row (omega arith) passed n

    -- before a packet's end: that end
    pub advances_end : act (t.node + 1) ≡ 0 → up (t.node + 1) ≡ 0 → Advanced t v (Some next_row)
    advances_end z u =
        let s : Turned next_row next_row = record { inside = passed.inside; items = refl; was = λ e. e; out = λ e. rw (u, none_up) } in
        advances_on next_row next_row next_row (omega arith) passed s s

    -- before the end of a group that comes again: its first row, which is a field
    module _ (z : act (t.node + 1) ≡ 0) (p : 0 < jump (t.node + 1)) (l : 0 < t.left) where
      pub again_field : 1 < act (jump (t.node + 1) + 1)
      again_field =
          let u : jump (t.node + 1) ≡ up (t.node + 1) = end_jump (t.node + 1) passed.inside z in
          let q : 0 < up (t.node + 1) = omega arith in
          let i = up_in (t.node + 1) passed.inside in
          rw (add-one, u) (group_starts (up (t.node + 1)) i (up_repeats (t.node + 1) passed.inside q))

      pub advances_again : Advanced t v (Some (record { node = jump (t.node + 1) + 1; left = t.left - 1; outer = t.outer }))
      advances_again =
          let g = turns_again next_row (jump (t.node + 1)) passed.inside z refl (λ h. omega arith) (jump (t.node + 1) + 1) (λ h. omega arith) refl in
          let n = again_field in
          advances_turned next_row _ (omega arith) passed g (λ h. omega arith)
