-- What is still to be sent, as the machine keeps it: what each of its moves makes of it, over plain numbers and records.
-- Assumes nothing.
use mathlib.Core.Path.{◌≡◌, refl, ◌∙◌, sym, ap}
use mathlib.Core.Bool.{Bool, true, false, cond}
use mathlib.Core.Logic.{◌⊎◌, inl, inr, ⊎_elim}
use mathlib.Core.Option.{some}
use Prim.Native.Nat.{ℕ, zero, suc, ◌+◌, ◌-◌, ◌<◌}
use native.Mathlib.Nat.{eq-zero-or-pos, eq-or-lt_of_le}
use native.Mathlib.Numerals.{add-one}
use native.Mathlib.Omega.{arith}
use borrow.Author.Tests.{eq-eqb, ne_eqb}
use lib.Dec.{eqb, eqb-suc-zero}
use Rattle.format.specs.Fields.{NID_PACKET, END}
use Rattle.format.specs.Packets.{Items, ◌⧺◌, times}
use Rattle.format.specs.Packets.Items.{end, nest, send}
use Rattle.format.specs.Rules.{Context, due, named, next, settled}
use Rattle.format.specs.Rules.Next.{go}
use Rattle.format.specs.Table.{act, field_at, jump, up, node}
use Rattle.format.proofs.Rows.{jump_in, up_in, next_in, three_up, end_jump, next_up, jump_up, group_up, two_up, group_starts, up_repeats, if_jump, if_next, node_end, node_nest, node_send, node_if, node_either, node_times, end_field, none_act, none_up}
use Rattle.states.specs.Labels.{number_at}
use Rattle.states.specs.Lookback.{begins}
use Rattle.states.specs.Machine.{onward, todo_at, todo_of, after, Tidy, Followed, Moved, Turned}
use Rattle.states.specs.declared.Todo.{Todo}
use Rattle.states.proofs.Shapes.{append_end, row_due, row_begins, row_named, row_goes, row_next, row_after, three_or_four}

-- ---- what is to be sent, by its row

module _ (k n m : ℕ) where
  -- at an end that is no group's, nothing
  pub todo_end : act k ≡ 0 → up k ≡ 0 → todo_at k n m ≡ end
  unfolding todo_at onward ◌⧺◌
  todo_end e u =
      ap (λ i. i ⧺ onward (up k) n (onward (up (up k)) m end)) (node_end k e)
      ∙ ap (λ j. onward j n (onward (up (up k)) m end)) u

  -- the CTCS packet: nothing follows it
  pub todo_nest : act k ≡ 1 → todo_at k n m ≡ nest
  unfolding todo_at ◌⧺◌
  todo_nest e = ap (λ i. i ⧺ onward (up k) n (onward (up (up k)) m end)) (node_nest k e)

  -- at no end, no packet's length is tested
  pub goes_on : (act k ≡ 0 → ⊥) → (p : ℕ) (c : Context) → settled p (todo_at k n m) c ≡ go (todo_at k n m) c
  unfolding todo_at
  goes_on h = row_goes k _ (omega arith)

  -- a field's value: what is next is what is after it
  pub todo_next : 1 < act k → (v : ℕ) → next (todo_at k n m) v ≡ some (after (todo_at k n m) v)
  unfolding todo_at
  todo_next = row_next k _

-- a packet's first row: its items
pub start_todo : (k : ℕ) → up k ≡ 0 → todo_at k 0 0 ≡ node k
unfolding todo_at onward
start_todo k u = ap (λ j. node k ⧺ onward j 0 (onward (up j) 0 end)) u ∙ append_end (node k)

-- between packets, nothing
pub none_left : todo_at 0 0 0 ≡ end
none_left = todo_end 0 0 0 none_act none_up

-- a packet begins just where nothing is left to send
pub todo_begins : (t : Todo) → Tidy t → act t.node ≡ 0 → begins (todo_of t) ≡ true
todo_begins t d z = rw (todo_end t.node t.left t.outer z (d.settled z))

pub todo_begins_not : (t : Todo) → (act t.node ≡ 0 → ⊥) → begins (todo_of t) ≡ false
unfolding todo_at
todo_begins_not t n = row_begins t.node _ (omega arith)

-- the field in the row is the field that is due
pub due_right : (t : Todo) → Tidy t → field_at t.node ≡ due (todo_of t)
unfolding todo_at
due_right t d =
    ⊎_elim
    (λ (e : act t.node ≡ 0). end_field t.node e ∙ sym (ap due (todo_end t.node t.left t.outer e (d.settled e))))
    (λ l. sym (row_due t.node _ l))
    (eq-zero-or-pos (act t.node))

-- the number of the field under whose name a value is sent is the row's, but between packets the end mark's if the value is 255
pub named_right : (t : Todo) → Tidy t → (v : ℕ) → (named (todo_of t) v).number ≡ number_at t.node v
unfolding todo_at
named_right t d v = ⊎_elim between inside (eq-zero-or-pos (act t.node))
  where
    marked : (b : Bool) → (cond b END NID_PACKET).number ≡ cond b END.number NID_PACKET.number
    marked true = refl
    marked false = refl

    between : act t.node ≡ 0 → (named (todo_of t) v).number ≡ number_at t.node v
    between e =
        ap (λ i. (named i v).number) (todo_end t.node t.left t.outer e (d.settled e))
        ∙ marked (eqb v 255)
        ∙ rw (eq-eqb (act t.node) 0 e, end_field t.node e)

    inside : 0 < act t.node → (named (todo_of t) v).number ≡ number_at t.node v
    inside l = rw (ne_eqb (act t.node) 0 (λ e. omega arith)) (ap (λ f. f.number) (row_named t.node _ l v))

-- ---- a field that repeats nothing: `follow`

module _ (k v : ℕ) (l : k < 213) where
  -- the field that is sent only if its switch is 1
  optional : act k ≡ 3 → node (suc k) ≡ send (field_at (suc k)) (node (jump k))
  optional e = node_send (suc k) (if_next k l e) ∙ ap (λ j. send (field_at (suc k)) (node j)) (sym (if_jump k l e))

  -- one that steers is followed by the next row if it is 1, and by row jump if it is not
  steered : (act k ≡ 3) ⊎ (act k ≡ 4) → after (node k) v ≡ cond (eqb v 1) (node (suc k)) (node (jump k))
  unfolding after
  steered (inl e) =
      ap (λ i. after i v) (node_if k l e) ∙ ap (λ i. cond (eqb v 1) i (node (jump k))) (sym (optional e))
  steered (inr e) = ap (λ i. after i v) (node_either k l e)

  -- the next row, after a field that steers nothing or is 1
  next_items : act k < 5 → (2 < act k → v ≡ 1) → (2 ≡ act k) ⊎ (2 < act k) → node (suc k) ≡ after (node k) v
  unfolding after
  next_items b o (inl e) = sym (ap (λ i. after i v) (node_send k (sym e)))
  next_items b o (inr a) = rw (steered (three_or_four (act k) a b), eq-eqb v 1 (o a))

  -- a field that steers nothing, or is 1, is followed by the next row
  pub follows_next : 1 < act k → act k < 5 → (2 < act k → v ≡ 1) → Followed k v (k + 1)
  follows_next a b o =
      rw add-one
      (record { inside = next_in k l a; within = next_up k l a b; items = next_items b o (eq-or-lt_of_le a) })

  -- a field that steers and is not 1, by row jump
  pub follows_jump : 2 < act k → act k < 5 → (v ≡ 1 → ⊥) → Followed k v (jump k)
  follows_jump a b n =
      record {
        inside = jump_in k l;
        within = jump_up k l a;
        items = rw (steered (three_or_four (act k) a b), ne_eqb v 1 n);
      }

-- ---- groups

-- what is to be sent from the end of a group of row u
group_left : (u n : ℕ) (x : Items) → 0 < u → onward u n x ≡ times n (node (suc u)) (node (jump u) ⧺ x)
unfolding onward
group_left zero n x l = absurd (omega arith)
group_left (suc u) n x l = ap (λ b. cond b end (times n (node (suc (suc u))) (node (jump (suc u)) ⧺ x))) (eqb-suc-zero u)

-- row 0 repeats nothing
repeats_pos : (k : ℕ) → act k ≡ 5 → 0 < k
repeats_pos zero e = let z : ◌≡◌ {A = ℕ} 0 5 = sym none_act ∙ e in absurd (omega arith)
repeats_pos (suc k) e = omega arith

-- a field that repeats a group
module _ (k n m : ℕ) (l : k < 213) (e : act k ≡ 5) where
  -- the group as many times as its value says, what follows the groups, and the rest of the group around them
  after_repeats : (v : ℕ) → after (todo_at k n m) v ≡ times v (node (suc k)) (node (jump k) ⧺ onward (up k) n end)
  unfolding todo_at after ◌⧺◌ onward
  after_repeats v =
      ap (λ i. after (i ⧺ onward (up k) n (onward (up (up k)) m end)) v) (node_times k l e)
      ∙ ap (λ u. times v (node (suc k)) (node (jump k) ⧺ onward (up k) n (onward u m end))) (two_up k l e)

  -- no times
  skips : todo_at (jump k) n m ≡ after (todo_at k n m) 0
  unfolding todo_at times onward
  skips =
      ap (λ u. node (jump k) ⧺ onward u n (onward (up u) m end)) (jump_up k l (omega arith))
      ∙ ap (λ u. node (jump k) ⧺ onward (up k) n (onward u m end)) (two_up k l e)
      ∙ sym (after_repeats 0)

  -- once, and v times more
  enters : (v : ℕ) → todo_at (suc k) v n ≡ after (todo_at k n m) (suc v)
  unfolding todo_at times
  enters v =
      ap (λ u. node (suc k) ⧺ onward u v (onward (up u) n end)) (group_up k l e)
      ∙ ap (λ i. node (suc k) ⧺ i) (group_left k v (onward (up k) n end) (repeats_pos k e))
      ∙ sym (after_repeats (suc v))

-- what follows a group stands where the group does
group_jump_up : (k : ℕ) → k < 213 → 0 < up k → up (jump (up k)) ≡ up (up k)
group_jump_up k l p = let a = up_repeats k l p in jump_up (up k) (up_in k l) (omega arith)

-- the end of a group
module _ (k m : ℕ) (l : k < 213) (e : act k ≡ 0) (p : 0 < up k) where
  -- the group again
  again : (n : ℕ) → todo_at (suc (up k)) n m ≡ todo_at k (suc n) m
  unfolding todo_at times ◌⧺◌
  again n =
      ap (λ u. node (suc (up k)) ⧺ onward u n (onward (up u) m end)) (group_up (up k) (up_in k l) (up_repeats k l p))
      ∙ ap (λ x. node (suc (up k)) ⧺ x) (group_left (up k) n (onward (up (up k)) m end) p)
      ∙ sym
      (ap (λ x. x ⧺ onward (up k) (suc n) (onward (up (up k)) m end)) (node_end k e)
      ∙ group_left (up k) (suc n) (onward (up (up k)) m end) p)

  -- what follows its last
  leaves : todo_at (jump (up k)) m 0 ≡ todo_at k 0 m
  unfolding todo_at times ◌⧺◌ onward
  leaves =
      ap (λ u. node (jump (up k)) ⧺ onward u m (onward (up u) 0 end)) (group_jump_up k l p)
      ∙ ap (λ u. node (jump (up k)) ⧺ onward (up (up k)) m (onward u 0 end)) (three_up k l)
      ∙ sym
      (ap (λ x. x ⧺ onward (up k) 0 (onward (up (up k)) m end)) (node_end k e) ∙ group_left (up k) 0 (onward (up (up k)) m end) p)

-- ---- a field is passed: `moved`

module _ (t : Todo) (v : ℕ) (l : t.node < 213) where
  -- one that repeats nothing
  pub moves_on : (r : ℕ) → 1 < act t.node → act t.node < 5 → Followed t.node v r
      → Moved t v (record { node = r; left = t.left; outer = t.outer })
  unfolding todo_at
  moves_on r a b f =
      record {
        inside = f.inside;
        items =
            ap (λ u. node r ⧺ onward u t.left (onward (up u) t.outer end)) f.within
            ∙ ap (λ i. i ⧺ onward (up t.node) t.left (onward (up (up t.node)) t.outer end)) f.items
            ∙ sym (row_after t.node _ a b v);
      }

  -- one that repeats a group no times
  pub moves_past : act t.node ≡ 5 → v ≡ 0 → Moved t v (record { node = jump t.node; left = t.left; outer = t.outer })
  moves_past e z =
      record {
        inside = jump_in t.node l;
        items = skips t.node t.left t.outer l e ∙ ap (after (todo_of t)) (sym z);
      }

  -- one that repeats a group
  pub moves_in : (r : ℕ) → act t.node ≡ 5 → (v ≡ 0 → ⊥) → r ≡ t.node + 1
      → Moved t v (record { node = r; left = v - 1; outer = t.left })
  moves_in r e n q =
      let w : suc (v - 1) ≡ v = omega arith in
      let k : r ≡ suc t.node = omega arith in
      rw k
      (record {
        inside = next_in t.node l (omega arith);
        items = enters t.node t.left t.outer l e (v - 1) ∙ ap (after (todo_of t)) w;
      })

-- ---- a group's end is passed: `turned`

module _ (t : Todo) (u : ℕ) (l : t.node < 213) (e : act t.node ≡ 0) (q : u ≡ jump t.node) where
  -- an end's jump is the row that repeats its group
  holds : u ≡ up t.node
  holds = q ∙ end_jump t.node l e

  -- it is no group's
  pub turns_none : u ≡ 0 → Turned t t
  turns_none z =
      let h : up t.node ≡ 0 = sym holds ∙ z in
      record { inside = l; items = refl; was = λ w. e; out = λ w. h ∙ sym (ap up h ∙ none_up) }

  module _ (n : u ≡ 0 → ⊥) where
    -- there is a group
    grouped : 0 < up t.node
    grouped = let h = holds in omega arith

    -- it was the group's last time
    pub turns_out : (j : ℕ) → t.left ≡ 0 → j ≡ jump u → Turned t (record { node = j; left = t.outer; outer = 0 })
    turns_out j z i =
        let g : j ≡ jump (up t.node) = i ∙ ap jump holds in
        rw g
        (record {
          inside = jump_in (up t.node) (up_in t.node l);
          items = leaves t.node t.outer l e grouped ∙ ap (λ x. todo_at t.node x t.outer) (sym z);
          was = λ w. e;
          out = λ w. group_jump_up t.node l grouped;
        })

    -- the group comes again
    pub turns_again : (r : ℕ) → (t.left ≡ 0 → ⊥) → r ≡ u + 1
        → Turned t (record { node = r; left = t.left - 1; outer = t.outer })
    turns_again r z i =
        let a = up_repeats t.node l grouped in
        let s = group_starts (up t.node) (up_in t.node l) a in
        let h = holds in
        let g : r ≡ suc (up t.node) = omega arith in
        let m : suc (t.left - 1) ≡ t.left = omega arith in
        rw g
        (record {
          inside = next_in (up t.node) (up_in t.node l) (omega arith);
          items = again t.node t.outer l e grouped (t.left - 1) ∙ ap (λ x. todo_at t.node x t.outer) m;
          was = λ w. e;
          out = λ w. let x : ◌≡◌ {A = ℕ} 0 1 = omega arith in absurd (omega arith);
        })
