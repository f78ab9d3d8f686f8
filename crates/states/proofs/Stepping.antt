-- One field: what the machine answers is what the definition of a step gives. Assumes nothing.
use Rattle.std.specs.Prelude.{Some, None, Ok, Err, Result, Option}
use mathlib.Core.Path.{◌≡◌, refl, ◌∙◌, sym, ap}
use mathlib.Core.Bool.{Bool, true, false, cond, ◌&&◌}
use mathlib.Core.List.{List}
use Prim.Native.Nat.{ℕ, ◌+◌, ◌≤◌}
use native.Mathlib.Omega.{arith}
use lib.Dec.{T, leb, leb→le}
use Rattle.format.specs.Fields.{Field}
use Rattle.format.specs.Packets.Items.{end}
use Rattle.format.specs.Rules.{Earlier, due, noted, closes, settled, onward, step, fresh}
use Rattle.format.specs.Rules.Next.{go, breaks}
use Rattle.format.specs.Table.{act, field_at, row_at, code_of, low_of, high_of}
use Rattle.format.specs.declared.Kind.{Kind}
use Rattle.format.specs.declared.Kind.TheVariants.{Length}
use Rattle.states.specs.Machine.{todo_of, fresh_at, context_of, level_of, rule_at, Advanced, Noted, Judged, Sound, Settled, Entered, Stepped}
use Rattle.states.specs.declared.Todo.{Todo}
use Rattle.states.specs.declared.State.{State}
use Rattle.states.proofs.Moves.{todo_end, goes_on, none_left, due_right}
use Rattle.states.proofs.Senses.{sense_is}

-- ---- widths

and_right : (a b : Bool) → T (a && b) → T b
and_right true b t = t
and_right false b t = absurd t

pub width_in : (f : Field) → f.width ≤ 64
width_in f = leb→le f.width 64 (and_right (leb 1 f.width) (leb f.width 64) f.sized)

-- ---- a packet's end

module _ (s : State) (d : Sound s) where
  pub settled_goes : (act s.todo.node ≡ 0 → ⊥) → Settled s (Ok (Some s))
  settled_goes h =
      record { right = λ l. goes_on s.todo.node s.todo.left s.todo.outer h s.at (context_of l s); kept = (d, refl) }

  module _ (z : act s.todo.node ≡ 0) where
    at_end : todo_of s.todo ≡ end
    at_end = todo_end s.todo.node s.todo.left s.todo.outer z (d.tidy.settled z)

    settled_by : (b : Bool) (l : List Earlier) → closes s.at (context_of l s) (level_of s.level) ≡ b
        → settled s.at (todo_of s.todo) (context_of l s) ≡ cond b (go end (fresh s.at (context_of l s))) (breaks Length)
    unfolding settled
    settled_by b l e = rw (at_end, e)

    pub settled_breaks : ((l : List Earlier) → closes s.at (context_of l s) (level_of s.level) ≡ false) → Settled s (Err Length)
    settled_breaks h = record { right = λ l. settled_by false l (h l); kept = tt }

    pub settled_fresh : ((l : List Earlier) → closes s.at (context_of l s) (level_of s.level) ≡ true)
        → Settled s (Ok (Some (fresh_at s.at s.pig)))
    unfolding row_at
    settled_fresh h = record {
      right = λ l. settled_by true l (h l) ∙ rw none_left;
      kept = (record { tidy = record { inside = omega arith; settled = λ e. refl }; first = omega arith; second = omega arith }, refl);
    }

-- ---- a value that keeps its rule

module _ (s : State) (v : ℕ) where
  pub entered_mark : Advanced s.todo v None → Entered s v (Ok None)
  unfolding onward
  entered_mark a = record { right = λ l. rw a.items; kept = tt }

  -- the state n with what is to be sent after the field, which ends at e
  abbrev sent : State → Todo → ℕ → State
  sent n t e = record { at = e; todo = t; level = n.level; start = n.start; id = n.id; dir = n.dir; long = n.long; userstart = n.userstart; userlong = n.userlong; pig = n.pig }

  pub entered_on : (t : Todo) (n : State) (e : ℕ) (r : Result (Option State) Kind) → Advanced s.todo v (Some t)
      → Noted s (code_of (field_at s.todo.node).sense) v n → e ≡ s.at + (field_at s.todo.node).width
      → Settled (sent n t e) r → Entered s v r
  unfolding onward
  entered_on t n e r a o w d =
      record {
        right = λ l.
            let f = field_at s.todo.node in
            let x = noted (rule_at s.todo.node) (context_of l s) s.at v in
            let same : x ≡ context_of x.earlier n =
            rw (sense_is f) (o.right (low_of f) (high_of f) l) in
            rw (a.items, ← w) (ap (settled e (todo_of t)) same ∙ d.right x.earlier);
        kept = rw (← w) d.kept;
      }

-- ---- the step

module _ (s : State) (v : ℕ) (twice : Bool) (d : Sound s) where
  field_is : (l : List Earlier) → due (todo_of s.todo) ≡ field_at s.todo.node
  field_is l = sym (due_right s.todo d.tidy)

  pub stepped_breaks : (k : Kind) → Judged s v twice (Err k) → Stepped s v twice (Err k)
  unfolding step
  stepped_breaks k j = record { right = λ p l h. rw (field_is l, ← (j p l h)); kept = tt }

  pub stepped_goes : (r : Result (Option State) Kind) → Judged s v twice (Ok tt) → Entered s v r → Stepped s v twice r
  unfolding step
  stepped_goes r j e = record { right = λ p l h. rw (field_is l, ← (j p l h)) (e.right l); kept = e.kept }
