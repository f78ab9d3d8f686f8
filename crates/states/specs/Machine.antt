-- What the machine's state stands for in the definitions of crate format, and what each of its functions promises. Definitions alone.
use Rattle.std.specs.Prelude.{◌≡◌, Bool, cond, ◌&&◌, ◌||◌, List, [], ◌∷◌, ℕ, suc, ◌+◌, ◌-◌, ◌%◌, ◌^◌, ◌<◌, ◌≤◌, eqb, leb, ltb, get_or, Some, None, Ok, Err, Result, ⊤}
use Rattle.std.proofs.Math.Option.{Option, some, none}
use Rattle.format.specs.Fields.{Rule, Sense}
use Rattle.format.specs.Fields.Rule.{any, packet, user, direction, size, pig, total, radio, within}
use Rattle.format.specs.Fields.Sense.{plain, scale, distance, text_length}
use Rattle.format.specs.Packets.{Items, ◌⧺◌, times}
use Rattle.format.specs.Packets.Items.{end, nest, send, send_if, send_either, send_times}
use Rattle.format.specs.Rules.{Earlier, Context, Terms, Next, context, next, rule_of, broken, noted, settled, step, unless, begun}
use Rattle.format.specs.Rules.Level.{in_header, in_packet, in_user}
use Rattle.format.specs.Rules.Next.{go, over, breaks}
use Rattle.format.specs.Table.{node, act, jump, up, field_at, code_of, low_of, high_of, words}
use Rattle.format.specs.declared.Kind.{Kind}
use Rattle.states.specs.declared.Todo.{Todo}
use Rattle.states.specs.declared.Level.{Level}
use Rattle.states.specs.declared.Level.TheVariants.{Header, Packet, User}
use Rattle.states.specs.declared.State.{State}
use Rattle.states.specs.declared.Easy.{Easy}
use Rattle.states.specs.declared.Easy.TheVariants.{To, Ends, Not}
use Rattle.format.specs.Rules as rules
use Rattle.std.specs.Prelude as code

-- ---- what is to be sent

-- at the end of a group of row u: the group n times more, what follows the groups, and then r; nothing where u is no row
unfoldable pub onward : ℕ → ℕ → Items → Items
onward u n r = cond (eqb u 0) end (times n (node (suc u)) (node (jump u) ⧺ r))

unfoldable pub todo_at : ℕ → ℕ → ℕ → Items
todo_at k n m = node k ⧺ onward (up k) n (onward (up (up k)) m end)

abbrev pub todo_of : Todo → Items
todo_of t = todo_at t.node t.left t.outer

-- a row of the table, and no group's end
pub record Tidy (t : Todo) : Type 0 where
  pub inside : t.node < 213
  pub settled : act t.node ≡ 0 → up t.node ≡ 0

-- what is sent after a field that is not the last of its items
unfoldable pub after : Items → ℕ → Items
after end v = end
after nest v = nest
after (send f r) v = r
after (send_if c f r) v = cond (eqb v 1) (send f r) r
after (send_either c a b) v = cond (eqb v 1) a b
after (send_times c g r) v = times v g r

pub record Followed (k v r : ℕ) : Type 0 where
  pub inside : r < 213
  pub within : up r ≡ up k
  pub items : node r ≡ after (node k) v

pub record Moved (t : Todo) (v : ℕ) (r : Todo) : Type 0 where
  pub inside : r.node < 213
  pub items : todo_of r ≡ after (todo_of t) v

pub record Turned (t : Todo) (r : Todo) : Type 0 where
  pub inside : r.node < 213
  pub items : todo_of r ≡ todo_of t
  -- if it is still at an end, it was at one, and is a step further out
  pub was : act r.node ≡ 0 → act t.node ≡ 0
  pub out : act r.node ≡ 0 → up r.node ≡ up (up t.node)

abbrev pub items_of : code.Option Todo → Option Items
items_of (Some t) = some (todo_of t)
items_of None = none

abbrev pub TidyOn : code.Option Todo → Type 0
TidyOn (Some t) = Tidy t
TidyOn None = Unit

pub record Advanced (t : Todo) (v : ℕ) (r : code.Option Todo) : Type 0 where
  pub tidy : TidyOn r
  pub items : next (todo_of t) v ≡ items_of r

-- ---- fields that are gone past

-- it steers nothing, and after it another field is due: of the next row, or of the group again
pub record Idle (t : Todo) : Type 0 where
  pub plain : act t.node ≡ 2
  pub again : act (t.node + 1) ≡ 0 → (0 < jump (t.node + 1)) × (0 < t.left)

-- what is to be sent after such a field
abbrev pub later : Todo → Todo
later t =
    cond (eqb (act (t.node + 1)) 0) (record { node = jump (t.node + 1) + 1; left = t.left - 1; outer = t.outer })
    (record { node = t.node + 1; left = t.left; outer = t.outer })

-- it need not be read: it may hold anything, and nothing is kept of it
abbrev pub Unread : ℕ → Type 0
Unread k = code_of (field_at k).sense < 3

-- the same by what stands in the row and by its rest, for a field that steers nothing
abbrev pub unread : ℕ → ℕ → Bool
unread a r = eqb a 2 && ltb r 3

-- from t at a position, so many such fields up to bit n lead to a todo at another position
pub data Drifted (n : ℕ) (t : Todo) (at : ℕ) : Todo → ℕ → ℕ → Type 0 where
  nothing : Drifted n t at t at 0
  field : {u : Todo} {x m : ℕ} → Drifted n t at u x m → Idle u → Unread u.node → x + (field_at u.node).width ≤ n
      → Drifted n t at (later u) (x + (field_at u.node).width) (m + 1)

-- a value of which nothing is kept, and which keeps its rule: a range, or none
pub record Slight (k v : ℕ) : Type 0 where
  pub unkept : 2 < code_of (field_at k).sense → 9 < code_of (field_at k).sense
  pub allowed : 9 < code_of (field_at k).sense → (low_of (field_at k) ≤ v) × (v ≤ high_of (field_at k))

-- a test that holds only of such a value, by the rest of its field's row: the range has its high end in the lowest four bits, and begins at 0,
-- or at 1 from 48 on. A range that begins elsewhere does not pass, and is left to the machine
abbrev pub slight : ℕ → ℕ → Bool
slight r v = ltb r 10 || leb v (r % 16) && (ltb r 48 || leb r 51 && ltb 0 v)

-- where such a value leads, if to a field or to the packet's end
abbrev pub Eased : Todo → ℕ → Easy → Type 0
Eased t v (To u) = Slight t.node v × Advanced t v (Some u) × (act u.node ≡ 0 → ⊥)
Eased t v (Ends u) = Slight t.node v × Advanced t v (Some u) × (act u.node ≡ 0)
Eased t v Not = Unit

-- the state at a position, with t to be sent
abbrev pub reached : State → ℕ → Todo → State
reached s at t =
    record {
      at = at;
      todo = t;
      level = s.level;
      start = s.start;
      id = s.id;
      dir = s.dir;
      long = s.long;
      userstart = s.userstart;
      userlong = s.userlong;
      pig = s.pig;
    }

-- the state before the next packet, or the end mark
abbrev pub fresh_at : ℕ → ℕ → State
fresh_at at m =
    record {
      at = at;
      todo = record { node = 0; left = 0; outer = 0 };
      level = Packet;
      start = at;
      id = 0;
      dir = 0;
      long = 0;
      userstart = 0;
      userlong = 0;
      pig = m;
    }

-- ---- the context

abbrev pub level_of : Level → rules.Level
level_of Header = in_header
level_of Packet = in_packet
level_of User = in_user

-- the state's context, with the packets before
abbrev pub context_of : List Earlier → State → Context
context_of l s =
    context (level_of s.level) s.start s.id s.dir s.long s.userstart s.userlong s.pig l

abbrev pub view : List Earlier → State → rules.State
view l s = record { at = s.at; todo = todo_of s.todo; context = context_of l s }

abbrev pub next_of : List Earlier → Result (code.Option State) Kind → Next
next_of l (Ok (Some s)) = go (todo_of s.todo) (context_of l s)
next_of l (Ok None) = over
next_of l (Err k) = breaks k

abbrev pub verdict_of : Result ⊤ Kind → Option Kind
verdict_of (Ok tt) = none
verdict_of (Err k) = some k

-- ---- what a value breaks

-- a value inside its range or not
abbrev pub Ranged : Bool → Level → Option Kind
Ranged b l = unless b (rules.forbidden (level_of l))

-- the senses with the codes 0 to 10, where a and b are the range
abbrev pub senses : ℕ → ℕ → List Sense
senses a b =
    plain any ∷ distance ∷ text_length ∷ plain size ∷ plain pig ∷ plain total ∷ plain radio ∷ plain packet ∷ plain user ∷ plain direction ∷ plain (within a b) ∷ []

-- the sense with a code; from 11 on it is a scale
unfoldable pub sense_of : ℕ → ℕ → ℕ → Sense
sense_of c a b = get_or (senses a b) c scale

-- of a Q_DIR, where twice says whether its packet collides with an earlier one
abbrev pub Directed : State → ℕ → Bool → Result ⊤ Kind → Type 0
Directed s v twice r =
    (p : Terms) (l : List Earlier) → (s.level ≡ Packet → p.collides (context_of l s) v ≡ twice)
    → verdict_of r ≡ broken p (context_of l s) direction v

abbrev pub rule_at : ℕ → Rule
rule_at k = rule_of (field_at k).sense

abbrev pub Judged : State → ℕ → Bool → Result ⊤ Kind → Type 0
Judged s v twice r =
    (p : Terms) (l : List Earlier) → (rule_at s.todo.node ≡ direction → s.level ≡ Packet → p.collides (context_of l s) v ≡ twice)
    → verdict_of r ≡ broken p (context_of l s) (rule_at s.todo.node) v

-- ---- what is noted

-- of a value of a field with the code c
pub record Noted (s : State) (c v : ℕ) (r : State) : Type 0 where
  pub right : (a b : ℕ) (l : List Earlier)
      → let x = noted (rule_of (sense_of c a b)) (context_of l s) s.at v in x ≡ context_of x.earlier r
  pub here : r.at ≡ s.at
  pub same : r.todo ≡ s.todo
  pub first : r.start ≡ s.start
  pub second : s.userstart ≤ s.at → r.userstart ≤ s.at

-- ---- one field

-- a state that the machine can be in: what is to be sent is in the table, and packets begin before the field that is due
pub record Sound (s : State) : Type 0 where
  pub tidy : Tidy s.todo
  pub first : s.start ≤ s.at
  pub second : s.userstart ≤ s.at

abbrev pub Kept : ℕ → Result (code.Option State) Kind → Type 0
Kept n (Ok (Some s)) = Sound s × (s.at ≡ n)
Kept n (Ok None) = Unit
Kept n (Err k) = Unit

pub record Settled (s : State) (r : Result (code.Option State) Kind) : Type 0 where
  pub right : (l : List Earlier) → settled s.at (todo_of s.todo) (context_of l s) ≡ next_of l r
  pub kept : Kept s.at r

pub record Stepping (s : State) (v : ℕ) : Type 0 where
  pub sound : Sound s
  pub low : s.at ≤ 65536
  pub fits : v < 2 ^ (field_at s.todo.node).width

-- the packets before, once the value is noted
abbrev pub earlier_after : List Earlier → State → ℕ → List Earlier
earlier_after l s v = (noted (rule_at s.todo.node) (context_of l s) s.at v).earlier

-- of a value that breaks no rule
pub record Entered (s : State) (v : ℕ) (r : Result (code.Option State) Kind) : Type 0 where
  pub right : (l : List Earlier)
      → rules.onward (s.at + (field_at s.todo.node).width) (next (todo_of s.todo) v) (noted (rule_at s.todo.node) (context_of l s) s.at v)
      ≡ next_of (earlier_after l s v) r
  pub kept : Kept (s.at + (field_at s.todo.node).width) r

-- the machine's step is the definition's, whatever the place of refusals and whatever collides, if twice says that of this value
pub record Stepped (s : State) (v : ℕ) (twice : Bool) (r : Result (code.Option State) Kind) : Type 0 where
  pub right : (p : Terms) (l : List Earlier) → (rule_at s.todo.node ≡ direction → s.level ≡ Packet → p.collides (context_of l s) v ≡ twice)
      → step p (view l s) v ≡ next_of (earlier_after l s v) r
  pub kept : Kept (s.at + (field_at s.todo.node).width) r

-- before the first field
pub record Beginning (r : State) : Type 0 where
  pub right : view [] r ≡ begun
  pub sound : Sound r
