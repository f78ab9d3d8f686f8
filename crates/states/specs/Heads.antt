-- The header taken at once, whose first 25 bits hold all of it that a rule reads; a packet's head, whose NID_PACKET, Q_DIR and L_PACKET are
-- 23; and that of a CTCS packet, whose NID_XUSER, Q_DIR and L_PACKET are 24. Definitions alone.
use Rattle.std.specs.Prelude.{◌≡◌, false, cond, ◌&&◌, List, ◌⊎◌, ℕ, ◌+◌, ◌/◌, ◌%◌, ◌≤◌, eqb, leb, Some, None, Option}
use Rattle.bits.specs.Take.{taken_at}
use Rattle.format.specs.Rules.{clash, collides_among}
use Rattle.format.specs.Table.{act, field_at, code_of, etcs_row, ctcs_row}
use Rattle.states.specs.Lookback.{packets_before, id_in, dir_in, long_in}
use Rattle.states.specs.declared.Level.TheVariants.{Packet, User}
use Rattle.states.specs.declared.State.{State}
use Rattle.bits.specs.declared.Cursor.{Cursor}

-- ---- the header

-- N_PIG, N_TOTAL and M_DUP in one number
abbrev pub pig_in : ℕ → ℕ
pig_in a = a / 8192 % 8

abbrev pub total_in : ℕ → ℕ
total_in a = a / 1024 % 8

abbrev pub dup_in : ℕ → ℕ
dup_in a = a / 256 % 4

-- the state behind the header
abbrev pub behind : ℕ → State
behind a =
    record {
      at = 50;
      todo = record { node = 0; left = 0; outer = 0 };
      level = Packet;
      start = 50;
      id = 0;
      dir = 0;
      long = 0;
      userstart = 0;
      userlong = 0;
      pig = pig_in a;
    }

-- the header keeps every rule: "Q_UPDOWN = 1, M_VERSION = 16, Q_MEDIA = 0", in nine bits 288; "M_DUP ≤ 2, N_PIG ≤ N_TOTAL"
pub record Fronted (bytes : List ℕ) (n : ℕ) (r : State) : Type 0 where
  pub bits : ℕ
  pub field : taken_at bytes n 25 0 ≡ Some (bits, record { at = 25 })
  pub room : 50 ≤ n
  pub fixed : bits / 65536 ≡ 288
  pub ordered : pig_in bits ≤ total_in bits
  pub single : dup_in bits ≤ 2
  pub state : r ≡ behind bits

abbrev pub Started : List ℕ → ℕ → Option State → Type 0
Started bytes n (Some r) = Fronted bytes n r
Started bytes n None = Unit

-- the same as an answer, by what is taken of the first 25 bits: the state behind the header, where all of it is there and keeps every rule
abbrev pub front_by : ℕ → Option (ℕ × Cursor) → Option State
front_by n (Some (a, c)) =
    cond (leb 50 n && (eqb (a / 65536) 288 && (leb (pig_in a) (total_in a) && leb (dup_in a) 2))) (Some (behind a)) None
front_by n None = None

abbrev pub front_of : List ℕ → ℕ → Option State
front_of bytes n = front_by n (taken_at bytes n 25 0)

-- ---- a packet's head

-- the state behind the head
abbrev pub opened : State → ℕ → State
opened s a =
    record {
      at = s.at + 23;
      todo = record { node = etcs_row (id_in a) + 2; left = 0; outer = 0 };
      level = Packet;
      start = s.start;
      id = id_in a;
      dir = dir_in a;
      long = long_in a;
      userstart = 0;
      userlong = 0;
      pig = s.pig;
    }

-- the head keeps every rule, its packet collides with none before it, and a field follows it
pub record Opened (bytes : List ℕ) (n : ℕ) (s : State) (r : State) : Type 0 where
  pub bits : ℕ
  pub field : taken_at bytes n 23 s.at ≡ Some (bits, record { at = s.at + 23 })
  pub known : code_of (field_at (etcs_row (id_in bits))).sense ≡ 9
  pub more : act (etcs_row (id_in bits) + 2) ≡ 0 → ⊥
  pub allowed : dir_in bits ≤ 2
  pub alone : false ≡ collides_among clash (id_in bits) (dir_in bits) (packets_before bytes s.start)
  pub state : r ≡ opened s bits

abbrev pub Headed : List ℕ → ℕ → State → Option State → Type 0
Headed bytes n s (Some r) = Opened bytes n s r
Headed bytes n s None = Unit

-- ---- the head of a CTCS packet, whose NID_XUSER, Q_DIR and L_PACKET are 24

abbrev pub nested : State → ℕ → State
nested s a =
    record {
      at = s.at + 24;
      todo = record { node = ctcs_row (id_in a) + 2; left = 0; outer = 0 };
      level = User;
      start = s.start;
      id = s.id;
      dir = s.dir;
      long = s.long;
      userstart = s.at;
      userlong = long_in a;
      pig = s.pig;
    }

-- the head keeps every rule, the Q_DIR is that of the packet around it, and a field follows it
pub record Nested (bytes : List ℕ) (n : ℕ) (s : State) (r : State) : Type 0 where
  pub bits : ℕ
  pub field : taken_at bytes n 24 s.at ≡ Some (bits, record { at = s.at + 24 })
  pub known : code_of (field_at (ctcs_row (id_in bits))).sense ≡ 9
  pub more : act (ctcs_row (id_in bits) + 2) ≡ 0 → ⊥
  pub allowed : dir_in bits ≤ 2
  pub alike : dir_in bits ≡ s.dir
  pub state : r ≡ nested s bits

abbrev pub Inward : List ℕ → ℕ → State → Option State → Type 0
Inward bytes n s (Some r) = Nested bytes n s r
Inward bytes n s None = Unit

-- ---- either of the two, by what is due: row 0 is between packets, and NID_XUSER is due where a packet holds another

abbrev pub Led : List ℕ → ℕ → State → Option State → Type 0
Led bytes n s (Some r) =
    ((s.todo.node ≡ 0) × Opened bytes n s r) ⊎ ((s.todo.node ≡ 0 → ⊥) × (act s.todo.node ≡ 1) × Nested bytes n s r)
Led bytes n s None = Unit
