-- What the functions that make up `message::message` promise, and what those that are not public ask. Definitions alone.
use Rattle.std.specs.Prelude.{Bool, cond, ◌&&◌, true, false, List, [], ◌∷◌, ◌≡◌, ℕ, suc, ◌+◌, ◌-◌, ◌≤◌, min, eqb, leb, length, take, drop, Ok, Err, Result, ⊤, Some, None}
use Rattle.std.proofs.Math.Option.{Option, some, none}
use Rattle.bits.specs.Bits.{bytes_for}
use Rattle.format.specs.Fields.{N_TOTAL}
use Rattle.format.specs.Rules.{Terms, paper}
use Rattle.format.specs.Telegrams.{Entry}
use Rattle.format.specs.Telegrams.Result.{accepted}
use Rattle.states.specs.Reader.{checked}
use Rattle.group.specs.declared.Cause.TheVariants.{Room, Single, Identity, Counters, Copied}
use Rattle.group.specs.Groups.{Arrived, arrived, parts, held, standing, every, pairwise, agree, grouped, in_order, counted, miscopied, Member, Message, fault, listed, counting, collision, uncollided, packets_needed}
use Rattle.group.specs.Groups.Arrived.{all, stops}
use Rattle.group.specs.Groups.Message.{refuses}
use Rattle.format.specs.declared.Refusal.{Refusal}
use Rattle.std.specs.Prelude as code
use Rattle.group.specs.declared.Fault.{Fault}

-- ---- arriving

-- how far the arrival came
abbrev pub came_of : Arrived → Result ⊤ (ℕ × Refusal)
came_of (all ts) = Ok tt
came_of (stops i r) = Err (i, r)

-- how many of the bytes that are left are the next telegram's
abbrev pub part_length : ℕ → ℕ → Bool → ℕ
part_length left n last = cond last left (min (bytes_for n) left)

-- the telegrams of what arrived
abbrev pub those : Arrived → List (List Entry)
those (all ts) = ts
those (stops i r) = []

unfoldable pub telegrams_of : List ℕ → List ℕ → List (List Entry)
telegrams_of s ns = those (arrived paper 0 (parts s ns))

-- every telegram was accepted
pub record Arrives (s ns : List ℕ) : Type 0 where
  pub goes : arrived paper 0 (parts s ns) ≡ all (telegrams_of s ns)

-- the same as a test
abbrev pub all_accepted : Arrived → Bool
all_accepted (all ts) = true
all_accepted (stops i r) = false

-- bytes in whose front a telegram of n bits stands
pub record Front (p : Terms) (u : List ℕ) (n : ℕ) (es : List Entry) : Type 0 where
  pub few : bytes_for n ≤ length u
  pub reads : checked p (take (bytes_for n) u) n ≡ accepted es

-- one telegram alone has this N_PIG, and it stands at this byte with these bits
pub record Seated (s ns : List ℕ) (k start n : ℕ) : Type 0 where
  pub telegram : List Entry
  pub alone : standing k (telegrams_of s ns) ≡ telegram ∷ []
  pub within : start ≤ length s
  pub front : Front paper (drop start s) n telegram

-- ---- 21

-- they agree, and each N_TOTAL says how many they are
abbrev pub alike : List (List Entry) → Bool
alike ts = pairwise agree ts && every (λ t. eqb (suc (held N_TOTAL t)) (length ts)) ts

-- the telegrams are a group's, by 21
pub record Lineup (s ns : List ℕ) : Type 0 where
  pub arrives : Arrives s ns
  pub whole : grouped (telegrams_of s ns) ≡ true

-- ---- by N_PIG

-- the first of telegrams; the first with this N_PIG
abbrev pub chief : List (List Entry) → List Entry
chief [] = []
chief (t ∷ ts) = t

abbrev pub seated : ℕ → List (List Entry) → List Entry
seated k ts = chief (standing k ts)

-- the telegrams by their N_PIG
abbrev pub line_of : List ℕ → List ℕ → List (List Entry)
line_of s ns = in_order 0 (length (telegrams_of s ns)) (telegrams_of s ns)

-- ---- 23

-- the balises beside the one with this N_PIG, of n
abbrev pub preceding : ℕ → List (List Entry) → Option (List Entry)
preceding k ts = cond (eqb k 0) none (some (seated (k - 1) ts))

abbrev pub following : ℕ → ℕ → List (List Entry) → Option (List Entry)
following k n ts = cond (eqb (k + 1) n) none (some (seated (k + 1) ts))

abbrev pub found_of : Option ℕ → code.Option ℕ
found_of none = None
found_of (some k) = Some k

-- ---- what all tests but the last come to

abbrev pub copy_verdict : Option ℕ → Result ⊤ Fault
copy_verdict none = Ok tt
copy_verdict (some k) = Err (fault Copied k 0)

-- of telegrams by their N_PIG, as they arrived, and of a group
abbrev pub line_verdict : List (List Entry) → Result ⊤ Fault
line_verdict ts = cond (counted ts) (copy_verdict (miscopied 0 none ts)) (Err (fault Counters 0 0))

abbrev pub verdict_of : List (List Entry) → Result ⊤ Fault
verdict_of ts = cond (grouped ts) (line_verdict (in_order 0 (length ts) ts)) (Err (fault Identity 0 0))

abbrev pub arrival_verdict : Arrived → Result ⊤ Fault
arrival_verdict (all ts) = verdict_of ts
arrival_verdict (stops i r) = Err (fault (Single r.kind) i r.place)

abbrev pub group_verdict : List ℕ → List ℕ → ℕ → Result ⊤ Fault
group_verdict s ns room = cond (leb packets_needed room) (arrival_verdict (arrived paper 0 (parts s ns))) (Err (fault Room 0 0))

-- the packets that count, and the last test
abbrev pub packets_of_all : List ℕ → List ℕ → List Member
packets_of_all s ns = listed (counting 0 none (line_of s ns))

abbrev pub last_test : List ℕ → List ℕ → Message
last_test s ns = uncollided (packets_of_all s ns) (collision [] (packets_of_all s ns))

-- the refusal, or else what the last test says
abbrev pub judged_by : Result ⊤ Fault → Message → Message
judged_by (Err f) m = refuses f
judged_by (Ok tt) m = m
