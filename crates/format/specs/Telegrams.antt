-- A telegram as a list of entries, and the driver that makes one, field by field, of bits or of values. Definitions alone.
use Rattle.std.specs.Prelude.{Bool, true, false, ◌||◌, List, [], ◌∷◌, ◌++◌, ◌≡◌, ℕ, zero, suc, ◌+◌, ◌^◌, ◌<◌, ◌≤◌, eqb, leb, ltb, length, take, drop}
use Prim.Native.String.{String}
use Rattle.bits.specs.Bits.{digits, value_of}
use Rattle.format.specs.Fields.{Field, NID_PACKET, END}
use Rattle.format.specs.Packets.{Items}
use Rattle.format.specs.Rules.{State, Context, Terms, Next, begun, step, field, named, past, moved}
use Rattle.format.specs.Rules.Next.{go, over, breaks}
use Rattle.format.specs.declared.Kind.{Kind}
use Rattle.format.specs.declared.Kind.TheVariants.{Ended, Trailing, Wide, Full}
use Rattle.format.specs.declared.Refusal.{Refusal}

-- a field with the value that it holds; the end mark's field is END
pub record Entry : Type 0 where
  pub field : Field
  pub value : ℕ

abbrev pub entry : State → ℕ → Entry
entry s v = record { field = named s.todo v; value = v }

-- ---- what a telegram's entries are in bits, values, names and places

unfoldable pub bits_in : Entry → List ℕ
bits_in e = digits e.field.width e.value

-- "one value per field in order of sending, the end mark included as 255"
unfoldable pub values_in : Entry → List ℕ
values_in e = e.value ∷ []

abbrev pub all : (Entry → List ℕ) → List Entry → List ℕ
all part [] = []
all part (e ∷ es) = part e ++ all part es

abbrev pub bits : List Entry → List ℕ
bits es = all bits_in es

abbrev pub values : List Entry → List ℕ
values es = all values_in es

abbrev pub names : List Entry → List String
names [] = []
names (e ∷ es) = e.field.name ∷ names es

-- how many bits the tables give
abbrev pub bit_count : List Entry → ℕ
bit_count [] = 0
bit_count (e ∷ es) = e.field.width + bit_count es

-- the bit where each field begins, the first at a given one
abbrev pub places : ℕ → List Entry → List ℕ
places at [] = []
places at (e ∷ es) = at ∷ places (at + e.field.width) es

-- a packet, or the end mark, begins
abbrev pub begins : Entry → Bool
begins e = eqb e.field.number NID_PACKET.number || eqb e.field.number END.number

-- the header, and the packets with the end mark last
pub record Divided : Type 0 where
  pub header : List Entry
  pub packets : List (List Entry)

abbrev pub before : Bool → Entry → Divided → Divided
before true e d = record { header = []; packets = (e ∷ d.header) ∷ d.packets }
before false e d = record { header = e ∷ d.header; packets = d.packets }

unfoldable pub divided : List Entry → Divided
divided [] = record { header = []; packets = [] }
divided (e ∷ es) = before (begins e) e (divided es)

-- ---- a source of values, and the driver

-- what a source has for the field that is due: its value and what is left, or why it has none
pub data Taken : Type 0 where
  got : ℕ → List ℕ → Taken
  lacks : Kind → Taken

abbrev pub got_if : Bool → Kind → ℕ → List ℕ → Taken
got_if true k v xs = got v xs
got_if false k v xs = lacks k

-- from bits. "5: the bits .. end inside a field or before the end mark"
unfoldable pub from_bits : State → List ℕ → Taken
from_bits s bs = got_if (leb (field s).width (length bs)) Ended (value_of (take (field s).width bs)) (drop (field s).width bs)

abbrev pub fitted : Bool → Bool → ℕ → List ℕ → Taken
fitted true true v vs = got v vs
fitted true false v vs = lacks Full
fitted false q v vs = lacks Wide

-- from values. "At one field: 5, 12, 13"
unfoldable pub from_values : State → List ℕ → Taken
from_values s [] = lacks Ended
from_values s (v ∷ vs) = fitted (ltb v (2 ^ (field s).width)) (leb (past s) 830) v vs

-- what driving comes to: the end mark, with the entries, the state before the mark and what is left of the source; or a refusal
pub data Driven : Type 0 where
  ended : List Entry → State → List ℕ → Driven
  stopped : Refusal → Driven

abbrev pub refusal : Terms → Kind → State → Refusal
refusal p k s = record { kind = k; place = p.place_of k s }

abbrev pub push : Entry → Driven → Driven
push e (ended es s xs) = ended (e ∷ es) s xs
push e (stopped r) = stopped r

-- what a value leads to, where `rest` answers for the state after it and xs is left of the source
abbrev pub on_next : Terms → Next → State → ℕ → (State → Driven) → List ℕ → Driven
on_next p (go t c) s v rest xs = push (entry s v) (rest (moved s t c))
on_next p over s v rest xs = ended (entry s v ∷ []) s xs
on_next p (breaks k) s v rest xs = stopped (refusal p k s)

abbrev pub on_taken : Terms → Taken → State → (ℕ → List ℕ → Driven) → Driven
on_taken p (got v xs) s rest = rest v xs
on_taken p (lacks k) s rest = stopped (refusal p k s)

-- field by field, the first broken rule wins; every field takes something of the source, so that its length bounds the fields
unfoldable pub drive : Terms → (State → List ℕ → Taken) → ℕ → State → List ℕ → Driven
drive p source zero s xs = stopped (refusal p Ended s)
drive p source (suc k) s xs =
    on_taken p (source s xs) s (λ v ys. on_next p (step p s v) s v (λ t. drive p source k t ys) ys)

-- ---- reading and writing

pub data Result : Type 0 where
  accepted : List Entry → Result
  refused : Refusal → Result

-- "11: bits, or values, follow the end mark"
abbrev pub whole : Terms → Driven → Result
whole p (ended es s []) = accepted es
whole p (ended es s (x ∷ xs)) = refused (refusal p Trailing s)
whole p (stopped r) = refused r

unfoldable pub read : Terms → List ℕ → Result
read p bs = whole p (drive p from_bits (length bs) begun bs)

unfoldable pub write : Terms → List ℕ → Result
write p vs = whole p (drive p from_values (length vs) begun vs)

-- ---- accepted, as a relation

-- a value for the field that is due: it fits, and the field ends by bit 830
pub record Fits (s : State) (v : ℕ) : Type 0 where
  pub small : v < 2 ^ (field s).width
  pub room : past s ≤ 830

-- entries that are sent from a state on: each fits and breaks no rule, up to the end mark
pub data Run (p : Terms) : State → List Entry → Type 0 where
  last : {s : State} {v : ℕ} → Fits s v → step p s v ≡ over → Run p s (entry s v ∷ [])
  more : {s : State} {v : ℕ} {t : Items} {c : Context} {es : List Entry} → Fits s v → step p s v ≡ go t c
      → Run p (moved s t c) es → Run p s (entry s v ∷ es)

abbrev pub Telegram : Terms → List Entry → Type 0
Telegram p es = Run p begun es
