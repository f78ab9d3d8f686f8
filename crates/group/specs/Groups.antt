-- docs/RULES.md, "Groups": a balise group as one message. Definitions alone.
use Rattle.std.specs.Prelude.{Bool, true, false, cond, not, ◌&&◌, ◌||◌, List, [], ◌∷◌, ◌++◌, map, ◌≡◌, ℕ, zero, suc, ◌+◌, min, eqb, leb, length, take, drop, Ok, Err}
use Rattle.std.proofs.Math.Option.{Option, some, none}
use Rattle.bits.specs.Bits.{bytes_for, same}
use Rattle.format.specs.Fields.{Field, N_PIG, N_TOTAL, M_DUP, M_MCOUNT, NID_C, NID_BG, Q_LINK, NID_PACKET, Q_DIR}
use Rattle.format.specs.Refusals.{number_of}
use Rattle.format.specs.Rules.{Terms, Earlier, clash, collides_among}
use Rattle.format.specs.Telegrams.{Entry, Result, bits, bit_count, divided}
use Rattle.format.specs.Telegrams.Result.{accepted, refused}
use Rattle.format.specs.declared.Refusal.{Refusal}
use Rattle.states.specs.Reader.{checked}
use Rattle.group.specs.declared.Cause.{Cause}
use Rattle.group.specs.declared.Cause.TheVariants.{Room, Single, Identity, Counters, Copied, Repeated}
use Rattle.group.specs.declared.Fault.{Fault}
use Rattle.group.specs.Replies.{Reply}

-- ---- the telegrams, in order of arrival

-- bytes, and how many bits of them
pub record Part : Type 0 where
  pub bytes : List ℕ
  pub size : ℕ

-- "lent with the list of their n in one buffer, each from a fresh byte and the last to its end"
unfoldable pub parts : List ℕ → List ℕ → List Part
parts s [] = []
parts s (n ∷ []) = record { bytes = s; size = n } ∷ []
parts s (n ∷ m ∷ ns) = record { bytes = take (bytes_for n) s; size = n } ∷ parts (drop (bytes_for n) s) (m ∷ ns)

-- what they read as: all of them, or "the first refusal of a single telegram in arrival order, with its arrival number from 0"
pub data Arrived : Type 0 where
  all : List (List Entry) → Arrived
  stops : ℕ → Refusal → Arrived

abbrev pub before : List Entry → Arrived → Arrived
before es (all ts) = all (es ∷ ts)
before es (stops i r) = stops i r

abbrev pub arrival : Result → ℕ → Arrived → Arrived
arrival (accepted es) i rest = before es rest
arrival (refused r) i rest = stops i r

unfoldable pub arrived : Terms → ℕ → List Part → Arrived
arrived p i [] = all []
arrived p i (x ∷ xs) = arrival (checked p x.bytes x.size) i (arrived p (suc i) xs)

-- ---- 21: identity and positions

-- what a telegram holds in its first field of this name; of a header's field, in its header
abbrev pub held : Field → List Entry → ℕ
held f [] = 0
held f (e ∷ es) = cond (eqb e.field.number f.number) e.value (held f es)

abbrev pub every : (List Entry → Bool) → List (List Entry) → Bool
every test [] = true
every test (t ∷ ts) = test t && every test ts

-- of any two
abbrev pub pairwise : (List Entry → List Entry → Bool) → List (List Entry) → Bool
pairwise test [] = true
pairwise test (t ∷ ts) = every (test t) ts && pairwise test ts

-- "They must agree in NID_C, NID_BG, Q_LINK and N_TOTAL"
abbrev pub same_in : Field → List Entry → List Entry → Bool
same_in f t u = eqb (held f t) (held f u)

abbrev pub agree : List Entry → List Entry → Bool
agree t u = same_in NID_C t u && same_in NID_BG t u && same_in Q_LINK t u && same_in N_TOTAL t u

-- those with this N_PIG
abbrev pub standing : ℕ → List (List Entry) → List (List Entry)
standing k [] = []
standing k (t ∷ ts) = cond (eqb (held N_PIG t) k) (t ∷ standing k ts) (standing k ts)

-- every N_PIG below k stands once
abbrev pub once : ℕ → List (List Entry) → Bool
once zero ts = true
once (suc k) ts = eqb (length (standing k ts)) 1 && once k ts

-- "A group is 1 to 8 telegrams", "and their N_PIG values must be 0 to N_TOTAL, each once"
unfoldable pub grouped : List (List Entry) → Bool
grouped ts =
    let n = length ts in
    leb 1 n && (leb n 8 && (pairwise agree ts && (every (λ t. eqb (suc (held N_TOTAL t)) n) ts && once n ts)))

-- m of them by their N_PIG, from k on
unfoldable pub in_order : ℕ → ℕ → List (List Entry) → List (List Entry)
in_order k zero ts = []
in_order k (suc m) ts = standing k ts ++ in_order (suc k) m ts

-- ---- 22: counters

-- "By clauses 7.1.6 and 7.1.7 a counter of 254 never matches, and all counters other than 255 must be equal"
abbrev pub matches : List Entry → List Entry → Bool
matches t u = eqb (held M_MCOUNT t) 255 || (eqb (held M_MCOUNT u) 255 || same_in M_MCOUNT t u)

unfoldable pub counted : List (List Entry) → Bool
counted ts = every (λ t. not (eqb (held M_MCOUNT t) 254)) ts && pairwise matches ts

-- ---- 23: copies. The telegrams stand by their N_PIG

-- "its packets must be the same bits": all behind the header; the end mark is the same in all
abbrev pub body : List Entry → List ℕ
body t = drop 50 (bits t)

abbrev pub copy_of : Option (List Entry) → List Entry → Bool
copy_of none t = false
copy_of (some u) t = same (body u) (body t)

abbrev pub first : List (List Entry) → Option (List Entry)
first [] = none
first (t ∷ ts) = some t

-- "M_DUP 1 or 2 names the next or the previous balise"
abbrev pub names_right : Option (List Entry) → List Entry → Option (List Entry) → Bool
names_right previous t following =
    let d = held M_DUP t in cond (eqb d 1) (copy_of following t) (cond (eqb d 2) (copy_of previous t) true)

-- "23 M_DUP naming no balise or one with other packets, at the lowest such N_PIG"
unfoldable pub miscopied : ℕ → Option (List Entry) → List (List Entry) → Option ℕ
miscopied k previous [] = none
miscopied k previous (t ∷ ts) = cond (names_right previous t (first ts)) (miscopied (suc k) (some t) ts) (some k)

-- one of the two names the other
abbrev pub linked : Option (List Entry) → List Entry → Bool
linked none t = false
linked (some u) t = eqb (held M_DUP u) 1 || eqb (held M_DUP t) 2

-- "such copies count once, at the lowest N_PIG": the balises that are no copy of the one before them
pub record Balise : Type 0 where
  pub pig : ℕ
  pub telegram : List Entry

unfoldable pub counting : ℕ → Option (List Entry) → List (List Entry) → List Balise
counting k previous [] = []
counting k previous (t ∷ ts) =
    let rest = counting (suc k) (some t) ts in cond (linked previous t) rest (record { pig = k; telegram = t } ∷ rest)

-- ---- the packets

-- a packet of the message: its balise's N_PIG, its number in its telegram from 0, its NID_PACKET, its Q_DIR and the bit where that begins
pub record Member : Type 0 where
  pub pig : ℕ
  pub number : ℕ
  pub id : ℕ
  pub dir : ℕ
  pub at : ℕ

-- the end mark is none
abbrev pub is_packet : List Entry → Bool
is_packet [] = false
is_packet (e ∷ es) = eqb e.field.number NID_PACKET.number

unfoldable pub packets_from : ℕ → ℕ → ℕ → List (List Entry) → List Member
packets_from k j at [] = []
packets_from k j at (p ∷ ps) =
    cond (is_packet p)
    (record { pig = k; number = j; id = held NID_PACKET p; dir = held Q_DIR p; at = at + NID_PACKET.width } ∷ packets_from k (suc j) (at + bit_count p) ps)
    (packets_from k j at ps)

abbrev pub packets_of : Balise → List Member
packets_of b = let d = divided b.telegram in packets_from b.pig 0 (bit_count d.header) d.packets

-- "each packet's N_PIG and its number in its telegram from 0, in that order"
abbrev pub listed : List Balise → List Member
listed [] = []
listed (b ∷ bs) = packets_of b ++ listed bs

-- "and rule 3) then holds over the group": the first packet that collides with one before it
unfoldable pub collision : List Earlier → List Member → Option Member
collision seen [] = none
collision seen (m ∷ ms) =
    cond (collides_among clash m.id m.dir seen) (some m) (collision (record { id = m.id; dir = m.dir } ∷ seen) ms)

-- ---- the message

-- the number of each cause: "21 identity or positions", "22 counters", "23 M_DUP ..", "then 10"
abbrev pub cause_number : Cause → ℕ
cause_number Room = 1
cause_number (Single k) = number_of k
cause_number Identity = 21
cause_number Counters = 22
cause_number Copied = 23
cause_number Repeated = 10

abbrev pub fault : Cause → ℕ → ℕ → Fault
fault c w a = record { cause = c; which = w; place = a }

pub data Message : Type 0 where
  lists : List Member → Message
  refuses : Fault → Message

abbrev pub uncollided : List Member → Option Member → Message
uncollided ms none = lists ms
uncollided ms (some m) = refuses (fault Repeated m.pig m.at)

abbrev pub uncopied : List (List Entry) → Option ℕ → Message
uncopied ts none = let ms = listed (counting 0 none ts) in uncollided ms (collision [] ms)
uncopied ts (some k) = refuses (fault Copied k 0)

-- of telegrams that stand by their N_PIG
unfoldable pub lined : List (List Entry) → Message
lined ts = cond (counted ts) (uncopied ts (miscopied 0 none ts)) (refuses (fault Counters 0 0))

-- of telegrams as they arrived
unfoldable pub message : List (List Entry) → Message
message ts = cond (grouped ts) (lined (in_order 0 (length ts) ts)) (refuses (fault Identity 0 0))

abbrev pub judged : Arrived → Message
judged (all ts) = message ts
judged (stops i r) = refuses (fault (Single r.kind) i r.place)

-- "1 for room under 264 packets": 8 telegrams of at most 772 bits behind their headers, in packets of at least 23
abbrev pub packets_needed : ℕ
packets_needed = 264

-- "Refusals: 1 ..; the first refusal of a single telegram ..; 21 ..; 22 ..; 23 ..; then 10"
unfoldable pub group : Terms → List ℕ → List ℕ → ℕ → Message
group p s ns room = cond (leb packets_needed room) (judged (arrived p 0 (parts s ns))) (refuses (fault Room 0 0))

-- ---- the promise

-- "it gives their count"
abbrev pub reply_of : Message → Reply
reply_of (lists ms) = Ok (length ms)
reply_of (refuses f) = Err f

-- what a lent run holds then: the packets' numbers in front of what was there behind them; "a refusal leaves everything as it was"
abbrev pub over : (Member → ℕ) → Message → List ℕ → List ℕ
over part (lists ms) before = map part ms ++ drop (length ms) before
over part (refuses f) before = before

-- room is counted in packets: the shorter of the two runs
abbrev pub group_in : Terms → List ℕ → List ℕ → List ℕ → List ℕ → Message
group_in p s ns pigs numbers = group p s ns (min (length pigs) (length numbers))

-- of `message::message`: the answer, and what both runs hold when it returns
pub record Replied (p : Terms) (s ns pigs numbers : List ℕ) (answer : Reply) (pigs' numbers' : List ℕ) : Type 0 where
  pub answers : answer ≡ reply_of (group_in p s ns pigs numbers)
  pub pigs_then : pigs' ≡ over (λ m. m.pig) (group_in p s ns pigs numbers) pigs
  pub numbers_then : numbers' ≡ over (λ m. m.number) (group_in p s ns pigs numbers) numbers
