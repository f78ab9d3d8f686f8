-- Demand 1: "Each refusal has a number and a place by fixed rules, is given exactly when its rule is broken first". Which entries begin a telegram
-- lawfully, which refusal is given, and what is accepted. Definitions alone.
use Rattle.std.specs.Prelude.{List, [], ◌∷◌, ◌++◌, ◌≡◌, ℕ, ◌≤◌}
use Rattle.std.proofs.Math.Option.{some}
use Rattle.format.specs.Among.{holding}
use Rattle.format.specs.Fields.{END}
use Rattle.format.specs.Packets.{Items, header}
use Rattle.format.specs.Packets.Items.{end}
use Rattle.format.specs.Rules.{named, next}
use Rattle.format.specs.Telegrams.{Entry, all}
use Rattle.format.specs.declared.Kind.{Kind}
use Rattle.format.specs.declared.Kind.TheVariants.{Room, Size, Padding, Header, Ended, Unknown, Value, Length, Direction, Repeated, Trailing, Wide, Full}
use Rattle.format.specs.declared.Refusal.{Refusal}
use Rattle.given.specs.Broken.{Keeps, Medium, part_in, Broken}

-- ---- a lawful beginning

-- Fields with their values that begin a telegram, each of which keeps every rule, and what the tables still want of the header or packet in hand
pub data Lawful : List Entry → Items → Type 0 where
  nothing : Lawful [] header
  one_more : {es : List Entry} {t u : Items} (v : ℕ) → Lawful es t → Keeps es t v → next t v ≡ some u → Lawful (es ++ (holding (named t v) v ∷ [])) u

-- ---- which refusal is given

-- "At one field: 5, 12, 13, then 4, 6 or 7, then 9 (inner Q_DIR) or 10 (outer Q_DIR). 8 is tested after a packet's last field"; 11 comes behind the last. (1 to
-- 3 are never broken at a field)
abbrev pub rank : Kind → ℕ
rank Room = 0
rank Size = 0
rank Padding = 0
rank Ended = 1
rank Wide = 2
rank Full = 3
rank Header = 4
rank Unknown = 4
rank Value = 4
rank Direction = 5
rank Repeated = 5
rank Length = 6
rank Trailing = 7

-- The rule of this refusal is broken first: all fields before keep every rule, and their bits or values are the front of the whole; the next field breaks this
-- rule, at this place, and no rule that comes before it in the order.
pub record Given (m : Medium) (whole : List ℕ) (r : Refusal) : Type 0 where
  pub sent : List Entry
  pub todo : Items
  pub left : List ℕ
  pub lawful : Lawful sent todo
  pub front : whole ≡ all (part_in m) sent ++ left
  pub broken : Broken m sent todo left r.kind r.place
  pub first : (k : Kind) (x : ℕ) → Broken m sent todo left k x → rank r.kind ≤ rank k

-- ---- what is accepted

-- entries that are a telegram: a lawful beginning after which nothing of a packet is left to send, and the end mark, which keeps every rule too
pub record Kept (es : List Entry) : Type 0 where
  pub sent : List Entry
  pub lawful : Lawful sent end
  pub mark : Keeps sent end 255
  pub ends : es ≡ sent ++ (holding END 255 ∷ [])

-- bits, or values, that are just a telegram's: no rule is broken anywhere, and nothing follows
pub record Accepted (m : Medium) (whole : List ℕ) (es : List Entry) : Type 0 where
  pub kept : Kept es
  pub same : whole ≡ all (part_in m) es
