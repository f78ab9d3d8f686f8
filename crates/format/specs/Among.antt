-- What stands among the entries of a telegram: a packet, and the packet in which they end. Definitions alone.
use Rattle.std.specs.Prelude.{List, [], ◌∷◌, ◌++◌, ◌≡◌, ℕ}
use Rattle.format.specs.Fields.{Field, NID_PACKET, Q_DIR, L_PACKET}
use Rattle.format.specs.Telegrams.{Entry, bit_count}

abbrev pub holding : Field → ℕ → Entry
holding f v = record { field = f; value = v }

-- none of the entries is of the field
abbrev pub Without : Field → List Entry → Type 0
Without f [] = Unit
Without f (e ∷ es) = (e.field ≡ f → ⊥) × Without f es

-- a packet among entries: what stands before it, its NID_PACKET and Q_DIR, and what stands behind them
pub record PacketIn (es : List Entry) (id dir : ℕ) : Type 0 where
  pub before : List Entry
  pub after : List Entry
  pub parts : es ≡ before ++ holding NID_PACKET id ∷ holding Q_DIR dir ∷ after

-- The entries end inside a packet, or with it: what stands before it; the values of its identifier, Q_DIR and L_PACKET; and what was sent of it
-- after these. It is the last packet of its sort, for no identifier stands behind its own. (Of entries that were sent before the end mark.)
pub record Inside (id : Field) (es : List Entry) : Type 0 where
  pub before : List Entry
  pub name : ℕ
  pub dir : ℕ
  pub size : ℕ
  pub after : List Entry
  pub parts : es ≡ before ++ holding id name ∷ holding Q_DIR dir ∷ holding L_PACKET size ∷ after
  pub own : Without id after

module _ {id : Field} {es : List Entry} (h : Inside id es) where
  -- the bit where its L_PACKET begins
  abbrev pub size_at : ℕ
  size_at = bit_count (h.before ++ holding id h.name ∷ holding Q_DIR h.dir ∷ [])

  -- "the number of bits its packet takes", as far as it was sent
  abbrev pub takes : ℕ
  takes = bit_count (holding id h.name ∷ holding Q_DIR h.dir ∷ holding L_PACKET h.size ∷ h.after)

  abbrev pub Fitting : Type 0
  Fitting = h.size ≡ takes

  abbrev pub Misfitting : Type 0
  Misfitting = h.size ≡ takes → ⊥
