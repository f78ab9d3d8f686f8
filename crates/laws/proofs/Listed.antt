-- Every field of a run stands in the list of all fields at its number, so that the number tells the field. Assumes nothing.
use mathlib.Core.List.{List, [], ◌∷◌, map}
use mathlib.Core.Path.{◌≡◌, refl, sym, ap, ◌∙◌}
use Prim.Native.Nat.{ℕ, ◌<◌}
use native.Mathlib.Nat.{lt_of_not-le}
use native.Mathlib.Omega.{arith}
use lib.Dec.{eqb}
use lib.ListN.{get_or, get_or-eq_default}
use Rattle.format.specs.Fields.{Field, steers, fields, NID_PACKET, NID_XUSER, END}
use Rattle.format.specs.Packets.{Items, Packet, header, etcs, ctcs}
use Rattle.format.specs.Packets.Items.{end, nest, send, send_if, send_either, send_times}
use Rattle.format.specs.Rules.{State, Terms, begun, named, next}
use Rattle.format.specs.Telegrams.{Entry, Run, Telegram}
use Rattle.format.specs.Telegrams.Run.{last, more}
use Rattle.laws.proofs.Steps.{go_next}
use Rattle.laws.proofs.Every.{Every, IfSome, Throughout, taken, found, every_named, every_next}

-- a field is that of its number in the list of all of them
abbrev pub Known : Field → Type 0
Known f = get_or fields f.number END ≡ f

-- of each entry
abbrev pub AllKnown : List Entry → Type 0
AllKnown [] = Unit
AllKnown (e ∷ es) = Known e.field × AllKnown es

-- past the list stands END, whose own number is 71
pub known_number : (f : Field) → Known f → f.number < 72
unfolding fields
known_number f k =
    lt_of_not-le (λ l. let i : f.number ≡ 71 = ap (λ (g : Field). g.number) (sym k ∙ get_or-eq_default fields END l) in omega arith)

-- ---- the tables

-- the fields that items can send, and then others
abbrev pub sent : Items → List Field → List Field
sent end fs = fs
sent nest fs = NID_XUSER ∷ fs
sent (send f r) fs = f ∷ sent r fs
sent (send_if c f r) fs = steers c ∷ f ∷ sent r fs
sent (send_either c a b) fs = steers c ∷ sent a (sent b fs)
sent (send_times c g r) fs = steers c ∷ sent g (sent r fs)

-- those of all packets of a table
abbrev pub sent_by : List Packet → List Field
sent_by [] = []
sent_by (p ∷ ps) = sent p.items (sent_by ps)

-- that each is the field which a column of fields has at its number, as one equation: the checker computes it for a whole table at once
abbrev pub Same : (ℕ → Field) → List Field → Type 0
Same column fs = map (λ f. column f.number) fs ≡ fs

-- a first part, and a second from what is left
both : {A B C D : Type 0} → A × B → (B → C × D) → (A × C) × D
both a g = let b = g a.1 in ((a.0, b.0), b.1)

-- what is true of each field that stands in the column at its number
module _ (column : ℕ → Field) (P : Field → Type 0) (holds : (f : Field) → column f.number ≡ f → P f) where
  -- the equation, taken apart: of the first field, and of the rest
  first_same : {f : Field} {fs : List Field} → Same column (f ∷ fs) → P f × Same column fs
  first_same {f} h = (holds f (cc), cc)

  -- of items, and of the rest
  pub same_every : (t : Items) (fs : List Field) → Same column (sent t fs) → Every P t × Same column fs
  same_every end fs h = (tt, h)
  same_every nest fs h = first_same h
  same_every (send f r) fs h = both (first_same h) (same_every r fs)
  same_every (send_if c f r) fs h = both (first_same h) (λ i. both (first_same i) (same_every r fs))
  same_every (send_either c a b) fs h = both (first_same h) (λ i. both (same_every a (sent b fs) i) (same_every b fs))
  same_every (send_times c g r) fs h = both (first_same h) (λ i. both (same_every g (sent r fs) i) (same_every r fs))

  -- of every packet of a table
  pub table_every : (ps : List Packet) → Same column (sent_by ps) → Throughout (Every P) ps
  table_every [] h = tt
  table_every (p ∷ ps) h = let k = same_every p.items (sent_by ps) h in (k.0, table_every ps k.1)

abbrev in_list : ℕ → Field
in_list n = get_or fields n END

-- it holds of the header and of both tables
tables_same : Same in_list (sent header []) × (Same in_list (sent_by etcs) × Same in_list (sent_by ctcs))
unfolding header etcs ctcs fields
tables_same = (refl, (refl, refl))

table_known : (ps : List Packet) → Same in_list (sent_by ps) → Throughout (Every Known) ps
table_known ps h = table_every in_list Known (λ f e. e) ps h

-- ---- a run

-- of the field that is due, whatever its value
known_due : (t : Items) (v : ℕ) → Every Known t → Known (named t v)
unfolding fields
known_due t v k = every_named Known t v k (λ e. taken Known (eqb v 255) END NID_PACKET refl refl)

-- and of what comes next
known_next : (t : Items) (v : ℕ) → Every Known t → IfSome (Every Known) (next t v)
known_next t v k =
    every_next Known t v k (λ e. found (Every Known) v etcs (table_known etcs tables_same.1.0))
    (λ e. found (Every Known) v ctcs (table_known ctcs tables_same.1.1))

-- every field of a run is known, from any state that has only known ones to send
pub listed : (p : Terms) {s : State} {es : List Entry} → Every Known s.todo → Run p s es → AllKnown es
listed p k (last {s = s} {v = v} f e) = (known_due s.todo v k, tt)
listed p k (more {s = s} {v = v} {t = t} {c = c} f e r) =
    (known_due s.todo v k, listed p (rw (go_next p s v t c e) at (known_next s.todo v k)) r)

-- and so of a telegram, which begins with the header
pub telegram_listed : (p : Terms) {es : List Entry} → Telegram p es → AllKnown es
unfolding begun
telegram_listed p r = listed p (same_every in_list Known (λ f e. e) header [] tables_same.0).0 r
