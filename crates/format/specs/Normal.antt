-- docs/RULES.md, "Distances and the normal form": what a telegram says, and its normal form. Definitions alone.
use Rattle.std.specs.Prelude.{Bool, true, false, cond, ◌&&◌, List, [], ◌∷◌, ℕ, ◌%◌, ◌^◌, eqb, ltb}
use Rattle.distance.specs.Steps.{step, decimetres, steps}
use Rattle.format.specs.Fields.{Field, Sense}
use Rattle.format.specs.Fields.Sense.{plain, scale, distance, text_length}
use Rattle.format.specs.Telegrams.{Entry}

-- ---- what an entry says

-- how an entry counts: as it was sent, as the scale of what follows it, or as a distance
pub data View : Type 0 where
  kept scales measures : View

-- by its field's sense and its value
abbrev pub view_of : Sense → ℕ → View
view_of (plain r) v = kept
view_of scale v = scales
view_of distance v = measures
-- "Exception: L_TEXTDISPLAY 32767 is unlimited, at every scale"
view_of text_length v = cond (eqb v 32767) kept measures

abbrev pub view : Entry → View
view e = view_of e.field.sense e.value

abbrev pub choose : {A : Type 0} → View → A → A → A → A
choose kept a b c = a
choose scales a b c = b
choose measures a b c = c

-- "equal fields apart from Q_SCALE, distances compared in decimetres": a field's value; of a scale only that it stands there; a distance
pub data Said : Type 0 where
  sent : Field → ℕ → Said
  apart : Field → Said
  long : Field → ℕ → Said

-- what entries say from the scale q on; each scale holds up to the next
unfoldable pub says_under : ℕ → List Entry → List Said
says_under q [] = []
says_under q (e ∷ es) =
    let f = e.field in
    let v = e.value in
    choose (view e) (sent f v) (apart f) (long f (decimetres q v)) ∷ says_under (choose (view e) q v q) es

-- what a telegram says; no distance stands before the first scale
abbrev pub says : List Entry → List Said
says es = says_under 0 es

-- ---- the normal form

-- d decimetres are "a whole number of metres that fits its field", and there a distance
abbrev pub metres : Field → ℕ → Bool
metres f d = eqb (d % step 1) 0 && ltb (steps 1 d) (2 ^ f.width) && choose (view_of f.sense (steps 1 d)) false false true

-- "every finite distance is a whole number of metres that fits its field": up to the next scale
unfoldable pub metric : ℕ → List Entry → Bool
metric q [] = true
metric q (e ∷ es) = let m = metric q es in choose (view e) m true (metres e.field (decimetres q e.value) && m)

-- "each scaled packet uses Q_SCALE 1 if ..; otherwise it keeps its scale"
abbrev pub best : ℕ → List Entry → ℕ
best q es = cond (metric q es) 1 q

abbrev pub put : Entry → ℕ → Entry
put e v = record { field = e.field; value = v }

-- entries that stand under the scale q, told under the scale r: "All other fields, the order and the lengths stay"
unfoldable pub normal_under : ℕ → ℕ → List Entry → List Entry
unfolding metric
normal_under q r [] = []
normal_under q r (e ∷ es) =
    let v = e.value in
    let b = best v es in
    put e (choose (view e) v b (steps r (decimetres q v))) ∷ normal_under (choose (view e) q v q) (choose (view e) r b r) es

abbrev pub normal : List Entry → List Entry
normal es = normal_under 0 0 es
