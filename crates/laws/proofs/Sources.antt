-- What a source of values must be for the laws of telegrams to hold of it, and that a string of bits and a list of values are such
-- sources. Assumes nothing.
use mathlib.Core.Bool.{Bool, true, false, cond, ◌&&◌}
use mathlib.Core.List.{List, [], ◌∷◌, ◌++◌}
use mathlib.Core.Path.{◌≡◌, refl, sym, ap, ◌∙◌, subst}
use Prim.Native.Nat.{ℕ, ◌+◌, ◌^◌, ◌<◌, ◌≤◌}
use native.Mathlib.Omega.{arith}
use borrow.Author.Tests.{leb-true, ltb-true, le-leb, lt-leb, lt-ltb}
use lib.Dec.{leb, ltb, eqb, T, leb→le}
use lib.ListN.{length, take, drop, length-append, take-append-drop, length-drop}
use lib.Seq.{take_at, drop_at, length-take-le}
use Rattle.bits.specs.Bits.{digits, value_of, Below}
use Rattle.bits.proofs.Digits.{length_digits, value_of_digits, value_of_lt, digits_value_of_at}
use Rattle.bits.proofs.Bytes.{below_take, below_drop}
use Rattle.format.specs.Fields.{Field, NID_PACKET, END}
use Rattle.format.specs.Packets.{Items}
use Rattle.format.specs.Packets.Items.{end, nest, send, send_if, send_either, send_times}
use Rattle.format.specs.Rules.{State, Context, due, named, field, past, moved}
use Rattle.format.specs.Telegrams.{Entry, entry, Taken, got_if, fitted, from_bits, from_values, bits_in, values_in, Fits}
use Rattle.format.specs.Telegrams.Taken.{got, lacks}
use Rattle.format.specs.declared.Kind.TheVariants.{Ended}

-- a value was taken: it fits, it stood in front, and what is left is good for whatever comes next
pub record Had (part : Entry → List ℕ) (Good : State → List ℕ → Type 0) (s : State) (v : ℕ) (xs ys : List ℕ) : Type 0 where
  pub fits : Fits s v
  pub front : xs ≡ part (entry s v) ++ ys
  pub good : (t : Items) (c : Context) → Good (moved s t c) ys

-- A source goes by the parts of entries: what it takes fits and stood in front, it gives any value that fits and stands in front, no
-- part is empty, and where nothing is left it says that the source ended.
pub record Source (source : State → List ℕ → Taken) (part : Entry → List ℕ) (Good : State → List ℕ → Type 0) : Type 0 where
  pub taken : (s : State) (v : ℕ) (xs ys : List ℕ) → Good s xs → source s xs ≡ got v ys → Had part Good s v xs ys
  pub gives : (s : State) (v : ℕ) (ys : List ℕ) → Fits s v → source s (part (entry s v) ++ ys) ≡ got v ys
  pub some : (e : Entry) → 0 < length (part e)
  pub none : (s : State) → source s [] ≡ lacks Ended

-- ---- the width of a field

left : (a b : Bool) → T (a && b) → T a
left true b h = tt
left false b h = h

pub width_positive : (f : Field) → 0 < f.width
width_positive f = leb→le 1 f.width (left (leb 1 f.width) (leb f.width 64) f.sized)

-- under whatever name its value is sent, the field that is due has one width
pub width_named : (t : Items) (v : ℕ) → (named t v).width ≡ (due t).width
width_named end v = by_test (eqb v 255)
  where
    by_test : (b : Bool) → (cond b END NID_PACKET).width ≡ 8
    by_test true = refl
    by_test false = refl
width_named nest v = refl
width_named (send f r) v = refl
width_named (send_if c f r) v = refl
width_named (send_either c a b) v = refl
width_named (send_times c g r) v = refl

-- ---- bits

-- a string of bits from a state on, that ends by bit 830
pub record Sent (s : State) (bs : List ℕ) : Type 0 where
  pub bits : Below 2 bs
  pub room : s.at + length bs ≤ 830

pub bits_in_entry : (s : State) (v : ℕ) → bits_in (entry s v) ≡ digits (field s).width v
unfolding bits_in
bits_in_entry s v = ap (λ (w : ℕ). digits w v) (width_named s.todo v)

bits_had : (s : State) (v : ℕ) (bs ys : List ℕ) (b : Bool) → Sent s bs → leb (field s).width (length bs) ≡ b
    → got_if b Ended (value_of (take (field s).width bs)) (drop (field s).width bs) ≡ got v ys → Had bits_in Sent s v bs ys
bits_had s v bs ys true g e h =
    let w = (field s).width in
    let l : w ≤ length bs = leb-true w (length bs) e in
    let n : length (take w bs) ≡ w = length-take-le w bs l in
    let b = below_take 2 w bs g.bits in
    let ev : value_of (take w bs) ≡ v = cc in
    let ey : drop w bs ≡ ys = cc in
    rw (← ev, ← ey)
    (record {
      fits = record { small = subst (λ (k : ℕ). value_of (take w bs) < 2 ^ k) n (value_of_lt (take w bs) b); room = omega arith };
      front = sym (take-append-drop w bs)
          ∙ ap (λ (l : List ℕ). l ++ drop w bs) (sym (bits_in_entry s (value_of (take w bs)) ∙ digits_value_of_at w (take w bs) b n));
      good = λ t c. record { bits = below_drop 2 w bs g.bits; room = omega (arith, length-drop w bs) };
    })
bits_had s v bs ys false g e h = let z : ◌≡◌ {A = ℕ} 0 1 = cc in absurd (omega arith)

bits_taken : (s : State) (v : ℕ) (bs ys : List ℕ) → Sent s bs → from_bits s bs ≡ got v ys → Had bits_in Sent s v bs ys
unfolding from_bits
bits_taken s v bs ys g h = bits_had s v bs ys (leb (field s).width (length bs)) g refl h

bits_given : (s : State) (v : ℕ) (ys : List ℕ) → Fits s v → from_bits s (bits_in (entry s v) ++ ys) ≡ got v ys
unfolding from_bits
bits_given s v ys f =
    let w = (field s).width in
    rw (
      bits_in_entry s v,
      le-leb w (length (digits w v ++ ys)) (rw (length-append (digits w v) ys, length_digits w v) (omega arith)),
      take_at (digits w v) ys w (length_digits w v),
      drop_at (digits w v) ys w (length_digits w v),
      value_of_digits w v f.small,
    )

bits_some : (e : Entry) → 0 < length (bits_in e)
unfolding bits_in
bits_some e = rw (length_digits e.field.width e.value) (width_positive e.field)

bits_none : (s : State) → from_bits s [] ≡ lacks Ended
unfolding from_bits
bits_none s = rw (lt-leb (field s).width 0 (width_positive (field s)))

pub from_bits_lem : Source from_bits bits_in Sent
from_bits_lem = record { taken = bits_taken; gives = bits_given; some = bits_some; none = bits_none }

-- ---- values

-- any list of values may be written from
abbrev pub Listed : State → List ℕ → Type 0
Listed s vs = Unit

values_had : (s : State) (v u : ℕ) (vs ys : List ℕ) (a b : Bool) → ltb u (2 ^ (field s).width) ≡ a → leb (past s) 830 ≡ b
    → fitted a b u vs ≡ got v ys → Had values_in Listed s v (u ∷ vs) ys
unfolding values_in
values_had s v u vs ys true true ha hb h =
    let ev : u ≡ v = cc in
    let ey : vs ≡ ys = cc in
    rw (← ev, ← ey)
    (record { fits = record { small = ltb-true u (2 ^ (field s).width) ha; room = leb-true (past s) 830 hb }; front = refl; good = λ t c. tt })
values_had s v u vs ys true false ha hb h = let z : ◌≡◌ {A = ℕ} 0 1 = cc in absurd (omega arith)
values_had s v u vs ys false b ha hb h = let z : ◌≡◌ {A = ℕ} 0 1 = cc in absurd (omega arith)

values_taken : (s : State) (v : ℕ) (vs ys : List ℕ) → Listed s vs → from_values s vs ≡ got v ys → Had values_in Listed s v vs ys
unfolding from_values
values_taken s v [] ys g h = let z : ◌≡◌ {A = ℕ} 0 1 = cc in absurd (omega arith)
values_taken s v (u ∷ vs) ys g h = values_had s v u vs ys (ltb u (2 ^ (field s).width)) (leb (past s) 830) refl refl h

values_given : (s : State) (v : ℕ) (ys : List ℕ) → Fits s v → from_values s (values_in (entry s v) ++ ys) ≡ got v ys
unfolding from_values values_in
values_given s v ys f = rw (lt-ltb v (2 ^ (field s).width) f.small, le-leb (past s) 830 f.room)

values_some : (e : Entry) → 0 < length (values_in e)
unfolding values_in
values_some e = omega arith

values_none : (s : State) → from_values s [] ≡ lacks Ended
unfolding from_values
values_none s = refl

pub from_values_lem : Source from_values values_in Listed
from_values_lem = record { taken = values_taken; gives = values_given; some = values_some; none = values_none }
