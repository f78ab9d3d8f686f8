-- In reading, the bits at the place of a refusal are those of the field that it is about. Assumes nothing.
use mathlib.Core.Bool.{Bool, true, false}
use mathlib.Core.List.{List, [], ◌∷◌, ◌++◌, append_assoc}
use mathlib.Core.Path.{◌≡◌, refl, sym, ap, ◌∙◌}
use Prim.Native.Nat.{ℕ, ◌<◌, ◌≤◌}
use native.Mathlib.Omega.{arith}
use borrow.Author.Tests.{leb-false}
use lib.Dec.{leb}
use lib.ListN.{length, take, drop, length-append}
use lib.Seq.{take_at, drop_at}
use Rattle.bits.specs.Bits.{Below}
use Rattle.bits.proofs.Digits.{length_digits}
use Rattle.bits.proofs.Bytes.{below_drop}
use Rattle.format.specs.Among.{holding, Inside, size_at}
use Rattle.format.specs.Fields.{Field, Q_DIR, L_PACKET}
use Rattle.format.specs.Rules.{State, Terms, Level, field}
use Rattle.format.specs.Telegrams.{Entry, entry, got_if, from_bits, bits_in, bits, bit_count}
use Rattle.format.specs.Telegrams.Taken.{got, lacks}
use Rattle.format.specs.declared.Kind.{Kind}
use Rattle.format.specs.declared.Kind.TheVariants.{Ended}
use Rattle.format.specs.declared.Refusal.{Refusal}
use Rattle.laws.proofs.Sources.{Sent, from_bits_lem}
use Rattle.laws.proofs.Round.{all_append}
use Rattle.laws.proofs.Demand2.{length_bits}
use Rattle.laws.proofs.Points.{Sends, within, Wrong, wrong_size, Points, Pointed}
use Rattle.laws.proofs.Points.Wrong.{alone, inner, outer}
use Rattle.laws.proofs.Points.Points.{lacking, breaking, sizing, trailing}
use Rattle.laws.proofs.Pointed.{sends_at, one_front}

-- the bits from a place on begin with those of an entry
abbrev pub At : List ℕ → ℕ → Entry → Type 0
At bs x e = take e.field.width (drop x bs) ≡ bits_in e

-- What stands in the bits at the place of a refusal: less than the field that is due; the field whose value breaks a rule; the L_PACKET
-- that is wrong; or a bit that follows the end mark.
abbrev pub Shown : {p : Terms} {es : List Entry} {s : State} {xs : List ℕ} {r : Refusal} → List ℕ → Points p from_bits es s xs r → Type 0
Shown {s = s} {r = r} bs (lacking e m) = length (drop r.place bs) < (field s).width
Shown {s = s} {r = r} bs (breaking {v = v} e f o) = At bs r.place (entry s v)
Shown {r = r} bs (sizing e f w) = At bs r.place (wrong_size w)
Shown {r = r} bs (trailing {y = y} {ys = ys} e f) = drop r.place bs ≡ y ∷ ys

-- ---- entries in their bits

bits_left : {bs : List ℕ} (es : List Entry) (ys : List ℕ) → bs ≡ bits es ++ ys → drop (bit_count es) bs ≡ ys
bits_left es ys i = ap (drop (bit_count es)) i ∙ drop_at (bits es) ys (bit_count es) (length_bits es)

pub length_bits_in : (e : Entry) → length (bits_in e) ≡ e.field.width
unfolding bits_in
length_bits_in e = length_digits e.field.width e.value

-- an entry among others stands where those before it end
among : {bs : List ℕ} (es : List Entry) (e : Entry) (fs : List Entry) (ys : List ℕ) → bs ≡ bits (es ++ e ∷ fs) ++ ys → At bs (bit_count es) e
among es e fs ys i =
    let j = i ∙ ap (λ (l : List ℕ). l ++ ys) (all_append bits_in es (e ∷ fs)) ∙ append_assoc (bits es) (bits (e ∷ fs)) ys in
    rw (bits_left es (bits (e ∷ fs) ++ ys) j, append_assoc (bits_in e) (bits fs) ys) (take_at (bits_in e) (bits fs ++ ys) e.field.width (length_bits_in e))

-- and so does the L_PACKET of a packet
size_among : {bs : List ℕ} {id : Field} {es : List Entry} (h : Inside id es) (ys : List ℕ) → bs ≡ bits es ++ ys
    → At bs (size_at h) (holding L_PACKET h.size)
size_among {id = id} h ys i =
    let ahead : List Entry = holding id h.name ∷ holding Q_DIR h.dir ∷ [] in
    let size : Entry = holding L_PACKET h.size in
    among (h.before ++ ahead) size h.after ys
    (i ∙ ap (λ (l : List Entry). bits l ++ ys) (h.parts ∙ sym (append_assoc h.before ahead (size ∷ h.after))))

wrong_among : {bs : List ℕ} {es : List Entry} {l : Level} {x : ℕ} (w : Wrong es l x) (ys : List ℕ) → bs ≡ bits es ++ ys → At bs x (wrong_size w)
wrong_among (alone h m) ys i = size_among h ys i
wrong_among (inner o h m) ys i = size_among (within o h) ys i
wrong_among (outer o h f m) ys i = size_among o ys i

-- ---- what is left

few_left : (s : State) (bs : List ℕ) (k : Kind) → from_bits s bs ≡ lacks k → length bs < (field s).width
unfolding from_bits
few_left s bs k e = by_test (leb (field s).width (length bs)) _ _ refl e
  where
    by_test : (b : Bool) (v : ℕ) (ys : List ℕ) → leb (field s).width (length bs) ≡ b → got_if b Ended v ys ≡ lacks k → length bs < (field s).width
    by_test true v ys t i = let z : ◌≡◌ {A = ℕ} 0 1 = cc in absurd (omega arith)
    by_test false v ys t i = leb-false (field s).width (length bs) t

-- ---- reading

module _ {p : Terms} (bs : List ℕ) (b : Below 2 bs) (n : length bs ≤ 830) where
  module _ {es : List Entry} {s : State} (xs : List ℕ) (sends : Sends p es s) (front : bs ≡ bits es ++ xs) where
    left_good : Sent s xs
    left_good =
        let a = sends_at sends in
        let l = length_bits es in
        let m = length-append (bits es) xs in
        let f = ap length front in
        record { bits = rw (bits_left es xs front) at (below_drop 2 (bit_count es) bs b); room = omega arith }

    -- with the field that is due
    with_field : (v : ℕ) (ys : List ℕ) → from_bits s xs ≡ got v ys → bs ≡ bits (es ++ (entry s v ∷ [])) ++ ys
    with_field v ys e =
        one_front bits_in es (entry s v) ys (front ∙ ap (λ (l : List ℕ). bits es ++ l) (from_bits_lem.taken s v xs ys left_good e).front)

    shown : {r : Refusal} (h : Points p from_bits es s xs r) → Shown bs h
    shown (lacking {k = k} e m) = rw (bits_left es xs front) (few_left s xs k e)
    shown (breaking {v = v} {ys = ys} e f o) = among es (entry s v) [] ys (with_field v ys e)
    shown (sizing {v = v} {ys = ys} e f w) = wrong_among w ys (with_field v ys e)
    shown (trailing {v = v} {y = y} {ys = ys} e f) = bits_left (es ++ (entry s v ∷ [])) (y ∷ ys) (with_field v (y ∷ ys) e)

  pub read_shown : {r : Refusal} (h : Pointed p from_bits bits_in bs r) → Shown bs h.points
  read_shown h = shown h.left h.sends h.front h.points
