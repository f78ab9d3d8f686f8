-- The header's fields of an accepted telegram: what stands in its bits is what the definitions call held. Assumes nothing.
use mathlib.Core.List.{List, [], ◌∷◌, ◌++◌}
use mathlib.Core.Option.{some}
use mathlib.Core.Path.{◌≡◌, refl, sym, ap, ◌∙◌}
use Prim.Native.Nat.{ℕ, ◌+◌, ◌*◌, ◌^◌, ◌≤◌, ◌<◌}
use native.Mathlib.Omega.{arith}
use lib.ListN.{length, take, drop, length-drop, take-append-drop}
use lib.Seq.{take_at, drop_at, take-append-le, drop-append-le, length-take-le}
use Rattle.bits.specs.Bits.{digits, value_of, bits_of, bytes_for}
use Rattle.bits.specs.Take.{field_bits}
use Rattle.bits.proofs.Digits.{length_digits, value_of_digits}
use Rattle.bits.proofs.Bytes.{bits_of_append, length_bits_of}
use Rattle.format.specs.Among.{holding}
use Rattle.format.specs.Fields.{Field, Q_UPDOWN, M_VERSION, Q_MEDIA, N_PIG, N_TOTAL, M_DUP, M_MCOUNT, NID_C, NID_BG, Q_LINK}
use Rattle.format.specs.Packets.{Items, header}
use Rattle.format.specs.Packets.Items.{end, send}
use Rattle.format.specs.Rules.{State, Terms, begun, next, moved}
use Rattle.format.specs.Telegrams.{Entry, bits, bits_in, bit_count, Run, Telegram}
use Rattle.format.specs.Telegrams.Run.{last, more}
use Rattle.laws.proofs.Round.{all_append}
use Rattle.laws.proofs.Demand2.{length_bits}
use Rattle.laws.proofs.Steps.{going_on, over_mark, go_next}
use Rattle.states.proofs.Answers.{Sound, check_judges, sized_is}
use Rattle.headers.specs.Headers.{number_at}
use Rattle.headers.proofs.Numbers.{number_is}
use Rattle.headers.proofs.Same.{cut_in}
use Rattle.group.specs.Groups.{held}
use Rattle.group.specs.Walks.{Front}

-- ---- the first ten entries

-- entries that are sent where these items are due
record From (p : Terms) (t : Items) (es : List Entry) : Type 0 where
  state : State
  due : state.todo ≡ t
  run : Run p state es

-- the first is of this field, and the others are sent from there
record Goes (p : Terms) (f : Field) (t : Items) (es : List Entry) : Type 0 where
  value : ℕ
  small : value < 2 ^ f.width
  rest : List Entry
  is : es ≡ holding f value ∷ rest
  on : From p t rest

run_on : {p : Terms} {s : State} {es : List Entry} → Run p s es → (f : Field) (r : Items) → s.todo ≡ send f r → Goes p f r es
unfolding next
run_on {p} (last {s = s} {v = v} k e) f r i = going_on s.todo (rw i tt) (over_mark p s v e).0
run_on {p} (more {s = s} {v = v} {t = t} {c = c} {es = es} k e w) f r i =
    let n : some r ≡ some t = (rw i at (go_next p s v t c e)) in
    record { value = v; small = (rw i at k.small); rest = es; is = rw i refl; on = record { state = moved s t c; due = cc; run = w } }

from_on : {p : Terms} {f : Field} {r : Items} {es : List Entry} → From p (send f r) es → Goes p f r es
from_on {f = f} {r = r} g = run_on g.run f r g.due

-- a field's entry with what stands before it
pub record Stands (f : Field) (at : ℕ) (es : List Entry) : Type 0 where
  pub before : List Entry
  pub value : ℕ
  pub after : List Entry
  pub is : es ≡ before ++ holding f value ∷ after
  pub bit : bit_count before ≡ at
  pub small : value < 2 ^ f.width
  pub first : held f es ≡ value

pub record Headed (es : List Entry) : Type 0 where
  pub pig : Stands N_PIG 9 es
  pub total : Stands N_TOTAL 12 es
  pub dup : Stands M_DUP 15 es
  pub count : Stands M_MCOUNT 17 es
  pub country : Stands NID_C 25 es
  pub group : Stands NID_BG 35 es
  pub link : Stands Q_LINK 49 es

pub telegram_headed : {p : Terms} {es : List Entry} → Telegram p es → Headed es
unfolding begun header
telegram_headed {p} {es} t =
    let a = run_on t Q_UPDOWN (send M_VERSION (send Q_MEDIA (send N_PIG (send N_TOTAL (send M_DUP (send M_MCOUNT (send NID_C (send NID_BG (send Q_LINK end))))))))) refl in
    let b = from_on a.on in
    let c = from_on b.on in
    let d = from_on c.on in
    let e = from_on d.on in
    let f = from_on e.on in
    let g = from_on f.on in
    let h = from_on g.on in
    let i = from_on h.on in
    let j = from_on i.on in
    let xa = holding Q_UPDOWN a.value in
    let xb = holding M_VERSION b.value in
    let xc = holding Q_MEDIA c.value in
    let xd = holding N_PIG d.value in
    let xe = holding N_TOTAL e.value in
    let xf = holding M_DUP f.value in
    let xg = holding M_MCOUNT g.value in
    let xh = holding NID_C h.value in
    let xi = holding NID_BG i.value in
    let xj = holding Q_LINK j.value in
    let r : es ≡ xa ∷ xb ∷ xc ∷ xd ∷ xe ∷ xf ∷ xg ∷ xh ∷ xi ∷ xj ∷ j.rest =
    a.is ∙ ap (λ l. xa ∷ l) (b.is ∙ ap (λ l. xb ∷ l) (c.is ∙ ap (λ l. xc ∷ l) (d.is ∙ ap (λ l. xd ∷ l) (e.is ∙ ap (λ l. xe ∷ l)
    (f.is ∙ ap (λ l. xf ∷ l) (g.is ∙ ap (λ l. xg ∷ l) (h.is ∙ ap (λ l. xh ∷ l) (i.is ∙ ap (λ l. xi ∷ l) j.is)))))))) in
    record {
      pig = record { before = xa ∷ xb ∷ xc ∷ []; value = d.value; after = _; is = r; bit = refl; small = d.small; first = ap (held N_PIG) r };
      total = record { before = xa ∷ xb ∷ xc ∷ xd ∷ []; value = e.value; after = _; is = r; bit = refl; small = e.small; first = ap (held N_TOTAL) r };
      dup = record { before = xa ∷ xb ∷ xc ∷ xd ∷ xe ∷ []; value = f.value; after = _; is = r; bit = refl; small = f.small; first = ap (held M_DUP) r };
      count = record { before = xa ∷ xb ∷ xc ∷ xd ∷ xe ∷ xf ∷ []; value = g.value; after = _; is = r; bit = refl; small = g.small; first = ap (held M_MCOUNT) r };
      country = record { before = xa ∷ xb ∷ xc ∷ xd ∷ xe ∷ xf ∷ xg ∷ []; value = h.value; after = _; is = r; bit = refl; small = h.small; first = ap (held NID_C) r };
      group = record { before = xa ∷ xb ∷ xc ∷ xd ∷ xe ∷ xf ∷ xg ∷ xh ∷ []; value = i.value; after = _; is = r; bit = refl; small = i.small; first = ap (held NID_BG) r };
      link = record { before = xa ∷ xb ∷ xc ∷ xd ∷ xe ∷ xf ∷ xg ∷ xh ∷ xi ∷ []; value = j.value; after = _; is = r; bit = refl; small = j.small; first = ap (held Q_LINK) r };
    }

-- ---- and their bits

bits_at : (xs : List Entry) (f : Field) (v : ℕ) (ys : List Entry) → take f.width (drop (bit_count xs) (bits (xs ++ holding f v ∷ ys))) ≡ digits f.width v
unfolding bits_in
bits_at xs f v ys =
    rw (all_append bits_in xs (holding f v ∷ ys), drop_at (bits xs) (bits (holding f v ∷ ys)) (bit_count xs) (length_bits xs))
    (take_at (digits f.width v) (bits ys) f.width (length_digits f.width v))

-- of bytes of which more follow
pub cut_on : (a b : List ℕ) (o w : ℕ) → o + w ≤ 8 * length a → take w (drop o (bits_of (a ++ b))) ≡ take w (drop o (bits_of a))
cut_on a b o w h =
    let m = length_bits_of a in
    let n = length-drop o (bits_of a) in
    rw (bits_of_append a b, drop-append-le o (bits_of a) (bits_of b) (omega arith), take-append-le w (drop o (bits_of a)) (bits_of b) (omega arith))

module _ {p : Terms} {u : List ℕ} {n : ℕ} {es : List Entry} (q : Front p u n es) where
  pub front_sound : Sound p (take (bytes_for n) u) n es
  front_sound = ((check_judges p (take (bytes_for n) u) n).accepts es).0 q.reads

  pub front_size : (58 ≤ n) × (n ≤ 830)
  front_size = let z = (sized_is (take (bytes_for n) u) n).0 front_sound.size in (z.0, z.1)

  -- its bits are the first of those bytes
  pub front_bits : (o w : ℕ) → o + w ≤ n → field_bits u w o ≡ take w (drop o (bits es))
  front_bits o w h =
      let k = bytes_for n in
      let l : length (take k u) ≡ k = length-take-le k u q.few in
      let m = length_bits_of (take k u) in
      let e : take w (drop o (bits_of (take k u ++ drop k u))) ≡ take w (drop o (bits_of (take k u))) = cut_on (take k u) (drop k u) o w (omega arith) in
      (rw (take-append-drop k u) at e) ∙ sym (cut_in (bits_of (take k u)) o w n h (omega arith)) ∙ ap (λ b. take w (drop o b)) front_sound.is

  -- where n bits are looked for in so many, they are there
  front_room : (m : ℕ) → m ≤ n → m ≤ 8 * length u
  front_room m h = let f = q.few in omega arith

  -- a header's field
  pub front_held : {f : Field} {at : ℕ} → Stands f at es → at + f.width ≤ 58 → number_at u 58 at f.width ≡ held f es
  front_held {f} {at} d h =
      let z = front_size in
      number_is u 58 at f.width (omega arith) h (front_room 58 z.0)
      ∙ ap value_of (front_bits at f.width (omega arith) ∙ rw (d.is, ← d.bit) (bits_at d.before f d.value d.after))
      ∙ value_of_digits f.width d.value d.small ∙ sym d.first

  -- any field, by what stands before it
  pub front_number : (xs : List Entry) (f : Field) (v : ℕ) (ys : List Entry) → es ≡ xs ++ holding f v ∷ ys → v < 2 ^ f.width → bit_count xs + f.width ≤ n
      → value_of (field_bits u f.width (bit_count xs)) ≡ v
  front_number xs f v ys e h k =
      ap value_of (front_bits (bit_count xs) f.width k ∙ rw e (bits_at xs f v ys)) ∙ value_of_digits f.width v h

  pub front_headed : Headed es
  front_headed = telegram_headed front_sound.telegram
