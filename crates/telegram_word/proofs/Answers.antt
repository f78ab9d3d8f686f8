-- What a caller of `telegram` learns from each answer, that a word has one form at most, and that 128 bytes are room for every word.
-- Assumes nothing.
use Rattle.std.specs.Prelude.{Some, None, ℕ, Ok, Err, Result}
use mathlib.Core.Path.{◌≡◌, refl, sym, ap, ◌∙◌}
use mathlib.Core.Bool.{Bool, true, false, cond, ◌&&◌}
use mathlib.Core.List.{List, ◌++◌}
use mathlib.Core.Option.{Option, some, none}
use Prim.Native.Nat.{ℕ, suc, ◌≤◌}
use native.Mathlib.Omega.{arith}
use borrow.Author.Tests.{leb-true, leb-false}
use lib.Dec.{leb}
use lib.ListN.{length, take, drop, length-append, length-drop}
use lib.Seq.{take_at, drop_at}
use Rattle.bits.specs.Bits.{bytes_of}
use Rattle.bits.proofs.Bytes.{length_bytes_of}
use Rattle.packing.specs.Packing.{binary, bits_in}
use Rattle.packing.proofs.Lines.{length_bits_in}
use Rattle.words.specs.Words.{up_to, number_in}
use Rattle.telegram_word.specs.Telegrams.{Telegram, telegram, bits_form, in_pairs, bytes_in, counted, hex_form, either, telegram_in, roomy, lent_of, lent_over, Lends}
use Rattle.telegram_word.proofs.Hexes.{pairs_told, length_bytes_in}
use Rattle.telegram_word.proofs.Forms.{colon_no_bits, no_colon_no_hex}
use Rattle.std.specs.Prelude as code
use Rattle.std.specs.Option.{ok_or}
use Rattle.packing.specs.declared.PackError.TheVariants.{Other, Room}
use Rattle.packing.specs.declared.PackError.{PackError}

-- ---- a word is not both bits and HEX:n

pub one_form : (word : List ℕ) (a b : Telegram) → bits_form word ≡ some a → hex_form word ≡ some b → ⊥
one_form word a b x y = by (leb (length word) (up_to 58 word)) refl
  where
    by : (t : Bool) → leb (length word) (up_to 58 word) ≡ t → ⊥
    by true e =
        let n = no_colon_no_hex word (leb-true (length word) (up_to 58 word) e) in
        let z : ◌≡◌ {A = ℕ} 0 1 = cc in
        omega arith
    by false e =
        let n = colon_no_bits word (leb-false (length word) (up_to 58 word) e) in
        let z : ◌≡◌ {A = ℕ} 0 1 = cc in
        omega arith

-- ---- room

module _ (word : List ℕ) (t : Telegram) where
  bits_by : (p q r : Bool) → leb (length word) 1024 ≡ q
      → cond ((p && q) && r) (some (telegram (bytes_of (bits_in word)) (length word))) none ≡ some t → length t.bytes ≤ 128
  bits_by true true true y e =
      let s : bytes_of (bits_in word) ≡ t.bytes = cc in
      let l = length_bytes_of (bits_in word) in
      let w = length_bits_in word in
      let m = leb-true (length word) 1024 y in
      rw (← s) (omega arith)
  bits_by true true false y e = let z : ◌≡◌ {A = ℕ} 0 1 = cc in absurd (omega arith)
  bits_by true false r y e = let z : ◌≡◌ {A = ℕ} 0 1 = cc in absurd (omega arith)
  bits_by false q r y e = let z : ◌≡◌ {A = ℕ} 0 1 = cc in absurd (omega arith)

  bits_few : bits_form word ≡ some t → length t.bytes ≤ 128
  unfolding bits_form
  bits_few = bits_by (leb 1 (length word)) (leb (length word) 1024) (binary word) refl

  hex_by : (text : List ℕ) (p : Bool) (f : code.Option ℕ) → in_pairs text ≡ p → cond p (counted (bytes_in text) f) none ≡ some t → length t.bytes ≤ 128
  hex_by text true (Some n) x e =
      let s : bytes_in text ≡ t.bytes = cc in
      let l = length_bytes_in text in
      let m = (pairs_told text x).0 in
      rw (← s) (omega arith)
  hex_by text true None x e = let z : ◌≡◌ {A = ℕ} 0 1 = cc in absurd (omega arith)
  hex_by text false f x e = let z : ◌≡◌ {A = ℕ} 0 1 = cc in absurd (omega arith)

  hex_few : hex_form word ≡ some t → length t.bytes ≤ 128
  unfolding hex_form
  hex_few = hex_by (take (up_to 58 word) word) (in_pairs (take (up_to 58 word) word)) (number_in (drop (suc (up_to 58 word)) word)) refl

  few_by : (a b : Option Telegram) → bits_form word ≡ a → hex_form word ≡ b → either a b ≡ some t → length t.bytes ≤ 128
  few_by none b x y e = hex_few (y ∙ e)
  few_by (some a) b x y e = bits_few (x ∙ e)

  -- no telegram word has more than 128 bytes
  pub bytes_few : telegram_in word ≡ some t → length t.bytes ≤ 128
  unfolding telegram_in
  bytes_few = few_by (bits_form word) (hex_form word) refl refl

-- ---- what two equal answers hold is equal

err_holds : {A : Type 0} (d e : PackError) → ◌≡◌ {A = Result A PackError} (Err d) (Err e) → d ≡ e
err_holds d e h = cc

-- an error that stands for a value that is not there
pub why_none : {A : Type 0} (o : code.Option A) (d e : PackError) → ◌≡◌ {A = Result A PackError} (Err d) (ok_or o e) → (o ≡ None) × (d ≡ e)
why_none None d e h = (refl, err_holds d e h)
why_none (Some x) d e h = let z : ◌≡◌ {A = ℕ} 0 1 = cc in absurd (omega arith)

ok_holds : {A E : Type 0} (x y : A) → ◌≡◌ {A = Result A E} (Ok x) (Ok y) → x ≡ y
ok_holds x y e = cc

-- of two numbers, part by part
pub ok_parts : {E : Type 0} (a x b y : ℕ) → ◌≡◌ {A = Result (ℕ × ℕ) E} (Ok (a, b)) (Ok (x, y)) → (a ≡ x) × (b ≡ y)
ok_parts a x b y e =
    let p : ◌≡◌ {A = ℕ × ℕ} (a, b) (x, y) = ok_holds (a, b) (x, y) e in
    (ap (λ (q : ℕ × ℕ). q.0) p, ap (λ (q : ℕ × ℕ). q.1) p)

-- ---- what each answer tells

-- k bytes were put, and n was answered: they are the word's, and what lay behind them is kept
pub record Told (t : Option Telegram) (before after : List ℕ) (k n : ℕ) : Type 0 where
  pub is : t ≡ some (telegram (take k after) n)
  pub inside : k ≤ length after
  pub size : length after ≡ length before
  pub behind : drop k after ≡ drop k before

module _ (before : List ℕ) where
  told : (x : Telegram) (b : Bool) (k n : ℕ) → roomy x before ≡ b → cond {A = Result (ℕ × ℕ) PackError} b (Ok (length x.bytes, x.n)) (Err Room) ≡ Ok (k, n)
      → Told (some x) before (cond b (x.bytes ++ drop (length x.bytes) before) before) k n
  told x true k n h e =
      let (j, m) = ok_parts (length x.bytes) k x.n n e in
      let room = leb-true (length x.bytes) (length before) h in
      let l = length-append x.bytes (drop (length x.bytes) before) in
      let d = length-drop (length x.bytes) before in
      rw (← j, ← m)
      (record {
        is = ap (λ (bytes : List ℕ). some (telegram bytes x.n)) (sym (take_at x.bytes (drop (length x.bytes) before) (length x.bytes) refl));
        inside = omega arith;
        size = omega arith;
        behind = drop_at x.bytes (drop (length x.bytes) before) (length x.bytes) refl;
      })
  told x false k n h e = let z : ◌≡◌ {A = ℕ} 0 1 = cc in absurd (omega arith)

  module _ (t : Option Telegram) (answered : Result (ℕ × ℕ) PackError) (after : List ℕ) (h : Lends t before answered after) where
    bytes_by : (o : Option Telegram) (k n : ℕ) → lent_of o before ≡ Ok (k, n) → Told o before (lent_over o before) k n
    bytes_by none k n e = let z : ◌≡◌ {A = ℕ} 0 1 = cc in absurd (omega arith)
    bytes_by (some x) k n e = told x (roomy x before) k n refl e

    pub lent_bytes : (k n : ℕ) → answered ≡ Ok (k, n) → Told t before after k n
    lent_bytes k n e = rw h.contents (bytes_by t k n (sym h.answer ∙ e))

    not_by : (o : Option Telegram) → lent_of o before ≡ Err Other → (o ≡ none) × (lent_over o before ≡ before)
    not_by none e = (refl, refl)
    not_by (some x) e = by (roomy x before) e
      where
        by : (b : Bool) → cond {A = Result (ℕ × ℕ) PackError} b (Ok (length x.bytes, x.n)) (Err Room) ≡ Err Other
            → (some x ≡ none) × (cond b (x.bytes ++ drop (length x.bytes) before) before ≡ before)
        by true e = let z : ◌≡◌ {A = ℕ} 0 1 = cc in absurd (omega arith)
        by false e = let z : ◌≡◌ {A = ℕ} 0 1 = cc in absurd (omega arith)

    pub lent_not : answered ≡ Err Other → (t ≡ none) × (after ≡ before)
    lent_not e = let w = not_by t (sym h.answer ∙ e) in (w.0, h.contents ∙ w.1)

-- "lends enough": with 128 bytes there is room for every word
room_by : (before : List ℕ) (o : Option Telegram) → ((t : Telegram) → o ≡ some t → length t.bytes ≤ 128) → 128 ≤ length before
    → lent_of o before ≡ Err Room → ⊥
room_by before none few h e = let z : ◌≡◌ {A = ℕ} 0 1 = cc in omega arith
room_by before (some x) few h e = by (roomy x before) refl e
  where
    by : (b : Bool) → roomy x before ≡ b → cond {A = Result (ℕ × ℕ) PackError} b (Ok (length x.bytes, x.n)) (Err Room) ≡ Err Room → ⊥
    by true s e = let z : ◌≡◌ {A = ℕ} 0 1 = cc in omega arith
    by false s e = omega (arith, leb-false (length x.bytes) (length before) s, few x refl)

pub never_roomless : (word before : List ℕ) → 128 ≤ length before → lent_of (telegram_in word) before ≡ Err Room → ⊥
never_roomless word before = room_by before (telegram_in word) (bytes_few word)
