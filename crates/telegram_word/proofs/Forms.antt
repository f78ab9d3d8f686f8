-- The two forms of a telegram word: what each way through the code answers, and that a word with a colon is no bits, one without no HEX:n.
-- Assumes nothing.
use Rattle.std.specs.Prelude.{Some, None, ℕ, Ok, Err, Result}
use mathlib.Core.Path.{◌≡◌, refl, sym, ap, ◌∙◌, subst}
use mathlib.Core.Bool.{Bool, true, false, cond, ◌&&◌, and-false}
use mathlib.Core.List.{List, [], ◌∷◌, ◌++◌}
use mathlib.Core.Option.{Option, some, none}
use Prim.Native.Nat.{ℕ, suc, ◌+◌, ◌-◌, ◌*◌, ◌/◌, ◌≤◌, ◌<◌}
use native.Mathlib.Numerals.{add-one}
use native.Mathlib.Omega.{arith}
use borrow.Author.Tests.{le-leb, lt-leb, leb-true, leb-false, eqb-true}
use lib.Dec.{eqb}
use lib.ListN.{length, take, drop, length-drop, drop_of_length-le}
use lib.Seq.{take_all, length-take-le}
use Rattle.bits.specs.Bits.{bytes_for, bytes_of}
use Rattle.bits.proofs.Bytes.{length_bytes_of}
use Rattle.packing.specs.Packing.{is_bit, binary, bits_in, bytes_over, packed_of, pack_into, Pack}
use Rattle.packing.specs.Packing as packing
use Rattle.packing.proofs.Lines.{length_bits_in}
use Rattle.words.specs.Words.{up_to, number_in}
use Rattle.telegram_word.specs.Telegrams.{Telegram, telegram, within, bits_form, hexed, in_pairs, bytes_in, counted, hex_form, either, telegram_in, Lends}
use Rattle.words.proofs.Figures.{number_empty}
use Rattle.telegram_word.proofs.Hexes.{pairs_told, length_bytes_in}
use Rattle.std.specs.Prelude as code
use Rattle.packing.specs.declared.PackError.TheVariants.{Other, Room}
use Rattle.packing.specs.declared.PackError.{PackError}

-- ---- what is lent, by what the word is

module _ (t : Option Telegram) (before : List ℕ) where
  pub lends_none : t ≡ none → Lends t before (Err Other) before
  lends_none e = record { answer = rw e; contents = rw e }

  module _ (x : Telegram) (e : t ≡ some x) where
    pub lends_roomless : length before < length x.bytes → Lends t before (Err Room) before
    lends_roomless h = record {
      answer = rw (e, lt-leb (length x.bytes) (length before) h);
      contents = rw (e, lt-leb (length x.bytes) (length before) h);
    }

    pub lends_bytes : (k : ℕ) → k ≡ length x.bytes → k ≤ length before → Lends t before (Ok (k, x.n)) (x.bytes ++ drop k before)
    lends_bytes k s h =
        let l : length x.bytes ≤ length before = omega arith in
        record {
          answer = rw (e, le-leb (length x.bytes) (length before) l, s);
          contents = rw (e, le-leb (length x.bytes) (length before) l, s);
        }

-- ---- bits

abbrev lent_as : Result ℕ PackError → Result (ℕ × ℕ) PackError
lent_as (Ok n) = Ok (bytes_for n, n)
lent_as (Err why) = Err why

module _ (word : List ℕ) where
  pub bits_empty : length word < 1 → bits_form word ≡ none
  unfolding bits_form
  bits_empty h = rw (lt-leb 1 (length word) h)

  pub bits_long : 1024 < length word → bits_form word ≡ none
  unfolding bits_form
  bits_long h = rw (le-leb 1 (length word) (omega arith), lt-leb (length word) 1024 h)

  length_bytes : length (bytes_of (bits_in word)) ≡ bytes_for (length word)
  length_bytes = length_bytes_of (bits_in word) ∙ ap bytes_for (length_bits_in word)

  module _ (l : 1 ≤ length word) (h : length word ≤ 1024) where
    bits_is : (b : Bool) → binary word ≡ b → bits_form word ≡ cond b (some (telegram (bytes_of (bits_in word)) (length word))) none
    unfolding bits_form
    bits_is b e = rw (le-leb 1 (length word) l, le-leb (length word) 1024 h, e)

    module _ (before : List ℕ) where
      bits_by : (p q : Bool) → binary word ≡ p → packing.roomy word before ≡ q
          → Lends (bits_form word) before (lent_as (cond p (cond q (Ok (length word)) (Err Room)) (Err Other)))
          (cond p (cond q (bytes_over word before) before) before)
      unfolding bytes_over
      bits_by false q b r = lends_none (bits_form word) before (bits_is false b)
      bits_by true false b r =
          lends_roomless (bits_form word) before (telegram (bytes_of (bits_in word)) (length word)) (bits_is true b)
          (rw length_bytes (leb-false (bytes_for (length word)) (length before) r))
      bits_by true true b r =
          lends_bytes (bits_form word) before (telegram (bytes_of (bits_in word)) (length word)) (bits_is true b) (bytes_for (length word)) (sym length_bytes)
          (leb-true (bytes_for (length word)) (length before) r)

      -- what was packed is what is lent
      bits_lends : (answered : Result ℕ PackError) (after : List ℕ) → Pack word before answered after → Lends (bits_form word) before (lent_as answered) after
      unfolding packed_of pack_into
      bits_lends answered after p = rw (p.answer, p.contents) (bits_by (binary word) (packing.roomy word before) refl refl)

      module _ (answered : Result ℕ PackError) (after : List ℕ) (p : Pack word before answered after) where
        pub bits_packed : (n k : ℕ) → answered ≡ Ok n → k ≡ bytes_for n → Lends (bits_form word) before (Ok (k, n)) after
        bits_packed n k e s =
            subst (λ (m : ℕ). Lends (bits_form word) before (Ok (m, n)) after) (sym s)
            (subst (λ (a : Result ℕ PackError). Lends (bits_form word) before (lent_as a) after) e (bits_lends answered after p))

        pub bits_refused : (why : PackError) → answered ≡ Err why → Lends (bits_form word) before (Err why) after
        bits_refused why e = subst (λ (a : Result ℕ PackError). Lends (bits_form word) before (lent_as a) after) e (bits_lends answered after p)

-- ---- HEX:n, by the place of the first colon

module _ (word : List ℕ) (colon : ℕ) (p : in_pairs (take colon word) ≡ true) (l : colon ≤ length word) where
  twice : 2 * (colon / 2) ≡ colon
  twice = omega (arith, (pairs_told (take colon word) p).1, length-take-le colon word l)

  -- what `fill` asks for
  pub hex_even : (2 * (colon / 2) ≤ length word) × (hexed (take (2 * (colon / 2)) word) ≡ true)
  hex_even = (omega (arith, twice), rw twice (pairs_told (take colon word) p).2)

module _ (word : List ℕ) (colon : ℕ) (at : colon ≡ up_to 58 word) where
  hex_unpaired : in_pairs (take colon word) ≡ false → hex_form word ≡ none
  unfolding hex_form
  hex_unpaired h = rw (← at, h)

  -- the number is the rest of the word
  rest : take (length word - (colon + 1)) (drop (colon + 1) word) ≡ drop (suc colon) word
  rest =
      take_all (length word - (colon + 1)) (drop (colon + 1) word) (rw (length-drop (colon + 1) word) (omega arith))
      ∙ ap (λ (k : ℕ). drop k word) (add-one colon)

  module _ (before : List ℕ) where
    pub hex_no_pairs : in_pairs (take colon word) ≡ false → Lends (hex_form word) before (Err Other) before
    hex_no_pairs h = lends_none (hex_form word) before (hex_unpaired h)

    module _ (p : in_pairs (take colon word) ≡ true) where
      module _ (f : code.Option ℕ) (e : f ≡ number_in (take (length word - (colon + 1)) (drop (colon + 1) word))) where
        hex_counted : hex_form word ≡ counted (bytes_in (take colon word)) f
        unfolding hex_form
        hex_counted = rw (← at, p, e, rest)

        pub hex_no_number : f ≡ None → Lends (hex_form word) before (Err Other) before
        hex_no_number h = lends_none (hex_form word) before (hex_counted ∙ ap (counted (bytes_in (take colon word))) h)

        module _ (n : ℕ) (h : f ≡ Some n) (l : colon < length word) where
          hex_is : hex_form word ≡ some (telegram (bytes_in (take colon word)) n)
          hex_is = hex_counted ∙ ap (counted (bytes_in (take colon word))) h

          half : colon / 2 ≡ length (bytes_in (take colon word))
          half = sym (length_bytes_in (take colon word) ∙ ap (λ (k : ℕ). k / 2) (length-take-le colon word (omega arith)))

          pub hex_roomless : length before < colon / 2 → Lends (hex_form word) before (Err Room) before
          hex_roomless s =
              lends_roomless (hex_form word) before (telegram (bytes_in (take colon word)) n) hex_is (omega (arith, half))

          pub hex_bytes : colon / 2 ≤ length before
              → Lends (hex_form word) before (Ok (colon / 2, n)) (bytes_in (take (2 * (colon / 2)) word) ++ drop (colon / 2) before)
          hex_bytes s =
              rw (twice word colon p (omega arith))
              (lends_bytes (hex_form word) before (telegram (bytes_in (take colon word)) n) hex_is (colon / 2) half s)

-- ---- either

module _ (d : ℕ) (text : List ℕ) (ih : up_to 58 text < length text → binary text ≡ false) where
  colon_by : (b : Bool) → eqb d 58 ≡ b → cond b 0 (suc (up_to 58 text)) < suc (length text) → (is_bit d && binary text) ≡ false
  colon_by true e h = rw (eqb-true d 58 e)
  colon_by false e h = rw (ih (omega arith)) (and-false (is_bit d))

colon_other : (word : List ℕ) → up_to 58 word < length word → binary word ≡ false
unfolding up_to binary
colon_other [] h = absurd (omega arith)
colon_other (d ∷ text) h = colon_by d text (colon_other text) (eqb d 58) refl h

module _ (word : List ℕ) where
  none_by : (b : Bool) → ◌≡◌ {A = Option Telegram} (cond b none none) none
  none_by true = refl
  none_by false = refl

  -- a word with a colon is no bits, and one without is no HEX:n
  pub colon_no_bits : up_to 58 word < length word → bits_form word ≡ none
  unfolding bits_form
  colon_no_bits h = rw (colon_other word h, and-false (within 1 1024 (length word)))

  pub no_colon_no_hex : length word ≤ up_to 58 word → hex_form word ≡ none
  unfolding hex_form
  no_colon_no_hex h =
      let l : length word ≤ suc (up_to 58 word) = omega arith in
      rw (drop_of_length-le word {i = suc (up_to 58 word)} l, number_empty) (none_by (in_pairs (take (up_to 58 word) word)))

either_none : (t : Option Telegram) → either t none ≡ t
either_none none = refl
either_none (some x) = refl

module _ (word : List ℕ) {before after : List ℕ} {answered : Result (ℕ × ℕ) PackError} where
  pub lends_hex : up_to 58 word < length word → Lends (hex_form word) before answered after → Lends (telegram_in word) before answered after
  unfolding telegram_in
  lends_hex h = subst (λ (t : Option Telegram). Lends (either t (hex_form word)) before answered after) (sym (colon_no_bits word h))

  pub lends_bits : length word ≤ up_to 58 word → Lends (bits_form word) before answered after → Lends (telegram_in word) before answered after
  unfolding telegram_in
  lends_bits h e =
      subst (λ (t : Option Telegram). Lends (either (bits_form word) t) before answered after) (sym (no_colon_no_hex word h))
      (subst (λ (t : Option Telegram). Lends t before answered after) (sym (either_none (bits_form word))) e)
