-- A line that is a group is no longer than 16 words of 1,024 characters and a space each: a longer one is none, whatever it holds. Assumes nothing.
use Rattle.std.specs.Prelude.{Some, None, ℕ}
use mathlib.Core.Path.{◌≡◌, refl, ap, ◌∙◌}
use mathlib.Core.Bool.{Bool, true, false, cond, ◌&&◌}
use mathlib.Core.List.{List, [], ◌∷◌}
use mathlib.Core.Option.{Option, some, none}
use Prim.Native.Nat.{ℕ, suc, ◌*◌, ◌≤◌, ◌<◌}
use native.Mathlib.Omega.{arith}
use borrow.Author.Tests.{leb-true}
use lib.Dec.{leb}
use lib.ListN.{length, take, drop, length-append, length-drop}
use lib.Seq.{length-take-le}
use Rattle.bits.specs.Bits.{bytes_of}
use Rattle.packing.specs.Packing.{binary, bits_in}
use Rattle.pieces.proofs.Decimals.{length_decimal}
use Rattle.words.specs.Words.{up_to, words_in, line_of, number_in}
use Rattle.words.proofs.Marks.{up_within}
use Rattle.words.proofs.Splits.{line_words}
use Rattle.words.proofs.Written.{number_is}
use Rattle.telegram_word.specs.Telegrams.{Telegram, telegram, bits_form, in_pairs, bytes_in, counted, hex_form, either, telegram_in}
use Rattle.telegram_word.proofs.Hexes.{pairs_told}
use Rattle.group_words.specs.Lines.{most, telegrams_in, line_group}
use Rattle.group_words.proofs.Walks.{next}
use Rattle.std.specs.Prelude as code

module _ (word : List ℕ) (t : Telegram) where
  bits_by : (p q r : Bool) → leb (length word) 1024 ≡ q
      → cond ((p && q) && r) (some (telegram (bytes_of (bits_in word)) (length word))) none ≡ some t → length word ≤ 1024
  bits_by true true r y e = leb-true (length word) 1024 y
  bits_by true false r y e = let z : ◌≡◌ {A = ℕ} 0 1 = cc in absurd (omega arith)
  bits_by false q r y e = let z : ◌≡◌ {A = ℕ} 0 1 = cc in absurd (omega arith)

  bits_few : bits_form word ≡ some t → length word ≤ 1024
  unfolding bits_form
  bits_few = bits_by (leb 1 (length word)) (leb (length word) 1024) (binary word) refl

  hex_by : (p : Bool) (f : code.Option ℕ) → in_pairs (take (up_to 58 word) word) ≡ p → number_in (drop (suc (up_to 58 word)) word) ≡ f
      → cond p (counted (bytes_in (take (up_to 58 word) word)) f) none ≡ some t → length word ≤ 1024
  hex_by true (Some n) x y e =
      let m = (pairs_told (take (up_to 58 word) word) x).0 in
      let u = up_within 58 word in
      let l = length-take-le (up_to 58 word) word u in
      let d = ap length (number_is (drop (suc (up_to 58 word)) word) n y).0 in
      omega (arith, m, u, l, d, length-drop (suc (up_to 58 word)) word, length_decimal 20 n)
  hex_by true None x y e = let z : ◌≡◌ {A = ℕ} 0 1 = cc in absurd (omega arith)
  hex_by false f x y e = let z : ◌≡◌ {A = ℕ} 0 1 = cc in absurd (omega arith)

  hex_few : hex_form word ≡ some t → length word ≤ 1024
  unfolding hex_form
  hex_few = hex_by (in_pairs (take (up_to 58 word) word)) (number_in (drop (suc (up_to 58 word)) word)) refl refl

  few_by : (a b : Option Telegram) → bits_form word ≡ a → hex_form word ≡ b → either a b ≡ some t → length word ≤ 1024
  few_by none b x y e = hex_few (y ∙ e)
  few_by (some a) b x y e = bits_few (x ∙ e)

  word_few : telegram_in word ≡ some t → length word ≤ 1024
  unfolding telegram_in
  word_few = few_by (bits_form word) (hex_form word) refl refl

words_few : (k : ℕ) (words : List (List ℕ)) (ts : List Telegram) → telegrams_in k words ≡ some ts → length (line_of words) ≤ 1025 * k
unfolding line_of
words_few k [] ts e = omega arith
words_few k (word ∷ []) ts e =
    let n = next k word [] ts e in
    omega (arith, n.one_less, word_few word n.telegram n.is)
words_few k (word ∷ other ∷ words) ts e =
    let n = next k word (other ∷ words) ts e in
    let w = words_few n.less (other ∷ words) n.rest n.on in
    omega (arith, n.one_less, w, word_few word n.telegram n.is, length-append word (32 ∷ line_of (other ∷ words)))

group_few : (line : List ℕ) (ts : List Telegram) → line_group line ≡ some ts → length line ≤ 16400
unfolding line_group
group_few [] ts e = omega arith
group_few (c ∷ line) ts e = omega (arith, words_few most (words_in (c ∷ line)) ts e, ap length (line_words (c ∷ line)))

pub group_long : (line : List ℕ) → 16400 < length line → line_group line ≡ none
group_long line h = by (line_group line) refl
  where
    by : (o : Option (List Telegram)) → line_group line ≡ o → o ≡ none
    by none e = refl
    by (some ts) e = absurd (omega (arith, group_few line ts e))
