-- The telegrams of a line, counted one by one: what `bytes_in` and the loop of `measured` go by. Assumes nothing.
use Rattle.std.specs.Prelude.{Ok, Err, Result, ℕ, Some, None}
use mathlib.Core.Path.{◌≡◌, refl, sym, ap, ap₂, ◌∙◌}
use mathlib.Core.List.{List, [], ◌∷◌}
use mathlib.Core.Option.{Option, some, none}
use Prim.Native.Nat.{ℕ, suc, ◌+◌, ◌-◌, ◌*◌, ◌≤◌, ◌<◌}
use native.Mathlib.Omega.{arith}
use lib.ListN.{length, take, drop, length-append}
use lib.Seq.{length-take-le}
use Rattle.std.specs.Result.{result_ok}
use Rattle.std.proofs.lemmas.Option.{same_Some}
use Rattle.words.specs.Words.{word_end, words_in}
use Rattle.telegram_word.specs.Telegrams.{Telegram, telegram_in, Lends}
use Rattle.telegram_word.proofs.Answers.{bytes_few, lent_bytes, lent_not, never_roomless}
use Rattle.group_words.specs.Lines.{joined, most, telegrams_in, buffer_of, size_of, measured}
use Rattle.group_words.proofs.Walks.{words_from, words_all, words_none, end_inside, words_next}
use Rattle.packing.specs.declared.PackError.TheVariants.{Other, Room}
use Rattle.packing.specs.declared.PackError.{PackError}
use Rattle.std.specs.Prelude as code

-- ---- one word

module _ (word before : List ℕ) (answered : Result (ℕ × ℕ) PackError) (after : List ℕ) (h : Lends (telegram_in word) before answered after) where
  sized_bytes : (k n : ℕ) → answered ≡ Ok (k, n) → Some k ≡ size_of (telegram_in word)
  sized_bytes k n e =
      let w = lent_bytes before (telegram_in word) answered after h k n e in
      sym (ap size_of w.is ∙ ap Some (length-take-le k after w.inside))

  sized_not : answered ≡ Err Other → None ≡ size_of (telegram_in word)
  sized_not e = sym (ap size_of (lent_not before (telegram_in word) answered after h e).0)

  -- 128 bytes are room for every word
  sized_roomless : 128 ≤ length before → answered ≡ Err Room → None ≡ size_of (telegram_in word)
  sized_roomless l e = absurd (never_roomless word before l (sym h.answer ∙ e))

  -- of the answer as `bytes_in` has it
  pub sized_some : (k n : ℕ) → Some (k, n) ≡ result_ok answered → Some k ≡ size_of (telegram_in word)
  sized_some k n e = by answered refl e
    where
      by : (r : Result (ℕ × ℕ) PackError) → answered ≡ r → Some (k, n) ≡ result_ok r → Some k ≡ size_of (telegram_in word)
      by (Ok x) s e = sized_bytes k n (s ∙ ap Ok (sym (same_Some (k, n) x e)))
      by (Err why) s e = let z : ◌≡◌ {A = ℕ} 0 1 = cc in absurd (omega arith)

  pub sized_none : 128 ≤ length before → None ≡ result_ok answered → None ≡ size_of (telegram_in word)
  sized_none l e = by answered refl e
    where
      by : (r : Result (ℕ × ℕ) PackError) → answered ≡ r → None ≡ result_ok r → None ≡ size_of (telegram_in word)
      by (Ok x) s e = let z : ◌≡◌ {A = ℕ} 0 1 = cc in absurd (omega arith)
      by (Err Other) s e = sized_not s
      by (Err Room) s e = sized_roomless l s

size_few : (word : List ℕ) (o : Option Telegram) (k : ℕ) → telegram_in word ≡ o → size_of o ≡ Some k → k ≤ 128
size_few word none k x e = let z : ◌≡◌ {A = ℕ} 0 1 = cc in absurd (omega arith)
size_few word (some t) k x e =
    let s : length t.bytes ≡ k = cc in
    omega (arith, bytes_few word t x)

-- ---- the loop of `measured`: so many telegrams and bytes, in front of what is left

abbrev measured_on : ℕ → ℕ → Option (List Telegram) → code.Option (ℕ × ℕ)
measured_on count total none = None
measured_on count total (some ts) = Some (count + length ts, total + length (buffer_of ts))

module _ (count total k : ℕ) where
  on_one : (o : Option Telegram) (r : Option (List Telegram)) → size_of o ≡ Some k
      → measured_on count total (joined o r) ≡ measured_on (count + 1) (total + k) r
  unfolding buffer_of
  on_one none r e = let z : ◌≡◌ {A = ℕ} 0 1 = cc in absurd (omega arith)
  on_one (some t) none e = refl
  on_one (some t) (some ts) e =
      let s : length t.bytes ≡ k = cc in
      ap₂ (λ (a b : ℕ). Some (a, b)) (omega arith) (omega (arith, length-append t.bytes (buffer_of ts)))

on_none : (count total : ℕ) (o : Option Telegram) (r : Option (List Telegram)) → size_of o ≡ None → measured_on count total (joined o r) ≡ None
on_none count total none r e = refl
on_none count total (some t) r e = let z : ◌≡◌ {A = ℕ} 0 1 = cc in absurd (omega arith)

pub record Measuring (line : List ℕ) (at count total : ℕ) : Type 0 where
  pub within : at ≤ length line + 1
  pub few : count ≤ 16
  pub small : total ≤ 128 * count
  pub leads : measured (telegrams_in most (words_in line)) ≡ measured_on count total (telegrams_in (most - count) (words_from line at))

first_by : (o : Option (List Telegram)) → measured o ≡ measured_on 0 0 o
first_by none = refl
first_by (some ts) = ap₂ (λ (a b : ℕ). Some (a, b)) (omega arith) (omega arith)

pub measuring_first : (line : List ℕ) → Measuring line 0 0 0
measuring_first line =
    record {
      within = omega arith;
      few = omega arith;
      small = omega arith;
      leads = first_by (telegrams_in most (words_in line)) ∙ ap (λ (ws : List (List ℕ)). measured_on 0 0 (telegrams_in most ws)) (sym (words_all line));
    }

telegrams_too_many : (word : List ℕ) (words : List (List ℕ)) → telegrams_in 0 (word ∷ words) ≡ none
unfolding telegrams_in
telegrams_too_many word words = refl

telegrams_next : (k : ℕ) (word : List ℕ) (words : List (List ℕ)) → telegrams_in (suc k) (word ∷ words) ≡ joined (telegram_in word) (telegrams_in k words)
unfolding telegrams_in
telegrams_next k word words = refl

telegrams_no_more : (k : ℕ) → telegrams_in k [] ≡ some []
unfolding telegrams_in
telegrams_no_more k = refl

module _ {line : List ℕ} {at count total : ℕ} (m : Measuring line at count total) where
  pub measuring_end : length line < at → Some (count, total) ≡ measured (telegrams_in most (words_in line))
  unfolding buffer_of
  measuring_end h =
      sym (m.leads ∙ ap (λ (ws : List (List ℕ)). measured_on count total (telegrams_in (most - count) ws)) (words_none line at h)
      ∙ ap (measured_on count total) (telegrams_no_more (most - count))
      ∙ ap₂ (λ (a b : ℕ). Some (a, b)) (omega arith) (omega arith))

  module _ (h : at ≤ length line) where
    pub measuring_many : count ≡ 16 → None ≡ measured (telegrams_in most (words_in line))
    measuring_many e =
        let none_left : most - count ≡ 0 = omega arith in
        sym (m.leads
        ∙ rw (none_left, words_next line at (word_end line at) refl h)
        (ap (measured_on count total) (telegrams_too_many (take (word_end line at - at) (drop at line)) (words_from line (word_end line at + 1)))))

    module _ (f : count ≡ 16 → ⊥) (end : ℕ) (e : end ≡ word_end line at) (s : code.Option ℕ) (p : s ≡ size_of (telegram_in (take (end - at) (drop at line)))) where
      leads_next : measured (telegrams_in most (words_in line))
          ≡ measured_on count total (joined (telegram_in (take (end - at) (drop at line))) (telegrams_in (most - (count + 1)) (words_from line (end + 1))))
      leads_next =
          let l = m.few in
          let more : most - count ≡ suc (most - (count + 1)) = omega arith in
          m.leads
          ∙ ap₂ (λ (k : ℕ) (ws : List (List ℕ)). measured_on count total (telegrams_in k ws)) more (words_next line at end e h)
          ∙ ap (measured_on count total) (telegrams_next (most - (count + 1)) (take (end - at) (drop at line)) (words_from line (end + 1)))

      pub measuring_not : s ≡ None → None ≡ measured (telegrams_in most (words_in line))
      measuring_not x =
          sym (leads_next
          ∙ on_none count total (telegram_in (take (end - at) (drop at line))) (telegrams_in (most - (count + 1)) (words_from line (end + 1))) (sym p ∙ x))

      module _ (k : ℕ) (x : s ≡ Some k) where
        pub measuring_few : k ≤ 128
        measuring_few = size_few (take (end - at) (drop at line)) (telegram_in (take (end - at) (drop at line))) k refl (sym p ∙ x)

        pub measuring_on : Measuring line (end + 1) (count + 1) (total + k)
        measuring_on =
            let l = m.few in
            let t = m.small in
            let u = measuring_few in
            let i = end_inside line at end e h in
            record {
              within = omega arith;
              few = omega arith;
              small = omega arith;
              leads =
                  leads_next
                  ∙ on_one count total k (telegram_in (take (end - at) (drop at line))) (telegrams_in (most - (count + 1)) (words_from line (end + 1))) (sym p ∙ x);
            }
