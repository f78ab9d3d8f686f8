-- The telegrams of a line, put one behind the other: what the loop of `lay` goes by, and what `collect` answers. Assumes nothing.
use Rattle.std.specs.Prelude.{Ok, Result, ℕ}
use mathlib.Core.Path.{◌≡◌, refl, sym, ap, ap₂, ◌∙◌}
use mathlib.Core.List.{List, [], ◌∷◌, ◌++◌, map-append, append-nil, append_assoc}
use mathlib.Core.Option.{some}
use Prim.Native.Nat.{ℕ, suc, ◌+◌, ◌-◌, ◌≤◌, ◌<◌}
use native.Mathlib.Numerals.{add-one}
use native.Mathlib.Omega.{arith}
use borrow.Author.Tests.{le-leb}
use lib.ListN.{length, take, drop, get_or, set, length-append, length-drop, length-map, take-append-drop, drop_of_length-le}
use lib.Seq.{length-take-le, take_all, take_at, drop_at, drop-drop, drop-cons, set_at, append_snoc}
use Rattle.words.specs.Words.{word_end, words_in}
use Rattle.telegram_word.specs.Telegrams.{Telegram, telegram, telegram_in, lent_of, Lends}
use Rattle.telegram_word.proofs.Answers.{Told, lent_bytes}
use Rattle.group_words.specs.Lines.{most, those, telegrams_in, buffer_of, counts_of, bytes_over, counts_over}
use Rattle.group_words.proofs.Walks.{words_from, words_all, words_none, end_inside, words_next, Next, next}
use Rattle.packing.specs.declared.PackError.{PackError}

-- ---- one telegram more

buffer_append : (a b : List Telegram) → buffer_of (a ++ b) ≡ buffer_of a ++ buffer_of b
unfolding buffer_of
buffer_append [] b = refl
buffer_append (t ∷ a) b = ap (λ (l : List ℕ). t.bytes ++ l) (buffer_append a b) ∙ sym (append_assoc t.bytes (buffer_of a) (buffer_of b))

buffer_one : (t : Telegram) → buffer_of (t ∷ []) ≡ t.bytes
unfolding buffer_of
buffer_one t = append-nil t.bytes

buffer_none : buffer_of [] ≡ []
unfolding buffer_of
buffer_none = refl

buffer_last : (a : List Telegram) (t : Telegram) → buffer_of (a ++ (t ∷ [])) ≡ buffer_of a ++ t.bytes
buffer_last a t = buffer_append a (t ∷ []) ∙ ap (λ (l : List ℕ). buffer_of a ++ l) (buffer_one t)

-- bytes and n that are put behind those of some telegrams
module _ (done : List Telegram) (t : Telegram) where
  bytes_last : (before : List ℕ) (used k : ℕ) → k ≡ length t.bytes
      → buffer_of done ++ (t.bytes ++ drop k (drop used before) ++ []) ≡ buffer_of (done ++ (t ∷ [])) ++ drop (used + k) before
  bytes_last before used k e =
      ap (λ (l : List ℕ). buffer_of done ++ l) (append-nil (t.bytes ++ drop k (drop used before)))
      ∙ ap (λ (l : List ℕ). buffer_of done ++ (t.bytes ++ l)) (drop-drop k used before)
      ∙ sym (append_assoc (buffer_of done) t.bytes (drop (used + k) before))
      ∙ ap (λ (l : List ℕ). l ++ drop (used + k) before) (sym (buffer_last done t))

  counts_last : (before : List ℕ) (i : ℕ) → i ≡ length done → i < length before
      → set (counts_of done ++ drop i before) i t.n ≡ counts_of (done ++ (t ∷ [])) ++ drop (i + 1) before
  counts_last before i e h =
      ap (λ (l : List ℕ). set (counts_of done ++ l) i t.n) (drop-cons before i 0 h)
      ∙ set_at (counts_of done) (get_or before i 0) (drop (suc i) before) t.n i (length-map done (λ (u : Telegram). u.n) ∙ sym e)
      ∙ sym (append_snoc (counts_of done) t.n (drop (suc i) before))
      ∙ ap₂ (λ (l : List ℕ) (m : ℕ). l ++ drop m before) (sym (map-append (λ (u : Telegram). u.n) done (t ∷ []))) (sym (add-one i))

-- ---- the loop of `lay`

-- all words are telegrams, and there is room for them
pub record Fitting (line before counts : List ℕ) : Type 0 where
  pub are : telegrams_in most (words_in line) ≡ some (those (telegrams_in most (words_in line)))
  pub fits : length (buffer_of (those (telegrams_in most (words_in line)))) ≤ length before
  pub holds : length (those (telegrams_in most (words_in line))) ≤ length counts

-- those that were put, and those that are left
pub record Laying (line before counts : List ℕ) (at used i : ℕ) (bytes ns : List ℕ) : Type 0 where
  pub done : List Telegram
  pub left : List Telegram
  pub all : those (telegrams_in most (words_in line)) ≡ done ++ left
  pub ahead : telegrams_in (most - i) (words_from line at) ≡ some left
  pub within : at ≤ length line + 1
  pub put : used ≡ length (buffer_of done)
  pub count : i ≡ length done
  pub bytes_held : bytes ≡ buffer_of done ++ drop used before
  pub counts_held : ns ≡ counts_of done ++ drop i counts

pub laying_first : (line before counts : List ℕ) → Fitting line before counts → Laying line before counts 0 0 0 before counts
laying_first line before counts f =
    record {
      done = [];
      left = those (telegrams_in most (words_in line));
      all = refl;
      ahead = ap (telegrams_in most) (words_all line) ∙ f.are;
      within = omega arith;
      put = sym (ap length buffer_none);
      count = refl;
      bytes_held = ap (λ (l : List ℕ). l ++ before) (sym buffer_none);
      counts_held = refl;
    }

module _ {line before counts : List ℕ} {at used i : ℕ} {bytes ns : List ℕ} (f : Fitting line before counts)
    (l : Laying line before counts at used i bytes ns) where
  all_bytes : length (buffer_of (those (telegrams_in most (words_in line)))) ≡ used + length (buffer_of l.left)
  all_bytes =
      ap (λ (ts : List Telegram). length (buffer_of ts)) l.all ∙ ap length (buffer_append l.done l.left)
      ∙ length-append (buffer_of l.done) (buffer_of l.left)
      ∙ ap (λ (n : ℕ). n + length (buffer_of l.left)) (sym l.put)

  all_count : length (those (telegrams_in most (words_in line))) ≡ i + length l.left
  all_count = ap length l.all ∙ length-append l.done l.left ∙ ap (λ (n : ℕ). n + length l.left) (sym l.count)

  pub laying_inside : used ≤ length bytes
  laying_inside = rw l.bytes_held (omega (arith, l.put, length-append (buffer_of l.done) (drop used before)))

  pub laying_length : length bytes ≡ length before
  laying_length =
      let g = f.fits in
      rw l.bytes_held (omega (arith, g, all_bytes, l.put, length-append (buffer_of l.done) (drop used before), length-drop used before))

  pub laying_counts : length ns ≡ length counts
  laying_counts =
      let g = f.holds in
      rw l.counts_held
      (omega (arith, g, all_count, l.count, length-append (counts_of l.done) (drop i counts), length-drop i counts, length-map l.done (λ (u : Telegram). u.n)))

  -- what lies behind is as it was
  behind : take (length bytes - used) (drop used bytes) ≡ drop used before
  behind =
      take_all (length bytes - used) (drop used bytes) (omega (arith, length-drop used bytes))
      ∙ ap (drop used) l.bytes_held
      ∙ drop_at (buffer_of l.done) (drop used before) used (sym l.put)

  pub laying_end : length line < at
      → (bytes ≡ bytes_over (those (telegrams_in most (words_in line))) before) × (ns ≡ counts_over (those (telegrams_in most (words_in line))) counts)
  unfolding telegrams_in
  laying_end h =
      let none : l.left ≡ [] = ended l.left (sym (ap (telegrams_in (most - i)) (words_none line at h)) ∙ l.ahead) in
      let is : those (telegrams_in most (words_in line)) ≡ l.done = l.all ∙ ap (λ (ts : List Telegram). l.done ++ ts) none ∙ append-nil l.done in
      rw is (
        l.bytes_held ∙ ap (λ (n : ℕ). buffer_of l.done ++ drop n before) l.put,
        l.counts_held ∙ ap (λ (n : ℕ). counts_of l.done ++ drop n counts) l.count,
      )
    where
      ended : (ts : List Telegram) → some [] ≡ some ts → ts ≡ []
      ended ts e = cc

  module _ (h : at ≤ length line) (end : ℕ) (e : end ≡ word_end line at) where
    pub here : Next (most - i) (take (end - at) (drop at line)) (words_from line (end + 1)) l.left
    here =
        next (most - i) (take (end - at) (drop at line)) (words_from line (end + 1)) l.left
        (sym (ap (telegrams_in (most - i)) (words_next line at end e h)) ∙ l.ahead)

    left_bytes : length (buffer_of l.left) ≡ length here.telegram.bytes + length (buffer_of here.rest)
    unfolding buffer_of
    left_bytes =
        ap (λ (ts : List Telegram). length (buffer_of ts)) here.splits ∙ length-append here.telegram.bytes (buffer_of here.rest)

    pub laying_counted : i < length ns
    laying_counted =
        let g = f.holds in
        omega (arith, g, all_count, laying_counts, ap length here.splits)

    module _ (answered : Result (ℕ × ℕ) PackError) (after : List ℕ)
        (p : Lends (telegram_in (take (end - at) (drop at line))) (take (length bytes - used) (drop used bytes)) answered after) where
      -- the word is a telegram, and there is room for it
      pub laying_lent : answered ≡ Ok (length here.telegram.bytes, here.telegram.n)
      laying_lent =
          let g = f.fits in
          let room : length here.telegram.bytes ≤ length (drop used before) = omega (arith, g, all_bytes, left_bytes, length-drop used before) in
          p.answer
          ∙ ap₂ lent_of here.is behind
          ∙ rw (le-leb (length here.telegram.bytes) (length (drop used before)) room)

      module _ (k n : ℕ) (x : answered ≡ Ok (k, n)) where
        told : Told (telegram_in (take (end - at) (drop at line))) (take (length bytes - used) (drop used bytes)) after k n
        told = lent_bytes (take (length bytes - used) (drop used bytes)) (telegram_in (take (end - at) (drop at line))) answered after p k n x

        is : here.telegram ≡ telegram (take k after) n
        is = same here.telegram (telegram (take k after) n) (sym here.is ∙ told.is)
          where
            same : (t u : Telegram) → some t ≡ some u → t ≡ u
            same t u e = cc

        k_is : k ≡ length here.telegram.bytes
        k_is = sym (ap (λ (t : Telegram). length t.bytes) is ∙ length-take-le k after told.inside)

        pub laying_used : used + k ≤ length bytes
        laying_used =
            let g = f.fits in
            omega (arith, g, all_bytes, left_bytes, k_is, laying_length)

        after_is : after ≡ here.telegram.bytes ++ drop k (drop used before)
        after_is =
            sym (take-append-drop k after)
            ∙ ap₂ (λ (a b : List ℕ). a ++ b) (sym (ap (λ (t : Telegram). t.bytes) is)) (told.behind ∙ ap (drop k) behind)

        bytes_then : take used bytes ++ (after ++ drop (length bytes - used) (drop used bytes))
            ≡ buffer_of (l.done ++ (here.telegram ∷ [])) ++ drop (used + k) before
        bytes_then =
            ap₂ (λ (a b : List ℕ). a ++ (after ++ b))
            (ap (take used) l.bytes_held ∙ take_at (buffer_of l.done) (drop used before) used (sym l.put))
            (drop_of_length-le (drop used bytes) {i = length bytes - used} (omega (arith, length-drop used bytes)))
            ∙ ap (λ (a : List ℕ). buffer_of l.done ++ (a ++ [])) after_is
            ∙ bytes_last l.done here.telegram before used k k_is

        counts_then : set ns i n ≡ counts_of (l.done ++ (here.telegram ∷ [])) ++ drop (i + 1) counts
        counts_then =
            ap₂ (λ (a : List ℕ) (m : ℕ). set a i m) l.counts_held (sym (ap (λ (t : Telegram). t.n) is))
            ∙ counts_last l.done here.telegram counts i l.count (omega (arith, laying_counted, laying_counts))

        pub laying_on : Laying line before counts (end + 1) (used + k) (i + 1) (take used bytes ++ (after ++ drop (length bytes - used) (drop used bytes))) (set ns i n)
        laying_on =
            let inner = end_inside line at end e h in
            let fewer : here.less ≡ most - (i + 1) = omega (arith, here.one_less) in
            record {
              done = l.done ++ (here.telegram ∷ []);
              left = here.rest;
              all = l.all ∙ ap (λ (ts : List Telegram). l.done ++ ts) here.splits ∙ sym (append_snoc l.done here.telegram here.rest);
              ahead = ap (λ (m : ℕ). telegrams_in m (words_from line (end + 1))) (sym fewer) ∙ here.on;
              within = omega arith;
              put =
                  sym (ap length (buffer_last l.done here.telegram) ∙ length-append (buffer_of l.done) here.telegram.bytes
                  ∙ ap₂ (λ (a b : ℕ). a + b) (sym l.put) (sym k_is));
              count = sym (length-append l.done (here.telegram ∷ []) ∙ ap (λ (a : ℕ). a + 1) (sym l.count));
              bytes_held = bytes_then;
              counts_held = counts_then;
            }
