-- What a caller of `collect` learns from each answer, and that 2,048 bytes and 16 numbers are room for every group. Assumes nothing.
use Rattle.std.specs.Prelude.{Ok, Err, Result, ℕ}
use mathlib.Core.Path.{◌≡◌, refl, sym, ◌∙◌}
use mathlib.Core.Bool.{Bool, true, false, cond}
use mathlib.Core.List.{List, [], ◌∷◌}
use mathlib.Core.Option.{Option, some, none}
use Prim.Native.Nat.{ℕ, ◌*◌, ◌≤◌}
use native.Mathlib.Omega.{arith}
use borrow.Author.Tests.{le-leb}
use lib.ListN.{length, take, drop, length-append, length-map}
use lib.Seq.{take_at}
use Rattle.words.specs.Words.{words_in}
use Rattle.telegram_word.specs.Telegrams.{Telegram}
use Rattle.telegram_word.proofs.Answers.{bytes_few, ok_parts}
use Rattle.group_words.specs.Lines.{most, telegrams_in, line_group, buffer_of, counts_of, bytes_over, counts_over, roomy, collected_of, bytes_then, counts_then, Collects}
use Rattle.group_words.proofs.Walks.{next}
use Rattle.packing.specs.declared.PackError.TheVariants.{Other, Room}
use Rattle.packing.specs.declared.PackError.{PackError}

-- ---- room

words_limits : (k : ℕ) (words : List (List ℕ)) (ts : List Telegram) → telegrams_in k words ≡ some ts → (length ts ≤ k) × (length (buffer_of ts) ≤ 128 * k)
unfolding telegrams_in buffer_of
words_limits k [] ts e =
    let s : [] ≡ ts = cc in
    rw (← s) (omega arith, omega arith)
words_limits k (word ∷ words) ts e =
    let n = next k word words ts e in
    let w = words_limits n.less words n.rest n.on in
    rw n.splits (
      omega (arith, n.one_less, w.0),
      omega (arith, n.one_less, w.1, bytes_few word n.telegram n.is, length-append n.telegram.bytes (buffer_of n.rest)),
    )

group_limits : (line : List ℕ) (ts : List Telegram) → line_group line ≡ some ts → (length ts ≤ 16) × (length (buffer_of ts) ≤ 2048)
unfolding line_group buffer_of
group_limits [] ts e = let s : [] ≡ ts = cc in rw (← s) (omega arith, omega arith)
group_limits (c ∷ line) ts e = words_limits most (words_in (c ∷ line)) ts e

-- ---- what each answer tells

-- the telegrams of the line stand in front of what was lent
pub record Gathered (line after counts : List ℕ) (count total : ℕ) : Type 0 where
  pub telegrams : List Telegram
  pub are : line_group line ≡ some telegrams
  pub inside : total ≤ length after
  pub fewer : count ≤ length counts
  pub bytes : take total after ≡ buffer_of telegrams
  pub ns : take count counts ≡ counts_of telegrams

module _ (line before list : List ℕ) where
  gathered : (ts : List Telegram) (b : Bool) (count total : ℕ) → line_group line ≡ some ts → cond {A = Result (ℕ × ℕ) PackError} b (Ok (length ts, length (buffer_of ts))) (Err Room) ≡ Ok (count, total)
      → Gathered line (cond b (bytes_over ts before) before) (cond b (counts_over ts list) list) count total
  gathered ts true count total g e =
      let (c, t) = ok_parts (length ts) count (length (buffer_of ts)) total e in
      let m = length-map ts (λ (u : Telegram). u.n) in
      rw (← c, ← t)
      (record {
        telegrams = ts;
        are = g;
        inside = omega (arith, length-append (buffer_of ts) (drop (length (buffer_of ts)) before));
        fewer = omega (arith, m, length-append (counts_of ts) (drop (length ts) list));
        bytes = take_at (buffer_of ts) (drop (length (buffer_of ts)) before) (length (buffer_of ts)) refl;
        ns = take_at (counts_of ts) (drop (length ts) list) (length ts) m;
      })
  gathered ts false count total g e = let z : ◌≡◌ {A = ℕ} 0 1 = cc in absurd (omega arith)

  module _ (answered : Result (ℕ × ℕ) PackError) (after counts : List ℕ) (h : Collects line before list answered after counts) where
    pub collects_gathered : (count total : ℕ) → answered ≡ Ok (count, total) → Gathered line after counts count total
    collects_gathered count total e =
        rw (h.bytes_held, h.counts_held) (by (line_group line) refl (sym h.answer ∙ e))
      where
        by : (o : Option (List Telegram)) → line_group line ≡ o → collected_of o before list ≡ Ok (count, total)
            → Gathered line (bytes_then o before list) (counts_then o before list) count total
        by none g x = let z : ◌≡◌ {A = ℕ} 0 1 = cc in absurd (omega arith)
        by (some ts) g x = gathered ts (roomy ts before list) count total g x

    pub collects_no_group : answered ≡ Err Other → line_group line ≡ none
    collects_no_group e = by (line_group line) (sym h.answer ∙ e)
      where
        by : (o : Option (List Telegram)) → collected_of o before list ≡ Err Other → o ≡ none
        by none x = refl
        by (some ts) x = of_room (roomy ts before list) x
          where
            of_room : (b : Bool) → cond {A = Result (ℕ × ℕ) PackError} b (Ok (length ts, length (buffer_of ts))) (Err Room) ≡ Err Other → some ts ≡ none
            of_room true x = let z : ◌≡◌ {A = ℕ} 0 1 = cc in absurd (omega arith)
            of_room false x = let z : ◌≡◌ {A = ℕ} 0 1 = cc in absurd (omega arith)

    -- "lends enough"
    pub never_roomless : 2048 ≤ length before → 16 ≤ length list → answered ≡ Err Room → ⊥
    never_roomless l m e = by (line_group line) refl (sym h.answer ∙ e)
      where
        by : (o : Option (List Telegram)) → line_group line ≡ o → collected_of o before list ≡ Err Room → ⊥
        by none g x = let z : ◌≡◌ {A = ℕ} 0 1 = cc in omega arith
        by (some ts) g x =
            let w = group_limits line ts g in
            let many : length ts ≤ length list = omega (arith, w.0, m) in
            let long : length (buffer_of ts) ≤ length before = omega (arith, w.1, l) in
            let is : collected_of (some ts) before list ≡ Ok (length ts, length (buffer_of ts)) =
            rw (le-leb (length (buffer_of ts)) (length before) long, le-leb (length ts) (length list) many) in
            let z : ◌≡◌ {A = ℕ} 0 1 = cc in
            omega arith

    -- lent enough, what is not collected is no group, for either reason
    pub collects_none : 2048 ≤ length before → 16 ≤ length list → (e : PackError) → answered ≡ Err e → line_group line ≡ none
    collects_none l m Other e = collects_no_group e
    collects_none l m Room e = absurd (never_roomless l m e)
