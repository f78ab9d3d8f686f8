-- What `collect` answers, by what the line measures and by what is lent. Assumes nothing.
use Rattle.std.specs.Prelude.{Ok, Err, Some, None, ℕ}
use mathlib.Core.Path.{◌≡◌, refl, sym, ◌∙◌}
use mathlib.Core.Bool.{true, false}
use mathlib.Core.List.{List, [], ◌∷◌}
use mathlib.Core.Option.{Option, some, none}
use Prim.Native.Nat.{ℕ, ◌≤◌, ◌<◌}
use native.Mathlib.Omega.{arith}
use borrow.Author.Tests.{le-leb, lt-leb}
use lib.ListN.{length}
use Rattle.std.proofs.lemmas.Option.{some_pair_parts}
use Rattle.words.specs.Words.{words_in}
use Rattle.telegram_word.specs.Telegrams.{Telegram}
use Rattle.group_words.specs.Lines.{most, those, telegrams_in, line_group, buffer_of, bytes_over, counts_over, roomy, measured, Collects}
use Rattle.packing.specs.declared.PackError.TheVariants.{Other, Room}
use Rattle.std.specs.Prelude as code

-- ---- by what the line is

group_none : (line : List ℕ) → length line ≡ 0 → line_group line ≡ some []
unfolding line_group
group_none [] e = refl
group_none (c ∷ line) e = absurd (omega arith)

group_some : (line : List ℕ) → (length line ≡ 0 → ⊥) → line_group line ≡ telegrams_in most (words_in line)
unfolding line_group
group_some [] e = absurd (e refl)
group_some (c ∷ line) e = refl

module _ (line bytes ns : List ℕ) where
  collects_none : line_group line ≡ none → Collects line bytes ns (Err Other) bytes ns
  collects_none e = record { answer = rw e; bytes_held = rw e; counts_held = rw e }

  module _ (ts : List Telegram) (e : line_group line ≡ some ts) where
    collects_no_room : roomy ts bytes ns ≡ false → Collects line bytes ns (Err Room) bytes ns
    collects_no_room r = record { answer = rw (e, r); bytes_held = rw (e, r); counts_held = rw (e, r) }

    collects_all : roomy ts bytes ns ≡ true
        → Collects line bytes ns (Ok (length ts, length (buffer_of ts))) (bytes_over ts bytes) (counts_over ts ns)
    collects_all r = record { answer = rw (e, r); bytes_held = rw (e, r); counts_held = rw (e, r) }

-- ---- the empty line

pub collects_empty : (line bytes ns : List ℕ) → length line ≡ 0 → Collects line bytes ns (Ok (0, 0)) bytes ns
unfolding buffer_of
collects_empty line bytes ns h =
    collects_all line bytes ns [] (group_none line h) (rw (le-leb 0 (length bytes) (omega arith), le-leb 0 (length ns) (omega arith)))

-- ---- another

record Measures (o : Option (List Telegram)) (count total : ℕ) : Type 0 where
  pub are : o ≡ some (those o)
  pub many : length (those o) ≡ count
  pub long : length (buffer_of (those o)) ≡ total

measures : (o : Option (List Telegram)) (count total : ℕ) → measured o ≡ Some (count, total) → Measures o count total
measures none count total e = let z : ◌≡◌ {A = ℕ} 0 1 = cc in absurd (omega arith)
measures (some ts) count total e =
    let (c, t) = some_pair_parts (length ts) count (length (buffer_of ts)) total e in
    record { are = refl; many = c; long = t }

measures_not : (o : Option (List Telegram)) → measured o ≡ None → o ≡ none
measures_not none e = refl
measures_not (some ts) e = let z : ◌≡◌ {A = ℕ} 0 1 = cc in absurd (omega arith)

module _ (line bytes ns : List ℕ) (found : code.Option (ℕ × ℕ)) (m : found ≡ measured (telegrams_in most (words_in line))) where
  pub collects_not : (length line ≡ 0 → ⊥) → found ≡ None → Collects line bytes ns (Err Other) bytes ns
  collects_not h e = collects_none line bytes ns (group_some line h ∙ measures_not (telegrams_in most (words_in line)) (sym m ∙ e))

  module _ (count total : ℕ) (e : found ≡ Some (count, total)) where
    are : Measures (telegrams_in most (words_in line)) count total
    are = measures (telegrams_in most (words_in line)) count total (sym m ∙ e)

    -- what `lay` asks for
    pub fitting : total ≤ length bytes → count ≤ length ns
        → (telegrams_in most (words_in line) ≡ some (those (telegrams_in most (words_in line))))
        × (length (buffer_of (those (telegrams_in most (words_in line)))) ≤ length bytes)
        × (length (those (telegrams_in most (words_in line))) ≤ length ns)
    fitting g k = (are.are, rw are.long g, rw are.many k)

    module _ (h : length line ≡ 0 → ⊥) where
      pub collects_long : length bytes < total → Collects line bytes ns (Err Room) bytes ns
      collects_long g =
          collects_no_room line bytes ns (those (telegrams_in most (words_in line))) (group_some line h ∙ are.are)
          (rw (are.long, lt-leb total (length bytes) g))

      pub collects_many : total ≤ length bytes → length ns < count → Collects line bytes ns (Err Room) bytes ns
      collects_many g k =
          collects_no_room line bytes ns (those (telegrams_in most (words_in line))) (group_some line h ∙ are.are)
          (rw (are.long, are.many, le-leb total (length bytes) g, lt-leb count (length ns) k))

      pub collects_group : total ≤ length bytes → count ≤ length ns → (bytes' ns' : List ℕ)
          → bytes' ≡ bytes_over (those (telegrams_in most (words_in line))) bytes → ns' ≡ counts_over (those (telegrams_in most (words_in line))) ns
          → Collects line bytes ns (Ok (count, total)) bytes' ns'
      collects_group g k bytes' ns' x y =
          rw (x, y, ← are.long, ← are.many)
          (collects_all line bytes ns (those (telegrams_in most (words_in line))) (group_some line h ∙ are.are)
          (rw (are.long, are.many, le-leb total (length bytes) g, le-leb count (length ns) k)))
