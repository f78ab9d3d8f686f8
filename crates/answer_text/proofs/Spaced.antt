-- The numbers of a run, put one behind the other. Assumes nothing.
use mathlib.Core.Path.{◌≡◌, sym, ap, ◌∙◌}
use mathlib.Core.List.{List, [], ◌∷◌, ◌++◌, append_assoc, append-nil}
use Prim.Native.Nat.{ℕ, ◌+◌, ◌≤◌, ◌<◌}
use native.Mathlib.Numerals.{add-one}
use lib.ListN.{length, take, get_or}
use lib.Seq.{take-suc, take_all}
use Rattle.pieces.specs.Numbers.{decimal}
use Rattle.queue_text.specs.Texts.{space}
use Rattle.queue.specs.Waiting.{Joins}
use Rattle.queue.specs.declared.Queue.{Queue}
use Rattle.queue.proofs.Joining.{joins_nothing, joins_then, joins_as}
use Rattle.answer_text.specs.Texts.{spaced}

spaced_last : (vs : List ℕ) (v : ℕ) → spaced (vs ++ (v ∷ [])) ≡ spaced vs ++ (space ++ decimal v)
unfolding spaced
spaced_last [] v = append-nil (space ++ decimal v)
spaced_last (u ∷ vs) v =
    ap (λ (l : List ℕ). (space ++ decimal u) ++ l) (spaced_last vs v) ∙ sym (append_assoc (space ++ decimal u) (spaced vs) (space ++ decimal v))

pub spaced_nothing : (q : Queue) (before : List ℕ) → Joins (spaced []) q before q before
unfolding spaced
spaced_nothing q before = joins_nothing q before

-- one more
pub spaced_more : {before between out after : List ℕ} {q r s t : Queue} (run : List ℕ) (i : ℕ) → i < length run
    → Joins (spaced (take i run)) q before r between → Joins space r between s out → Joins (decimal (get_or run i 0)) s out t after
    → Joins (spaced (take (i + 1) run)) q before t after
spaced_more run i h g p n =
    joins_as (sym (ap spaced (ap (λ (k : ℕ). take k run) (add-one i) ∙ take-suc run i 0 h) ∙ spaced_last (take i run) (get_or run i 0)))
    (joins_then g (joins_then p n))

pub spaced_all : {before after : List ℕ} {q r : Queue} (run : List ℕ) (i : ℕ) → length run ≤ i → Joins (spaced (take i run)) q before r after
    → Joins (spaced run) q before r after
spaced_all run i h g = joins_as (ap spaced (take_all i run h)) g
