-- The packets of two runs, put one behind the other. Assumes nothing.
use mathlib.Core.Path.{◌≡◌, refl, sym, ap, ◌∙◌}
use mathlib.Core.List.{List, [], ◌∷◌, ◌++◌, append_assoc, append-nil}
use Prim.Native.Nat.{ℕ, zero, suc, ◌+◌, ◌<◌, min}
use native.Mathlib.Numerals.{add-one}
use native.Mathlib.Omega.{arith}
use lib.ListN.{length, get_or}
use Rattle.queue.specs.Waiting.{Joins}
use Rattle.queue.specs.declared.Queue.{Queue}
use Rattle.queue.proofs.Joining.{joins_nothing, joins_then, joins_as}
use Rattle.group_text.specs.Texts.{packet_text, packet_texts}

texts_last : (n : ℕ) (pigs numbers : List ℕ) → n < length pigs → n < length numbers
    → packet_texts (suc n) pigs numbers ≡ packet_texts n pigs numbers ++ packet_text (get_or pigs n 0) (get_or numbers n 0)
unfolding packet_texts
texts_last n [] numbers h g = absurd (omega arith)
texts_last n (p ∷ pigs) [] h g = absurd (omega arith)
texts_last zero (p ∷ pigs) (j ∷ numbers) h g = append-nil (packet_text p j)
texts_last (suc n) (p ∷ pigs) (j ∷ numbers) h g =
    ap (λ (l : List ℕ). packet_text p j ++ l) (texts_last n pigs numbers (omega arith) (omega arith))
    ∙ sym (append_assoc (packet_text p j) (packet_texts n pigs numbers) (packet_text (get_or pigs n 0) (get_or numbers n 0)))

-- as many as stand in both are all
texts_all : (n m : ℕ) (pigs numbers : List ℕ) → m ≡ min n (min (length pigs) (length numbers)) → packet_texts m pigs numbers ≡ packet_texts n pigs numbers
unfolding packet_texts
texts_all zero zero pigs numbers e = refl
texts_all zero (suc m) pigs numbers e = absurd (omega arith)
texts_all (suc n) zero [] numbers e = refl
texts_all (suc n) zero (p ∷ pigs) [] e = refl
texts_all (suc n) zero (p ∷ pigs) (j ∷ numbers) e = absurd (omega arith)
texts_all (suc n) (suc m) [] numbers e = absurd (omega arith)
texts_all (suc n) (suc m) (p ∷ pigs) [] e = absurd (omega arith)
texts_all (suc n) (suc m) (p ∷ pigs) (j ∷ numbers) e = ap (λ (l : List ℕ). packet_text p j ++ l) (texts_all n m pigs numbers (omega arith))

-- ---- the loop of `each`

pub packets_nothing : (pigs numbers : List ℕ) (q : Queue) (before : List ℕ) → Joins (packet_texts 0 pigs numbers) q before q before
unfolding packet_texts
packets_nothing pigs numbers q before = joins_nothing q before

pub packets_more : {before between after : List ℕ} {q r s : Queue} (pigs numbers : List ℕ) (i : ℕ) → i < length pigs → i < length numbers
    → Joins (packet_texts i pigs numbers) q before r between → Joins (packet_text (get_or pigs i 0) (get_or numbers i 0)) r between s after
    → Joins (packet_texts (i + 1) pigs numbers) q before s after
packets_more pigs numbers i h k g p =
    joins_as (sym (ap (λ (n : ℕ). packet_texts n pigs numbers) (add-one i) ∙ texts_last i pigs numbers h k)) (joins_then g p)

pub packets_all : {before after : List ℕ} {q r : Queue} (pigs numbers : List ℕ) (count i : ℕ) → i ≡ min count (min (length pigs) (length numbers))
    → Joins (packet_texts i pigs numbers) q before r after → Joins (packet_texts count pigs numbers) q before r after
packets_all pigs numbers count i e g = joins_as (texts_all count i pigs numbers e) g
