-- What is handed over to be written, and what waits behind it, is all that was put, in its order. Assumes nothing.
use mathlib.Core.Path.{◌≡◌, refl, sym, ap, ◌∙◌}
use mathlib.Core.Bool.{Bool, true, false, cond}
use mathlib.Core.List.{List, [], ◌∷◌, ◌++◌, append-nil, append_assoc}
use Prim.Native.Nat.{ℕ, ◌+◌, ◌<◌}
use native.Mathlib.Numerals.{add-one}
use native.Mathlib.Omega.{arith}
use borrow.Author.Tests.{ltb-true}
use lib.Dec.{ltb}
use lib.ListN.{length, take, set, length-set}
use lib.Seq.{append_snoc, take-suc-set}
use Rattle.queue.specs.Waiting.{Waits, waiting, alone, put, queued, Joins}
use Rattle.queue.specs.declared.Queue.{Queue}
use Rattle.line_by_line.specs.Written.{front, pushed, spilled}
use Rattle.line_by_line.specs.Running.{handed, waits}

-- ---- a character

alone_front : (c : ℕ) (bytes : List ℕ) → 0 < length bytes → front (alone c bytes) ≡ c ∷ []
alone_front c [] h = absurd (omega arith)
alone_front c (b ∷ bytes) h = refl

alone_length : (c : ℕ) (bytes : List ℕ) → length (alone c bytes).bytes ≡ length bytes
alone_length c [] = refl
alone_length c (b ∷ bytes) = refl

module _ (c : ℕ) (w : Waits) (some : 0 < length w.bytes) where
  still_some : 0 < length (put c w).bytes
  unfolding put
  still_some = by (ltb w.count (length w.bytes))
    where
      by : (b : Bool) → 0 < length (cond b (waiting (w.count + 1) (set w.bytes w.count c)) (alone c w.bytes)).bytes
      by true = omega (arith, length-set w.bytes w.count c)
      by false = omega (arith, alone_length c w.bytes)

  one_spilled : pushed w ++ front (put c w) ≡ front w ++ (c ∷ [])
  unfolding put
  one_spilled = by (ltb w.count (length w.bytes)) refl
    where
      by : (b : Bool) → ltb w.count (length w.bytes) ≡ b → pushed w ++ front (put c w) ≡ front w ++ (c ∷ [])
      by true e =
          rw e (ap (λ (n : ℕ). take n (set w.bytes w.count c)) (add-one w.count)
          ∙ take-suc-set w.bytes w.count c (ltb-true _ _ e))
      by false e = rw e (ap (λ (l : List ℕ). front w ++ l) (alone_front c w.bytes some))

-- ---- a text

pub all_spilled : (text : List ℕ) (w : Waits) → 0 < length w.bytes → spilled text w ++ front (queued text w) ≡ front w ++ text
unfolding spilled queued
all_spilled [] w h = sym (append-nil (front w))
all_spilled (c ∷ text) w h =
    append_assoc (pushed w) (spilled text (put c w)) (front (queued text (put c w)))
    ∙ ap (λ (l : List ℕ). pushed w ++ l) (all_spilled text (put c w) (still_some c w h))
    ∙ sym (append_assoc (pushed w) (front (put c w)) text)
    ∙ ap (λ (l : List ℕ). l ++ text) (one_spilled c w h)
    ∙ append_snoc (front w) c text

-- what a call hands over, behind what was handed over before
module _ {text out out' : List ℕ} {q t : Queue} (gone : List ℕ) (some : 0 < length out) (j : Joins text q out t out') where
  pub joins_told : (gone ++ handed text q out) ++ waits t out' ≡ (gone ++ waits q out) ++ text
  joins_told =
      let w : Waits = waiting q.waiting out in
      append_assoc gone (handed text q out) (waits t out')
      ∙ ap (λ (v : Waits). gone ++ (handed text q out ++ front v)) j.waits
      ∙ ap (λ (l : List ℕ). gone ++ l) (all_spilled text w some)
      ∙ sym (append_assoc gone (waits q out) text)
