-- Entries told in metres over the bits of those that were sent: one of them, and some behind others. Assumes nothing.
use mathlib.Core.List.{List, [], ◌∷◌, ◌++◌, map, append_assoc, map-append}
use mathlib.Core.Path.{◌≡◌, refl, sym, ap, ap₂, ◌∙◌}
use Prim.Native.Nat.{ℕ, ◌+◌, ◌*◌, ◌^◌, ◌<◌, ◌≤◌}
use native.Mathlib.Omega.{arith}
use lib.Dec.{leb, leb→le}
use lib.ListN.{length, drop, length-append}
use lib.Seq.{take_at, drop_at, drop-drop}
use borrow.Author.Tests.{lt-ltb}
use Rattle.bits.specs.Bits.{digits, bits_of}
use Rattle.bits.specs.Put.{over, put_at}
use Rattle.bits.proofs.Bytes.{length_bits_of}
use Rattle.bits.proofs.Digits.{length_digits}
use Rattle.bits.proofs.Fields.{bits_of_put_at}
use Rattle.distance.specs.Steps.{decimetres, steps}
use Rattle.format.specs.Normal.{View, view, choose, put}
use Rattle.format.specs.Normal.View.{kept, measures}
use Rattle.format.specs.Telegrams.{Entry, bits_in, bits, bit_count}
use Rattle.format.proofs.Rows.{and_right}
use Rattle.laws.proofs.Demand2.{length_bits}
use Rattle.laws.proofs.Round.{all_append}
use Rattle.telling.proofs.Once.{retold}
use Rattle.told.specs.Metres.{number_in, in_metres}

-- ---- a field put over one of its width

over_there : (at w u v : ℕ) (pre post : List ℕ) → length pre ≡ at → over (pre ++ (digits w u ++ post)) at w v ≡ pre ++ (digits w v ++ post)
unfolding over
over_there at w u v pre post l =
    let bs = pre ++ (digits w u ++ post) in
    ap₂ (λ (a b : List ℕ). a ++ (digits w v ++ b)) (take_at pre (digits w u ++ post) at l)
    (sym (drop-drop w at bs) ∙ ap (drop w) (drop_at pre (digits w u ++ post) at l) ∙ drop_at (digits w u) post w (length_digits w u))

pub put_there : (out : List ℕ) (at w u v : ℕ) (pre post : List ℕ) → length pre ≡ at → w ≤ 64 → v < 2 ^ w → bits_of out ≡ pre ++ (digits w u ++ post)
    → bits_of (put_at out at w v) ≡ pre ++ (digits w v ++ post)
put_there out at w u v pre post l n h e =
    let long : 8 * length out ≡ length pre + (w + length post) =
    sym (length_bits_of out)
    ∙ ap length e
    ∙ length-append pre (digits w u ++ post)
    ∙ ap (λ (k : ℕ). length pre + k) (length-append (digits w u) post ∙ ap (λ (k : ℕ). k + length post) (length_digits w u)) in
    bits_of_put_at out at w v n (omega (arith, long, l)) (lt-ltb v (2 ^ w) h)
    ∙ ap (λ (bs : List ℕ). over bs at w v) e
    ∙ over_there at w u v pre post l

-- ---- entries told over those that were sent

-- behind pre and before post, the bits of entries
abbrev pub Holds : List ℕ → List ℕ → List Entry → List ℕ → Type 0
Holds out pre es post = bits_of out ≡ pre ++ (bits es ++ post)

-- What is put into bytes that hold entries at the bit x, sent under the scale q, leaves them there told in metres, and everything else as it was.
pub record Tells (q x : ℕ) (es : List Entry) (puts : List ℕ → List ℕ) : Type 0 where
  pub leaves : (out pre post : List ℕ) → length pre ≡ x → Holds out pre es post → Holds (puts out) pre (map (retold q 1) es) post

-- said in other words
pub tells_as : {q x : ℕ} {es : List Entry} (a b : List ℕ → List ℕ) → ((out : List ℕ) → a out ≡ b out) → Tells q x es a → Tells q x es b
tells_as a b h t = record { leaves = λ out pre post l e. ap bits_of (sym (h out)) ∙ t.leaves out pre post l e }

-- they are as many bits
pub retold_count : (q : ℕ) (es : List Entry) → bit_count (map (retold q 1) es) ≡ bit_count es
retold_count q [] = refl
retold_count q (e ∷ es) = ap (λ (k : ℕ). e.field.width + k) (retold_count q es)

module _ (q x : ℕ) where
  pub tells_none : Tells q x [] (λ out. out)
  tells_none = record { leaves = λ out pre post l e. e }

  -- some, and those behind them
  pub tells_then : {es fs : List Entry} {a b : List ℕ → List ℕ} → Tells q x es a → Tells q (x + bit_count es) fs b
      → Tells q x (es ++ fs) (λ out. b (a out))
  tells_then {es} {fs} {a} {b} t u = record { leaves = both }
    where
      es2 : List Entry
      es2 = map (retold q 1) es

      fs2 : List Entry
      fs2 = map (retold q 1) fs

      part : (xs ys : List Entry) (post : List ℕ) → bits (xs ++ ys) ++ post ≡ bits xs ++ (bits ys ++ post)
      part xs ys post = ap (λ (l : List ℕ). l ++ post) (all_append bits_in xs ys) ∙ append_assoc (bits xs) (bits ys) post

      both : (out pre post : List ℕ) → length pre ≡ x → Holds out pre (es ++ fs) post
          → Holds (b (a out)) pre (map (retold q 1) (es ++ fs)) post
      both out pre post l e =
          let front = pre ++ bits es2 in
          let long : length front ≡ x + bit_count es =
          length-append pre (bits es2) ∙ ap₂ (λ (i j : ℕ). i + j) l (length_bits es2 ∙ retold_count q es) in
          let first : bits_of (a out) ≡ pre ++ (bits es2 ++ (bits fs ++ post)) =
          t.leaves out pre (bits fs ++ post) l (e ∙ ap (λ (l : List ℕ). pre ++ l) (part es fs post)) in
          u.leaves (a out) front post long (first ∙ sym (append_assoc pre (bits es2) (bits fs ++ post)))
          ∙ append_assoc pre (bits es2) (bits fs2 ++ post)
          ∙ ap (λ (l : List ℕ). pre ++ l)
          (sym (part es2 fs2 post) ∙ ap (λ (l : List Entry). bits l ++ post) (sym (map-append (retold q 1) es fs)))

-- ---- one of them

put_over : (q x : ℕ) (s : List ℕ) (e : Entry) → view e ≡ measures → e.value ≡ number_in s e.field.width x
    → steps 1 (decimetres q e.value) < 2 ^ e.field.width → (out pre post : List ℕ) → length pre ≡ x → Holds out pre (e ∷ []) post
    → Holds (in_metres s q e.field.width x out) pre (retold q 1 e ∷ []) post
unfolding bits_in
put_over q x s e h n small out pre post l i =
    let v = e.value in
    let w = e.field.width in
    let m = steps 1 (decimetres q v) in
    let narrow : w ≤ 64 = leb→le w 64 (and_right (leb 1 w) (leb w 64) e.field.sized) in
    let one : (u : ℕ) → (digits w u ++ []) ++ post ≡ digits w u ++ post = λ u. append_assoc (digits w u) [] post in
    ap (λ (u : ℕ). bits_of (put_at out x w (steps 1 (decimetres q u)))) (sym n)
    ∙ put_there out x w v m pre post l narrow small (i ∙ ap (λ (l : List ℕ). pre ++ l) (one v))
    ∙ ap (λ (l : List ℕ). pre ++ l) (sym (one m))
    ∙ ap (λ (k : View). pre ++ (bits (put e (choose k v v m) ∷ []) ++ post)) (sym h)

module _ (s : List ℕ) (q x : ℕ) (e : Entry) where
  -- that counts as it was sent
  pub kept_tells : view e ≡ kept → Tells q x (e ∷ []) (λ out. out)
  kept_tells h = record { leaves = itself }
    where
      itself : (out pre post : List ℕ) → length pre ≡ x → Holds out pre (e ∷ []) post → Holds out pre (retold q 1 e ∷ []) post
      itself out pre post l i =
          let v = e.value in
          i ∙ ap (λ (k : View). pre ++ (bits (put e (choose k v v (steps 1 (decimetres q v))) ∷ []) ++ post)) (sym h)

  -- a distance
  pub measures_tells : view e ≡ measures → e.value ≡ number_in s e.field.width x → steps 1 (decimetres q e.value) < 2 ^ e.field.width
      → Tells q x (e ∷ []) (in_metres s q e.field.width x)
  measures_tells h n small = record { leaves = λ out pre post l i. put_over q x s e h n small out pre post l i }
