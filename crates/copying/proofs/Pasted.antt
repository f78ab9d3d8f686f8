-- A list with the front of another over it, and eight elements more. Assumes nothing.
use mathlib.Core.List.{List, ◌++◌, append_assoc}
use mathlib.Core.Path.{◌≡◌, sym, ap, ap₂, ◌∙◌}
use Prim.Native.Nat.{ℕ, suc, ◌+◌, ◌-◌, ◌≤◌, ◌<◌}
use native.Mathlib.Omega.{arith}
use lib.ListN.{length, take, drop, get_or, set, length-append, length-drop}
use lib.Seq.{paste, paste-zero, paste-suc, take-add, take_all, take-append-le, drop-append-add, drop-drop, get_or-drop, length-take-le}

-- the first i of s, and then what d has there
abbrev pub fronted : List ℕ → List ℕ → ℕ → List ℕ
fronted d s i = take i s ++ drop i d

module _ (d s : List ℕ) (fits : length s ≤ length d) where
  pub length_fronted : (i : ℕ) → i ≤ length s → length (fronted d s i) ≡ length d
  length_fronted i h = length-append (take i s) (drop i d) ∙ rw (length-take-le i s h, length-drop i d) (omega arith)

  -- eight more from j on, of which some may be there
  pub eight_more : (i j : ℕ) → j ≤ i → i ≤ j + 8 → j + 8 ≤ length s
      → take j (fronted d s i) ++ (take 8 (drop j s) ++ drop (j + 8) (fronted d s i)) ≡ fronted d s (j + 8)
  eight_more i j h l m =
      let long : length (take i s) ≡ i = length-take-le i s (omega arith) in
      let parts : i ≡ j + (i - j) = omega arith in
      let before : take j (fronted d s i) ≡ take j s =
      take-append-le j (take i s) (drop i d) (omega arith)
      ∙ ap (take j) (ap (λ (k : ℕ). take k s) parts ∙ take-add j (i - j) s)
      ∙ take-append-le j (take j s) (take (i - j) (drop j s)) (omega (arith, length-take-le j s (let z : j ≤ length s = omega arith in z)))
      ∙ take_all j (take j s) (omega (arith, length-take-le j s (let z : j ≤ length s = omega arith in z))) in
      let rest : j + 8 ≡ length (take i s) + (j + 8 - i) = omega arith in
      let whole : i + (j + 8 - i) ≡ j + 8 = omega arith in
      let after : drop (j + 8) (fronted d s i) ≡ drop (j + 8) d =
      ap (λ (k : ℕ). drop k (fronted d s i)) rest
      ∙ drop-append-add (take i s) (drop i d) (j + 8 - i)
      ∙ drop-drop (j + 8 - i) i d
      ∙ ap (λ (k : ℕ). drop k d) whole in
      ap₂ (λ (x y : List ℕ). x ++ (take 8 (drop j s) ++ y)) before after
      ∙ sym (append_assoc (take j s) (take 8 (drop j s)) (drop (j + 8) d))
      ∙ ap (λ (x : List ℕ). x ++ drop (j + 8) d) (sym (take-add j 8 s))

-- ---- eight elements, one by one

module _ (s out : List ℕ) (k : ℕ) (room : k + 8 ≤ length s) (fits : length s ≤ length out) where
  one : (j : ℕ) → j < 8 → {o : List ℕ} → o ≡ paste out k (drop k s) j → set o (k + j) (get_or s (k + j) 0) ≡ paste out k (drop k s) (suc j)
  one j h {o} e =
      ap (λ (l : List ℕ). set l (k + j) (get_or s (k + j) 0)) e
      ∙ ap (set (paste out k (drop k s) j) (k + j)) (sym (get_or-drop k s j 0))
      ∙ paste-suc out k (drop k s) j 0 (omega arith) (rw (length-drop k s) (omega arith))

  pub pasted : {o : List ℕ} → o ≡ set (set (set (set (set (set (set (set out k (get_or s k 0)) (k + 1) (get_or s (k + 1) 0)) (k + 2) (get_or s (k + 2) 0)) (k + 3) (get_or s (k + 3) 0)) (k + 4) (get_or s (k + 4) 0)) (k + 5) (get_or s (k + 5) 0)) (k + 6) (get_or s (k + 6) 0)) (k + 7) (get_or s (k + 7) 0)
      → o ≡ take k out ++ (take 8 (drop k s) ++ drop (k + 8) out)
  pasted e =
      let here : k + 0 ≡ k = omega arith in
      let first = rw here at (one 0 (omega arith) (paste-zero out k (drop k s))) in
      e ∙ one 7 (omega arith) (one 6 (omega arith) (one 5 (omega arith) (one 4 (omega arith) (one 3 (omega arith) (one 2 (omega arith) (one 1 (omega arith) first))))))
      ∙ append_assoc (take k out) (take 8 (drop k s)) (drop (k + 8) out)
