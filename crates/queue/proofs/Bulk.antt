-- A piece put at once, where there is room for it, is put as its characters are. Assumes nothing.
use mathlib.Core.Path.{◌≡◌, refl, sym, ap, ap₂, ◌∙◌}
use mathlib.Core.Bool.{false, or-false}
use mathlib.Core.List.{List, [], ◌∷◌}
use Prim.Native.Nat.{ℕ, suc, ◌+◌, ◌≤◌}
use native.Mathlib.Nat.{add-zero}
use native.Mathlib.Numerals.{add-one}
use native.Mathlib.Omega.{arith}
use borrow.Author.Tests.{le-leb, lt-ltb}
use lib.ListN.{length, set, length-set}
use lib.Seq.{sets, sets-eq}
use Rattle.pieces.specs.Pieces.{over, past, Appended}
use Rattle.queue.specs.Waiting.{waiting, queued, overflows, Joins}
use Rattle.queue.specs.declared.Queue.{Queue}
use Rattle.queue.proofs.Joining.{put_behind}

queued_sets : (piece bytes : List ℕ) (n : ℕ) → n + length piece ≤ length bytes → queued piece (waiting n bytes) ≡ waiting (n + length piece) (sets bytes n piece)
unfolding queued
queued_sets [] bytes n h = ap (λ (k : ℕ). waiting k bytes) (sym (add-zero n))
queued_sets (c ∷ piece) bytes n h =
    let l : suc n + length piece ≤ length (set bytes n c) = omega (arith, length-set bytes n c) in
    let e : suc n + length piece ≡ n + suc (length piece) = omega arith in
    ap (queued piece) (put_behind c n bytes (omega arith)) ∙ ap (λ (k : ℕ). queued piece (waiting k (set bytes n c))) (add-one n)
    ∙ queued_sets piece (set bytes n c) (suc n) l
    ∙ ap (λ (k : ℕ). waiting k (sets (set bytes n c) (suc n) piece)) e

overflows_not : (piece bytes : List ℕ) (n : ℕ) → n + length piece ≤ length bytes → overflows piece (waiting n bytes) ≡ false
unfolding overflows
overflows_not [] bytes n h = refl
overflows_not (c ∷ piece) bytes n h =
    let l : n + 1 + length piece ≤ length (set bytes n c) = omega (arith, length-set bytes n c) in
    rw (lt-ltb n (length bytes) (omega arith), put_behind c n bytes (omega arith)) (overflows_not piece (set bytes n c) (n + 1) l)

module _ (q : Queue) (before piece after : List ℕ) (end : ℕ) (h : q.waiting + length piece ≤ length before)
    (a : Appended before q.waiting piece end after) where
  pub joins_at_once : Joins piece q before (record { waiting = end; lost = q.lost }) after
  unfolding over past
  joins_at_once =
      let x : end ≡ q.waiting + length piece = a.ends ∙ rw (le-leb (q.waiting + length piece) (length before) h) in
      let y : after ≡ sets before q.waiting piece =
      a.text ∙ rw (le-leb (q.waiting + length piece) (length before) h) (sym (sets-eq piece before q.waiting h)) in
      record {
        waits = ap₂ waiting x y ∙ sym (queued_sets piece before q.waiting h);
        failed = false;
        loses = rw (overflows_not piece before q.waiting h) (sym (or-false q.lost));
      }
