-- The promise of `start` is met by one answer alone. That of `next` is met by one outcome alone where the outside brings the same. Assumes nothing.
use Rattle.std.specs.Prelude.{Result}
use mathlib.Core.Path.{◌≡◌, refl, sym, ap, ap₂, ◌∙◌}
use mathlib.Core.Bool.{Bool, true, false}
use mathlib.Core.List.{List}
use Prim.Native.Nat.{ℕ, ◌≤◌}
use native.Mathlib.Omega.{arith}
use borrow.Author.Tests.{ltb-true, ltb-false}
use lib.Dec.{ltb}
use Rattle.blocks.specs.contracts as promises
use Rattle.bits.proofs.Once.{OneOutcome, OneOutcomeGiven}
use Rattle.blocks.specs.Reading.{Steps, arrived_at, arrived_line}
use Rattle.blocks.specs.declared.ReadFailed.{ReadFailed}
use Rattle.blocks.specs.declared.Input.{Input}
use Rattle.blocks.proofs.start
use Rattle.blocks.proofs.next

pub start_once : OneOutcome promises.start.ended start.Reads.Post
start_once κs args r t u v p q = (p ∙ sym q, refl)

-- what the outside brings where a block is read: what the block then holds, and how many bytes came, or that none could be read
abbrev Brought : Input → Type 0
Brought i = i.ended ≡ false → i.to ≤ i.from → List ℕ × Result ℕ ReadFailed

abbrev brought : {block line : List ℕ} {i r : Input} {block' line' : List ℕ} → Steps block line i r block' line' → Brought i
brought {block' = after} h = λ e f. (after, (h.reads e f).got)

module _ {block line : List ℕ} {i r t : Input} {b c l m : List ℕ} (h : Steps block line i r b l) (g : Steps block line i t c m)
    (e : brought h ≡ brought g) where
  same_step : (r ≡ t) × (b ≡ c) × (l ≡ m)
  same_step = by i.ended refl (ltb i.from i.to) refl
    where
      by : (x : Bool) → i.ended ≡ x → (y : Bool) → ltb i.from i.to ≡ y → (r ≡ t) × (b ≡ c) × (l ≡ m)
      by true x y f =
          ((h.stays x).0 ∙ sym (g.stays x).0, (h.stays x).1 ∙ sym (g.stays x).1, (h.stays x).2 ∙ sym (g.stays x).2)
      by false x true f =
          let k = h.goes x (ltb-true i.from i.to f) in
          let n = g.goes x (ltb-true i.from i.to f) in
          (k.1.stands ∙ sym n.1.stands, k.0 ∙ sym n.0, k.1.text ∙ sym n.1.text)
      by false x false f =
          let few : i.to ≤ i.from = omega (arith, ltb-false i.from i.to f) in
          let k = (h.reads x few).arrives in
          let n = (g.reads x few).arrives in
          let same : b ≡ c = ap (λ (w : Brought i). (w x few).0) e in
          let got : (h.reads x few).got ≡ (g.reads x few).got = ap (λ (w : Brought i). (w x few).1) e in (
            k.stands ∙ ap₂ (λ (d : List ℕ) (z : Result ℕ ReadFailed). arrived_at d line i z) same got ∙ sym n.stands,
            same,
            k.text ∙ ap₂ (λ (d : List ℕ) (z : Result ℕ ReadFailed). arrived_line d line i z) same got ∙ sym n.text,
          )

pub next_once : OneOutcomeGiven promises.next.ended next.Reads.Post (λ κs args r s p. brought p)
next_once κs args r t u v p q e =
    let same = same_step p q e in (
      same.0,
      ap₂ (λ (block line : List ℕ). (u.0, (block, (line, u.1.1.1)))) same.1 same.2,
    )
