-- What a stricter rule of directions changes in an answer, for reading and writing alike: what was accepted and has no pair is accepted, what
-- was accepted and has one is refused as 10 at its first, and all else stays refused. Assumes nothing.
use mathlib.Core.Bool.{Bool}
use mathlib.Core.List.{List}
use mathlib.Core.Logic.{◌↔◌, ◌⊎◌, ⊎_elim}
use mathlib.Core.Path.{◌≡◌, ap, ◌∙◌, subst}
use Prim.Native.Nat.{ℕ, ◌≤◌}
use native.Mathlib.Omega.{arith}
use lib.ListN.{length}
use Rattle.bits.specs.Bits.{Below}
use Rattle.format.specs.Rules.{State, begun, field_place}
use Rattle.format.specs.Telegrams.{Entry, Taken, Result, read, write, all}
use Rattle.format.specs.Telegrams.Result.{accepted, refused}
use Rattle.format.specs.declared.Kind.TheVariants.{Repeated}
use Rattle.format.specs.declared.Refusal.{Refusal}
use Rattle.laws.proofs.Refused.{Decides, read_decides, write_decides}
use Rattle.laws.proofs.Pairs.{Pair, Implies}
use Rattle.laws.proofs.Apart.{telegram_apart}
use Rattle.laws.proofs.Mended.{Turned, still_accepted, mended}
use Rattle.laws.proofs.Tens.{directing, AtFirst}
use Rattle.laws.proofs.StillRefused.{read_still, write_still}

-- an answer before, and the answer now by the stricter rule
pub record Changed (strong : ℕ → ℕ → Bool) (before now : Result) : Type 0 where
  -- just what was accepted and has no pair is accepted now
  pub accepts : (es : List Entry) → (now ≡ accepted es) ↔ ((before ≡ accepted es) × (Pair strong es → ⊥))
  -- what was accepted is refused now just where it has a pair
  pub turns : (es : List Entry) → before ≡ accepted es → ((r : Refusal) × (now ≡ refused r)) ↔ Pair strong es
  -- and that at the first
  pub there : (es : List Entry) (r : Refusal) → before ≡ accepted es → now ≡ refused r → AtFirst strong es r
  -- what is refused now was refused in the same way, or it is a 10: the first pair of what was sent (`Tens`)
  pub still : (r : Refusal) → now ≡ refused r → (before ≡ refused r) ⊎ (r.kind ≡ Repeated)

-- an answer is not of both sorts
pub not_both : {A : Type 0} {a : Result} {es : List Entry} {r : Refusal} → a ≡ accepted es → a ≡ refused r → A
not_both e f = let z : ◌≡◌ {A = ℕ} 0 1 = cc in absurd (omega arith)

module _ (weak strong : ℕ → ℕ → Bool) (implies : Implies weak strong) where
  -- ---- from any source

  module _ {source : State → List ℕ → Taken} {part : Entry → List ℕ} {xs : List ℕ} {before now : Result}
      (was : Decides (directing weak) source part begun xs before) (is : Decides (directing strong) source part begun xs now)
      (turned : (es : List Entry) → xs ≡ all part es → (t : Turned strong es) → now ≡ refused t.refusal) where
    accepts_just : (es : List Entry) → (now ≡ accepted es) ↔ ((before ≡ accepted es) × (Pair strong es → ⊥))
    accepts_just es = (
      λ e. let h = (is.accepts es).0 e in
          ((was.accepts es).1 (still_accepted weak strong implies h.0, h.1), telegram_apart field_place strong h.0),
      λ h. let w = (was.accepts es).0 h.0 in
          ⊎_elim (λ t. (is.accepts es).1 (t.0, w.1)) (λ t. absurd (h.1 t.there.pair)) (mended weak strong implies w.0),
    )

    at_first : (es : List Entry) (r : Refusal) → before ≡ accepted es → now ≡ refused r → AtFirst strong es r
    at_first es r h e =
        let w = (was.accepts es).0 h in
        ⊎_elim (λ t. not_both ((is.accepts es).1 (t.0, w.1)) e)
        (λ t. let f = turned es w.1 t in let i : t.refusal ≡ r = cc in subst (AtFirst strong es) i t.there) (mended weak strong implies w.0)

    turns_just : (es : List Entry) → before ≡ accepted es → ((r : Refusal) × (now ≡ refused r)) ↔ Pair strong es
    turns_just es h =
        let w = (was.accepts es).0 h in (
          λ r. (at_first es r.0 h r.1).pair,
          λ k. ⊎_elim (λ t. absurd (t.1 k)) (λ t. (t.refusal, turned es w.1 t)) (mended weak strong implies w.0),
        )

    changed : ((r : Refusal) → now ≡ refused r → (before ≡ refused r) ⊎ (r.kind ≡ Repeated)) → Changed strong before now
    changed still = record { accepts = accepts_just; turns = turns_just; there = at_first; still = still }

  -- ---- reading and writing

  pub read_changed : (bs : List ℕ) → Below 2 bs → length bs ≤ 830 → Changed strong (read (directing weak) bs) (read (directing strong) bs)
  read_changed bs b n =
      changed (read_decides (directing weak) bs b n) (read_decides (directing strong) bs b n)
      (λ es i t. ap (read (directing strong)) i ∙ t.read_now) (read_still weak strong implies bs b n)

  pub write_changed : (vs : List ℕ) → Changed strong (write (directing weak) vs) (write (directing strong) vs)
  write_changed vs =
      changed (write_decides (directing weak) vs) (write_decides (directing strong) vs)
      (λ es i t. ap (write (directing strong)) i ∙ t.written_now) (write_still weak strong implies vs)
