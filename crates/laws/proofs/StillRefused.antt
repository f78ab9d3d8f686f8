-- A rule of directions that is made stricter: what the new rule refuses, the old one refused with the same kind at the same place, or it is
-- refused as 10 (which is told in `Tens`); and what was refused behind a pair is refused as 10 at the first. In reading and in writing. Assumes
-- nothing.
use mathlib.Core.Bool.{Bool}
use mathlib.Core.List.{List}
use mathlib.Core.Logic.{◌⊎◌, inl, inr, ⊎_elim}
use mathlib.Core.Path.{◌≡◌, sym, ◌∙◌}
use Prim.Native.Nat.{ℕ, ◌≤◌}
use native.Mathlib.Omega.{arith}
use lib.ListN.{length}
use Rattle.bits.specs.Bits.{Below}
use Rattle.format.specs.Rules.{State, Terms, collides_by, field_place}
use Rattle.format.specs.Telegrams.{Entry, Taken, from_bits, from_values, bits_in, values_in, read, write}
use Rattle.format.specs.Telegrams.Result.{refused}
use Rattle.format.specs.declared.Kind.TheVariants.{Repeated}
use Rattle.format.specs.declared.Refusal.{Refusal}
use Rattle.laws.proofs.Sources.{from_bits_lem, from_values_lem}
use Rattle.laws.proofs.Points.{Sends, Points, Pointed}
use Rattle.laws.proofs.Points.Points.{lacking, breaking, sizing, trailing}
use Rattle.laws.proofs.JustPointed.{read_refuses, write_refuses}
use Rattle.laws.proofs.Collided.{step_kept}
use Rattle.laws.proofs.Stricter.{Halted, step_weaker, sends_weaker, sent_or_halted}
use Rattle.laws.proofs.Pairs.{Pair, Implies}
use Rattle.laws.proofs.Apart.{sends_apart}
use Rattle.laws.proofs.Tens.{directing, AtFirst}
use Rattle.laws.proofs.Mended.{weaker, halted_first, halted_pointed}

module _ (weak strong : ℕ → ℕ → Bool) (implies : Implies weak strong) where
  -- the terms before, and now
  abbrev old : Terms
  old = directing weak

  abbrev new : Terms
  new = directing strong

  -- ---- from any source

  module _ {source : State → List ℕ → Taken} {part : Entry → List ℕ} {whole : List ℕ} where
    -- it pointed there before
    abbrev before : {q r : Refusal} (h : Pointed new source part whole q) → Points old source h.sent h.state h.left r
        → Pointed old source part whole r
    before h k =
        record {
          sent = h.sent;
          state = h.state;
          left = h.left;
          sends = sends_weaker old new (weaker weak strong implies) h.sends;
          front = h.front;
          points = k;
        }

    -- what is pointed at now was pointed at before, or it is a 10
    still : {r : Refusal} → Pointed new source part whole r → Pointed old source part whole r ⊎ (r.kind ≡ Repeated)
    still h = by_points h.points
      where
        by_points : {r : Refusal} → Points new source h.sent h.state h.left r → Pointed old source part whole r ⊎ (r.kind ≡ Repeated)
        by_points (lacking e m) = inl (before h (lacking e m))
        by_points (breaking {v = v} {k = k} e f o) =
            ⊎_elim (λ i. inl (before h (breaking e (sym i ∙ f) o))) (λ i. inr (cc))
            (step_kept old new (weaker weak strong implies) h.state v)
        by_points (sizing {v = v} e f w) =
            inl
            (before h
            (sizing e (step_weaker old new (weaker weak strong implies) h.state v f (λ i. let z : ◌≡◌ {A = ℕ} 0 1 = cc in omega arith)) w))
        by_points (trailing {v = v} e f) =
            inl
            (before h
            (trailing e (step_weaker old new (weaker weak strong implies) h.state v f (λ i. let z : ◌≡◌ {A = ℕ} 0 1 = cc in omega arith))))

  -- ---- reading and writing

  -- what is refused now was refused so before, or is a 10
  pub read_still : (bs : List ℕ) → Below 2 bs → length bs ≤ 830 → (r : Refusal) → read new bs ≡ refused r
      → (read old bs ≡ refused r) ⊎ (r.kind ≡ Repeated)
  read_still bs b n r e =
      ⊎_elim (λ h. inl ((read_refuses (collides_by weak) bs b n r).1 h)) inr
      (still ((read_refuses (collides_by strong) bs b n r).0 e))

  -- and so in writing
  pub write_still : (vs : List ℕ) (r : Refusal) → write new vs ≡ refused r → (write old vs ≡ refused r) ⊎ (r.kind ≡ Repeated)
  write_still vs r e =
      ⊎_elim (λ h. inl ((write_refuses (collides_by weak) vs r).1 h)) inr
      (still ((write_refuses (collides_by strong) vs r).0 e))

  -- ---- what was refused behind a pair

  -- where the entries before a refusal have a pair, they halt at the first
  halts : {es : List Entry} {s : State} → Sends old es s → Pair strong es → Halted new es
  halts h k = ⊎_elim (λ w. absurd (sends_apart field_place strong w k)) (λ w. w) (sent_or_halted old new (weaker weak strong implies) h)

  -- so what was refused at a field behind a pair is refused now as 10, at the first
  pub read_overtaken : (bs : List ℕ) → Below 2 bs → length bs ≤ 830 → {q : Refusal} (h : Pointed old from_bits bits_in bs q) → Pair strong h.sent
      → (r : Refusal) × ((read new bs ≡ refused r) × AtFirst strong h.sent r)
  read_overtaken bs b n h k =
      let w = halts h.sends k in
      (_, ((read_refuses (collides_by strong) bs b n _).1 (halted_pointed strong from_bits_lem w h.left h.front), halted_first strong w))

  -- and so in writing
  pub write_overtaken : (vs : List ℕ) {q : Refusal} (h : Pointed old from_values values_in vs q) → Pair strong h.sent
      → (r : Refusal) × ((write new vs ≡ refused r) × AtFirst strong h.sent r)
  write_overtaken vs h k =
      let w = halts h.sends k in
      (_, ((write_refuses (collides_by strong) vs _).1 (halted_pointed strong from_values_lem w h.left h.front), halted_first strong w))
