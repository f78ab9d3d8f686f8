-- Demand 3: the normal form decides whether two accepted telegrams say the same, for any terms. Assumes nothing.
use mathlib.Core.Bool.{false}
use mathlib.Core.List.{List, [], ◌∷◌, ◌++◌, append-nil, map}
use mathlib.Core.Logic.{◌↔◌}
use mathlib.Core.Path.{◌≡◌, sym, ap, ◌∙◌}
use Prim.Native.Nat.{ℕ, ◌≤◌}
use lib.ListN.{length}
use Rattle.format.specs.Rules.{Terms}
use Rattle.format.specs.Telegrams.{Entry, bits, bit_count, places, Telegram}
use Rattle.format.specs.Normal.{view, says, metric, normal}
use Rattle.format.specs.Normal.View.{scales}
use Rattle.laws.proofs.Demand2.{length_bits}
use Rattle.laws.proofs.Prefix.{bits_no_prefix}
use Rattle.laws.proofs.Views.{fields_normal, places_normal, bit_count_normal}
use Rattle.laws.proofs.Told.{fair, fair_after, Tells, tells_same}
use Rattle.laws.proofs.OneScale.{one_scale}
use Rattle.laws.proofs.Kept.{says_normal, run_normal}
use Rattle.laws.proofs.Same.{normal_same}

-- ---- "All other fields, the order and the lengths stay"

pub normal_fields : (es : List Entry) → map (λ (e : Entry). e.field) (normal es) ≡ map (λ (e : Entry). e.field) es
normal_fields es = fields_normal 0 0 es

pub normal_places : (at : ℕ) (es : List Entry) → places at (normal es) ≡ places at es
normal_places at es = places_normal 0 0 at es

pub normal_count : (es : List Entry) → bit_count (normal es) ≡ bit_count es
normal_count es = bit_count_normal 0 0 es

-- "has as many bits as its original"
pub normal_size : (es : List Entry) → length (bits (normal es)) ≡ length (bits es)
normal_size es = length_bits (normal es) ∙ normal_count es ∙ sym (length_bits es)

module _ (p : Terms) where
  -- "A normal form is itself accepted"
  pub normal_accepted : {es : List Entry} → Telegram p es → Telegram p (normal es)
  normal_accepted {es} t = run_normal t 0 0 (tells_same 0 es (fair t))

  -- "and says the same"
  pub normal_says : {es : List Entry} → Telegram p es → says (normal es) ≡ says es
  normal_says {es} t = says_normal 0 0 es (fair t) (tells_same 0 es (fair t))

  -- telegrams that say the same have one normal form
  pub normal_one : {a b : List Entry} → Telegram p a → Telegram p b → says a ≡ says b → normal a ≡ normal b
  normal_one {a} {b} ta tb h = normal_same 0 0 0 a b (fair ta) (fair tb) h

  -- "and normalising it again changes nothing"
  pub normal_again : {es : List Entry} → Telegram p es → normal (normal es) ≡ normal es
  normal_again t = normal_one (normal_accepted t) t (normal_says t)

  -- "They say the same .. exactly when their normal forms have the same bits"
  pub same_says : {a b : List Entry} → Telegram p a → Telegram p b → (says a ≡ says b) ↔ (bits (normal a) ≡ bits (normal b))
  same_says {a} {b} ta tb = (
    λ h. ap bits (normal_one ta tb h),
    λ h. let e = (bits_no_prefix p (normal_accepted ta) (normal_accepted tb) [] (append-nil (bits (normal a)) ∙ h)).0 in sym (normal_says ta) ∙ ap says e ∙ normal_says tb,
  )

  -- "otherwise it keeps its scale, which is then the only one that can say it": where e is a scale and the distances after it, up to
  -- the next scale, are not all whole metres that fit, another scale has no counts of steps that fit the fields and say them
  pub only_scale : (ds : List Entry) (e : Entry) (es : List Entry) → Telegram p (ds ++ e ∷ es) → view e ≡ scales
      → metric e.value es ≡ false → (r : ℕ) → r ≤ 2 → (r ≡ e.value → ⊥) → Tells e.value r es → ⊥
  only_scale ds e es t h m r hr n =
      let f = fair_after ds (e ∷ es) (fair t) in
      one_scale e.value r (f.0.known h) hr n es f.1 m
