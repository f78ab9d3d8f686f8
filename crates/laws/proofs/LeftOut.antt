-- Leaving the scales out of what is said changes nothing: where they stand follows from the other fields. Assumes nothing.
use mathlib.Core.List.{List, [], ◌∷◌}
use mathlib.Core.Logic.{◌↔◌}
use mathlib.Core.Path.{◌≡◌, refl, sym, ap, ap₂, ◌∙◌, subst}
use Prim.Native.Nat.{ℕ}
use native.Mathlib.Omega.{arith}
use Rattle.format.specs.Packets.{Items}
use Rattle.format.specs.Rules.{State, Context, Terms, Next, step, named, moved}
use Rattle.format.specs.Rules.Next.{go, over}
use Rattle.format.specs.Telegrams.{Entry, entry, Run, Telegram}
use Rattle.format.specs.Telegrams.Run.{last, more}
use Rattle.distance.specs.Steps.{decimetres}
use Rattle.format.specs.Normal.{View, view, choose, Said, says_under, says}
use Rattle.format.specs.Normal.Said.{sent, apart, long}
use Rattle.format.specs.Normal.View.{kept, scales, measures}
use Rattle.laws.proofs.Exchange.{distance_alike, scale_alike, scale_named}
use Rattle.laws.proofs.Told.{Fair, fair}

-- what is said, without the scales
unfoldable pub spoken : List Said → List Said
spoken [] = []
spoken (sent f v ∷ xs) = sent f v ∷ spoken xs
spoken (apart f ∷ xs) = spoken xs
spoken (long f d ∷ xs) = long f d ∷ spoken xs

abbrev Same : ℕ → ℕ → List Entry → List Entry → Type 0
Same q r a b = spoken (says_under q a) ≡ spoken (says_under r b) → says_under q a ≡ says_under r b

-- two values at one state, and what follows each
module _ (p : Terms) (q r : ℕ) (s : State) (u v : ℕ) (a b : List Entry) (fu : Fair (entry s u)) (fv : Fair (entry s v))
    (rest : step p s u ≡ step p s v → (q2 r2 : ℕ) → Same q2 r2 a b) where
  abbrev said : ℕ → ℕ → View → List Entry → List Said
  said t x k xs =
      let f = named s.todo x in
      choose k (sent f x) (apart f) (long f (decimetres t x)) ∷ says_under (choose k t x t) xs

  spoken_at : (j k : View) → view (entry s u) ≡ j → view (entry s v) ≡ k → spoken (said q u j a) ≡ spoken (said r v k b)
      → said q u j a ≡ said r v k b
  unfolding spoken
  spoken_at kept kept hj hk h =
      let e : u ≡ v = cc in
      let t = rest (ap (step p s) e) q r (cc) in
      cc
  spoken_at scales scales hj hk h =
      let i = scale_alike p s v u hk (fu.known hj) (fv.known hk) in
      let n = i.name in
      let t = rest i.same u v h in
      cc
  spoken_at measures measures hj hk h =
      let i = distance_alike p s v u hk in
      let n = i.name in
      let t = rest i.same q r (cc) in
      cc
  spoken_at kept measures hj hk h = cc
  spoken_at measures kept hj hk h = cc
  spoken_at kept scales hj hk h = let y = scale_named s u v hk in cc
  spoken_at measures scales hj hk h = let y = scale_named s u v hk in cc
  spoken_at scales kept hj hk h = let y = scale_named s v u hj in cc
  spoken_at scales measures hj hk h = let y = scale_named s v u hj in cc

-- a value does not lead two ways
not_two : {A : Type 0} {x : Next} {t : Items} {c : Context} → x ≡ over → x ≡ go t c → A
not_two h k = let z : ◌≡◌ {A = ℕ} 0 1 = cc in absurd (omega arith)

same_state : {p : Terms} (s : State) {t t2 : Items} {c c2 : Context} {b : List Entry} → go t2 c2 ≡ go t c → Run p (moved s t2 c2) b
    → Run p (moved s t c) b
same_state {p} s {t} {t2} {c} {c2} {b} h r =
    let e : t2 ≡ t = cc in
    let d : c2 ≡ c = cc in
    subst (λ (x : State). Run p x b) (ap₂ (moved s) e d) r

spoken_run : {p : Terms} {s : State} {a : List Entry} → Run p s a → {b : List Entry} → Run p s b → (q r : ℕ) → Same q r a b
unfolding says_under
spoken_run {p} (last {s = s} {v = u} f e) (last {v = v} g d) q r =
    spoken_at p q r s u v [] [] (fair (last f e)).0 (fair (last g d)).0 (λ i q2 r2 h. refl) (view (entry s u)) (view (entry s v)) refl refl
spoken_run {p} (last {s = s} {v = u} f e) (more {v = v} {es = b} g d l) q r =
    spoken_at p q r s u v [] b (fair (last f e)).0 (fair (more g d l)).0 (λ i. not_two (sym i ∙ e) d) (view (entry s u)) (view (entry s v)) refl refl
spoken_run {p} (more {s = s} {v = u} {es = a} f e k) (last {v = v} g d) q r =
    spoken_at p q r s u v a [] (fair (more f e k)).0 (fair (last g d)).0 (λ i. not_two (i ∙ d) e) (view (entry s u)) (view (entry s v)) refl refl
spoken_run {p} (more {s = s} {v = u} {t = t} {c = c} {es = a} f e k) (more {v = v} {t = t2} {c = c2} {es = b} g d l) q r =
    spoken_at p q r s u v a b (fair (more f e k)).0 (fair (more g d l)).0 (λ i q2 r2 h. spoken_run k (same_state s (sym d ∙ sym i ∙ e) l) q2 r2 h) (view (entry s u)) (view (entry s v)) refl refl

-- "equal fields apart from Q_SCALE": accepted telegrams that say the same without the scales say the same
pub left_out : {p : Terms} {a b : List Entry} → Telegram p a → Telegram p b → (spoken (says a) ≡ spoken (says b)) ↔ (says a ≡ says b)
left_out ta tb = (spoken_run ta tb 0 0, ap spoken)
