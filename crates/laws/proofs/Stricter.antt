-- Two terms, by the second of which more collides. What the second accepts, the first accepts; and what the first accepts, the second
-- accepts too, or refuses as 10. So a telegram is accepted just where it is without rule 10, and has no pair. Assumes nothing.
use mathlib.Core.Bool.{Bool, false}
use mathlib.Core.List.{List, [], ◌∷◌, ◌++◌, append_assoc}
use mathlib.Core.Logic.{◌↔◌, ◌⊎◌, inl, inr, ⊎_elim}
use mathlib.Core.Path.{◌≡◌, sym, ap, ◌∙◌, subst}
use Prim.Native.Nat.{ℕ}
use native.Mathlib.Omega.{arith}
use Rattle.format.specs.Packets.{Items}
use Rattle.format.specs.Rules.{State, Context, Terms, Next, step, moved}
use Rattle.format.specs.Rules.Next.{go, breaks}
use Rattle.format.specs.Telegrams.{Entry, entry, Fits, Run, Telegram}
use Rattle.format.specs.Telegrams.Run.{last, more}
use Rattle.format.specs.declared.Kind.{Kind}
use Rattle.format.specs.declared.Kind.TheVariants.{Repeated}
use Rattle.laws.proofs.Points.{Sends}
use Rattle.laws.proofs.Points.Sends.{nothing, one_more}
use Rattle.laws.proofs.Pairs.{Pair, pair_grown}
use Rattle.laws.proofs.Collided.{Weaker, step_kept}
use Rattle.laws.proofs.Apart.{ruled, repeated_pair, telegram_apart}

-- a run up to the first value that is refused as 10
pub record Halted (q : Terms) (whole : List Entry) : Type 0 where
  pub sent : List Entry
  pub state : State
  pub value : ℕ
  pub left : List Entry
  pub sends : Sends q sent state
  pub fits : Fits state value
  pub repeats : step q state value ≡ breaks Repeated
  pub parts : whole ≡ (sent ++ (entry state value ∷ [])) ++ left

module _ (p q : Terms) (weaker : Weaker p q) where
  -- ---- what the second accepts, the first accepts

  -- what a value leads to by the second, if it is not refused as 10, it leads to by the first
  pub step_weaker : (s : State) (v : ℕ) {n : Next} → step q s v ≡ n → (n ≡ breaks Repeated → ⊥) → step p s v ≡ n
  step_weaker s v e not = ⊎_elim (λ k. sym k ∙ e) (λ k. absurd (not (sym e ∙ k))) (step_kept p q weaker s v)

  -- where the second leads on, the first does
  go_weaker : (s : State) (v : ℕ) {t : Items} {c : Context} → step q s v ≡ go t c → step p s v ≡ go t c
  go_weaker s v e = step_weaker s v e (λ i. let z : ◌≡◌ {A = ℕ} 0 1 = cc in omega arith)

  -- a run by the second is one by the first
  pub run_weaker : {s : State} {es : List Entry} → Run q s es → Run p s es
  run_weaker (last {s = s} {v = v} f e) = last f (step_weaker s v e (λ i. let z : ◌≡◌ {A = ℕ} 0 1 = cc in omega arith))
  run_weaker (more {s = s} {v = v} f e r) = more f (go_weaker s v e) (run_weaker r)

  -- entries that are sent by the second are sent by the first
  pub sends_weaker : {es : List Entry} {s : State} → Sends q es s → Sends p es s
  sends_weaker nothing = nothing
  sends_weaker (one_more {s = s} v h f e) = one_more v (sends_weaker h) f (go_weaker s v e)

  -- ---- what the first accepts, the second accepts or refuses as 10

  module _ {es : List Entry} {s : State} {v : ℕ} (sends : Sends q es s) (fits : Fits s v) where
    -- a value that is refused as 10 is where the run halts
    halts_here : (rest : List Entry) → step q s v ≡ breaks Repeated → Halted q (es ++ entry s v ∷ rest)
    halts_here rest k =
        record {
          sent = es;
          state = s;
          value = v;
          left = rest;
          sends = sends;
          fits = fits;
          repeats = k;
          parts = sym (append_assoc es (entry s v ∷ []) rest);
        }

  -- a run by the first is one by the second, or halts
  goes_on : {es : List Entry} {s : State} {rest : List Entry} → Sends q es s → Run p s rest → Run q s rest ⊎ Halted q (es ++ rest)
  goes_on {es} h (last {s = s} {v = v} f e) = by_step (step_kept p q weaker s v)
    where
      by_step : (step q s v ≡ step p s v) ⊎ (step q s v ≡ breaks Repeated) → Run q s (entry s v ∷ []) ⊎ Halted q (es ++ entry s v ∷ [])
      by_step (inl k) = inl (last f (k ∙ e))
      by_step (inr k) = inr (halts_here h f [] k)
  goes_on {es} h (more {s = s} {v = v} {t = t} {c = c} {es = rest} f e r) =
      by_step (step_kept p q weaker s v) (λ k. goes_on {es = es ++ (entry s v ∷ [])} (one_more v h f k) r)
    where
      by_step : (step q s v ≡ step p s v) ⊎ (step q s v ≡ breaks Repeated)
          → (step q s v ≡ go t c → Run q (moved s t c) rest ⊎ Halted q ((es ++ (entry s v ∷ [])) ++ rest))
          → Run q s (entry s v ∷ rest) ⊎ Halted q (es ++ entry s v ∷ rest)
      by_step (inl k) on =
          ⊎_elim (λ w. inl (more f (k ∙ e) w)) (λ w. inr (subst (Halted q) (append_assoc es (entry s v ∷ []) rest) w)) (on (k ∙ e))
      by_step (inr k) on = inr (halts_here h f rest k)

  -- and so is a telegram
  -- and so for entries that were sent
  pub sent_or_halted : {es : List Entry} {s : State} → Sends p es s → Sends q es s ⊎ Halted q es
  sent_or_halted nothing = inl nothing
  sent_or_halted (one_more {es = es} {s = s} v {t = t} {c = c} h f e) = by_sent (sent_or_halted h)
    where
      further : Halted q es → Halted q (es ++ (entry s v ∷ []))
      further w =
          record {
            sent = w.sent;
            state = w.state;
            value = w.value;
            left = w.left ++ (entry s v ∷ []);
            sends = w.sends;
            fits = w.fits;
            repeats = w.repeats;
            parts = ap (λ (l : List Entry). l ++ (entry s v ∷ [])) w.parts ∙ append_assoc (w.sent ++ (entry w.state w.value ∷ [])) w.left (entry s v ∷ []);
          }

      by_step : Sends q es s → (step q s v ≡ step p s v) ⊎ (step q s v ≡ breaks Repeated)
          → Sends q (es ++ (entry s v ∷ [])) (moved s t c) ⊎ Halted q (es ++ (entry s v ∷ []))
      by_step w (inl k) = inl (one_more v w f (k ∙ e))
      by_step w (inr k) = inr (halts_here w f [] k)

      by_sent : Sends q es s ⊎ Halted q es → Sends q (es ++ (entry s v ∷ [])) (moved s t c) ⊎ Halted q (es ++ (entry s v ∷ []))
      by_sent (inl w) = by_step w (step_kept p q weaker s v)
      by_sent (inr w) = inr (further w)

  pub accepted_or_halted : {es : List Entry} → Telegram p es → Telegram q es ⊎ Halted q es
  accepted_or_halted r = goes_on nothing r

-- ---- just the pairs

-- the terms without rule 10, wherever their refusals point
abbrev pub lenient : (Kind → State → ℕ) → Terms
lenient place = record { place_of = place; collides = λ c v. false }

module _ (place : Kind → State → ℕ) (collide : ℕ → ℕ → Bool) where
  -- a run that halts has a pair
  halted_pair : {es : List Entry} → Halted (ruled place collide) es → Pair collide es
  halted_pair h = subst (Pair collide) (sym h.parts) (pair_grown (repeated_pair place collide h.sends h.repeats).pair h.left)

  -- what a weaker rule accepts and has no pair is accepted
  only_pairs : (p : Terms) → Weaker p (ruled place collide) → {es : List Entry} → Telegram p es → (Pair collide es → ⊥)
      → Telegram (ruled place collide) es
  only_pairs p weaker t apart =
      ⊎_elim (λ r. r) (λ h. absurd (apart (halted_pair h))) (accepted_or_halted p (ruled place collide) weaker t)

  -- all that rule 10 asks of a telegram is that it has no pair
  pub just_pairs : {es : List Entry} → Telegram (ruled place collide) es ↔ (Telegram (lenient place) es × (Pair collide es → ⊥))
  just_pairs = (
    λ t. (run_weaker (lenient place) (ruled place collide) never t, telegram_apart place collide t),
    λ h. only_pairs (lenient place) never h.0 h.1,
  )
    where
      never : Weaker (lenient place) (ruled place collide)
      never c v e = cc
