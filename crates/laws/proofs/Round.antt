-- What the driver takes from a source is a run of the rules with these parts, and every run is taken from its parts: for any terms
-- and any source with the laws of Sources.antt. Assumes nothing.
use mathlib.Core.List.{List, [], ◌∷◌, ◌++◌, append-nil, append_assoc}
use mathlib.Core.Path.{◌≡◌, refl, sym, ap, ◌∙◌}
use Prim.Native.Nat.{ℕ, zero, suc, ◌≤◌}
use native.Mathlib.Omega.{arith}
use lib.ListN.{length, length-append}
use Rattle.format.specs.Packets.{Items}
use Rattle.format.specs.Rules.{State, Context, Terms, Next, step, moved}
use Rattle.format.specs.Rules.Next.{go, over, breaks}
use Rattle.format.specs.Telegrams.{Entry, entry, Taken, Driven, on_taken, on_next, push, drive, whole, all, Run}
use Rattle.format.specs.Telegrams.Driven.{ended, stopped}
use Rattle.format.specs.Telegrams.Result.{accepted}
use Rattle.format.specs.Telegrams.Taken.{got, lacks}
use Rattle.format.specs.Telegrams.Run.{last, more}
use Rattle.laws.proofs.Sources.{Had, Source}

-- the parts of entries, and then of others
pub all_append : (part : Entry → List ℕ) (es fs : List Entry) → all part (es ++ fs) ≡ all part es ++ all part fs
all_append part [] fs = refl
all_append part (e ∷ es) fs = rw (all_append part es fs, append_assoc)

-- the state in which the end mark is due
unfoldable pub before_mark : {p : Terms} {s : State} {es : List Entry} → Run p s es → State
before_mark (last {s = s} f e) = s
before_mark (more f e r) = before_mark r

-- a source holds a run from a state on: its parts, and then what is left
pub record Holds (p : Terms) (part : Entry → List ℕ) (s : State) (xs : List ℕ) (es : List Entry) (m : State) (rest : List ℕ) : Type 0 where
  pub run : Run p s es
  pub is : xs ≡ all part es ++ rest
  pub mark : m ≡ before_mark run

module _ (p : Terms) (source : State → List ℕ → Taken) (part : Entry → List ℕ) (Good : State → List ℕ → Type 0)
    (law : Source source part Good) where
  -- ---- sound

  module _ (drives : State → List ℕ → Driven)
      (ih : (t : State) (ys : List ℕ) (fs : List Entry) (m : State) (rest : List ℕ) → Good t ys → drives t ys ≡ ended fs m rest
      → Holds p part t ys fs m rest)
      (s : State) (xs : List ℕ) (es : List Entry) (m : State) (rest : List ℕ) where
    by_rest : (v : ℕ) (ys : List ℕ) (t : Items) (c : Context) (d : Driven) → Had part Good s v xs ys → step p s v ≡ go t c
        → drives (moved s t c) ys ≡ d → push (entry s v) d ≡ ended es m rest → Holds p part s xs es m rest
    unfolding before_mark
    by_rest v ys t c (ended fs n zs) had e r h =
        let ees : entry s v ∷ fs ≡ es = cc in
        let em : n ≡ m = cc in
        let ez : zs ≡ rest = cc in
        let later : Holds p part (moved s t c) ys fs n zs = ih (moved s t c) ys fs n zs (had.good t c) r in
        rw (← ees, ← em, ← ez)
        (record {
          run = more had.fits e later.run;
          is = had.front ∙ ap (λ (l : List ℕ). part (entry s v) ++ l) later.is ∙ sym (append_assoc (part (entry s v)) (all part fs) zs);
          mark = later.mark;
        })
    by_rest v ys t c (stopped r) had e q h = let z : ◌≡◌ {A = ℕ} 0 1 = cc in absurd (omega arith)

    by_next : (v : ℕ) (ys : List ℕ) (n : Next) → Had part Good s v xs ys → step p s v ≡ n
        → on_next p n s v (λ t. drives t ys) ys ≡ ended es m rest → Holds p part s xs es m rest
    unfolding before_mark
    by_next v ys (go t c) had e h = by_rest v ys t c (drives (moved s t c) ys) had e refl h
    by_next v ys over had e h =
        let ees : entry s v ∷ [] ≡ es = cc in
        let em : s ≡ m = cc in
        let ey : ys ≡ rest = cc in
        rw (← ees, ← em, ← ey)
        (record { run = last had.fits e; is = had.front ∙ sym (append_assoc (part (entry s v)) [] ys); mark = refl })
    by_next v ys (breaks k) had e h = let z : ◌≡◌ {A = ℕ} 0 1 = cc in absurd (omega arith)

    by_taken : (r : Taken) → Good s xs → source s xs ≡ r
        → on_taken p r s (λ v ys. on_next p (step p s v) s v (λ t. drives t ys) ys) ≡ ended es m rest → Holds p part s xs es m rest
    by_taken (got v ys) g e h = by_next v ys (step p s v) (law.taken s v xs ys g e) refl h
    by_taken (lacks k) g e h = let z : ◌≡◌ {A = ℕ} 0 1 = cc in absurd (omega arith)

  pub sound : (k : ℕ) (s : State) (xs : List ℕ) (es : List Entry) (m : State) (rest : List ℕ) → Good s xs
      → drive p source k s xs ≡ ended es m rest → Holds p part s xs es m rest
  unfolding drive
  sound zero s xs es m rest g e = let z : ◌≡◌ {A = ℕ} 0 1 = cc in absurd (omega arith)
  sound (suc k) s xs es m rest g e = by_taken (λ t ys. drive p source k t ys) (sound k) s xs es m rest (source s xs) g refl e

  -- ---- complete

  pub complete : {s : State} {es : List Entry} (r : Run p s es) (rest : List ℕ) (k : ℕ) → length (all part es) ≤ k
      → drive p source k s (all part es ++ rest) ≡ ended es (before_mark r) rest
  unfolding drive before_mark
  complete (last {s = s} {v = v} f e) rest zero h = absurd (omega (arith, law.some (entry s v), length-append (part (entry s v)) []))
  complete (last {s = s} {v = v} f e) rest (suc k) h =
      rw (append_assoc (part (entry s v)) [] rest, law.gives s v rest f, e)
  complete (more {s = s} {v = v} {es = es} f e r) rest zero h =
      absurd (omega (arith, law.some (entry s v), length-append (part (entry s v)) (all part es)))
  complete (more {s = s} {v = v} {es = es} f e r) rest (suc k) h =
      rw (append_assoc (part (entry s v)) (all part es) rest, law.gives s v (all part es ++ rest) f, e)
      (rw (complete r rest k (omega (arith, law.some (entry s v), length-append (part (entry s v)) (all part es)))))

  -- ---- accepted: the whole source is a run

  whole_is : (s : State) (xs : List ℕ) (es : List Entry) (d : Driven)
      → ((fs : List Entry) (m : State) (rest : List ℕ) → d ≡ ended fs m rest → Holds p part s xs fs m rest)
      → whole p d ≡ accepted es → Run p s es × (xs ≡ all part es)
  whole_is s xs es (ended fs m []) held h =
      let e : fs ≡ es = cc in
      let holds = held fs m [] refl in
      rw (← e) (holds.run, holds.is ∙ append-nil (all part fs))
  whole_is s xs es (ended fs m (y ∷ ys)) held h = let z : ◌≡◌ {A = ℕ} 0 1 = cc in absurd (omega arith)
  whole_is s xs es (stopped r) held h = let z : ◌≡◌ {A = ℕ} 0 1 = cc in absurd (omega arith)

  pub accepted_is : (k : ℕ) (s : State) (xs : List ℕ) (es : List Entry) → Good s xs → whole p (drive p source k s xs) ≡ accepted es
      → Run p s es × (xs ≡ all part es)
  accepted_is k s xs es g h = whole_is s xs es (drive p source k s xs) (λ fs m rest e. sound k s xs fs m rest g e) h

  pub is_accepted : {s : State} {es : List Entry} → Run p s es → (k : ℕ) → length (all part es) ≤ k
      → whole p (drive p source k s (all part es)) ≡ accepted es
  is_accepted {es = es} r k h =
      ap (whole p) (ap (drive p source k _) (sym (append-nil (all part es))) ∙ complete r [] k h)
