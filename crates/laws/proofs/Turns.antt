-- For a loop that reads or writes field by field: one turn of the driver for each outcome, the entries that were pushed before it, and
-- that the bound on the fields is no part of the answer. Assumes nothing.
use mathlib.Core.List.{List, [], ◌∷◌, ◌++◌}
use mathlib.Core.Path.{◌≡◌, refl, ap, ◌∙◌}
use Prim.Native.Nat.{ℕ, zero, suc, ◌<◌, ◌≤◌}
use native.Mathlib.Omega.{arith}
use lib.ListN.{length, length-append}
use Rattle.format.specs.Packets.{Items}
use Rattle.format.specs.Rules.{State, Context, Terms, Next, step, moved}
use Rattle.format.specs.Rules.Next.{go, over, breaks}
use Rattle.format.specs.Telegrams.{Entry, entry, Taken, Driven, on_taken, on_next, push, refusal, drive}
use Rattle.format.specs.Telegrams.Driven.{ended, stopped}
use Rattle.format.specs.Telegrams.Taken.{got, lacks}
use Rattle.format.specs.declared.Kind.{Kind}
use Rattle.format.specs.declared.Refusal.{Refusal}
use Rattle.laws.proofs.Sources.{Source}

-- ---- one turn

module _ (p : Terms) (source : State → List ℕ → Taken) (k : ℕ) (s : State) (xs : List ℕ) where
  -- a field whose value breaks no rule
  pub one_field : (v : ℕ) (ys : List ℕ) (t : Items) (c : Context) → source s xs ≡ got v ys → step p s v ≡ go t c
      → drive p source (suc k) s xs ≡ push (entry s v) (drive p source k (moved s t c) ys)
  unfolding drive
  one_field v ys t c e h = rw (e, h)

  -- the end mark
  pub one_mark : (v : ℕ) (ys : List ℕ) → source s xs ≡ got v ys → step p s v ≡ over
      → drive p source (suc k) s xs ≡ ended (entry s v ∷ []) s ys
  unfolding drive
  one_mark v ys e h = rw (e, h)

  -- a field whose value breaks a rule
  pub one_broken : (v : ℕ) (ys : List ℕ) (n : Kind) → source s xs ≡ got v ys → step p s v ≡ breaks n
      → drive p source (suc k) s xs ≡ stopped (refusal p n s)
  unfolding drive
  one_broken v ys n e h = rw (e, h)

  -- a field that the source lacks
  pub one_lacking : (n : Kind) → source s xs ≡ lacks n → drive p source (suc k) s xs ≡ stopped (refusal p n s)
  unfolding drive
  one_lacking n e = rw e

-- ---- the entries of the turns before

abbrev pub pushes : List Entry → Driven → Driven
pushes [] d = d
pushes (e ∷ es) d = push e (pushes es d)

pub pushes_append : (es fs : List Entry) (d : Driven) → pushes (es ++ fs) d ≡ pushes es (pushes fs d)
pushes_append [] fs d = refl
pushes_append (e ∷ es) fs d = ap (push e) (pushes_append es fs d)

pub pushes_one : (es : List Entry) (e : Entry) (d : Driven) → pushes (es ++ (e ∷ [])) d ≡ pushes es (push e d)
pushes_one es e d = pushes_append es (e ∷ []) d

pub pushes_ended : (es fs : List Entry) (s : State) (xs : List ℕ) → pushes es (ended fs s xs) ≡ ended (es ++ fs) s xs
pushes_ended [] fs s xs = refl
pushes_ended (e ∷ es) fs s xs = ap (push e) (pushes_ended es fs s xs)

pub pushes_stopped : (es : List Entry) (r : Refusal) → pushes es (stopped r) ≡ stopped r
pushes_stopped [] r = refl
pushes_stopped (e ∷ es) r = ap (push e) (pushes_stopped es r)

-- ---- any bound

module _ (p : Terms) (source : State → List ℕ → Taken) (part : Entry → List ℕ) (Good : State → List ℕ → Type 0)
    (law : Source source part Good) where
  -- every field takes something
  pub shorter : (s : State) (v : ℕ) (xs ys : List ℕ) → Good s xs → source s xs ≡ got v ys → length ys < length xs
  shorter s v xs ys g e =
      rw ((law.taken s v xs ys g e).front, length-append (part (entry s v)) ys) (omega (arith, law.some (entry s v)))

  on_next_lem : (n : Next) (s : State) (v : ℕ) (f g : State → Driven) (ys : List ℕ)
      → ((t : Items) (c : Context) → f (moved s t c) ≡ g (moved s t c)) → on_next p n s v f ys ≡ on_next p n s v g ys
  on_next_lem (go t c) s v f g ys h = ap (push (entry s v)) (h t c)
  on_next_lem over s v f g ys h = refl
  on_next_lem (breaks k) s v f g ys h = refl

  on_taken_lem : (r : Taken) (s : State) (xs : List ℕ) (f g : State → List ℕ → Driven) → Good s xs → source s xs ≡ r
      → ((t : State) (ys : List ℕ) → Good t ys → length ys < length xs → f t ys ≡ g t ys)
      → on_taken p r s (λ v ys. on_next p (step p s v) s v (λ t. f t ys) ys)
      ≡ on_taken p r s (λ v ys. on_next p (step p s v) s v (λ t. g t ys) ys)
  on_taken_lem (lacks k) s xs f g ok e h = refl
  on_taken_lem (got v ys) s xs f g ok e h =
      on_next_lem (step p s v) s v (λ t. f t ys) (λ t. g t ys) ys
      (λ t c. h (moved s t c) ys ((law.taken s v xs ys ok e).good t c) (shorter s v xs ys ok e))

  pub any_bound : (k j : ℕ) (s : State) (xs : List ℕ) → Good s xs → length xs ≤ k → length xs ≤ j
      → drive p source k s xs ≡ drive p source j s xs
  unfolding drive
  any_bound zero zero s xs ok hk hj = refl
  any_bound zero (suc j) s [] ok hk hj = rw (law.none s)
  any_bound zero (suc j) s (x ∷ xs) ok hk hj = absurd (omega arith)
  any_bound (suc k) zero s [] ok hk hj = rw (law.none s)
  any_bound (suc k) zero s (x ∷ xs) ok hk hj = absurd (omega arith)
  any_bound (suc k) (suc j) s xs ok hk hj =
      on_taken_lem (source s xs) s xs (λ t ys. drive p source k t ys) (λ t ys. drive p source j t ys) ok refl
      (λ t ys g l. any_bound k j t ys g (omega arith) (omega arith))

  -- one field, each side under any bound of its own
  pub one_field_bounds : (k j : ℕ) (s : State) (v : ℕ) (xs ys : List ℕ) (t : Items) (c : Context) → Good s xs
      → source s xs ≡ got v ys → step p s v ≡ go t c → length xs ≤ k → length ys ≤ j
      → drive p source k s xs ≡ push (entry s v) (drive p source j (moved s t c) ys)
  one_field_bounds k j s v xs ys t c g e h hk hj =
      let l = shorter s v xs ys g e in
      any_bound k (suc k) s xs g hk (omega arith) ∙ one_field p source k s xs v ys t c e h
      ∙ ap (push (entry s v)) (any_bound k j (moved s t c) ys ((law.taken s v xs ys g e).good t c) (omega arith) hj)
