-- Refused, as a relation beside `Run`, and that reading and writing decide exactly between the two: what is refused, as which kind
-- and where, and what is accepted, for any terms. Assumes nothing.
use mathlib.Core.List.{List, [], ◌∷◌}
use mathlib.Core.Logic.{◌↔◌}
use mathlib.Core.Path.{◌≡◌, refl, sym, ap, ◌∙◌}
use Prim.Native.Nat.{ℕ, zero, suc, ◌<◌, ◌≤◌}
use native.Mathlib.Omega.{arith}
use lib.ListN.{length}
use Rattle.bits.specs.Bits.{Below}
use Rattle.format.specs.Packets.{Items}
use Rattle.format.specs.Rules.{State, Context, Terms, Next, begun, step, moved}
use Rattle.format.specs.Rules.Next.{go, over, breaks}
use Rattle.format.specs.Telegrams.{Entry, entry, Taken, Driven, Result, on_taken, on_next, push, refusal, drive, whole, read, write, from_bits, from_values, bits_in, values_in, all, Run}
use Rattle.format.specs.Telegrams.Driven.{ended, stopped}
use Rattle.format.specs.Telegrams.Result.{accepted, refused}
use Rattle.format.specs.Telegrams.Taken.{got, lacks}
use Rattle.format.specs.declared.Kind.{Kind}
use Rattle.format.specs.declared.Kind.TheVariants.{Trailing}
use Rattle.format.specs.declared.Refusal.{Refusal}
use Rattle.laws.proofs.Sources.{Source, Sent, Listed, from_bits_lem, from_values_lem}
use Rattle.laws.proofs.Round.{accepted_is, is_accepted}
use Rattle.laws.proofs.Turns.{shorter, any_bound, one_field, one_mark, one_broken, one_lacking}

-- A source is refused from a state on: every field before passes, and at this one the source has no value for it, or its value breaks
-- a rule; or it is the end mark and something is left. The refusal is the kind, with the place that the terms give for it here.
pub data Refused (p : Terms) (source : State → List ℕ → Taken) : State → List ℕ → Refusal → Type 0 where
  lacking : {s : State} {xs : List ℕ} {k : Kind} → source s xs ≡ lacks k → Refused p source s xs (refusal p k s)
  breaking : {s : State} {v : ℕ} {xs ys : List ℕ} {k : Kind} → source s xs ≡ got v ys → step p s v ≡ breaks k
      → Refused p source s xs (refusal p k s)
  trailing : {s : State} {v y : ℕ} {xs ys : List ℕ} → source s xs ≡ got v (y ∷ ys) → step p s v ≡ over
      → Refused p source s xs (refusal p Trailing s)
  later : {s : State} {v : ℕ} {xs ys : List ℕ} {t : Items} {c : Context} {r : Refusal} → source s xs ≡ got v ys → step p s v ≡ go t c
      → Refused p source (moved s t c) ys r → Refused p source s xs r

-- an answer decides: it accepts just the run whose parts the source is, and refuses just what the relation does; so there is one such
-- run or one such refusal, and never both
pub record Decides (p : Terms) (source : State → List ℕ → Taken) (part : Entry → List ℕ) (s : State) (xs : List ℕ) (answer : Result) : Type 0 where
  pub accepts : (es : List Entry) → (answer ≡ accepted es) ↔ (Run p s es × (xs ≡ all part es))
  pub refuses : (r : Refusal) → (answer ≡ refused r) ↔ Refused p source s xs r
  pub never_both : (es : List Entry) (r : Refusal) → Run p s es × (xs ≡ all part es) → Refused p source s xs r → ⊥
  pub one_run : (es fs : List Entry) → Run p s es × (xs ≡ all part es) → Run p s fs × (xs ≡ all part fs) → es ≡ fs
  pub one_refusal : (r q : Refusal) → Refused p source s xs r → Refused p source s xs q → r ≡ q

-- an entry in front does not change a refusal
whole_push : (p : Terms) (e : Entry) (d : Driven) (r : Refusal) → (whole p d ≡ refused r) ↔ (whole p (push e d) ≡ refused r)
whole_push p e (ended es s []) r = (λ h. cc, λ h. cc)
whole_push p e (ended es s (x ∷ xs)) r = (λ h. h, λ h. h)
whole_push p e (stopped q) r = (λ h. h, λ h. h)

module _ (p : Terms) (source : State → List ℕ → Taken) (part : Entry → List ℕ) (Good : State → List ℕ → Type 0)
    (law : Source source part Good) where
  -- ---- what is refused is refused by the relation

  module _ (drives : State → List ℕ → Driven) (s : State) (xs : List ℕ) (r : Refusal)
      (ih : (t : State) (ys : List ℕ) → Good t ys → length ys < length xs → whole p (drives t ys) ≡ refused r → Refused p source t ys r) where
    by_mark : (v : ℕ) (ys : List ℕ) → source s xs ≡ got v ys → step p s v ≡ over → whole p (ended (entry s v ∷ []) s ys) ≡ refused r
        → Refused p source s xs r
    by_mark v [] e o h = let z : ◌≡◌ {A = ℕ} 0 1 = cc in absurd (omega arith)
    by_mark v (y ∷ ys) e o h = let er : refusal p Trailing s ≡ r = cc in rw (← er) (trailing e o)

    by_next : (v : ℕ) (ys : List ℕ) (n : Next) → Good s xs → source s xs ≡ got v ys → step p s v ≡ n
        → whole p (on_next p n s v (λ t. drives t ys) ys) ≡ refused r → Refused p source s xs r
    by_next v ys (go t c) g e o h =
        later e o
        (ih (moved s t c) ys ((law.taken s v xs ys g e).good t c) (shorter p source part Good law s v xs ys g e)
        ((whole_push p (entry s v) (drives (moved s t c) ys) r).1 h))
    by_next v ys over g e o h = by_mark v ys e o h
    by_next v ys (breaks k) g e o h = let er : refusal p k s ≡ r = cc in rw (← er) (breaking e o)

    by_taken : (a : Taken) → Good s xs → source s xs ≡ a
        → whole p (on_taken p a s (λ v ys. on_next p (step p s v) s v (λ t. drives t ys) ys)) ≡ refused r → Refused p source s xs r
    by_taken (got v ys) g e h = by_next v ys (step p s v) g e refl h
    by_taken (lacks k) g e h = let er : refusal p k s ≡ r = cc in rw (← er) (lacking e)

  -- under a bound that is never met
  refused_is : (b : ℕ) (s : State) (xs : List ℕ) (r : Refusal) → Good s xs → length xs < b
      → whole p (drive p source b s xs) ≡ refused r → Refused p source s xs r
  unfolding drive
  refused_is zero s xs r g l h = absurd (omega arith)
  refused_is (suc b) s xs r g l h =
      by_taken (λ t ys. drive p source b t ys) s xs r (λ t ys gt lt e. refused_is b t ys r gt (omega arith) e) (source s xs) g refl h

  -- ---- and what the relation refuses is refused

  is_refused : (b : ℕ) {s : State} {xs : List ℕ} {r : Refusal} → Refused p source s xs r → Good s xs → length xs < b
      → whole p (drive p source b s xs) ≡ refused r
  is_refused zero f g l = absurd (omega arith)
  is_refused (suc b) (lacking {s = s} {xs = xs} {k = k} e) g l = ap (whole p) (one_lacking p source b s xs k e)
  is_refused (suc b) (breaking {s = s} {v = v} {xs = xs} {ys = ys} {k = k} e o) g l = ap (whole p) (one_broken p source b s xs v ys k e o)
  is_refused (suc b) (trailing {s = s} {v = v} {y = y} {xs = xs} {ys = ys} e o) g l =
      ap (whole p) (one_mark p source b s xs v (y ∷ ys) e o)
  is_refused (suc b) (later {s = s} {v = v} {xs = xs} {ys = ys} {t = t} {c = c} {r = r} e o f) g l =
      let lt = shorter p source part Good law s v xs ys g e in
      ap (whole p) (one_field p source b s xs v ys t c e o)
      ∙ (whole_push p (entry s v) (drive p source b (moved s t c) ys) r).0
      (is_refused b f ((law.taken s v xs ys g e).good t c) (omega arith))

  -- ---- the driver decides

  module _ (s : State) (xs : List ℕ) (good : Good s xs) where
    one_more : whole p (drive p source (length xs) s xs) ≡ whole p (drive p source (suc (length xs)) s xs)
    one_more = ap (whole p) (any_bound p source part Good law (length xs) (suc (length xs)) s xs good (omega arith) (omega arith))

    accepts : (es : List Entry) → (whole p (drive p source (length xs) s xs) ≡ accepted es) ↔ (Run p s es × (xs ≡ all part es))
    accepts es = (
      accepted_is p source part Good law (length xs) s xs es good,
      λ h. rw h.1 (is_accepted p source part Good law h.0 (length (all part es)) (omega arith)),
    )

    refuses : (r : Refusal) → (whole p (drive p source (length xs) s xs) ≡ refused r) ↔ Refused p source s xs r
    refuses r = (
      λ h. refused_is (suc (length xs)) s xs r good (omega arith) (sym one_more ∙ h),
      λ f. one_more ∙ is_refused (suc (length xs)) f good (omega arith),
    )

    pub decides : Decides p source part s xs (whole p (drive p source (length xs) s xs))
    decides =
        record {
          accepts = accepts;
          refuses = refuses;
          never_both = λ es r a f. let ea = (accepts es).1 a in let er = (refuses r).1 f in let z : ◌≡◌ {A = ℕ} 0 1 = cc in omega arith;
          one_run = λ es fs a b. let ea = (accepts es).1 a in let eb = (accepts fs).1 b in cc;
          one_refusal = λ r q a b. let ea = (refuses r).1 a in let eb = (refuses q).1 b in cc;
        }

-- ---- reading and writing decide

pub read_decides : (p : Terms) (bs : List ℕ) → Below 2 bs → length bs ≤ 830 → Decides p from_bits bits_in begun bs (read p bs)
unfolding read begun
read_decides p bs b n = decides p from_bits bits_in Sent from_bits_lem begun bs (record { bits = b; room = omega arith })

pub write_decides : (p : Terms) (vs : List ℕ) → Decides p from_values values_in begun vs (write p vs)
unfolding write
write_decides p vs = decides p from_values values_in Listed from_values_lem begun vs tt
