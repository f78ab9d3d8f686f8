-- What is replied to rows that were read, from the promise of `judge` alone. Assumes nothing.
use mathlib.Core.Bool.{Bool, true, false, cond}
use mathlib.Core.List.{List, [], ◌∷◌, ◌++◌}
use mathlib.Core.Logic.{◌↔◌}
use mathlib.Core.Option.{Option, some, none}
use mathlib.Core.Path.{◌≡◌, refl, sym, ap, ◌∙◌, subst}
use Prim.Native.Nat.{ℕ, suc, ◌+◌}
use native.Mathlib.Omega.{arith}
use borrow.Author.Tests.{eqb-true, eqb-false, ne_eqb, eq-eqb}
use lib.Dec.{eqb}
use lib.ListN.{length}
use Rattle.format.specs.Rules.{paper}
use Rattle.format.specs.Telegrams.{Entry, Result, write}
use Rattle.format.specs.Telegrams.Result.{accepted, refused}
use Rattle.states.specs.Labels.{numbers}
use Rattle.sheet.specs.Sheets.{other_name, named, judged}
use Rattle.sheet.specs.Sheets.Imported.{taken, refused_at}
use Rattle.sheet.specs.Steps.{columns_into, Judged}
use Rattle.sheet.proofs.Numbers.{judge_answer}
use Rattle.given.specs.Broken.Medium.{in_values}
use Rattle.given.specs.Given.{Accepted}
use Rattle.given.proofs.Accepted.{write_judged}
use Rattle.entrances.specs.Entrances.{WriteGiven}
use Rattle.entrances.specs.Rows.{OtherNumber, JudgeRow, Agreed, JudgedSize, Replies}
use Rattle.entrances.proofs.Replying.{judged_refused, judging_replies}
use Rattle.sheet.specs.Replies.{Reply}

-- ---- the first row with another number

-- behind n rows
record Told (n : ℕ) (ks ds : List ℕ) (k : ℕ) : Type 0 where
  place : ℕ
  counted : k ≡ n + place
  there : OtherNumber ks ds place

told : (n : ℕ) (ks ds : List ℕ) (k : ℕ) → other_name n ks ds ≡ some k → Told n ks ds k
told n [] ds k e = let z : ◌≡◌ {A = ℕ} 0 1 = cc in absurd (omega arith)
told n (x ∷ ks) [] k e = let z : ◌≡◌ {A = ℕ} 0 1 = cc in absurd (omega arith)
told n (x ∷ ks) (y ∷ ds) k e = by (eqb x y) refl (told (suc n) ks ds k) e
  where
    by : (t : Bool) → eqb x y ≡ t → (other_name (suc n) ks ds ≡ some k → Told (suc n) ks ds k) → cond t (other_name (suc n) ks ds) (some (suc n)) ≡ some k
        → Told n (x ∷ ks) (y ∷ ds) k
    by true q ih z =
        let t = ih z in
        let o = t.there in
        record {
          place = suc t.place;
          counted = omega (arith, t.counted);
          there =
              record {
                above = x ∷ o.above;
                one = o.one;
                below = o.below;
                is = ap (λ (l : List ℕ). x ∷ l) o.is;
                wanted = o.wanted;
                after = o.after;
                has = cc (eqb-true x y q, o.has);
                other = o.other;
                number = ap suc o.number;
              };
        }
    by false q ih z =
        let i : suc n ≡ k = cc in
        record {
          place = 1;
          counted = omega arith;
          there = record { above = []; one = x; below = ks; is = refl; wanted = y; after = ds; has = refl; other = eqb-false x y q; number = refl };
        }

found : (n : ℕ) (above : List ℕ) (x y : ℕ) (below after : List ℕ) → (x ≡ y → ⊥)
    → other_name n (above ++ (x ∷ below)) (above ++ (y ∷ after)) ≡ some (n + suc (length above))
found n [] x y below after d = rw (ne_eqb x y d) (ap some (omega arith))
found n (u ∷ above) x y below after d = rw (eq-eqb u u refl) (found (suc n) above x y below after d ∙ ap some (omega arith))

pub other_number_is : (ks ds : List ℕ) (k : ℕ) → (other_name 0 ks ds ≡ some k) ↔ OtherNumber ks ds k
other_number_is ks ds k = (
  λ e. let t = told 0 ks ds k e in let i : t.place ≡ k = omega (arith, t.counted) in subst (OtherNumber ks ds) i t.there,
  λ o.
      let c : k ≡ 0 + suc (length o.above) = omega (arith, o.number) in
      rw (o.is, o.has) (found 0 o.above o.one o.wanted o.below o.after o.other) ∙ ap some (sym c),
)

-- ---- what the writer and then the numbers say

module _ (ks vs : List ℕ) where
  row_of : (k : ℕ) (b : Result) → write paper vs ≡ b → judged ks b ≡ refused_at k
      → (es : List Entry) × Accepted in_values vs es × OtherNumber ks (numbers es) k
  row_of k (refused r) e h = let z : ◌≡◌ {A = ℕ} 0 1 = cc in absurd (omega arith)
  row_of k (accepted es) e h = by_name (other_name 0 ks (numbers es)) refl h
    where
      by_name : (o : Option ℕ) → other_name 0 ks (numbers es) ≡ o → named o es ≡ refused_at k
          → (fs : List Entry) × Accepted in_values vs fs × OtherNumber ks (numbers fs) k
      by_name none q g = let z : ◌≡◌ {A = ℕ} 0 1 = cc in absurd (omega arith)
      by_name (some j) q g = let i : j ≡ k = cc in (es, ((write_judged vs).accepts es).0 e, (other_number_is ks (numbers es) k).0 (q ∙ ap some i))

  of_row : (k : ℕ) → (es : List Entry) × Accepted in_values vs es × OtherNumber ks (numbers es) k → judged ks (write paper vs) ≡ refused_at k
  of_row k w = rw (((write_judged vs).accepts w.0).1 w.1, (other_number_is ks (numbers w.0) k).1 w.2)

  agreed_of : (es : List Entry) (b : Result) → write paper vs ≡ b → judged ks b ≡ taken es → Agreed ks vs es
  agreed_of es (refused r) e h = let z : ◌≡◌ {A = ℕ} 0 1 = cc in absurd (omega arith)
  agreed_of es (accepted fs) e h = by_name (other_name 0 ks (numbers fs)) refl h
    where
      by_name : (o : Option ℕ) → other_name 0 ks (numbers fs) ≡ o → named o fs ≡ taken es → Agreed ks vs es
      by_name none q g =
          let i : fs ≡ es = cc in
          subst (Agreed ks vs) i
          (record {
            accepted = ((write_judged vs).accepts fs).0 e;
            agree = λ k o. let j = (other_number_is ks (numbers fs) k).1 o in let z : ◌≡◌ {A = ℕ} 0 1 = cc in omega arith;
          })
      by_name (some k) q g = let z : ◌≡◌ {A = ℕ} 0 1 = cc in absurd (omega arith)

  of_agreed : (es : List Entry) → Agreed ks vs es → judged ks (write paper vs) ≡ taken es
  of_agreed es w = rw (((write_judged vs).accepts es).1 w.accepted) (by_name (other_name 0 ks (numbers es)) refl)
    where
      by_name : (o : Option ℕ) → other_name 0 ks (numbers es) ≡ o → named o es ≡ taken es
      by_name none q = refl
      by_name (some k) q = absurd (w.agree k ((other_number_is ks (numbers es) k).0 q))

pub judge_replies : {ks vs before after : List ℕ} {reply : Reply} → Judged ks vs before reply after
    → Replies (JudgedSize ks vs (length before)) (WriteGiven vs (length before)) (JudgeRow ks vs (length before)) reply
unfolding columns_into
judge_replies {ks} {vs} {before} {after} {reply} h =
    judging_replies
    (record {
      takes = λ es. (agreed_of ks vs es (write paper vs) refl, of_agreed ks vs es);
      refuses = λ r. (
        λ e. ((write_judged vs).refuses r).0 ((judged_refused ks (write paper vs) r).0 e),
        λ g. (judged_refused ks (write paper vs) r).1 (((write_judged vs).refuses r).1 g),
      );
      rows = λ k. (row_of ks vs k (write paper vs) refl, of_row ks vs k);
    })
    (length before) reply (judge_answer h)
