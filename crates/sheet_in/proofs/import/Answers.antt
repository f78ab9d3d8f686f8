-- `sheet_in::import` meets its contract: room, then the rows, then what they come to. Assumes nothing.
use Rattle.std.specs.Prelude.{Result, Ok, Err, MatchResult, IsErrAnd}
use Rattle.std.proofs.lemmas.Result.{err_from_is_err_and}
use mathlib.Core.Path.{◌≡◌, refl, sym, ◌∙◌, subst}
use Prim.Native.Nat.{ℕ}
use native.Mathlib.Omega.{arith}
use lib.Seq.{length-take-le}
use Rattle.sheet.specs.Replies.{Reply}
use Rattle.sheet.specs.Steps.{FewRows}
use Rattle.sheet.specs.declared.SheetError.{SheetError}
use Rattle.sheet.proofs.Judgement.{imports_roomless, imports_bad, imports_judged}
use Rattle.sheet_in.proofs.import.Goals as goal

pub returns-then-out-lt104 : goal.returns-then-out-lt104
returns-then-out-lt104 c = rw (c.into.ensures, c.at_once.ensures) (imports_roomless _ _ c.if-out-lt104.true)

pub headed-requires : goal.headed-requires
headed-requires c = record { fields = refl; values = refl }

-- what `map_err` makes of the rows
module _ (r : Result ℕ ℕ) (m : Reply) (P : ℕ → SheetError → Type 0) (h : MatchResult r (λ n. m ≡ Ok n) (λ k. IsErrAnd m (P k))) where
  read_as : {n : ℕ} → m ≡ Ok n → r ≡ Ok n
  read_as = by r h
    where
      by : (x : Result ℕ ℕ) → MatchResult x (λ n. m ≡ Ok n) (λ k. IsErrAnd m (P k)) → {n : ℕ} → m ≡ Ok n → x ≡ Ok n
      by (Ok k) g e = cc
      by (Err k) g e = let p = err_from_is_err_and m g in let q = p.1 in let z : ◌≡◌ {A = ℕ} 0 1 = cc in absurd (omega arith)

  bad_as : {x : SheetError} → m ≡ Err x → (k : ℕ) × (r ≡ Err k) × P k x
  bad_as = by r h
    where
      by : (y : Result ℕ ℕ) → MatchResult y (λ n. m ≡ Ok n) (λ k. IsErrAnd m (P k)) → {x : SheetError} → m ≡ Err x → (k : ℕ) × (y ≡ Err k) × P k x
      by (Ok k) g e = let z : ◌≡◌ {A = ℕ} 0 1 = cc in absurd (omega arith)
      by (Err k) g {x} e =
          let p = err_from_is_err_and m g in
          let same : p.0 ≡ x = let q = p.1 in cc in
          (k, refl, subst (P k) same p.2)

pub returns-in_err-n : goal.returns-in_err-n
returns-in_err-n c =
    let b = bad_as c.headed.result c.map_err.result _ c.map_err.ensures.cases c.in_err-n.was in
    let p = err_from_is_err_and c.from_residual.result c.from_residual.ensures.1 in
    rw (p.1, p.2, b.2) (imports_bad _ _ c.if-out-lt104.false c.headed.ensures b.1)

pub slice_bounds-fields-end : goal.slice_bounds-fields-end
slice_bounds-fields-end c =
    let r : c.headed.result ≡ Ok c.in_ok-n.n = read_as c.headed.result c.map_err.result _ c.map_err.ensures.cases c.in_ok-n.was in
    let f = subst (λ (x : Result ℕ ℕ). FewRows x c.headed.new.fields) r c.headed.ensures.few in
    omega (arith, f.0)

pub slice_bounds-judge-end : goal.slice_bounds-judge-end
slice_bounds-judge-end c =
    let r : c.headed.result ≡ Ok c.in_ok-n.n = read_as c.headed.result c.map_err.result _ c.map_err.ensures.cases c.in_ok-n.was in
    let f = subst (λ (x : Result ℕ ℕ). FewRows x c.headed.new.fields) r c.headed.ensures.few in
    sym (length-take-le _ _ (omega (arith, f.0)))

pub slice_bounds-values-end : goal.slice_bounds-values-end
slice_bounds-values-end c =
    let r : c.headed.result ≡ Ok c.in_ok-n.n = read_as c.headed.result c.map_err.result _ c.map_err.ensures.cases c.in_ok-n.was in
    let f = subst (λ (x : Result ℕ ℕ). FewRows x c.headed.new.fields) r c.headed.ensures.few in
    omega (arith, f.0)

pub slice_bounds-judge-end-2 : goal.slice_bounds-judge-end-2
slice_bounds-judge-end-2 c =
    let r : c.headed.result ≡ Ok c.in_ok-n.n = read_as c.headed.result c.map_err.result _ c.map_err.ensures.cases c.in_ok-n.was in
    let f = subst (λ (x : Result ℕ ℕ). FewRows x c.headed.new.fields) r c.headed.ensures.few in
    sym (length-take-le _ _ (omega (arith, f.0)))

pub returns : goal.returns
returns c =
    let r : c.headed.result ≡ Ok c.in_ok-n.n = read_as c.headed.result c.map_err.result _ c.map_err.ensures.cases c.in_ok-n.was in
    let f = subst (λ (x : Result ℕ ℕ). FewRows x c.headed.new.fields) r c.headed.ensures.few in
    let n : ℕ = c.in_ok-n.n in
    let ks = length-take-le n c.headed.new.fields (omega (arith, f.0)) in
    let vs = length-take-le n c.headed.new.values (omega (arith, f.0)) in
    imports_judged _ _ c.if-out-lt104.false c.headed.ensures r (ks ∙ sym vs) c.judge.ensures
