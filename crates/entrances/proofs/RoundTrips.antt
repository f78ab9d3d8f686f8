-- What the round trips and the comparison of two telegrams answer, and what C gets, from each promise alone. Assumes nothing.
use Rattle.std.specs.Prelude.{Ok, true, false, Err, Bool}
use mathlib.Core.Bool.{Bool, true, false, cond}
use mathlib.Core.List.{List}
use mathlib.Core.Logic.{◌↔◌, ◌⊎◌, inl, inr}
use mathlib.Core.Path.{◌≡◌, refl, sym, ap, ◌∙◌, subst}
use Prim.Native.Nat.{ℕ}
use native.Mathlib.Omega.{arith}
use borrow.Author.Tests.{leb-true, leb-false, le-leb, lt-leb}
use lib.Dec.{leb}
use lib.ListN.{length}
use Rattle.bits.specs.Bits.{same}
use Rattle.format.specs.Normal.{normal}
use Rattle.format.specs.Rules.{paper}
use Rattle.format.specs.Telegrams.{Entry, Result, bits, values, bit_count}
use Rattle.format.specs.Telegrams.Result.{accepted, refused}
use Rattle.format.specs.declared.Kind.TheVariants.{Room}
use Rattle.format.specs.declared.Refusal.{Refusal}
use Rattle.states.specs.Reader.{early, checked}
use Rattle.again.specs.Again.{Rewritten, Reread}
use Rattle.normals.specs.Normals.{Renormalised}
use Rattle.alike.specs.Pairs.{Pair, pair_of, pair_into, alike, SaysSame}
use Rattle.alike.specs.Pairs.Pair.{both, first, second}
use Rattle.alike.proofs.Numbers.{alike_is}
use Rattle.sinkerpost.specs.Codes.{check_code}
use Rattle.sinkerpost.specs.Codes as codes
use Rattle.entrances.specs.Entrances.{BytesGiven, BytesAccepted, RoomGiven, RoomAccepted, ReadGiven, ReadAccepted, WriteGiven, WriteAccepted, NormaliseGiven, NormaliseAccepted, Answers, Coded, FirstGiven, SecondGiven, BothAccepted}
use Rattle.entrances.specs.Entrances.{FirstGiven as firsts, SecondGiven as seconds}
use Rattle.entrances.proofs.Lifted.{room_judged, answers_just, code_just}
use Rattle.entrances.proofs.Bytes.{check_judged, bytes_placed, room_placed}
use Rattle.entrances.proofs.Calls.{read_in_judged, normalise_judged, write_in_judged}
use Rattle.format.specs.Refusals.{Answer}
use Rattle.alike.specs.declared.PairError.TheVariants.{First, Second}
use Rattle.alike.specs.declared.PairError.{PairError}
use Rattle.std.specs.Prelude as code

-- ---- `again` and `normals`: 1 for either of what is lent, and then what the first step gives

pub rewritten_answers : {s : List ℕ} {n : ℕ} {run out run' out' : List ℕ} {a : Answer} → Rewritten paper s n run out a run' out'
    → Answers (RoomAccepted 104 (length out) (ReadAccepted s n (length run))) (RoomGiven 104 (length out) (ReadGiven s n (length run))) (λ es. n) a
rewritten_answers {s} {n} {run} {out} {run'} {out'} {a} h =
    answers_just (room_judged (read_in_judged s n (length run)) 104 (length out)) (λ es. n) a h.answers

pub reread_answers : {vs out run out' run' : List ℕ} {a : Answer} → Reread paper vs out run a out' run'
    → Answers (RoomAccepted 830 (length run) (WriteAccepted vs (length out))) (RoomGiven 830 (length run) (WriteGiven vs (length out)))
    (λ es. length vs) a
reread_answers {vs} {out} {run} {out'} {run'} {a} h =
    answers_just (room_judged (write_in_judged vs (length out)) 830 (length run)) (λ es. length vs) a h.answers

pub renormalised_answers : {s : List ℕ} {n : ℕ} {x y x' y' : List ℕ} {a : Answer} → Renormalised paper s n x y a x' y'
    → Answers (RoomAccepted 104 (length y) (NormaliseAccepted s n (length x))) (RoomGiven 104 (length y) (NormaliseGiven s n (length x)))
    (λ es. n) a
renormalised_answers {s} {n} {x} {y} {x'} {y'} {a} h =
    answers_just (room_judged (normalise_judged s n (length x)) 104 (length y)) (λ es. n) a h.answers

-- ---- `alike`

module _ (s : List ℕ) (n : ℕ) (t : List ℕ) (m x y : ℕ) where
  abbrev By : Bool → Bool → Pair
  By a b = cond a (cond b (pair_of (checked paper s n) (checked paper t m)) (second (early Room))) (first (early Room))

  -- of two results, which is refused
  first_of : (a b : Result) (r : Refusal) → (pair_of a b ≡ first r) ↔ (a ≡ refused r)
  first_of (accepted es) (accepted fs) r = (λ e. cc, λ e. cc)
  first_of (accepted es) (refused q) r = (λ e. cc, λ e. cc)
  first_of (refused q) b r = (λ e. cc, λ e. cc)

  second_of : (a b : Result) (r : Refusal) → pair_of a b ≡ second r → (es : List Entry) × (a ≡ accepted es) × (b ≡ refused r)
  second_of (accepted es) (accepted fs) r e = let z : ◌≡◌ {A = ℕ} 0 1 = cc in absurd (omega arith)
  second_of (accepted es) (refused q) r e = (es, refl, cc)
  second_of (refused q) b r e = let z : ◌≡◌ {A = ℕ} 0 1 = cc in absurd (omega arith)

  first_by : (a b : Bool) → leb 104 x ≡ a → leb 104 y ≡ b → (r : Refusal) → By a b ≡ first r → FirstGiven s n x y r
  first_by true true i j r e =
      firsts.checked (leb-true 104 x i) (leb-true 104 y j)
      (((check_judged s n).refuses r).0 ((first_of (checked paper s n) (checked paper t m) r).0 e))
  first_by true false i j r e = let z : ◌≡◌ {A = ℕ} 0 1 = cc in absurd (omega arith)
  first_by false b i j r e = let q : early Room ≡ r = cc in rw (← q) (firsts.one (leb-false 104 x i))

  second_by : (a b : Bool) → leb 104 x ≡ a → leb 104 y ≡ b → (r : Refusal) → By a b ≡ second r → SecondGiven s n t m x y r
  second_by true true i j r e =
      let w = second_of (checked paper s n) (checked paper t m) r e in
      seconds.checked w.0 (leb-true 104 x i) (leb-true 104 y j) (((check_judged s n).accepts w.0).0 w.1) (((check_judged t m).refuses r).0 w.2)
  second_by true false i j r e = let q : early Room ≡ r = cc in rw (← q) (seconds.one (leb-true 104 x i) (leb-false 104 y j))
  second_by false b i j r e = let z : ◌≡◌ {A = ℕ} 0 1 = cc in absurd (omega arith)

  -- and where neither is
  both_of : (a b : Result) (es fs : List Entry) → pair_of a b ≡ both es fs → (a ≡ accepted es) × (b ≡ accepted fs)
  both_of (accepted es) (accepted fs) gs hs e = (cc, cc)
  both_of (accepted es) (refused q) gs hs e = let z : ◌≡◌ {A = ℕ} 0 1 = cc in absurd (omega arith)
  both_of (refused q) b gs hs e = let z : ◌≡◌ {A = ℕ} 0 1 = cc in absurd (omega arith)

  both_by : (a b : Bool) → leb 104 x ≡ a → leb 104 y ≡ b → (es fs : List Entry) → By a b ≡ both es fs → BothAccepted s n t m x y
  both_by true true i j es fs e =
      let w = both_of (checked paper s n) (checked paper t m) es fs e in
      record {
        enough = (leb-true 104 x i, leb-true 104 y j);
        entries = es;
        others = fs;
        first = ((check_judged s n).accepts es).0 w.0;
        second = ((check_judged t m).accepts fs).0 w.1;
      }
  both_by true false i j es fs e = let z : ◌≡◌ {A = ℕ} 0 1 = cc in absurd (omega arith)
  both_by false b i j es fs e = let z : ◌≡◌ {A = ℕ} 0 1 = cc in absurd (omega arith)

  by_both : (w : BothAccepted s n t m x y) → By (leb 104 x) (leb 104 y) ≡ both w.entries w.others
  by_both w =
      rw (
        le-leb 104 x w.enough.0,
        le-leb 104 y w.enough.1,
        ((check_judged s n).accepts w.entries).1 w.first,
        ((check_judged t m).accepts w.others).1 w.second,
      )

  by_first : {r : Refusal} → FirstGiven s n x y r → By (leb 104 x) (leb 104 y) ≡ first r
  by_first (firsts.one l) = rw (lt-leb 104 x l)
  by_first (firsts.checked {r = r} i j g) =
      rw (le-leb 104 x i, le-leb 104 y j) ((first_of (checked paper s n) (checked paper t m) r).1 (((check_judged s n).refuses r).1 g))

  by_second : {r : Refusal} → SecondGiven s n t m x y r → By (leb 104 x) (leb 104 y) ≡ second r
  by_second (seconds.one i l) = rw (le-leb 104 x i, lt-leb 104 y l)
  by_second (seconds.checked {r = r} es i j a g) =
      rw (le-leb 104 x i, le-leb 104 y j, ((check_judged s n).accepts es).1 a, ((check_judged t m).refuses r).1 g)

-- which telegram an answer refuses
refuses_first : (p : Pair) (r : Refusal) → (alike p ≡ Err (First r)) ↔ (p ≡ first r)
refuses_first (first q) r = (λ e. cc, λ e. cc)
refuses_first (second q) r = (λ e. cc, λ e. cc)
refuses_first (both es fs) r = (λ e. cc, λ e. cc)

refuses_second : (p : Pair) (r : Refusal) → (alike p ≡ Err (Second r)) ↔ (p ≡ second r)
refuses_second (first q) r = (λ e. cc, λ e. cc)
refuses_second (second q) r = (λ e. cc, λ e. cc)
refuses_second (both es fs) r = (λ e. cc, λ e. cc)

-- an answer that refuses neither: the two say the same, or they do not
abbrev Compares : code.Result Bool PairError → Type 0
Compares a = (a ≡ Ok true) ⊎ (a ≡ Ok false)

compares_both : (p : Pair) → Compares (alike p) → (es : List Entry) × (fs : List Entry) × (p ≡ both es fs)
compares_both (both es fs) c = (es, fs, refl)
compares_both (first r) (inl e) = let z : ◌≡◌ {A = ℕ} 0 1 = cc in absurd (omega arith)
compares_both (first r) (inr e) = let z : ◌≡◌ {A = ℕ} 0 1 = cc in absurd (omega arith)
compares_both (second r) (inl e) = let z : ◌≡◌ {A = ℕ} 0 1 = cc in absurd (omega arith)
compares_both (second r) (inr e) = let z : ◌≡◌ {A = ℕ} 0 1 = cc in absurd (omega arith)

both_compares : (es fs : List Entry) → Compares (alike (both es fs))
both_compares es fs = by (same (bits (normal es)) (bits (normal fs)))
  where
    by : (c : Bool) → Compares (Ok c)
    by true = inl refl
    by false = inr refl

module _ {s : List ℕ} {n : ℕ} {t : List ℕ} {m : ℕ} {x y x' y' : List ℕ} {a : code.Result Bool PairError} (h : SaysSame paper s n t m x y a x' y') where
  is : a ≡ alike (pair_into paper s n t m (length x) (length y))
  is = alike_is a (alike (pair_into paper s n t m (length x) (length y))) h.answers

  pub says_same_first : (r : Refusal) → (a ≡ Err (First r)) ↔ FirstGiven s n (length x) (length y) r
  says_same_first r =
      let p = pair_into paper s n t m (length x) (length y) in
      let q = refuses_first p r in (
        λ e. first_by s n t m (length x) (length y) (leb 104 (length x)) (leb 104 (length y)) refl refl r (q.0 (sym is ∙ e)),
        λ g. is ∙ q.1 (by_first s n t m (length x) (length y) g),
      )

  pub says_same_second : (r : Refusal) → (a ≡ Err (Second r)) ↔ SecondGiven s n t m (length x) (length y) r
  says_same_second r =
      let p = pair_into paper s n t m (length x) (length y) in
      let q = refuses_second p r in (
        λ e. second_by s n t m (length x) (length y) (leb 104 (length x)) (leb 104 (length y)) refl refl r (q.0 (sym is ∙ e)),
        λ g. is ∙ q.1 (by_second s n t m (length x) (length y) g),
      )

  pub says_same_compares : Compares a ↔ BothAccepted s n t m (length x) (length y)
  says_same_compares =
      let p = pair_into paper s n t m (length x) (length y) in (
        λ c.
            let w = compares_both p (subst Compares is c) in
            both_by s n t m (length x) (length y) (leb 104 (length x)) (leb 104 (length y)) refl refl w.0 w.1 w.2,
        λ b. subst Compares (sym (is ∙ ap alike (by_both s n t m (length x) (length y) b))) (both_compares b.entries b.others),
      )

-- ---- C

pub check_code_lem : (s : List ℕ) (n code : ℕ) → code ≡ check_code paper s n → Coded (BytesAccepted s n) (BytesGiven s n) code
check_code_lem s n code e = subst (Coded (BytesAccepted s n) (BytesGiven s n)) (sym e) (code_just (check_judged s n) (λ es. length (values es)) (bytes_placed s n))

pub normalise_code : {s : List ℕ} {n : ℕ} {before after : List ℕ} {code : ℕ} → codes.Normalise paper s n before code after
    → Coded (NormaliseAccepted s n (length before)) (NormaliseGiven s n (length before)) code
normalise_code {s} {n} {before} {after} {code} h =
    subst (Coded (NormaliseAccepted s n (length before)) (NormaliseGiven s n (length before))) (sym h.answers)
    (code_just (normalise_judged s n (length before)) bit_count (room_placed s n 104 (length before)))
