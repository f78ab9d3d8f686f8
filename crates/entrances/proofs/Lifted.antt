-- What is judged rightly is so behind a test of room, as a normal form, as the answer of a function and as the number that C gets: each law once, for every
-- entry point. Assumes nothing.
use Rattle.std.specs.Prelude.{Ok, Err}
use mathlib.Core.Bool.{Bool, true, false, cond}
use mathlib.Core.List.{List}
use mathlib.Core.Logic.{◌↔◌}
use mathlib.Core.Path.{◌≡◌, refl, sym, ◌∙◌, subst}
use Prim.Native.Nat.{ℕ, ◌+◌, ◌*◌, ◌≤◌}
use native.Mathlib.Omega.{arith}
use borrow.Author.Tests.{leb-true, leb-false, le-leb, lt-leb}
use lib.Dec.{leb}
use Rattle.format.specs.Judges.{Judges}
use Rattle.format.specs.Refusals.{number_of, in_numbers, code_of, Answer}
use Rattle.format.specs.Telegrams.{Entry, Result}
use Rattle.format.specs.Telegrams.Result.{accepted, refused}
use Rattle.format.specs.declared.Kind.TheVariants.{Room}
use Rattle.format.specs.declared.Refusal.{Refusal}
use Rattle.format.proofs.Numbers.{number_in, refusal_is, answer_is}
use Rattle.states.specs.Normaliser.{normal_of}
use Rattle.states.specs.Reader.{early, roomed, answered}
use Rattle.states.proofs.Answers.{judges}
use Rattle.entrances.specs.Entrances.{RoomGiven, RoomAccepted, NormalOf, Answers, Coded}
use Rattle.entrances.specs.Entrances.RoomGiven.{one, otherwise}

module _ {Right : List Entry → Type 0} {Wrong : Refusal → Type 0} {a : Result} (j : Judges Right Wrong a) where
  -- ---- behind a test of room

  module _ (need room : ℕ) where
    by_room : (b : Bool) → leb need room ≡ b → (r : Refusal) → cond b a (refused (early Room)) ≡ refused r → RoomGiven need room Wrong r
    by_room true e r h = otherwise (leb-true need room e) ((j.refuses r).0 h)
    by_room false e r h = let i : early Room ≡ r = cc in rw (← i) (one (leb-false need room e))

    in_room : {r : Refusal} → RoomGiven need room Wrong r → roomed need room a ≡ refused r
    in_room (one l) = rw (lt-leb need room l)
    in_room (otherwise {r = r} l o) = rw (le-leb need room l) ((j.refuses r).1 o)

    with_room : (b : Bool) → leb need room ≡ b → (es : List Entry) → cond b a (refused (early Room)) ≡ accepted es → RoomAccepted need room Right es
    with_room true e es h = record { enough = leb-true need room e; accepted = (j.accepts es).0 h }
    with_room false e es h = let z : ◌≡◌ {A = ℕ} 0 1 = cc in absurd (omega arith)

    pub room_judged : Judges (RoomAccepted need room Right) (RoomGiven need room Wrong) (roomed need room a)
    room_judged =
        judges (RoomAccepted need room Right) (RoomGiven need room Wrong) (roomed need room a)
        (λ es. (with_room (leb need room) refl es, λ h. rw (le-leb need room h.enough) ((j.accepts es).1 h.accepted)))
        (λ r. (by_room (leb need room) refl r, in_room))

  -- ---- the normal form

  normal_of_lem : (b : Result) → a ≡ b → (es : List Entry) → normal_of b ≡ accepted es → NormalOf Right es
  normal_of_lem (accepted fs) e es h = record { original = fs; accepted = (j.accepts fs).0 e; is = cc }
  normal_of_lem (refused r) e es h = let z : ◌≡◌ {A = ℕ} 0 1 = cc in absurd (omega arith)

  refused_of : (b : Result) (r : Refusal) → (normal_of b ≡ refused r) ↔ (b ≡ refused r)
  refused_of (accepted fs) r = (λ e. cc, λ e. cc)
  refused_of (refused q) r = (λ e. e, λ e. e)

  pub normal_judged : Judges (NormalOf Right) Wrong (normal_of a)
  normal_judged =
      judges (NormalOf Right) Wrong (normal_of a)
      (λ es. (normal_of_lem a refl es, λ h. rw ((j.accepts h.original).1 h.accepted, h.is)))
      (λ r. (λ e. (j.refuses r).0 ((refused_of a r).0 e), λ w. (refused_of a r).1 ((j.refuses r).1 w)))

  -- ---- the answer of a function

  module _ (count : List Entry → ℕ) where
    counted : (b : Result) → a ≡ b → (n : ℕ) → answered count b ≡ Ok n → (es : List Entry) × Right es × (n ≡ count es)
    counted (accepted es) e n h = (es, (j.accepts es).0 e, cc)
    counted (refused r) e n h = let z : ◌≡◌ {A = ℕ} 0 1 = cc in absurd (omega arith)

    told : (b : Result) (r : Refusal) → (answered count b ≡ Err r) ↔ (b ≡ refused r)
    told (accepted es) r = (λ e. cc, λ e. cc)
    told (refused q) r = (λ e. cc, λ e. cc)

    pub answers_just : (x : Answer) → in_numbers x ≡ in_numbers (answered count a) → Answers Right Wrong count x
    answers_just x e =
        let i = answer_is x (answered count a) e in
        record {
          accepts = λ n. (λ h. counted a refl n (sym i ∙ h), λ h. i ∙ rw ((j.accepts h.0).1 h.1, h.2));
          refuses = λ r. (λ h. (j.refuses r).0 ((told a r).0 (sym i ∙ h)), λ w. i ∙ (told a r).1 ((j.refuses r).1 w));
        }

    -- ---- the number that C gets

    of_zero : (b : Result) → a ≡ b → code_of (answered count b) ≡ 0 → (es : List Entry) × Right es
    of_zero (accepted es) e c = (es, (j.accepts es).0 e)
    of_zero (refused r) e c = let n = number_in r.kind in absurd (omega arith)

    module _ (bound : (r : Refusal) → Wrong r → r.place ≤ 830) where
      of_code : (r : Refusal) (b : Result) → a ≡ b → code_of (answered count b) ≡ 1024 * number_of r.kind + r.place → r.place ≤ 830 → Wrong r
      of_code r (accepted es) e c l = let n = number_in r.kind in absurd (omega arith)
      of_code r (refused q) e c l =
          let w = (j.refuses q).0 e in
          let m = bound q w in
          subst Wrong (refusal_is q r (omega arith) (omega arith)) w

      pub code_just : Coded Right Wrong (code_of (answered count a))
      code_just =
          record {
            accepts = (of_zero a refl, λ h. rw ((j.accepts h.0).1 h.1));
            refuses = λ r. (λ h. of_code r a refl h.0 h.1, λ w. (rw ((j.refuses r).1 w), bound r w));
          }
