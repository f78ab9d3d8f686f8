-- The rules tried: two refusals made by hand from the rules alone; one of each number from 4 to 13, and telegrams that are accepted, by what the checker
-- computes. Assumes nothing.
use mathlib.Core.List.{List, [], ◌∷◌, map}
use mathlib.Core.Path.{◌≡◌, refl}
use Prim.Native.Nat.{ℕ, zero, suc, ◌≤◌}
use native.Mathlib.Omega.{arith}
use Rattle.format.specs.Refusals.{number_of}
use Rattle.format.specs.Packets.{◌⧺◌, times, header, etcs, ctcs, find}
use Rattle.format.specs.Rules.{begun, next, misdirected, broken, noted, closes, settled, onward, step, radio_from, clash, among, spot_of, spot_at, place_from, field_place, collides_by, paper}
use Rattle.format.specs.Telegrams.{Entry, from_values, drive, write}
use Rattle.format.specs.Telegrams.Result.{refused}
use Rattle.format.specs.declared.Kind.{Kind}
use Rattle.format.specs.declared.Kind.TheVariants.{Room, Size, Padding, Header, Ended, Unknown, Value, Length, Direction, Repeated, Trailing, Wide, Full}
use Rattle.format.specs.declared.Refusal.{Refusal}
use Rattle.given.specs.Broken.{Broken}
use Rattle.given.specs.Broken.HeaderBroken.{updown}
use Rattle.given.specs.Broken.Breaks.{four, six, seven, eight, nine, ten, twelve, thirteen}
use Rattle.given.specs.Broken.Broken.{by_value, five, eleven}
use Rattle.given.specs.Broken.Medium.{in_values}
use Rattle.given.specs.Given.{Given, Accepted, rank}
use Rattle.given.specs.Given.Lawful.{nothing}
use Rattle.given.proofs.Demand1.{broken_rank, write_given}
use Rattle.given.proofs.Accepted.{write_judged}

-- ---- by hand

-- no values: 5 at 0
no_values : Given in_values [] (record { kind = Ended; place = 0 })
no_values = record { sent = []; todo = header; left = []; lawful = nothing; front = refl; broken = five refl; first = λ j x b. broken_rank b }

-- Q_UPDOWN 0: 4 at 0, for it fits and there is room
wrong_way : Given in_values (0 ∷ []) (record { kind = Header; place = 0 })
unfolding header
wrong_way =
    record {
      sent = [];
      todo = header;
      left = 0 ∷ [];
      lawful = nothing;
      front = refl;
      broken = by_value 0 [] refl (four (updown (λ (e : ◌≡◌ {A = ℕ} 0 1). omega arith)));
      first = λ j x b. none_before b;
    }
  where
    none_before : {j : Kind} {x : ℕ} → Broken in_values [] header (0 ∷ []) j x → rank Header ≤ rank j
    none_before (by_value v rest e (four w)) = omega arith
    none_before (by_value v rest e (six w)) = omega arith
    none_before (by_value v rest e (seven w)) = omega arith
    none_before (by_value v rest e (eight n w)) = omega arith
    none_before (by_value v rest e (nine w)) = omega arith
    none_before (by_value v rest e (ten w)) = omega arith
    none_before (by_value v rest e (twelve l)) = let i : 0 ≡ v = cc in absurd (omega arith)
    none_before (by_value v rest e (thirteen l)) = absurd (omega arith)
    none_before (five e) = let z : ◌≡◌ {A = ℕ} 0 1 = cc in absurd (omega arith)
    none_before (eleven y rest i e) = omega arith

-- ---- computed

-- the header of case 1, with packets or a part of one after it
abbrev after : List ℕ → List ℕ
after vs = 1 ∷ 16 ∷ 0 ∷ 0 ∷ 1 ∷ 0 ∷ 255 ∷ 9 ∷ 3007 ∷ 1 ∷ vs

abbrev zeros : ℕ → List ℕ → List ℕ
zeros zero r = r
zeros (suc n) r = 0 ∷ zeros n r

-- values, and the refusal that is given
record Claim : Type 0 where
  of : List ℕ
  refusal : Refusal

abbrev claim : List ℕ → Kind → ℕ → Claim
claim vs k x = record { of = vs; refusal = record { kind = k; place = x } }

-- N_PIG 2 of N_TOTAL 1; ETCS-254 that ends in its L_PACKET; CTCS-6; case 7's radio number; an inner and an outer length that are wrong; an
-- inner Q_DIR of its own; ETCS-132 for one way and for both; a value behind the end mark; Q_DIR 4; ETCS-72 with 86 bytes
unfoldable claims : List Claim
claims =
    claim (1 ∷ 16 ∷ 0 ∷ 2 ∷ 1 ∷ []) Header 12 ∷ claim (after (254 ∷ 2 ∷ [])) Ended 60 ∷ claim (after (44 ∷ 1 ∷ 48 ∷ 6 ∷ [])) Unknown 73
    ∷ claim (after (42 ∷ 1 ∷ 113 ∷ 0 ∷ 0 ∷ 0 ∷ 0x0861497002000FF2 ∷ [])) Value 98 ∷ claim (after (44 ∷ 1 ∷ 57 ∷ 5 ∷ 1 ∷ 24 ∷ 0 ∷ [])) Length 84
    ∷ claim (after (44 ∷ 1 ∷ 57 ∷ 5 ∷ 1 ∷ 25 ∷ 0 ∷ [])) Length 60 ∷ claim (after (44 ∷ 1 ∷ 48 ∷ 5 ∷ 0 ∷ 25 ∷ 0 ∷ [])) Direction 82
    ∷ claim (after (132 ∷ 1 ∷ 24 ∷ 0 ∷ 132 ∷ 2 ∷ 24 ∷ 0 ∷ 255 ∷ [])) Repeated 82 ∷ claim (after (255 ∷ 0 ∷ [])) Trailing 58
    ∷ claim (after (132 ∷ 4 ∷ [])) Wide 58
    ∷ claim (after (72 ∷ 1 ∷ 780 ∷ 1 ∷ 0 ∷ 0 ∷ 0 ∷ 0 ∷ 5 ∷ 0 ∷ 0 ∷ 0 ∷ 5 ∷ 0 ∷ 86 ∷ zeros 86 (255 ∷ []))) Full 830 ∷ []

computed : map (λ c. write paper c.of) claims ≡ map (λ c. refused c.refusal) claims
unfolding claims write drive begun from_values step next find etcs ctcs header times ◌⧺◌ broken misdirected noted settled onward closes radio_from spot_of spot_at place_from field_place collides_by among clash
computed = refl

abbrev AllGiven : List Claim → Type 0
AllGiven [] = Unit
AllGiven (c ∷ cs) = Given in_values c.of c.refusal × AllGiven cs

all_given : (cs : List Claim) → map (λ c. write paper c.of) cs ≡ map (λ c. refused c.refusal) cs → AllGiven cs
all_given [] e = tt
all_given (c ∷ cs) e = ((write_given c.of c.refusal).0 (cc), all_given cs (cc))

tried : AllGiven claims
tried = all_given claims computed

-- the numbers of the kinds
numbered : map number_of
    (Room ∷ Size ∷ Padding ∷ Header ∷ Ended ∷ Unknown ∷ Value ∷ Length ∷ Direction ∷ Repeated ∷ Trailing ∷ Wide ∷ Full ∷ [])
    ≡ 1 ∷ 2 ∷ 3 ∷ 4 ∷ 5 ∷ 6 ∷ 7 ∷ 8 ∷ 9 ∷ 10 ∷ 11 ∷ 12 ∷ 13 ∷ []
numbered = refl

-- case 1 is accepted
case_1 : (es : List Entry) × Accepted in_values (after (255 ∷ [])) es
unfolding write drive begun from_values step next find etcs ctcs header times ◌⧺◌ broken misdirected noted settled onward closes
case_1 = (_, ((write_judged (after (255 ∷ []))).accepts _).0 refl)
