-- Every entry of a telegram can be read from its row: its field is known, its value has 64 bits, and each place of a NID_RADIO is a digit or
-- F. Assumes nothing.
use mathlib.Core.Path.{◌≡◌, refl, sym, ap, ◌∙◌, subst}
use mathlib.Core.Bool.{Bool, true, false, cond, not, ◌&&◌, ◌||◌}
use mathlib.Core.List.{List, [], ◌∷◌}
use mathlib.Core.Option.{Option, some, none}
use Prim.Native.Nat.{ℕ, zero, suc, ◌*◌, ◌/◌, ◌%◌, ◌^◌, ◌≤◌, ◌<◌}
use native.Mathlib.Nat.{pow-suc, div-div-eq-div-mul, pow-le-pow_right, le_trans}
use native.Mathlib.Omega.{arith}
use borrow.Author.Tests.{eqb-true, eqb-false, leb-true}
use lib.Arith.{lt_of_le-ne}
use lib.Dec.{eqb, leb}
use lib.ListN.{get_or}
use Rattle.format.specs.Fields.{Field, fields, NID_RADIO, NID_PACKET, END}
use Rattle.format.specs.Packets.{Items}
use Rattle.format.specs.Packets.Items.{end, nest, send, send_if, send_either, send_times}
use Rattle.format.specs.Rules.{State, Terms, Next, due, field, named, rule_of, radio_from, broken, unless, verdict, step}
use Rattle.format.specs.Rules.Next.{breaks}
use Rattle.format.specs.Telegrams.{Entry, entry, Fits, Run, Telegram}
use Rattle.format.specs.Telegrams.Run.{last, more}
use Rattle.format.specs.declared.Kind.{Kind}
use Rattle.laws.proofs.Listed.{Known, AllKnown, telegram_listed}
use Rattle.laws.proofs.Told.{and_two}
use Rattle.states.proofs.Stepping.{width_in}
use Rattle.pieces.proofs.Sixteens.{Lettered, Placed, lettered_digit}
use Rattle.sheet.specs.Rows.{is_radio}

-- ---- the places of a radio number

module _ (v : ℕ) where
  place_by : (d : ℕ) (full p q : Bool) → eqb d 15 ≡ p → leb d 9 ≡ q → (p || q && not full) ≡ true → Lettered d
  place_by d full true q x y e = rw (eqb-true d 15 x)
  place_by d full false true x y e = lettered_digit d (leb-true d 9 y)
  place_by d full false false x y e = let w : ◌≡◌ {A = ℕ} 0 1 = cc in absurd (omega arith)

  places : (k : ℕ) (full : Bool) → radio_from k full v ≡ true → (j : ℕ) → j < k → Lettered (v / 16 ^ j % 16)
  unfolding radio_from
  places zero full e j h = absurd (omega arith)
  places (suc k) full e j h =
      let d = v / 16 ^ k % 16 in
      let b = and_two (eqb d 15 || leb d 9 && not full) (radio_from k (full || eqb d 15) v) e in
      by (eqb j k) refl (place_by d full (eqb d 15) (leb d 9) refl refl b.0) (places k (full || eqb d 15) b.1 j)
    where
      by : (c : Bool) → eqb j k ≡ c → Lettered (v / 16 ^ k % 16) → (j < k → Lettered (v / 16 ^ j % 16)) → Lettered (v / 16 ^ j % 16)
      by true q here ih = rw (eqb-true j k q) here
      by false q here ih = ih (lt_of_le-ne (omega arith) (eqb-false j k q))

pub placed_all : (k n : ℕ) → ((j : ℕ) → j < k → Lettered (n / 16 ^ j % 16)) → Placed k n
placed_all zero n f = tt
placed_all (suc k) n f = (
  subst (λ (x : ℕ). Lettered (x % 16)) (omega arith) (f 0 (omega arith)),
  placed_all k (n / 16) (λ j h. subst (λ (x : ℕ). Lettered (x % 16)) (sym (div-div-eq-div-mul n 16 (16 ^ j) ∙ ap (λ (x : ℕ). n / x) (power j))) (f (suc j) (omega arith))),
)
  where
    power : (j : ℕ) → 16 * 16 ^ j ≡ 16 ^ suc j
    power j = omega (arith, pow-suc 16 j)

pub radio_placed : (v : ℕ) → radio_from 16 false v ≡ true → Placed 16 v
radio_placed v e = placed_all 16 v (places v 16 false e)

-- ---- the entries of a telegram

pub record Readable (e : Entry) : Type 0 where
  pub known : Known e.field
  pub small : e.value < 2 ^ 64
  pub placed : is_radio e.field ≡ true → Placed 16 e.value

abbrev pub AllReadable : List Entry → Type 0
AllReadable [] = Unit
AllReadable (e ∷ es) = Readable e × AllReadable es

-- a field with the number of NID_RADIO is named as it is due
radio_due : (t : Items) (v : ℕ) → (named t v).number ≡ 35 → named t v ≡ due t
radio_due end v e = by (eqb v 255) e
  where
    by : (b : Bool) → (cond b END NID_PACKET).number ≡ 35 → cond b END NID_PACKET ≡ NID_PACKET
    by true z = absurd (omega arith)
    by false z = refl
radio_due nest v e = refl
radio_due (send f r) v e = refl
radio_due (send_if c f r) v e = refl
radio_due (send_either c a b) v e = refl
radio_due (send_times c g r) v e = refl

verdict_kept : (o : Option Kind) (n : Next) → ((k : Kind) → verdict o n ≡ breaks k → ⊥) → o ≡ none
verdict_kept none n f = refl
verdict_kept (some k) n f = absurd (f k refl)

unless_kept : (b : Bool) (k : Kind) → unless b k ≡ none → b ≡ true
unless_kept true k e = refl
unless_kept false k e = cc

module _ (p : Terms) (s : State) (v : ℕ) (k : Known (named s.todo v)) where
  radio_kept : ((x : Kind) → step p s v ≡ breaks x → ⊥) → is_radio (named s.todo v) ≡ true → radio_from 16 false v ≡ true
  unfolding step broken fields
  radio_kept f e =
      let number : (named s.todo v).number ≡ 35 = eqb-true (named s.todo v).number 35 e in
      let is : field s ≡ NID_RADIO = sym (radio_due s.todo v number) ∙ sym k ∙ ap (λ (n : ℕ). get_or fields n END) number in
      let none_broken = verdict_kept (broken p s.context (rule_of (field s).sense) v) _ f in
      unless_kept (radio_from 16 false v) _
      (ap (λ (x : Field). broken p s.context (rule_of x.sense) v) (sym is) ∙ none_broken)

  readable : Fits s v → ((x : Kind) → step p s v ≡ breaks x → ⊥) → Readable (entry s v)
  readable f g =
      record {
        known = k;
        small = lt_le f.small (pow-le-pow_right {n = 2} (omega arith) {i = (field s).width} {j = 64} (width_in (field s)));
        placed = λ e. radio_placed v (radio_kept g e);
      }
    where
      lt_le : {a b c : ℕ} → a < b → b ≤ c → a < c
      lt_le h l = le_trans h l

run_readable : (p : Terms) {s : State} {es : List Entry} → Run p s es → AllKnown es → AllReadable es
run_readable p (last {s = s} {v = v} f e) a =
    (readable p s v a.0 f (λ x z. let w : ◌≡◌ {A = ℕ} 0 1 = cc in absurd (omega arith)), tt)
run_readable p (more {s = s} {v = v} f e r) a =
    (readable p s v a.0 f (λ x z. let w : ◌≡◌ {A = ℕ} 0 1 = cc in absurd (omega arith)), run_readable p r a.1)

pub all_readable : (p : Terms) {es : List Entry} → Telegram p es → AllReadable es
all_readable p t = run_readable p t (telegram_listed p t)
