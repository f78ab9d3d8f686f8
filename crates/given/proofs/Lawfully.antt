-- A value that breaks a rule is not sent, and the first rule that it breaks is the one that is told; and so the entries that can be sent are the lawful
-- beginnings. Assumes nothing.
use mathlib.Core.Bool.{Bool, true, false}
use mathlib.Core.List.{List, [], ◌∷◌, ◌++◌}
use mathlib.Core.Option.{Option, some, none}
use mathlib.Core.Path.{◌≡◌, refl, sym, ◌∙◌, subst}
use Prim.Native.Nat.{ℕ, ◌+◌, ◌^◌, ◌≤◌, ◌<◌}
use native.Mathlib.Omega.{arith}
use borrow.Author.Tests.{leb-true, leb-false, ltb-true, ltb-false}
use lib.Dec.{leb, ltb}
use Rattle.format.specs.Among.{holding}
use Rattle.format.specs.Fields.{Field}
use Rattle.format.specs.Packets.{Items}
use Rattle.format.specs.Packets.Items.{end}
use Rattle.format.specs.Rules.{State, Context, Next, begun, field, past, due, named, next, rule_of, broken, step, moved, paper}
use Rattle.format.specs.Rules.Next.{go, over, breaks}
use Rattle.format.specs.Telegrams.{Entry, bit_count, Fits}
use Rattle.format.specs.declared.Kind.{Kind}
use Rattle.format.specs.declared.Kind.TheVariants.{Value, Length, Direction, Repeated, Wide, Full}
use Rattle.laws.proofs.Steps.{Stepped, stepped, go_next}
use Rattle.laws.proofs.Steps.Settled.{on, closed, misfitted}
use Rattle.laws.proofs.Steps.Stepped.{forbidden, marked, noticed}
use Rattle.laws.proofs.Order.{OfValue, broken_of_value, order_broken}
use Rattle.laws.proofs.Order.OfValue.{by_header, by_unknown, by_value, by_direction, by_repeated}
use Rattle.laws.proofs.Points.{Sends}
use Rattle.laws.proofs.Points.{Sends as sends}
use Rattle.laws.proofs.Pointed.{sends_at}
use Rattle.given.specs.Broken.{Disallowed, Differs, Repeats, Breaks, Keeps}
use Rattle.given.specs.Broken.Breaks.{four, six, seven, eight, nine, ten, twelve, thirteen}
use Rattle.given.specs.Broken.Range.{q_dir}
use Rattle.given.specs.Broken.Disallowed.{outside}
use Rattle.given.specs.Broken.Differs.{differs}
use Rattle.given.specs.Broken.Repeats.{repeats}
use Rattle.given.specs.Given.{Lawful, rank}
use Rattle.given.specs.Given.Lawful.{nothing, one_more}
use mathlib.Core.Logic.{inr}
use Rattle.given.proofs.Judged.{none_some}
use Rattle.given.proofs.Ruled.{forbidden_breaks, four_forbids, six_forbids, seven_forbids, nine_forbids, ten_forbids}
use Rattle.given.proofs.Lengths.{closed_wrong, eight_breaks}

-- a rule of a value comes behind 5, and before 11
pub breaks_rank : {es : List Entry} {t : Items} {v x : ℕ} {k : Kind} → Breaks es t v k x → (2 ≤ rank k) × (rank k ≤ 6)
breaks_rank (four w) = (omega arith, omega arith)
breaks_rank (six w) = (omega arith, omega arith)
breaks_rank (seven w) = (omega arith, omega arith)
breaks_rank (eight j w) = (omega arith, omega arith)
breaks_rank (nine w) = (omega arith, omega arith)
breaks_rank (ten w) = (omega arith, omega arith)
breaks_rank (twelve l) = (omega arith, omega arith)
breaks_rank (thirteen l) = (omega arith, omega arith)

-- and where the value fits its field, behind 12
pub fitting_rank : {es : List Entry} {t : Items} {v x : ℕ} {k : Kind} → (2 ^ (due t).width ≤ v → ⊥) → Breaks es t v k x → 3 ≤ rank k
fitting_rank n (four w) = omega arith
fitting_rank n (six w) = omega arith
fitting_rank n (seven w) = omega arith
fitting_rank n (eight j w) = omega arith
fitting_rank n (nine w) = omega arith
fitting_rank n (ten w) = omega arith
fitting_rank n (twelve l) = absurd (n l)
fitting_rank n (thirteen l) = omega arith

pub value_rank : {k : Kind} → OfValue k → rank k ≤ 5
value_rank by_header = omega arith
value_rank by_unknown = omega arith
value_rank by_value = omega arith
value_rank by_direction = omega arith
value_rank by_repeated = omega arith

-- a Q_DIR above 2
pub direction_over : {es : List Entry} {f : Field} {v : ℕ} → Differs es f v → 2 < v → Disallowed f v
direction_over (differs o b n q i m) l = outside q_dir (inr l)

pub repeat_over : {es : List Entry} {f : Field} {v : ℕ} → Repeats es f v → 2 < v → Disallowed f v
repeat_over (repeats b i o j n p c) l = outside q_dir (inr l)

module _ {es : List Entry} {s : State} (h : Sends paper es s) (v : ℕ) where
  abbrev judged : Option Kind
  judged = broken paper s.context (rule_of (field s).sense) v

  one_kind : {j k : Kind} → judged ≡ some j → judged ≡ some k → rank k ≤ rank j
  one_kind {j} {k} a b = let e : k ≡ j = cc in rw e (omega arith)

  -- ---- which rule is first

  -- a value that fits breaks neither 12 nor 13
  not_wide : {A : Type 0} → Fits s v → 2 ^ (field s).width ≤ v → A
  not_wide f l = absurd (omega (arith, f.small))

  not_full : {A : Type 0} → Fits s v → 830 < bit_count es + (field s).width → A
  not_full f l = let a = sends_at h in absurd (omega (arith, f.room))

  -- a rule of the value that is told is the first
  pub told_first : Fits s v → (k : Kind) → judged ≡ some k → (j : Kind) (x : ℕ) → Breaks es s.todo v j x → rank k ≤ rank j
  told_first f k e j x (four w) = one_kind (four_forbids h v w) e
  told_first f k e j x (six w) = one_kind (six_forbids h v w) e
  told_first f k e j x (seven w) = one_kind (seven_forbids h v w) e
  told_first f k e j x (nine w) = let r = value_rank (broken_of_value paper s.context (rule_of (field s).sense) v k e) in omega arith
  told_first f k e j x (ten w) = let r = value_rank (broken_of_value paper s.context (rule_of (field s).sense) v k e) in omega arith
  told_first f k e j x (twelve l) = not_wide f l
  told_first f k e j x (thirteen l) = not_full f l
  told_first f k e j x (eight n w) = let r = value_rank (broken_of_value paper s.context (rule_of (field s).sense) v k e) in omega arith

  by_two : {A : Type 0} → (v ≤ 2 → A) → (2 < v → A) → A
  by_two {A} f g = by_test (leb v 2) refl
    where
      by_test : (b : Bool) → leb v 2 ≡ b → A
      by_test true e = f (leb-true v 2 e)
      by_test false e = g (leb-false v 2 e)

  not_none : {A : Type 0} {k : Kind} → judged ≡ none → judged ≡ some k → A
  not_none a b = none_some (sym a ∙ b)

  -- where none is told, only 8 can be broken
  pub length_first : Fits s v → judged ≡ none → (j : Kind) (x : ℕ) → Breaks es s.todo v j x → rank Length ≤ rank j
  length_first f e j x (four w) = not_none e (four_forbids h v w)
  length_first f e j x (six w) = not_none e (six_forbids h v w)
  length_first f e j x (seven w) = not_none e (seven_forbids h v w)
  length_first f e j x (nine w) = by_two (λ l. not_none e (nine_forbids h v w l)) (λ l. not_none e (seven_forbids h v (direction_over w l)))
  length_first f e j x (ten w) = by_two (λ l. not_none e (ten_forbids h v w l)) (λ l. not_none e (seven_forbids h v (repeat_over w l)))
  length_first f e j x (twelve l) = not_wide f l
  length_first f e j x (thirteen l) = not_full f l
  length_first f e j x (eight n w) = omega arith

  -- ---- a value that breaks a rule is not sent

  by_judge : (o : Option Kind) → judged ≡ o → (judged ≡ none → (j : Kind) × (step paper s v ≡ breaks j)) → (j : Kind) × (step paper s v ≡ breaks j)
  by_judge none e f = f e
  by_judge (some k) e f = (k, order_broken paper s v k e)

  pub breaks_stops : Fits s v → (k : Kind) (x : ℕ) → Breaks es s.todo v k x → (j : Kind) × (step paper s v ≡ breaks j)
  breaks_stops f k x (eight n w) = by_judge judged refl (λ e. (Length, (eight_breaks h v e n w).0))
  breaks_stops f k x (four w) = (_, order_broken paper s v _ (four_forbids h v w))
  breaks_stops f k x (six w) = (_, order_broken paper s v _ (six_forbids h v w))
  breaks_stops f k x (seven w) = (_, order_broken paper s v _ (seven_forbids h v w))
  breaks_stops f k x (nine w) =
      by_two (λ l. (Direction, order_broken paper s v Direction (nine_forbids h v w l)))
      (λ l. (Value, order_broken paper s v Value (seven_forbids h v (direction_over w l))))
  breaks_stops f k x (ten w) =
      by_two (λ l. (Repeated, order_broken paper s v Repeated (ten_forbids h v w l)))
      (λ l. (Value, order_broken paper s v Value (seven_forbids h v (repeat_over w l))))
  breaks_stops f k x (twelve l) = not_wide f l
  breaks_stops f k x (thirteen l) = not_full f l

  pub goes_keeps : {t : Items} {c : Context} → Fits s v → step paper s v ≡ go t c → Keeps es s.todo v
  goes_keeps f e k x b = let w = breaks_stops f k x b in let i = w.1 in let z : ◌≡◌ {A = ℕ} 0 1 = cc in omega arith

  pub over_keeps : Fits s v → step paper s v ≡ over → Keeps es s.todo v
  over_keeps f e k x b = let w = breaks_stops f k x b in let i = w.1 in let z : ◌≡◌ {A = ℕ} 0 1 = cc in omega arith

  -- ---- and one that keeps every rule is

  pub record Sent (t : Items) : Type 0 where
    pub todo : Items
    pub context : Context
    pub goes : step paper s v ≡ go todo context
    pub is : todo ≡ t

  pub keeps_fits : Keeps es s.todo v → Fits s v
  keeps_fits keeps = record { small = by_small (ltb v (2 ^ (field s).width)) refl; room = by_room (leb (past s) 830) refl }
    where
      by_small : (b : Bool) → ltb v (2 ^ (field s).width) ≡ b → v < 2 ^ (field s).width
      by_small true e = ltb-true v (2 ^ (field s).width) e
      by_small false e = absurd (keeps Wide (bit_count es) (twelve (ltb-false v (2 ^ (field s).width) e)))

      by_room : (b : Bool) → leb (past s) 830 ≡ b → past s ≤ 830
      by_room true e = leb-true (past s) 830 e
      by_room false e = let l = leb-false (past s) 830 e in let a = sends_at h in absurd (keeps Full (bit_count es) (thirteen (omega arith)))

  pub keeps_goes : (t : Items) → next s.todo v ≡ some t → Keeps es s.todo v → Sent t
  keeps_goes t j keeps = by_way (step paper s v) refl (stepped paper s v)
    where
      by_way : (n : Next) → step paper s v ≡ n → Stepped paper s v n → Sent t
      by_way n q (forbidden {k = k} b) = absurd (keeps k (bit_count es) (forbidden_breaks h v k b))
      by_way n q (marked b i) = let z : ◌≡◌ {A = ℕ} 0 1 = cc in absurd (omega arith)
      by_way n q (noticed {t = u} b i (on g)) = record { todo = u; context = _; goes = q; is = cc }
      by_way n q (noticed {t = u} b i (closed g)) = record { todo = end; context = _; goes = q; is = cc }
      by_way n q (noticed {t = u} b i (misfitted g f)) =
          let w = closed_wrong h v b (rw g at i) f in
          absurd (keeps Length w.0 (eight (rw g at i) w.1))

-- ---- entries that were sent are a lawful beginning

pub sends_lawful : {es : List Entry} {s : State} → Sends paper es s → Lawful es s.todo
unfolding begun
sends_lawful sends.nothing = nothing
sends_lawful (sends.one_more {es = es} {s = s} v {t = t} {c = c} h f e) =
    one_more v (sends_lawful h) (goes_keeps h v f e) (go_next paper s v t c e)

-- a lawful beginning can be sent
pub record Sendable (es : List Entry) (t : Items) : Type 0 where
  pub state : State
  pub sends : Sends paper es state
  pub todo : state.todo ≡ t

sendable_more : (es : List Entry) (t u : Items) (v : ℕ) → Sendable es t → Keeps es t v → next t v ≡ some u → Sendable (es ++ (holding (named t v) v ∷ [])) u
sendable_more es t u v q keeps j =
    let s = q.state in
    let i = q.todo in
    let kept : Keeps es s.todo v = rw i keeps in
    let w = keeps_goes q.sends v u (rw i j) kept in
    subst (λ (x : Items). Sendable (es ++ (holding (named x v) v ∷ [])) u) i
    (record {
      state = moved s w.todo w.context;
      sends = sends.one_more v q.sends (keeps_fits q.sends v kept) w.goes;
      todo = w.is;
    })

pub lawful_sends : {es : List Entry} {t : Items} → Lawful es t → Sendable es t
unfolding begun
lawful_sends nothing = record { state = begun; sends = sends.nothing; todo = refl }
lawful_sends (one_more {es = es} {t = t} {u = u} v l k j) = sendable_more es t u v (lawful_sends l) k j
