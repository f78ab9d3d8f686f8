-- What a stricter rule of directions changes in the answers of check, reader, writer and label, and so of the normaliser: a telegram that was
-- accepted is refused just where it has a pair, as 10 at its first. And that what is accepted gives a train running either way at most one packet
-- of each kind but ETCS-44. Assumes nothing.
use mathlib.Core.Bool.{Bool, true, false, cond}
use mathlib.Core.List.{List}
use mathlib.Core.Logic.{◌↔◌, inl}
use mathlib.Core.Path.{◌≡◌, refl, sym, ap, ◌∙◌}
use Prim.Native.Nat.{ℕ, ◌<◌}
use native.Mathlib.Omega.{arith}
use lib.Dec.{eqb, leb}
use lib.ListN.{take}
use Rattle.bits.specs.Bits.{bits_of}
use Rattle.format.specs.Normal.{normal}
use Rattle.format.specs.Refusals.{number_of}
use Rattle.format.specs.Rules.{Terms, clash, collides_by, paper}
use Rattle.format.specs.Telegrams.{Entry, Result, Telegram, from_bits, from_values, bits_in, values_in, write}
use Rattle.format.specs.Telegrams.Result.{accepted, refused}
use Rattle.format.specs.declared.Kind.{Kind}
use Rattle.format.specs.declared.Kind.TheVariants.{Room, Size, Padding, Repeated}
use Rattle.format.specs.declared.Refusal.{Refusal}
use Rattle.laws.proofs.Demand2.{write_is}
use Rattle.laws.proofs.Pairs.{Implies}
use Rattle.laws.proofs.EachWay.{OneEachWay, one_each_way}
use Rattle.laws.proofs.Tens.{directing, Repeats, pointed_repeats}
use Rattle.laws.proofs.Changed.{Changed, not_both, read_changed, write_changed}
use Rattle.laws.proofs.BothWays.{Mixed, same_clash, turned_mixed}
use Rattle.states.specs.Labels.{label_into}
use Rattle.states.specs.Normaliser.{normal_of, normalise_into}
use Rattle.states.specs.Reader.{values_needed, bytes_needed, sized, clear, at_once, checked, read_into}
use Rattle.states.specs.Writer.{write_into}
use Rattle.states.proofs.Answers.{sent_below, sent_few, check_judges}
use Rattle.states.proofs.Pointing.{normal_refused, normal_given, check_pointed, reader_pointed, normaliser_pointed, writer_pointed, label_pointed}
use Rattle.states.proofs.Rooms.{had_room}

-- ---- a test before it, whose refusal does not change

-- what is refused either way
refused_changed : (strong : ℕ → ℕ → Bool) (r : Refusal) → Changed strong (refused r) (refused r)
refused_changed strong r =
    record {
      accepts = λ es. (λ e. not_both e refl, λ h. not_both h.0 refl);
      turns = λ es e. not_both e refl;
      there = λ es q e. not_both e refl;
      still = λ q e. inl e;
    }

pub tested_changed : {strong : ℕ → ℕ → Bool} (test : Bool) (k : Kind) {a b : Result} → (test ≡ true → Changed strong a b)
    → Changed strong (cond test a (at_once k)) (cond test b (at_once k))
tested_changed true k h = h refl
tested_changed {strong} false k h = refused_changed strong (record { kind = k; place = 0 })

-- what the writer accepts is a telegram
writes_telegram : (p : Terms) (vs : List ℕ) (room : ℕ) (es : List Entry) → write_into p vs room ≡ accepted es → Telegram p es
unfolding write_into
writes_telegram p vs room es a = (write_is p vs es (had_room bytes_needed room (write p vs) es a).1).0

-- ---- the answers

module _ (weak strong : ℕ → ℕ → Bool) (implies : Implies weak strong) where
  pub check_changed : (s : List ℕ) (n : ℕ) → Changed strong (checked (directing weak) s n) (checked (directing strong) s n)
  unfolding checked
  check_changed s n =
      tested_changed (sized s n) Size
      (λ h. tested_changed (clear s n) Padding (λ i. read_changed weak strong implies (take n (bits_of s)) (sent_below s n) (sent_few s n h)))

  pub reader_changed : (s : List ℕ) (n room : ℕ) → Changed strong (read_into (directing weak) s n room) (read_into (directing strong) s n room)
  unfolding read_into
  reader_changed s n room = tested_changed (leb values_needed room) Room (λ i. check_changed s n)

  pub writer_changed : (vs : List ℕ) (room : ℕ) → Changed strong (write_into (directing weak) vs room) (write_into (directing strong) vs room)
  unfolding write_into
  writer_changed vs room = tested_changed (leb bytes_needed room) Room (λ i. write_changed weak strong implies vs)

  pub label_changed : (vs : List ℕ) (room : ℕ) → Changed strong (label_into (directing weak) vs room) (label_into (directing strong) vs room)
  unfolding label_into
  label_changed vs room = tested_changed (leb values_needed room) Room (λ i. write_changed weak strong implies vs)

-- the normaliser, lent 104 bytes, refuses what the check refuses and in the same way, and gives the normal form of what the check accepts
module _ (p : Terms) (s : List ℕ) (n room : ℕ) (lent : leb bytes_needed room ≡ true) where
  is_normal : normalise_into p s n room ≡ normal_of (checked p s n)
  unfolding normalise_into
  is_normal = rw lent

  pub normaliser_refuses : (r : Refusal) → (normalise_into p s n room ≡ refused r) ↔ (checked p s n ≡ refused r)
  normaliser_refuses r = (λ e. normal_refused (checked p s n) r (sym is_normal ∙ e), λ e. is_normal ∙ ap normal_of e)

  pub normaliser_accepts : (fs : List Entry)
      → (normalise_into p s n room ≡ accepted fs) ↔ ((es : List Entry) × (checked p s n ≡ accepted es) × (fs ≡ normal es))
  normaliser_accepts fs = (
    λ e. normal_given (checked p s n) fs (sym is_normal ∙ e),
    λ h. is_normal ∙ ap normal_of h.1 ∙ ap accepted (sym h.2),
  )

-- ---- "From now on 2 collides with 0, 1 and 2"

-- what the check accepted before and refuses now is just what has a packet for both ways and one of its kind for one way
pub check_turned : (s : List ℕ) (n : ℕ) (es : List Entry) → checked (directing eqb) s n ≡ accepted es
    → ((r : Refusal) × (checked paper s n ≡ refused r)) ↔ Mixed es
check_turned s n es h = turned_mixed (check_changed eqb clash same_clash s n) (((check_judges (directing eqb) s n).accepts es).0 h).telegram h

-- and so for the writer
pub writer_turned : (vs : List ℕ) (room : ℕ) (es : List Entry) → write_into (directing eqb) vs room ≡ accepted es
    → ((r : Refusal) × (write_into paper vs room ≡ refused r)) ↔ Mixed es
writer_turned vs room es h = turned_mixed (writer_changed eqb clash same_clash vs room) (writes_telegram (directing eqb) vs room es h) h

-- ---- what a 10 is

module _ (collide : ℕ → ℕ → Bool) (r : Refusal) (ten : r.kind ≡ Repeated) where
  late : 3 < number_of r.kind
  late = rw ten (omega arith)

  module _ (s : List ℕ) (n : ℕ) where
    pub check_repeats : checked (directing collide) s n ≡ refused r → Repeats collide from_bits bits_in (take n (bits_of s)) r
    check_repeats e = pointed_repeats collide (check_pointed (collides_by collide) r late s n e) ten

    pub reader_repeats : (room : ℕ) → read_into (directing collide) s n room ≡ refused r → Repeats collide from_bits bits_in (take n (bits_of s)) r
    reader_repeats room e = pointed_repeats collide (reader_pointed (collides_by collide) r late s n room e) ten

    pub normaliser_repeats : (room : ℕ) → normalise_into (directing collide) s n room ≡ refused r
        → Repeats collide from_bits bits_in (take n (bits_of s)) r
    normaliser_repeats room e = pointed_repeats collide (normaliser_pointed (collides_by collide) r late s n room e) ten

  module _ (vs : List ℕ) (room : ℕ) where
    pub writer_repeats : write_into (directing collide) vs room ≡ refused r → Repeats collide from_values values_in vs r
    writer_repeats e = pointed_repeats collide (writer_pointed (collides_by collide) r late vs room e) ten

    pub label_repeats : label_into (directing collide) vs room ≡ refused r → Repeats collide from_values values_in vs r
    label_repeats e = pointed_repeats collide (label_pointed (collides_by collide) r late vs room e) ten

-- ---- clause 5.1.5 of what is accepted

-- what the check accepts gives a train running either way at most one packet of each kind but ETCS-44
pub accepted_one_each_way : (s : List ℕ) (n : ℕ) {es : List Entry} → checked paper s n ≡ accepted es → OneEachWay es
accepted_one_each_way s n {es} a = one_each_way (((check_judges paper s n).accepts es).0 a).telegram

-- and so does what the writer accepts
pub written_one_each_way : (vs : List ℕ) (room : ℕ) {es : List Entry} → write_into paper vs room ≡ accepted es → OneEachWay es
written_one_each_way vs room {es} a = one_each_way (writes_telegram paper vs room es a)
