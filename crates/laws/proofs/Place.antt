-- The place of a refusal is no part of the verdict: under two terms that agree on which packets collide, the same telegrams are
-- accepted, and whatever is refused is refused with the same kind. Assumes nothing.
use mathlib.Core.Bool.{Bool, cond, not}
use mathlib.Core.List.{List, [], ◌∷◌}
use mathlib.Core.Option.{Option, some}
use mathlib.Core.Path.{◌≡◌, refl, ap}
use Prim.Native.Nat.{ℕ, zero, suc}
use lib.Dec.{leb}
use lib.ListN.{length}
use Rattle.format.specs.Fields.{Rule}
use Rattle.format.specs.Fields.Rule.{any, packet, user, direction, size, pig, total, radio, within}
use Rattle.format.specs.Rules.{State, Context, Terms, Level, Next, begun, step, field, past, next, noted, onward, verdict, rule_of, unless, misdirected, broken, moved}
use Rattle.format.specs.Rules.Level.{in_header, in_packet, in_user}
use Rattle.format.specs.Rules.Next.{go, over, breaks}
use Rattle.format.specs.Telegrams.{Entry, entry, Taken, Driven, Result, on_taken, on_next, push, drive, whole, read, write, from_bits, from_values}
use Rattle.format.specs.Telegrams.Driven.{ended, stopped}
use Rattle.format.specs.Telegrams.Result.{accepted, refused}
use Rattle.format.specs.Telegrams.Taken.{got, lacks}
use Rattle.format.specs.declared.Kind.{Kind}
use Rattle.format.specs.declared.Kind.TheVariants.{Repeated, Value}
use Rattle.format.specs.declared.Refusal.{Refusal}

-- two answers accept the same entries or refuse with the same kind
pub data Alike : Result → Result → Type 0 where
  both_accepted : {es : List Entry} → Alike (accepted es) (accepted es)
  both_refused : {r q : Refusal} → r.kind ≡ q.kind → Alike (refused r) (refused q)

-- the same of what driving comes to
pub data AlikeDriven : Driven → Driven → Type 0 where
  both_ended : {es : List Entry} {s : State} {xs : List ℕ} → AlikeDriven (ended es s xs) (ended es s xs)
  both_stopped : {r q : Refusal} → r.kind ≡ q.kind → AlikeDriven (stopped r) (stopped q)

module _ (p q : Terms) (agree : (c : Context) (v : ℕ) → p.collides c v ≡ q.collides c v) where
  -- ---- every value leads to the same

  misdirected_agree : (c : Context) (l : Level) (v : ℕ) → misdirected p c l v ≡ misdirected q c l v
  unfolding misdirected
  misdirected_agree c in_header v = refl
  misdirected_agree c in_packet v = ap (λ (b : Bool). unless (not b) Repeated) (agree c v)
  misdirected_agree c in_user v = refl

  broken_agree : (c : Context) (r : Rule) (v : ℕ) → broken p c r v ≡ broken q c r v
  unfolding broken
  broken_agree c any v = refl
  broken_agree c packet v = refl
  broken_agree c user v = refl
  broken_agree c direction v = ap (λ (o : Option Kind). cond (leb v 2) o (some Value)) (misdirected_agree c c.level v)
  broken_agree c size v = refl
  broken_agree c pig v = refl
  broken_agree c total v = refl
  broken_agree c radio v = refl
  broken_agree c (within a b) v = refl

  pub step_agree : (s : State) (v : ℕ) → step p s v ≡ step q s v
  unfolding step
  step_agree s v =
      let r = rule_of (field s).sense in
      ap (λ (o : Option Kind). verdict o (onward (past s) (next s.todo v) (noted r s.context s.at v))) (broken_agree s.context r v)

  -- ---- so the driver comes to the same, from any source

  push_alike : (e : Entry) {d b : Driven} → AlikeDriven d b → AlikeDriven (push e d) (push e b)
  push_alike e both_ended = both_ended
  push_alike e (both_stopped h) = both_stopped h

  next_alike : (n : Next) (s : State) (v : ℕ) (f g : State → Driven) (ys : List ℕ) → ((t : State) → AlikeDriven (f t) (g t))
      → AlikeDriven (on_next p n s v f ys) (on_next q n s v g ys)
  next_alike (go t c) s v f g ys h = push_alike (entry s v) (h (moved s t c))
  next_alike over s v f g ys h = both_ended
  next_alike (breaks k) s v f g ys h = both_stopped refl

  taken_alike : (r : Taken) (s : State) (f g : State → List ℕ → Driven) → ((t : State) (ys : List ℕ) → AlikeDriven (f t ys) (g t ys))
      → AlikeDriven (on_taken p r s (λ v ys. on_next p (step p s v) s v (λ t. f t ys) ys))
      (on_taken q r s (λ v ys. on_next q (step q s v) s v (λ t. g t ys) ys))
  taken_alike (got v ys) s f g h = rw (step_agree s v) (next_alike (step q s v) s v (λ t. f t ys) (λ t. g t ys) ys (λ t. h t ys))
  taken_alike (lacks k) s f g h = both_stopped refl

  pub drive_alike : (source : State → List ℕ → Taken) (k : ℕ) (s : State) (xs : List ℕ)
      → AlikeDriven (drive p source k s xs) (drive q source k s xs)
  unfolding drive
  drive_alike source zero s xs = both_stopped refl
  drive_alike source (suc k) s xs =
      taken_alike (source s xs) s (λ t ys. drive p source k t ys) (λ t ys. drive q source k t ys) (drive_alike source k)

  -- ---- and so do reading and writing

  pub whole_alike : {d b : Driven} → AlikeDriven d b → Alike (whole p d) (whole q b)
  whole_alike (both_ended {xs = []}) = both_accepted
  whole_alike (both_ended {xs = x ∷ xs}) = both_refused refl
  whole_alike (both_stopped h) = both_refused h

  pub read_alike : (bs : List ℕ) → Alike (read p bs) (read q bs)
  unfolding read
  read_alike bs = whole_alike (drive_alike from_bits (length bs) begun bs)

  pub write_alike : (vs : List ℕ) → Alike (write p vs) (write q vs)
  unfolding write
  write_alike vs = whole_alike (drive_alike from_values (length vs) begun vs)
