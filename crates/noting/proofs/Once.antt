-- Each promise of this crate is met by one answer alone. Assumes nothing.
use Rattle.noting.specs.contracts as promises
use Rattle.std.proofs.Common.{◌≡◌, List, [], sym, refl, ap, ◌∙◌}
use Rattle.bits.proofs.Once.{OneOutcome}
use Rattle.format.specs.Rules.{Earlier, Context}
use Rattle.states.specs.Machine.{context_of, level_of}
use Rattle.states.specs.declared.Level.{Level}
use Rattle.states.specs.declared.Level.TheVariants.{Header, Packet, User}
use Rattle.states.specs.declared.State.{State}
use Rattle.noting.proofs.noted
use Rattle.noting.proofs.closes
use Rattle.noting.proofs.place

pub closes_once : OneOutcome promises.closes.ended closes.Reads.Post
closes_once κs args r t u v p q = (p [] ∙ sym (q []), refl)

pub place_once : OneOutcome promises.place.ended place.Reads.Post
place_once κs args r t u v p q = (p [] ∙ sym (q []), refl)

-- a level is known by the definition's
level_same : (a b : Level) → level_of a ≡ level_of b → a ≡ b
level_same Header Header e = refl
level_same Header Packet e = cc
level_same Header User e = cc
level_same Packet Header e = cc
level_same Packet Packet e = refl
level_same Packet User e = cc
level_same User Header e = cc
level_same User Packet e = cc
level_same User User e = refl

-- a state is known by its position, by what is to be sent, and by the context that it stands for
abbrev parts : State → State
parts a =
    record {
      at = a.at;
      todo = a.todo;
      level = a.level;
      start = a.start;
      id = a.id;
      dir = a.dir;
      long = a.long;
      userstart = a.userstart;
      userlong = a.userlong;
      pig = a.pig;
    }

state_same : (a b : State) (l : List Earlier) → a.at ≡ b.at → a.todo ≡ b.todo → context_of l a ≡ context_of l b → a ≡ b
state_same a b l e f h = by_parts
  where
    by_parts : parts a ≡ parts b
    by_parts =
        rw (
          e,
          f,
          level_same a.level b.level (ap (λ (x : Context). x.level) h),
          ap (λ (x : Context). x.start) h,
          ap (λ (x : Context). x.id) h,
          ap (λ (x : Context). x.dir) h,
          ap (λ (x : Context). x.long) h,
          ap (λ (x : Context). x.user_start) h,
          ap (λ (x : Context). x.user_long) h,
          ap (λ (x : Context). x.pig) h,
        )

pub noted_once : OneOutcome promises.noted.ended noted.Reads.Post
noted_once κs args r t u v p q =
    (state_same r t _ (p.here ∙ sym q.here) (p.same ∙ sym q.same) (sym (p.right 0 0 []) ∙ q.right 0 0 []), refl)
