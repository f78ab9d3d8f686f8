-- A single telegram's refusal in a group, from the promise of `message` alone. Assumes nothing.
use Rattle.std.specs.Prelude.{Err}
use mathlib.Core.List.{List, [], ◌∷◌}
use mathlib.Core.Logic.{◌↔◌}
use mathlib.Core.Path.{◌≡◌, refl, sym, ap, ◌∙◌, subst}
use Prim.Native.Nat.{ℕ, ◌≤◌, min}
use lib.ListN.{length}
use Rattle.format.specs.Rules.{paper}
use Rattle.format.specs.declared.Refusal.{Refusal}
use Rattle.format.proofs.Numbers.{refusal_is}
use Rattle.format.specs.Refusals.{number_of}
use Rattle.group.specs.Groups.{Part, parts, fault, Message, group_in, reply_of, Replied}
use Rattle.group.specs.Groups.Message.{lists, refuses}
use Rattle.group.specs.declared.Cause.TheVariants.{Single}
use Rattle.group.specs.declared.Fault.{Fault}
use Rattle.group_laws.proofs.Refusing.{refuses_single}
use Rattle.group_laws.proofs.Singles.{AllAccepted, FirstRefused}
use Rattle.entrances.specs.Groups.{AllFine, SingleGiven}
use Rattle.entrances.proofs.Bytes.{check_judged}
use Rattle.group.specs.Replies.{Reply}

all_fine : (xs : List Part) → AllAccepted paper xs ↔ AllFine xs
all_fine [] = (λ a. tt, λ a. tt)
all_fine (x ∷ xs) =
    let i = all_fine xs in
    let j = check_judged x.bytes x.size in (
      λ a. ((a.0.0, (j.accepts a.0.0).0 a.0.1), i.0 a.1),
      λ a. ((a.0.0, (j.accepts a.0.0).1 a.0.1), i.1 a.1),
    )

first_given : (xs : List Part) (which : ℕ) (r : Refusal) → FirstRefused paper xs which r ↔ SingleGiven xs which r
first_given xs which r = (
  λ f.
      record {
        earlier = f.earlier;
        part = f.part;
        later = f.later;
        stands = f.stands;
        number = f.number;
        fine = (all_fine f.earlier).0 f.fine;
        given = ((check_judged f.part.bytes f.part.size).refuses r).0 f.refuses;
      },
  λ g.
      record {
        earlier = g.earlier;
        part = g.part;
        later = g.later;
        stands = g.stands;
        number = g.number;
        fine = (all_fine g.earlier).1 g.fine;
        refuses = ((check_judged g.part.bytes g.part.size).refuses r).1 g.given;
      },
)

replied : (m : Message) (f : Fault) → (reply_of m ≡ Err f) ↔ (m ≡ refuses f)
replied (lists ms) f = (λ e. cc, λ e. cc)
replied (refuses g) f = (λ e. cc, λ e. cc)

-- a group is refused for a telegram by itself just where that is the first that is refused, and with its own number and place
pub message_single : {s ns pigs numbers pigs' numbers' : List ℕ} {answer : Reply} → Replied paper s ns pigs numbers answer pigs' numbers'
    → (which : ℕ) (r : Refusal) → (answer ≡ Err (fault (Single r.kind) which r.place))
    ↔ ((264 ≤ min (length pigs) (length numbers)) × SingleGiven (parts s ns) which r)
message_single {s} {ns} {pigs} {numbers} {pigs'} {numbers'} {answer} h which r =
    let room = min (length pigs) (length numbers) in
    let i = h.answers in
    let j = refuses_single paper s ns room r.kind which r.place in
    let k = replied (group_in paper s ns pigs numbers) (fault (Single r.kind) which r.place) in (
      λ e.
          let b = j.0 (k.0 (sym i ∙ e)) in
          let q : b.refusal ≡ r = refusal_is b.refusal r (ap number_of b.of_kind) b.at_bit in
          (b.roomy, (first_given (parts s ns) which r).0 (subst (FirstRefused paper (parts s ns) which) q b.breaks)),
      λ g. i ∙ k.1 (j.1 (record { roomy = g.0; refusal = r; breaks = (first_given (parts s ns) which r).1 g.1; of_kind = refl; at_bit = refl })),
    )
