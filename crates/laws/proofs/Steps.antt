-- What a step says of the value and of the items before and after it, whatever the rules were. Assumes nothing.
use mathlib.Core.Bool.{Bool, true, false, cond, ◌||◌}
use mathlib.Core.Option.{Option, some, none}
use mathlib.Core.Path.{◌≡◌, refl, subst}
use Prim.Native.Nat.{ℕ}
use borrow.Author.Tests.{eqb-true}
use lib.Dec.{T, eqb}
use Rattle.format.specs.Fields.{Rule}
use Rattle.format.specs.Packets.{Items, find, etcs}
use Rattle.format.specs.Packets.Items.{end, nest, send, send_if, send_either, send_times}
use Rattle.format.specs.Rules.{State, Context, Terms, Next, step, field, due, past, next, rule_of, broken, noted, verdict, unless, known, closes, settled, onward, fresh}
use Rattle.format.specs.Rules.Next.{go, over, breaks}
use Rattle.format.specs.declared.Kind.{Kind}
use Rattle.format.specs.declared.Kind.TheVariants.{Length, Unknown}

-- ---- the ways that a value can go

-- something is left to send
abbrev pub going : Items → Bool
going end = false
going nest = true
going (send f r) = true
going (send_if c f r) = true
going (send_either c a b) = true
going (send_times c g r) = true

-- and so they are not done
pub going_on : {A : Type 0} (t : Items) → T (going t) → t ≡ end → A
going_on t g e = absurd (subst (λ i. T (going i)) e g)

-- where the items that come next lead: on with them, or a packet ends here, and is as long as it says or not
pub data Settled (at : ℕ) (t : Items) (c : Context) : Next → Type 0 where
  on : T (going t) → Settled at t c (go t c)
  closed : t ≡ end → Settled at t c (go end (fresh at c))
  misfitted : t ≡ end → closes at c c.level ≡ false → Settled at t c (breaks Length)

-- where a value leads: it is forbidden, or it is the end mark's, or it is noted and the items that come next lead on
pub data Stepped (p : Terms) (s : State) (v : ℕ) : Next → Type 0 where
  forbidden : {k : Kind} → broken p s.context (rule_of (field s).sense) v ≡ some k → Stepped p s v (breaks k)
  marked : broken p s.context (rule_of (field s).sense) v ≡ none → next s.todo v ≡ none → Stepped p s v over
  noticed : {t : Items} {n : Next} → broken p s.context (rule_of (field s).sense) v ≡ none → next s.todo v ≡ some t
      → Settled (past s) t (noted (rule_of (field s).sense) s.context s.at v) n → Stepped p s v n

-- a packet's end, by the test of its length
closing : (at : ℕ) (t : Items) (c : Context) (b : Bool) → t ≡ end → closes at c c.level ≡ b
    → Settled at t c (cond b (go end (fresh at c)) (breaks Length))
closing at t c true i e = closed i
closing at t c false i e = misfitted i e

settles : (at : ℕ) (t : Items) (c : Context) → Settled at t c (settled at t c)
unfolding settled
settles at end c = closing at end c (closes at c c.level) refl refl
settles at nest c = on tt
settles at (send f r) c = on tt
settles at (send_if s f r) c = on tt
settles at (send_either s a b) c = on tt
settles at (send_times s g r) c = on tt

module _ (p : Terms) (s : State) (v : ℕ) where
  abbrev rule : Rule
  rule = rule_of (field s).sense

  abbrev after : Context
  after = noted rule s.context s.at v

  allowed : (o : Option Items) → broken p s.context rule v ≡ none → next s.todo v ≡ o → Stepped p s v (onward (past s) o after)
  unfolding onward
  allowed none b e = marked b e
  allowed (some t) b e = noticed b e (settles (past s) t after)

  judged : (o : Option Kind) → broken p s.context rule v ≡ o → Stepped p s v (verdict o (onward (past s) (next s.todo v) after))
  judged none b = allowed (next s.todo v) b refl
  judged (some k) b = forbidden b

  pub stepped : Stepped p s v (step p s v)
  unfolding step
  stepped = judged (broken p s.context rule v) refl

-- ---- the end mark

-- an identifier that is not in the table and is allowed is the end mark's
unlisted : (o : Option Items) (b : Bool) → o ≡ none → unless (b || known o) Unknown ≡ none → b ≡ true
unlisted none true n h = refl
unlisted none false n h = cc
unlisted (some t) b n h = cc

mark_is : (p : Terms) (c : Context) (t : Items) (v : ℕ) → broken p c (rule_of (due t).sense) v ≡ none → next t v ≡ none
    → (t ≡ end) × (v ≡ 255)
unfolding broken next
mark_is p c end v b n = (refl, eqb-true v 255 (unlisted (find v etcs) (eqb v 255) n b))
mark_is p c nest v b n = (cc, cc)
mark_is p c (send f r) v b n = (cc, cc)
mark_is p c (send_if s f r) v b n = (cc, cc)
mark_is p c (send_either s a d) v b n = (cc, cc)
mark_is p c (send_times s g r) v b n = (cc, cc)

-- ---- one step

module _ (p : Terms) (s : State) (v : ℕ) where
  -- where it goes on, it goes on with the items that come next
  pub go_next : (t : Items) (c : Context) → step p s v ≡ go t c → next s.todo v ≡ some t
  go_next t c h = by_way (stepped p s v) h
    where
      by_way : {n : Next} → Stepped p s v n → n ≡ go t c → next s.todo v ≡ some t
      by_way (forbidden b) i = cc
      by_way (marked b e) i = cc
      by_way (noticed b e (on g)) i = cc
      by_way (noticed b e (closed j)) i = cc
      by_way (noticed b e (misfitted j f)) i = cc

  -- where it is over, nothing was left to send, and the value is the end mark's
  pub over_mark : step p s v ≡ over → (s.todo ≡ end) × (v ≡ 255)
  over_mark h = by_way (stepped p s v) h
    where
      by_way : {n : Next} → Stepped p s v n → n ≡ over → (s.todo ≡ end) × (v ≡ 255)
      by_way (forbidden b) i = (cc, cc)
      by_way (marked b e) i = mark_is p s.context s.todo v b e
      by_way (noticed b e (on g)) i = (cc, cc)
      by_way (noticed b e (closed j)) i = (cc, cc)
      by_way (noticed b e (misfitted j f)) i = (cc, cc)
