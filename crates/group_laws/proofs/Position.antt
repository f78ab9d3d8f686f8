-- The header of an accepted telegram: its N_PIG is at most its N_TOTAL, and its M_DUP is 0, 1 or 2. Assumes nothing.
use mathlib.Core.Bool.{Bool, true, false, ◌&&◌}
use mathlib.Core.List.{List, ◌∷◌}
use mathlib.Core.Option.{some, none}
use mathlib.Core.Path.{◌≡◌, refl, sym, ap, ◌∙◌, subst}
use Prim.Native.Nat.{ℕ, ◌≤◌}
use native.Mathlib.Omega.{arith}
use borrow.Author.Tests.{leb-true}
use lib.Dec.{leb}
use Rattle.format.specs.Among.{holding}
use Rattle.format.specs.Fields.{Field, Q_UPDOWN, M_VERSION, Q_MEDIA, N_PIG, N_TOTAL, M_DUP, M_MCOUNT, NID_C, NID_BG, Q_LINK}
use Rattle.format.specs.Packets.{Items, header}
use Rattle.format.specs.Packets.Items.{end, send}
use Rattle.format.specs.Rules.{State, Context, Terms, begun, step, next, broken, unless, noted, onward, settled, rule_of, moved, forbidden}
use Rattle.format.specs.Rules.Next.{go}
use Rattle.format.specs.Telegrams.{Entry, Run, Telegram}
use Rattle.format.specs.Telegrams.Run.{last, more}
use Rattle.format.specs.declared.Kind.{Kind}
use Rattle.format.specs.declared.Kind.TheVariants.{Header}
use Rattle.laws.proofs.Steps.{going_on, over_mark, go_next}
use Rattle.laws.proofs.Collided.{go_unbroken}
use Rattle.group.specs.Groups.{held}

-- ---- one field after the other

-- the first entry is of the field that is due, and the others are sent from where its value leads
record Sent (p : Terms) (s : State) (f : Field) (r : Items) (es : List Entry) : Type 0 where
  value : ℕ
  rest : List Entry
  context : Context
  is : es ≡ holding f value ∷ rest
  steps : step p s value ≡ go r context
  run : Run p (moved s r context) rest

run_on : {p : Terms} {s : State} {es : List Entry} → Run p s es → (f : Field) (r : Items) → s.todo ≡ send f r → Sent p s f r es
unfolding next
run_on {p} (last {s = s} {v = v} k e) f r i = going_on s.todo (rw i tt) (over_mark p s v e).0
run_on {p} (more {s = s} {v = v} {t = t} {c = c} {es = es} k e w) f r i =
    let n : some r ≡ some t = (rw i at (go_next p s v t c e)) in
    let q : t ≡ r = cc in
    record {
      value = v;
      rest = es;
      context = c;
      is = rw i refl;
      steps = subst (λ (x : Items). step p s v ≡ go x c) q e;
      run = subst (λ (x : Items). Run p (moved s x c) es) q w;
    }

-- what an N_PIG leaves, and what the tests of an N_TOTAL and an M_DUP say
pig_noted : (p : Terms) (s : State) (v : ℕ) (f : Field) (r : Items) (c : Context) → s.todo ≡ send N_PIG (send f r) → step p s v ≡ go (send f r) c → c.pig ≡ v
unfolding step broken next onward settled noted
pig_noted p s v f r c i h =
    let e = (rw i at h) in
    let d : noted (rule_of N_PIG.sense) s.context s.at v ≡ c = cc in
    sym (ap (λ (x : Context). x.pig) d)

passed : (b : Bool) (k : Kind) → unless b k ≡ none → b ≡ true
passed true k h = refl
passed false k h = cc

total_above : (p : Terms) (s : State) (v : ℕ) (r : Items) (c : Context) → s.todo ≡ send N_TOTAL r → step p s v ≡ go r c → s.context.pig ≤ v
unfolding broken
total_above p s v r c i h =
    let e = (rw i at (go_unbroken p s v r c h)) in
    leb-true s.context.pig v (passed (leb s.context.pig v) Header e)

and_right : (a b : Bool) → (a && b) ≡ true → b ≡ true
and_right true b h = h
and_right false b h = let z : ◌≡◌ {A = ℕ} 0 1 = cc in absurd (omega arith)

dup_small : (p : Terms) (s : State) (v : ℕ) (r : Items) (c : Context) → s.todo ≡ send M_DUP r → step p s v ≡ go r c → v ≤ 2
unfolding broken
dup_small p s v r c i h =
    let e = (rw i at (go_unbroken p s v r c h)) in
    leb-true v 2 (and_right (leb 0 v) (leb v 2) (passed (leb 0 v && leb v 2) (forbidden s.context.level) e))

-- ---- of a telegram

abbrev behind_pig : Items
behind_pig = send M_DUP (send M_MCOUNT (send NID_C (send NID_BG (send Q_LINK end))))

pub telegram_position : {p : Terms} {es : List Entry} → Telegram p es → (held N_PIG es ≤ held N_TOTAL es) × (held M_DUP es ≤ 2)
unfolding begun header
telegram_position {p} {es} t =
    let a = run_on t Q_UPDOWN (send M_VERSION (send Q_MEDIA (send N_PIG (send N_TOTAL behind_pig)))) refl in
    let b = run_on a.run M_VERSION (send Q_MEDIA (send N_PIG (send N_TOTAL behind_pig))) refl in
    let c = run_on b.run Q_MEDIA (send N_PIG (send N_TOTAL behind_pig)) refl in
    let d = run_on c.run N_PIG (send N_TOTAL behind_pig) refl in
    let e = run_on d.run N_TOTAL behind_pig refl in
    let f = run_on e.run M_DUP (send M_MCOUNT (send NID_C (send NID_BG (send Q_LINK end)))) refl in
    let xa = holding Q_UPDOWN a.value in
    let xb = holding M_VERSION b.value in
    let xc = holding Q_MEDIA c.value in
    let xd = holding N_PIG d.value in
    let xe = holding N_TOTAL e.value in
    let xf = holding M_DUP f.value in
    let r : es ≡ xa ∷ xb ∷ xc ∷ xd ∷ xe ∷ xf ∷ f.rest =
    a.is ∙ ap (λ (l : List Entry). xa ∷ l) (b.is ∙ ap (λ (l : List Entry). xb ∷ l) (c.is ∙ ap (λ (l : List Entry). xc ∷ l)
    (d.is ∙ ap (λ (l : List Entry). xd ∷ l) (e.is ∙ ap (λ (l : List Entry). xe ∷ l) f.is)))) in
    let pig : held N_PIG es ≡ d.value = ap (held N_PIG) r in
    let total : held N_TOTAL es ≡ e.value = ap (held N_TOTAL) r in
    let dup : held M_DUP es ≡ f.value = ap (held M_DUP) r in
    let g = pig_noted p _ d.value N_TOTAL behind_pig d.context refl d.steps in
    let h = total_above p _ e.value behind_pig e.context refl e.steps in
    let k = dup_small p _ f.value _ f.context refl f.steps in
    (omega arith, omega arith)
