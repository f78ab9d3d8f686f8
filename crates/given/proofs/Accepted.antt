-- What is accepted, in the same words; and so the whole of demand 1: every source is accepted or a rule of it is broken first, never both, and one refusal
-- alone is given. Assumes nothing.
use mathlib.Core.List.{List, [], ◌∷◌, ◌++◌, append_assoc}
use mathlib.Core.Logic.{◌↔◌}
use mathlib.Core.Path.{◌≡◌, refl, sym, ap, ◌∙◌, subst}
use Prim.Native.Nat.{ℕ, ◌≤◌}
use lib.ListN.{length}
use Rattle.bits.specs.Bits.{Below}
use Rattle.format.specs.Judges.{Judges}
use Rattle.format.specs.Among.{holding}
use Rattle.format.specs.Fields.{END}
use Rattle.format.specs.Packets.{Items}
use Rattle.format.specs.Packets.Items.{end}
use Rattle.format.specs.Rules.{State, Terms, begun, named, paper}
use Rattle.format.specs.Telegrams.{Entry, entry, Run, Telegram, all, read, write}
use Rattle.format.specs.Telegrams.Run.{last, more}
use Rattle.laws.proofs.Refused.{read_decides, write_decides}
use Rattle.laws.proofs.Steps.{over_mark}
use Rattle.laws.proofs.Points.{Sends}
use Rattle.laws.proofs.Points.{Sends as sends}
use Rattle.laws.proofs.Apart.{finished}
use Rattle.states.proofs.Answers.{judges}
use Rattle.given.specs.Broken.{Medium, Keeps, part_in}
use Rattle.given.specs.Broken.Medium.{in_bits, in_values}
use Rattle.given.specs.Given.{Lawful, Given, Kept, Accepted}
use Rattle.given.proofs.Lawfully.{over_keeps, keeps_fits, sends_lawful, lawful_sends}
use Rattle.given.proofs.Demand1.{mark_over, read_given, write_given}

-- the entry of the end mark
mark_entry : (t : Items) (v : ℕ) → t ≡ end → v ≡ 255 → holding (named t v) v ≡ holding END 255
mark_entry t v i j = rw (i, j)

telegram_kept : {es : List Entry} → Telegram paper es → Kept es
unfolding begun
telegram_kept {es} r =
    let w = finished r in
    let o = over_mark paper w.state w.value w.marks in
    let k = over_keeps w.sends w.value w.fits w.marks in
    record {
      sent = w.sent;
      lawful = subst (Lawful w.sent) o.0 (sends_lawful w.sends);
      mark = subst (λ (t : Items). Keeps w.sent t 255) o.0 (subst (Keeps w.sent w.state.todo) o.1 k);
      ends = w.ends ∙ ap (λ (x : Entry). w.sent ++ (x ∷ [])) (mark_entry w.state.todo w.value o.0 o.1);
    }

-- what was sent, and a run from there on
sends_run : {p : Terms} {es : List Entry} {s : State} {rest : List Entry} → Sends p es s → Run p s rest → Run p begun (es ++ rest)
sends_run sends.nothing r = r
sends_run {p} {rest = rest} (sends.one_more {es = es} {s = s} v h f e) r =
    subst (Run p begun) (sym (append_assoc es (entry s v ∷ []) rest)) (sends_run h (more f e r))

kept_telegram : {es : List Entry} → Kept es → Telegram paper es
kept_telegram {es} k =
    let w = lawful_sends k.lawful in
    let s = w.state in
    let i = w.todo in
    let f = keeps_fits w.sends 255 (rw i k.mark) in
    let r = sends_run w.sends (last f (mark_over s i)) in
    subst (Telegram paper) (ap (λ (x : Entry). k.sent ++ (x ∷ [])) (mark_entry s.todo 255 i refl) ∙ sym k.ends) r

-- the telegrams of the machine are those that keep every rule
pub kept_is : (es : List Entry) → Telegram paper es ↔ Kept es
kept_is es = (telegram_kept, kept_telegram)

-- ---- the whole of it

module _ (m : Medium) (whole : List ℕ) (es : List Entry) where
  accepts_is : Telegram paper es × (whole ≡ all (part_in m) es) → Accepted m whole es
  accepts_is q = record { kept = telegram_kept q.0; same = q.1 }

  is_accepted : Accepted m whole es → Telegram paper es × (whole ≡ all (part_in m) es)
  is_accepted a = (kept_telegram a.kept, a.same)

-- **Demand 1.** Reading accepts entries exactly where no rule is broken anywhere and nothing follows, and refuses by a number at a place exactly where that
-- rule is broken first and gives that place. One of the two is so, never both, and never two of one
pub read_judged : (bs : List ℕ) → Below 2 bs → length bs ≤ 830 → Judges (Accepted in_bits bs) (Given in_bits bs) (read paper bs)
read_judged bs b n =
    judges (Accepted in_bits bs) (Given in_bits bs) (read paper bs)
    (λ es. let d = (read_decides paper bs b n).accepts es in (λ e. accepts_is in_bits bs es (d.0 e), λ a. d.1 (is_accepted in_bits bs es a)))
    (read_given bs b n)

-- and so does writing
pub write_judged : (vs : List ℕ) → Judges (Accepted in_values vs) (Given in_values vs) (write paper vs)
write_judged vs =
    judges (Accepted in_values vs) (Given in_values vs) (write paper vs)
    (λ es. let d = (write_decides paper vs).accepts es in (λ e. accepts_is in_values vs es (d.0 e), λ a. d.1 (is_accepted in_values vs es a)))
    (write_given vs)
