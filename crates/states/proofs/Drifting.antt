-- What the loop goes by that goes past fields unread. Assumes nothing.
use Rattle.std.specs.Prelude.{Some, Option}
use mathlib.Core.Bool.{Bool, true, cond}
use mathlib.Core.Path.{◌≡◌, sym, ap, ap₂, ◌∙◌, subst}
use Prim.Native.Nat.{ℕ, ◌+◌, ◌-◌, ◌≤◌, ◌<◌}
use native.Mathlib.Omega.{arith}
use borrow.Author.Tests.{eq-eqb, ne_eqb, eqb-true, ltb-true}
use Rattle.bits.specs.Take.{skip_at}
use Rattle.bits.specs.declared.Cursor.{Cursor}
use Rattle.bits.proofs.Fields.{IsPast, skipped}
use Rattle.format.specs.Table.{act, jump, rest, field_at}
use Rattle.format.proofs.Rests.{send_free}
use Rattle.format.proofs.Rows.{next_in}
use Rattle.laws.proofs.Sources.{width_positive}
use Rattle.laws.proofs.Told.{and_two}
use Rattle.states.specs.Machine.{Tidy, Idle, later, Unread, unread, Drifted}
use Rattle.states.specs.Machine.Drifted.{nothing, field}
use Rattle.states.specs.declared.Todo.{Todo}
use Rattle.states.proofs.Idling.{idle_ahead}

-- what the test of a field says
pub unread_so : (k a r : ℕ) → k < 213 → a ≡ act k → r ≡ rest k → unread a r ≡ true → (act k ≡ 2) × Unread k
unread_so k a r l ea er h =
    let d = and_two _ _ (sym (ap₂ unread ea er) ∙ h) in
    let p = eqb-true (act k) 2 d.0 in
    let x = ltb-true (rest k) 3 d.1 in
    let c = send_free k l p (omega arith) in (p, omega arith)

-- where a field begins, from first at the bit start on
pub record Drifting (n : ℕ) (first : Todo) (start : ℕ) (t : Todo) (at m : ℕ) : Type 0 where
  pub drifted : Drifted n first start t at m
  pub tidy : Tidy t
  pub few : m + start ≤ at

-- the row behind a field that steers nothing is in the table
pub after_in : {n : ℕ} {first : Todo} {start : ℕ} {t : Todo} {at m : ℕ} → Drifting n first start t at m → act t.node ≡ 2
    → t.node + 1 < 213
after_in {t = t} i p = let l = next_in t.node i.tidy.inside (omega arith) in omega arith

pub drifting_first : {n : ℕ} {t : Todo} {at : ℕ} → Tidy t → Drifting n t at t at 0
drifting_first d = record { drifted = nothing; tidy = d; few = omega arith }

module _ {n : ℕ} {first : Todo} {start : ℕ} {t : Todo} {at m : ℕ} (i : Drifting n first start t at m)
    {w : ℕ} (ew : w ≡ (field_at t.node).width) {r : Option Cursor} (e : r ≡ skip_at n w at) {next : Cursor} (h : r ≡ Some next) where
  gone : IsPast n w at next.at
  gone = skipped n w at next (sym e ∙ h)

  pub more : m + 1 ≤ n
  more = omega (arith, gone.within, i.few, ew, width_positive (field_at t.node))

  pub nearer : n - next.at < n - at
  nearer = omega (arith, gone.within, gone.past, ew, width_positive (field_at t.node))

  module _ (p : act t.node ≡ 2) (q : Unread t.node) where
    drifts : Idle t → Drifting n first start (later t) next.at (m + 1)
    drifts idle =
        let there : next.at ≡ at + (field_at t.node).width = rw (← ew) gone.past in
        let inside : at + (field_at t.node).width ≤ n = rw (← ew) gone.within in
        record {
          drifted = rw there (field i.drifted idle q inside);
          tidy = (idle_ahead t i.tidy idle 0).0.tidy;
          few = omega (arith, i.few, there, width_positive (field_at t.node));
        }

    -- the one of the two that the next row tells
    abbrev either : Bool → Todo
    either b =
        cond b (record { node = jump (t.node + 1) + 1; left = t.left - 1; outer = t.outer })
        (record { node = t.node + 1; left = t.left; outer = t.outer })

    pub drifts_next : (act (t.node + 1) ≡ 0 → ⊥) → Drifting n first start (record { node = t.node + 1; left = t.left; outer = t.outer }) next.at (m + 1)
    drifts_next z =
        subst (λ (u : Todo). Drifting n first start u next.at (m + 1)) (ap either (ne_eqb (act (t.node + 1)) 0 z))
        (drifts (record { plain = p; again = λ y. absurd (z y) }))

    pub drifts_again : act (t.node + 1) ≡ 0 → (jump (t.node + 1) ≡ 0 → ⊥) → (t.left ≡ 0 → ⊥)
        → Drifting n first start (record { node = jump (t.node + 1) + 1; left = t.left - 1; outer = t.outer }) next.at (m + 1)
    drifts_again z j l =
        subst (λ (u : Todo). Drifting n first start u next.at (m + 1)) (ap either (eq-eqb (act (t.node + 1)) 0 z))
        (drifts (record { plain = p; again = λ y. (omega arith, omega arith) }))

-- it goes on, never back
pub further : {n : ℕ} {first : Todo} {start : ℕ} {t : Todo} {at m : ℕ} → Drifted n first start t at m → start ≤ at
further nothing = omega arith
further (field d idle q h) = let l = further d in omega arith
