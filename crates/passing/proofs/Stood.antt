-- Where a telegram stands by what is to be sent, with no rows: `Stood`, which fields that are passed keep. Between two packets it is the machine's
-- `Scans`, and at the end mark it gives the answer. Assumes nothing.
use Rattle.std.specs.Prelude.{Ok}
use mathlib.Core.Bool.{true}
use mathlib.Core.List.{List, [], ◌∷◌, ◌++◌}
use mathlib.Core.Logic.{◌⊎◌, inl, inr}
use mathlib.Core.Option.{some}
use mathlib.Core.Path.{◌≡◌, refl, sym, ap, subst, ◌∙◌}
use Prim.Native.Nat.{ℕ, suc, ◌+◌, ◌-◌, ◌*◌, ◌≤◌}
use native.Mathlib.Omega.{arith}
use borrow.Author.Tests.{le-leb}
use lib.Dec.{T}
use lib.ListN.{length, drop, length-drop, drop_of_length-le}
use lib.Seq.{drop-drop, length-take-le}
use Rattle.bits.specs.Bits.{value_of, bits_of}
use Rattle.bits.specs.Take.{field_bits}
use Rattle.bits.proofs.Bytes.{length_bits_of}
use Rattle.format.specs.Packets.{Items, etcs, find}
use Rattle.format.specs.Packets.Items.{end, nest, send, send_if, send_either, send_times}
use Rattle.format.specs.Rules.{State, Context, Earlier, begun, context, step, field, due, past, next, rule_of, broken, closes, settled, onward, fresh, moved, paper}
use Rattle.format.specs.Rules.Level.{in_packet}
use Rattle.format.specs.Rules.Next.{go, over}
use Rattle.format.specs.Table.{row_at, words}
use Rattle.bits.specs.declared.Cursor.{Cursor}
use Rattle.states.specs.Reader.{answer_of}
use Rattle.format.specs.Telegrams.{Entry, entry, bits, bits_in, values, from_bits, drive, whole, read}
use Rattle.format.specs.Telegrams.Taken.{got}
use Rattle.format.specs.Telegrams.Result.{accepted}
use Rattle.laws.proofs.Sources.{Sent, from_bits_lem, width_positive}
use Rattle.laws.proofs.Points.{Sends}
use Rattle.laws.proofs.Points.Sends.{one_more}
use Rattle.laws.proofs.Pointed.{one_front}
use Rattle.laws.proofs.Steps.{going}
use Rattle.laws.proofs.Tile.{values_more}
use Rattle.laws.proofs.Turns.{pushes, pushes_one, pushes_ended, one_mark, one_field_bounds, any_bound}
use Rattle.states.specs.Machine.{view, fresh_at}
use Rattle.states.proofs.Moves.{none_left}
use Rattle.states.proofs.Scanning.{Scans, telegram_bits, inside_take}
use Rattle.passing.proofs.Passing.{value_at, Keeps, keeps_unbroken, keeps_noted, Passed, passed_grows, passed_going}
use Rattle.passing.proofs.Passing.Passed.{stay, pass}
use Rattle.states.specs.declared.State as machine

-- ---- where a telegram stands

-- The definition goes on from the state q with the bits from there on, after the entries so far: `Drives` over bits, with no machine.
pub record Stood (s : List ℕ) (n : ℕ) (q : State) (count : ℕ) : Type 0 where
  pub low : n ≤ 830
  pub wide : n ≤ 8 * length s
  pub entries : List Entry
  pub goes : drive paper from_bits (length (telegram_bits s n)) begun (telegram_bits s n)
      ≡ pushes entries (drive paper from_bits (length (drop q.at (telegram_bits s n))) q (drop q.at (telegram_bits s n)))
  pub good : Sent q (drop q.at (telegram_bits s n))
  pub sends : Sends paper entries q
  pub front : telegram_bits s n ≡ bits entries ++ drop q.at (telegram_bits s n)
  pub counts : count ≡ length (values entries)
  pub within : q.at ≤ n
  pub few : count ≤ q.at

length_telegram : (s : List ℕ) (n : ℕ) → n ≤ 8 * length s → length (telegram_bits s n) ≡ n
length_telegram s n wide = length-take-le n (bits_of s) (rw (length_bits_of s) wide)

-- ---- one field more

module _ {s : List ℕ} {n : ℕ} {q : State} {count : ℕ} (i : Stood s n q count) (room : past q ≤ n) where
  abbrev bs : List ℕ
  bs = telegram_bits s n

  -- the number in the bits of the field that is due
  abbrev here : ℕ
  here = value_of (field_bits s (field q).width q.at)

  length_rest : length (drop q.at bs) ≡ n - q.at
  length_rest = rw (length-drop q.at bs, length_telegram s n i.wide)

  has_field : from_bits q (drop q.at bs) ≡ got here (drop (past q) bs)
  unfolding from_bits
  has_field =
      rw (
        le-leb (field q).width (length (drop q.at bs)) (rw length_rest (omega (arith, i.within))),
        inside_take (bits_of s) n q.at (field q).width room (rw (length_bits_of s) i.wide),
        drop-drop (field q).width q.at bs,
      )

  pub stood_on : {t : Items} {c : Context} → step paper q here ≡ go t c → Stood s n (moved q t c) (count + 1)
  stood_on {t} {c} e =
      let xs = drop q.at bs in
      let ys = drop (past q) bs in
      let had = from_bits_lem.taken q here xs ys i.good has_field in
      record {
        low = i.low;
        wide = i.wide;
        entries = i.entries ++ (entry q here ∷ []);
        goes = i.goes
            ∙ ap (pushes i.entries)
            (one_field_bounds paper from_bits bits_in Sent from_bits_lem (length xs) (length ys) q here xs ys t c i.good has_field e
            (omega arith) (omega arith))
            ∙ sym (pushes_one i.entries (entry q here) _);
        good = had.good t c;
        sends = one_more here i.sends had.fits e;
        front = one_front bits_in i.entries (entry q here) ys (i.front ∙ ap (λ (l : List ℕ). bits i.entries ++ l) had.front);
        counts = rw (values_more i.entries (entry q here), i.counts);
        within = room;
        few = omega (arith, i.few, width_positive (field q));
      }

-- ---- along fields that are passed

abbrev pub standing : ℕ → Items → Context → State
standing x t c = record { at = x; todo = t; context = c }

step_kept : (q : State) (v : ℕ) (u : Items) → Keeps (rule_of (field q).sense) v → next q.todo v ≡ some u
    → step paper q v ≡ settled (past q) u q.context
unfolding step onward
step_kept q v u k e =
    let r = rule_of (field q).sense in rw (keeps_unbroken paper q.context r v k, e, keeps_noted q.context r q.at v k)

pub settled_going : (x : ℕ) (u : Items) (c : Context) → T (going u) → settled x u c ≡ go u c
unfolding settled
settled_going x end c g = absurd g
settled_going x nest c g = refl
settled_going x (send f r) c g = refl
settled_going x (send_if k f r) c g = refl
settled_going x (send_either k a b) c g = refl
settled_going x (send_times k a r) c g = refl

pub settled_closing : (x : ℕ) (c : Context) → closes x c c.level ≡ true → settled x end c ≡ go end (fresh x c)
unfolding settled
settled_closing x c e = rw e

-- what is left on the way to the end of a packet: nothing, or a field
left_closed : {s : List ℕ} {t : Items} {x m y : ℕ} → Passed s t x m end y → ((t ≡ end) × (x ≡ y) × (m ≡ 0)) ⊎ T (going t)
left_closed stay = inl (refl, refl, refl)
left_closed (pass g k e p) = inr g

module _ {s : List ℕ} {n : ℕ} (c : Context) where
  -- to the same place, after as many
  counted : {q : State} {a b : ℕ} → Stood s n q a → a ≡ b → Stood s n q b
  counted i e = rw (← e) i

  -- amid a packet
  pub stood_passed : {t w : Items} {x m y : ℕ} {count : ℕ} → Passed s t x m w y → Stood s n (standing x t c) count → y ≤ n → T (going w)
      → Stood s n (standing y w c) (count + m)
  stood_passed stay i h g = counted i (omega arith)
  stood_passed {t = t} {x = x} (pass {u = u} g k e p) i h z =
      let l = passed_grows p in
      let j = stood_on i (omega arith) (step_kept (standing x t c) _ u k e ∙ settled_going (x + (due t).width) u c (passed_going p z)) in
      counted (stood_passed p j h z) (omega arith)

  -- to the end of a packet that is as long as it says
  pub stood_closed : {t : Items} {x m y : ℕ} {count : ℕ} → Passed s t x m end y → T (going t) → Stood s n (standing x t c) count → y ≤ n
      → closes y c c.level ≡ true → Stood s n (standing y end (fresh y c)) (count + m)
  stood_closed stay g i h z = absurd g
  stood_closed {t = t} {x = x} {y = y} {count = count} (pass {u = u} {m = m} g k e p) f i h z =
      let here = step_kept (standing x t c) (value_at s t x) in
      elim (left_closed p) [
        | inl a ↦ subst (λ (b : ℕ). b ≤ n → closes b c c.level ≡ true → Stood s n (standing b end (fresh b c)) (count + suc m))
            a.1
            (λ d v. counted (stood_on i d (here end k (e ∙ ap some a.0) ∙ settled_closing (x + (due t).width) c v)) (omega (arith, a.2)))
            h
            z
        | inr a ↦ let l = passed_grows p in
            let j = stood_on i (omega arith) (here u k e ∙ settled_going (x + (due t).width) u c a) in
            counted (stood_closed p a j h z) (omega arith)
      ]

-- ---- at an edge

-- between two packets, or before the end mark
abbrev pub between : ℕ → ℕ → List Earlier → State
between x pig l = record { at = x; todo = end; context = context in_packet x 0 0 0 0 0 pig l }

-- ---- the end mark

-- a source that ends in the mark is accepted
module _ {s : List ℕ} {n : ℕ} {x pig : ℕ} {l : List Earlier} {count : ℕ} (i : Stood s n (between x pig l) count)
    (mark : value_of (field_bits s 8 x) ≡ 255) (last : x + 8 ≡ n) where
  step_mark : step paper (between x pig l) (value_of (field_bits s 8 x)) ≡ over
  unfolding step broken next onward find etcs
  step_mark = rw mark

  abbrev ended_with : List Entry
  ended_with = i.entries ++ (entry (between x pig l) (value_of (field_bits s 8 x)) ∷ [])

  none_left_over : drop (x + 8) (telegram_bits s n) ≡ []
  none_left_over =
      let h : length (telegram_bits s n) ≤ x + 8 = rw (length_telegram s n i.wide) (omega arith) in drop_of_length-le (telegram_bits s n) h

  reads_all : read paper (telegram_bits s n) ≡ accepted ended_with
  unfolding read
  reads_all =
      let xs = drop x (telegram_bits s n) in
      let v = value_of (field_bits s 8 x) in
      let e = has_field i (omega arith) in
      ap (whole paper)
      (i.goes
      ∙ ap (pushes i.entries)
      (any_bound paper from_bits bits_in Sent from_bits_lem (length xs) (suc (length xs)) (between x pig l) xs i.good (omega arith) (omega arith)
      ∙ one_mark paper from_bits (length xs) (between x pig l) xs v (drop (x + 8) (telegram_bits s n)) e step_mark)
      ∙ pushes_ended i.entries (entry (between x pig l) v ∷ []) (between x pig l) (drop (x + 8) (telegram_bits s n)))
      ∙ rw none_left_over

  pub stood_over : Ok (count + 1) ≡ answer_of (read paper (telegram_bits s n))
  stood_over = rw (reads_all, values_more i.entries (entry (between x pig l) (value_of (field_bits s 8 x))), i.counts)

-- ---- and the machine

-- where the machine stands, the definition does
pub scans_stood : {s : List ℕ} {n : ℕ} {rows : List ℕ} {st : machine.State} {c : Cursor} {count : ℕ} (i : Scans s n rows st c count)
    → Stood s n (view i.drives.earlier st) count
scans_stood i =
    let d = i.drives in
    record {
      low = i.low;
      wide = i.wide;
      entries = d.entries;
      goes = d.goes;
      good = d.good;
      sends = d.sends;
      front = d.front;
      counts = d.counts;
      within = i.within;
      few = i.few;
    }

fresh_is : (x pig : ℕ) (l : List Earlier) → view l (fresh_at x pig) ≡ between x pig l
fresh_is x pig l = rw none_left

-- between two packets
pub fresh_stood : {s : List ℕ} {n : ℕ} {rows : List ℕ} {x pig : ℕ} {c : Cursor} {count : ℕ} (i : Scans s n rows (fresh_at x pig) c count)
    → Stood s n (between x pig i.drives.earlier) count
fresh_stood {x = x} {pig = pig} i = rw (fresh_is x pig i.drives.earlier) at (scans_stood i)

pub stood_scans : {s : List ℕ} {n : ℕ} {rows : List ℕ} {x pig : ℕ} {l : List Earlier} {count : ℕ} → rows ≡ words → Stood s n (between x pig l) count
    → Scans s n rows (fresh_at x pig) (record { at = x }) count
unfolding row_at
stood_scans {s} {n} {rows} {x} {pig} {l} {count} t j =
    let i : Stood s n (view l (fresh_at x pig)) count = rw (fresh_is x pig l) j in
    record {
      low = i.low;
      wide = i.wide;
      drives = record {
        table = t;
        entries = i.entries;
        earlier = l;
        goes = i.goes;
        good = i.good;
        sound = record { tidy = record { inside = omega arith; settled = λ e. refl }; first = omega arith; second = omega arith };
        sends = i.sends;
        front = i.front;
        counts = i.counts;
      };
      here = refl;
      within = i.within;
      few = i.few;
    }
