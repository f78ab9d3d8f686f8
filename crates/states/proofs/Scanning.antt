-- What the loop that checks a telegram goes by: the driver over bits, through the cursor. Assumes nothing.
use Rattle.std.specs.Prelude.{Some, None, Option, ℕ, Ok, Err, Result}
use mathlib.Core.Path.{◌≡◌, refl, sym, ap, ◌∙◌, subst}
use mathlib.Core.Bool.{true, false}
use mathlib.Core.List.{List, []}
use Prim.Native.Nat.{ℕ, ◌+◌, ◌*◌, ◌-◌, ◌^◌, ◌≤◌, ◌<◌}
use native.Mathlib.Omega.{arith}
use native.Mathlib.Nat.{lt_of_not-le, add-zero}
use native.Mathlib.Decide.{dec_le}
use borrow.Author.Tests.{le-leb, lt-leb}
use lib.ListN.{length, take, drop, length-drop, drop_of_length-le}
use lib.Seq.{take-add, take-take, drop-drop, drop_at, length-take-le}
use Rattle.bits.specs.Bits.{value_of, bits_of}
use Rattle.bits.specs.Take.{field_bits, taken_at}
use Rattle.bits.specs.declared.Cursor.{Cursor}
use Rattle.bits.proofs.Bytes.{length_bits_of, below_bits_of, below_take}
use Rattle.bits.proofs.Fields.{IsField, taken, take_whole}
use Rattle.format.specs.Rules.{Earlier, begun, closes, paper, spot_of, spot_at, place_from, field_place}
use Rattle.format.specs.Table.{act, field_at, words}
use Rattle.format.specs.Telegrams.{bits_in, from_bits, read}
use Rattle.format.specs.Telegrams.Taken.{got, lacks}
use Rattle.format.specs.Telegrams.Result.{refused}
use Rattle.format.specs.declared.Kind.{Kind}
use Rattle.format.specs.declared.Kind.TheVariants.{Ended, Trailing}
use Rattle.laws.proofs.Sources.{Sent, from_bits_lem, width_positive}
use Rattle.states.specs.Machine.{view, context_of, level_of, Beginning, Sound, Advanced, later, Drifted, Slight, reached, fresh_at, Judged, Settled, Entered}
use Rattle.states.specs.Machine.Drifted.{nothing, field}
use Rattle.states.specs.Reader.{answer_of}
use Rattle.states.specs.declared.State.{State}
use Rattle.states.specs.declared.Todo.{Todo}
use Rattle.states.proofs.Stepping.{width_in, settled_goes, settled_fresh}
use Rattle.states.proofs.Directions.{Away, Passed}
use Rattle.states.proofs.Driving.{placed, Drives, drives_first, due_is, refused_lacking, refused_broken, accepted_mark, refused_trailing, mark_counted, moves, drives_on}
use Rattle.states.proofs.Idling.{idle_ahead, slight_free, fine_passed, slight_judged, slight_not, slight_entered, sound_after}
use Rattle.format.specs.Fields as fields
use Rattle.format.specs.Rules as rules

-- a field cannot be both taken and not
pub never_short : {A : Type 0} (t : Option (ℕ × Cursor)) (v : ℕ) (c : Cursor) → t ≡ None → t ≡ Some (v, c) → A
never_short t v c p q = let z : ◌≡◌ {A = ℕ} 0 1 = cc in absurd (omega arith)

-- ---- the bits that are still to be read

-- w bits from at on, inside the first n
pub inside_take : (xs : List ℕ) (n at w : ℕ) → at + w ≤ n → n ≤ length xs → take w (drop at (take n xs)) ≡ take w (drop at xs)
inside_take xs n at w h l =
    let m = n - at in
    let e : n ≡ at + m = omega arith in
    rw (e, take-add at m xs, drop_at (take at xs) (take m (drop at xs)) at (length-take-le at xs (omega arith)))
    (take-take w m (drop at xs) (omega arith))

-- a source of bits that has the field that is due, and one that has not
has_bits : (q : rules.State) (f : fields.Field) (xs : List ℕ) → rules.field q ≡ f → f.width ≤ length xs
    → from_bits q xs ≡ got (value_of (take f.width xs)) (drop f.width xs)
unfolding from_bits
has_bits q f xs e h = rw (e, le-leb f.width (length xs) h)

lacks_bits : (q : rules.State) (f : fields.Field) (xs : List ℕ) → rules.field q ≡ f → length xs < f.width → from_bits q xs ≡ lacks Ended
unfolding from_bits
lacks_bits q f xs e h = rw (e, lt-leb f.width (length xs) h)

-- the bits of the telegram
abbrev pub telegram_bits : List ℕ → ℕ → List ℕ
telegram_bits s n = take n (bits_of s)

abbrev pub BitDrives : List ℕ → ℕ → List ℕ → State → ℕ → Type 0
BitDrives s n rows st count =
    Drives from_bits bits_in Sent from_bits_lem (telegram_bits s n) rows st count (drop st.at (telegram_bits s n))

-- where a field begins: the driver over the bits from here on, and the cursor there
pub record Scans (s : List ℕ) (n : ℕ) (rows : List ℕ) (st : State) (c : Cursor) (count : ℕ) : Type 0 where
  pub low : n ≤ 830
  pub wide : n ≤ 8 * length s
  pub drives : BitDrives s n rows st count
  pub here : c.at ≡ st.at
  pub within : st.at ≤ n
  pub few : count ≤ st.at

length_telegram : (s : List ℕ) (n : ℕ) → n ≤ 8 * length s → length (telegram_bits s n) ≡ n
length_telegram s n wide = length-take-le n (bits_of s) (rw (length_bits_of s) wide)

sent_bits : (s : List ℕ) (n : ℕ) → n ≤ 830 → n ≤ 8 * length s → Sent begun (telegram_bits s n)
unfolding begun
sent_bits s n low wide =
    record { bits = below_take 2 n (bits_of s) (below_bits_of s); room = let l = length_telegram s n wide in omega arith }

pub scans_first : {s : List ℕ} {n : ℕ} {rows : List ℕ} {st : State} → n ≤ 830 → n ≤ 8 * length s → rows ≡ words → Beginning st
    → Scans s n rows st (record { at = 0 }) 0
unfolding begun
scans_first {s} {n} {rows} {st} low wide t b =
    let z : st.at ≡ 0 = ap (λ (q : rules.State). q.at) b.right in
    record {
      low = low;
      wide = wide;
      drives = drives_first from_bits bits_in Sent from_bits_lem (telegram_bits s n) t b (sent_bits s n low wide) (rw z);
      here = sym z;
      within = omega arith;
      few = omega arith;
    }

-- the field that is due
pub field_is : {s : List ℕ} {n : ℕ} {rows : List ℕ} {st : State} {c : Cursor} {count : ℕ} (i : Scans s n rows st c count)
    → rules.field (view i.drives.earlier st) ≡ field_at st.todo.node
field_is {s} {n} i = due_is from_bits bits_in Sent from_bits_lem (telegram_bits s n) i.drives

module _ {s : List ℕ} {n : ℕ} {rows : List ℕ} {st : State} {c : Cursor} {count : ℕ} (i : Scans s n rows st c count)
    {w : ℕ} (ew : w ≡ (field_at st.todo.node).width) {t : Option (ℕ × Cursor)} (e : t ≡ taken_at s n w c.at) where
  abbrev bs : List ℕ
  bs = telegram_bits s n

  abbrev q : rules.State
  q = view i.drives.earlier st

  length_rest : length (drop st.at bs) ≡ n - st.at
  length_rest = rw (length-drop st.at bs, length_telegram s n i.wide)

  -- no whole field is left
  lacks_field : t ≡ None → from_bits q (drop st.at bs) ≡ lacks Ended
  lacks_field h = by (dec_le (c.at + w) n)
    where
      by : Dec (c.at + w ≤ n) → from_bits q (drop st.at bs) ≡ lacks Ended
      by (yes k) = never_short t _ _ h (e ∙ take_whole s n w c.at (rw ew (width_in (field_at st.todo.node))) k i.wide)
      by (no k) =
          let l = lt_of_not-le k in
          lacks_bits q (field_at st.todo.node) (drop st.at bs) (field_is i) (rw length_rest (omega (arith, i.here, i.within)))

  pub ends_short : t ≡ None → (end : ℕ)
      → read paper bs ≡ refused (record { kind = Ended; place = place_from Ended st.at end (context_of [] st) })
  unfolding read field_place place_from spot_of spot_at
  ends_short h end = refused_lacking from_bits bits_in Sent from_bits_lem bs i.drives (lacks_field h) (λ l. refl)

  module _ {v : ℕ} {next : Cursor} (h : t ≡ Some (v, next)) where
    is_field : IsField s n w c.at v next.at
    is_field = taken s n w c.at v next (sym e ∙ h)

    pub fits : v < 2 ^ (field_at st.todo.node).width
    fits = rw (← ew) is_field.small

    value_is : value_of (take w (drop st.at bs)) ≡ v
    value_is =
        let g = is_field.within in
        ap value_of (inside_take (bits_of s) n st.at w (omega (arith, i.here)) (rw (length_bits_of s) i.wide) ∙ ap (field_bits s w) (sym i.here))
        ∙ sym is_field.value

    has_field : from_bits q (drop st.at bs) ≡ got v (drop (st.at + w) bs)
    has_field =
        let g = is_field.within in
        has_bits q (field_at st.todo.node) (drop st.at bs) (field_is i) (rw length_rest (omega (arith, i.here, i.within)))
        ∙ rw (← ew, value_is, drop-drop w st.at bs)

    -- where it ends
    next_is : next.at ≡ st.at + (field_at st.todo.node).width
    next_is = is_field.past ∙ rw (i.here, ew)

    module _ {out : Result (Option State) Kind} (o : Passed i.drives.earlier st v out) where
      pub ends_broken : {k : Kind} → out ≡ Err k
          → read paper bs ≡ refused (record { kind = k; place = place_from k st.at next.at (context_of [] st) })
      unfolding read
      ends_broken b =
          refused_broken from_bits bits_in Sent from_bits_lem bs i.drives has_field o b (placed from_bits bits_in Sent from_bits_lem bs i.drives _ next_is)

      pub ends_well : out ≡ (Ok None) → next.at ≡ n → Ok (count + 1) ≡ answer_of (read paper bs)
      unfolding read
      ends_well b z =
          let whole : length bs ≤ st.at + w = rw (length_telegram s n i.wide) (omega (arith, is_field.past, i.here)) in
          let all_read : drop (st.at + w) bs ≡ [] = drop_of_length-le bs whole in
          rw (accepted_mark from_bits bits_in Sent from_bits_lem bs i.drives has_field o b all_read, mark_counted from_bits bits_in Sent from_bits_lem bs i.drives has_field o)

      pub ends_trailing : out ≡ (Ok None) → (next.at ≡ n → ⊥)
          → read paper bs ≡ refused (record { kind = Trailing; place = place_from Trailing st.at next.at (context_of [] st) })
      unfolding read
      ends_trailing b z =
          let rest : 0 < length (drop (st.at + w) bs) =
          rw (length-drop, length_telegram s n i.wide) (omega (arith, is_field.past, is_field.within, i.here)) in
          refused_trailing from_bits bits_in Sent from_bits_lem bs i.drives has_field o b rest (placed from_bits bits_in Sent from_bits_lem bs i.drives Trailing next_is)

      module _ {after : State} (g : out ≡ Ok (Some after)) where
        at_is : after.at ≡ st.at + w
        at_is = rw ew (moves from_bits bits_in Sent from_bits_lem bs i.drives has_field o g)

        pub less : n - after.at < n - st.at
        less = omega (arith, at_is, is_field.within, i.here, width_positive (field_at st.todo.node))

        pub scans_on : Scans s n rows after next (count + 1)
        scans_on = record {
          low = i.low;
          wide = i.wide;
          drives = subst (λ (x : ℕ). Drives from_bits bits_in Sent from_bits_lem bs rows after (count + 1) (drop x bs)) (sym at_is)
              (drives_on from_bits bits_in Sent from_bits_lem bs i.drives has_field o g);
          here = omega (arith, is_field.past, i.here, at_is);
          within = omega (arith, is_field.within, i.here, at_is);
          few = omega (arith, i.few, at_is, width_positive (field_at st.todo.node));
        }

-- the cursor is made where the field begins
pub scans_here : {s : List ℕ} {n : ℕ} {rows : List ℕ} {st : State} {c : Cursor} {count : ℕ} → Scans s n rows st c count
    → Scans s n rows st (record { at = st.at }) count
scans_here i = record { low = i.low; wide = i.wide; drives = i.drives; here = refl; within = i.within; few = i.few }

-- past a value that keeps its rule, where no packet's Q_DIR is due
module _ {s : List ℕ} {n : ℕ} {rows : List ℕ} {st : State} {c : Cursor} {count : ℕ} (i : Scans s n rows st c count)
    {w : ℕ} (ew : w ≡ (field_at st.todo.node).width) {t : Option (ℕ × Cursor)} (e : t ≡ taken_at s n w c.at) {v : ℕ} {next : Cursor} (h : t ≡ Some (v, next)) where
  pub scans_fine : Judged st v false (Ok tt) → Away st → {r : State} → Entered st v (Ok (Some r))
      → Scans s n rows r next (count + 1)
  scans_fine j away a =
      scans_on i ew e h (fine_passed st i.drives.sound v j away a i.drives.earlier) refl

  -- and of which nothing is kept
  module _ (q : Slight st.todo.node v) {u : Todo} (a : Advanced st.todo v (Some u)) where
    ends_at : next.at ≡ st.at + (field_at st.todo.node).width
    ends_at = let g = is_field i ew e h in omega (arith, g.past, i.here)

    scans_past : {r : State} → Settled (reached st next.at u) (Ok (Some r)) → Scans s n rows r next (count + 1)
    scans_past z =
        scans_fine (slight_judged st i.drives.sound v q a ends_at) (slight_not st i.drives.sound v q a ends_at)
        (slight_entered st i.drives.sound v q a ends_at z)

    sound_there : Sound (reached st next.at u)
    sound_there = sound_after st i.drives.sound v q a ends_at

    -- to a field
    pub scans_slight : (act u.node ≡ 0 → ⊥) → Scans s n rows (reached st next.at u) next (count + 1)
    scans_slight f = scans_past (settled_goes (reached st next.at u) sound_there f)

    -- to the end of a packet that is as long as it says
    pub scans_closed : act u.node ≡ 0
        → ((l : List Earlier) → closes next.at (context_of l (reached st next.at u)) (level_of st.level) ≡ true)
        → Scans s n rows (fresh_at next.at st.pig) next (count + 1)
    scans_closed z k = scans_past (settled_fresh (reached st next.at u) sound_there z k)

    pub less_slight : n - next.at < n - st.at
    less_slight = let g = is_field i ew e h in omega (arith, ends_at, g.within, width_positive (field_at st.todo.node))

-- past fields that no rule reads
module _ {s : List ℕ} {n : ℕ} {rows : List ℕ} {st : State} {c : Cursor} {count : ℕ} (i : Scans s n rows st c count) where
  pub scans_drifted : {u : Todo} {x m : ℕ} → Drifted n st.todo st.at u x m
      → Scans s n rows (reached st x u) (record { at = x }) (count + m)
  scans_drifted nothing = rw (add-zero count) (scans_here i)
  scans_drifted (field {u} {x} {m} d idle free h) =
      let j = scans_drifted d in
      let w = (field_at u.node).width in
      let v = value_of (field_bits s w x) in
      let g = idle_ahead u j.drives.sound.tidy idle v in
      subst (λ (k : ℕ). Scans s n rows (reached st (x + w) (later u)) (record { at = x + w }) k) (count_more m)
      (scans_slight j refl refl (take_whole s n w x (width_in (field_at u.node)) h i.wide) (slight_free free) g.0 g.1)
    where
      count_more : (m : ℕ) → count + m + 1 ≡ count + (m + 1)
      count_more m = omega arith
