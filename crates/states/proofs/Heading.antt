-- A packet's head, taken at once, and that of the CTCS packet inside one: the definition takes NID_PACKET or NID_XUSER, Q_DIR and L_PACKET one
-- after the other, and comes to the same state. Assumes nothing.
use Rattle.std.specs.Prelude.{Some, Ok, None, Option}
use mathlib.Core.Bool.{false}
use mathlib.Core.List.{List}
use mathlib.Core.Logic.{⊎_elim, inl, inr}
use mathlib.Core.Path.{◌≡◌, refl, sym, ap, ◌∙◌, subst}
use Prim.Native.Nat.{ℕ, ◌+◌, ◌-◌, ◌<◌}
use native.Mathlib.Nat.{add-zero}
use native.Mathlib.Omega.{arith}
use Rattle.bits.specs.Take.{taken_at}
use Rattle.bits.specs.declared.Cursor.{Cursor}
use Rattle.bits.proofs.Fields.{IsField, taken, take_part}
use Rattle.format.specs.Fields.{NID_XUSER}
use Rattle.format.specs.Table.{act, field_at, code_of, etcs_row, ctcs_row}
use Rattle.format.specs.Kinds.{etcs_start, ctcs_start}
use Rattle.format.proofs.Heads.{HeadRows, head_rows, between}
use Rattle.format.proofs.Rows.{next_in, etcs_in, ctcs_in, none_act, nest_field, packet_width, direction_width, size_width}
use Rattle.states.specs.Heads.{opened, Opened, Headed, nested, Nested, Inward, Led}
use Rattle.states.specs.Machine.{reached, context_of, Advanced, Noted, Sound, Judged, Entered}
use Rattle.states.specs.Lookback.{id_in, dir_in, long_in}
use Rattle.states.specs.declared.Level.TheVariants.{Packet, User}
use Rattle.states.specs.declared.State.{State}
use Rattle.states.specs.declared.Todo.{Todo}
use Rattle.states.proofs.Advancing.{advances_to, advances_inside, advances_next}
use Rattle.states.proofs.Directions.{Passed, away_not, away_elsewhere, not_user, passes}
use Rattle.states.proofs.LookedBack.{looks_back}
use Rattle.states.proofs.Noting.{in_packet, in_user, with_dir, packet_opens, user_opens, dir_packet, dir_user, long_packet, long_user}
use Rattle.states.proofs.Scanning.{Scans, scans_on, scans_fine}
use Rattle.states.proofs.Senses.{rule_direction, judge_free, judge_packet, judge_user, judge_direction, packet_some, user_some, direction_once, direction_same}
use Rattle.states.proofs.Stepping.{settled_goes, entered_on, stepped_goes}
use Rattle.format.specs.Fields as fields

-- the rows of a head and the one behind them are in the table
pub head_inside : (k : ℕ) → k < 213 → code_of (field_at k).sense ≡ 9 → k + 2 < 213
head_inside k l e =
    let h = head_rows k l e in
    let one = next_in k l (omega (arith, h.direction)) in
    let two = next_in (k + 1) (omega arith) (omega (arith, h.next)) in
    omega arith

-- past the L_PACKET of a head, of which n is noted
module _ {s : List ℕ} {n : ℕ} {rows : List ℕ} {st : State} {c : Cursor} {count : ℕ} (i : Scans s n rows st c count)
    (plain : act st.todo.node ≡ 2) (size : code_of (field_at st.todo.node).sense ≡ 3) (more : act (st.todo.node + 1) ≡ 0 → ⊥)
    {v : ℕ} {next : Cursor} (h : taken_at s n 13 c.at ≡ Some (v, next)) {m : State} (notes : Noted st 3 v m) where
  abbrev ahead : Todo
  ahead = record { node = st.todo.node + 1; left = st.todo.left; outer = st.todo.outer }

  abbrev after : State
  after = reached m next.at ahead

  thirteen : 13 ≡ (field_at st.todo.node).width
  thirteen = sym (size_width st.todo.node i.drives.sound.tidy.inside size)

  past_size : IsField s n 13 c.at v next.at
  past_size = taken s n 13 c.at v next h

  to_more : Advanced st.todo v (Some ahead)
  to_more = advances_next st.todo v i.drives.sound.tidy plain more

  sound_after : Sound after
  sound_after =
      let d = i.drives.sound in
      record {
        tidy = to_more.tidy;
        first = omega (arith, d.first, notes.first, past_size.past, i.here);
        second = omega (arith, notes.second d.second, past_size.past, i.here);
      }

  enters : Entered st v (Ok (Some after))
  enters =
      entered_on st v ahead m next.at (Ok (Some after)) to_more (subst (λ (x : ℕ). Noted st x v m) (sym size) notes)
      (rw (← thirteen) (omega (arith, past_size.past, i.here))) (settled_goes after sound_after more)

  pub scans_size : Scans s n rows after next (count + 1)
  scans_size =
      scans_fine i thirteen refl h (λ p l e. judge_free p (context_of l st) (field_at st.todo.node) v (omega arith))
      (away_not st (λ e. omega arith)) enters

module _ {s : List ℕ} {n : ℕ} {rows : List ℕ} {st : State} {c : Cursor} {count : ℕ} (i : Scans s n rows st c count)
    (z : st.todo.node ≡ 0) {r : State} (o : Opened s n st r) where
  abbrev a : ℕ
  a = o.bits

  abbrev k : ℕ
  k = etcs_row (id_in a)

  whole : IsField s n 23 st.at a (st.at + 23)
  whole = taken s n 23 st.at a (record { at = st.at + 23 }) o.field

  inside : k < 213
  inside = etcs_in (id_in a)

  rows_there : HeadRows k
  rows_there = head_rows k inside o.known

  -- NID_PACKET

  is_packet : code_of (field_at st.todo.node).sense ≡ 7
  is_packet = ap (λ (x : ℕ). code_of (field_at x).sense) z ∙ between

  eight : 8 ≡ (field_at st.todo.node).width
  eight = sym (packet_width st.todo.node i.drives.sound.tidy.inside is_packet)

  takes_id : taken_at s n 8 c.at ≡ Some (id_in a, record { at = st.at + 8 })
  takes_id =
      rw i.here (rw add-zero at (take_part s n 0 8 15 st.at a (id_in a) _ whole (omega arith) (omega (arith, whole.small))))

  row_some : k ≡ 0 → ⊥
  row_some e = let h : code_of (field_at 0).sense ≡ 9 = rw (← e) o.known in omega (arith, between)

  abbrev s1 : State
  s1 = record { at = st.at + 8; todo = record { node = k; left = 0; outer = 0 }; level = Packet; start = st.start; id = id_in a; dir = 0; long = 0; userstart = 0; userlong = 0; pig = st.pig }

  to_packet : Advanced st.todo (id_in a) (Some s1.todo)
  unfolding etcs_start
  to_packet = advances_to st.todo (id_in a) i.drives.sound.tidy (etcs_start (id_in a)) refl (ap act z ∙ none_act) row_some

  sound1 : Sound s1
  sound1 = record { tidy = to_packet.tidy; first = omega (arith, i.drives.sound.first); second = omega arith }

  judged1 : Judged st (id_in a) false (Ok tt)
  judged1 p l h = packet_some (id_in a) row_some ∙ judge_packet p (context_of l st) (field_at st.todo.node) (id_in a) is_packet

  not_nine1 : code_of (field_at st.todo.node).sense ≡ 9 → ⊥
  not_nine1 e = omega (arith, is_packet)

  enters1 : Entered st (id_in a) (Ok (Some s1))
  enters1 =
      entered_on st (id_in a) s1.todo (in_packet st (id_in a)) (st.at + 8) (Ok (Some s1)) to_packet
      (subst (λ (x : ℕ). Noted st x (id_in a) (in_packet st (id_in a))) (sym is_packet) (packet_opens st (id_in a))) (rw (← eight))
      (settled_goes s1 sound1 (λ e. omega (arith, rows_there.direction)))

  scans1 : Scans s n rows s1 (record { at = st.at + 8 }) (count + 1)
  scans1 = scans_fine i eight refl takes_id judged1 (away_not st not_nine1) enters1

  -- Q_DIR

  two : 2 ≡ (field_at k).width
  two = sym (direction_width k inside o.known)

  takes_dir : taken_at s n 2 (st.at + 8) ≡ Some (dir_in a, record { at = st.at + 10 })
  takes_dir = let e : st.at + 8 + 2 ≡ st.at + 10 = omega arith in rw (← e) (take_part s n 8 2 13 st.at a (dir_in a) _ whole (omega arith) (omega arith))

  abbrev s2 : State
  s2 = record { at = st.at + 10; todo = record { node = k + 1; left = 0; outer = 0 }; level = Packet; start = st.start; id = id_in a; dir = dir_in a; long = 0; userstart = 0; userlong = 0; pig = st.pig }

  to_size : Advanced s1.todo (dir_in a) (Some s2.todo)
  to_size = advances_next s1.todo (dir_in a) sound1.tidy rows_there.direction (λ e. omega (arith, rows_there.next))

  sound2 : Sound s2
  sound2 = record { tidy = to_size.tidy; first = omega (arith, i.drives.sound.first); second = omega arith }

  judged2 : Judged s1 (dir_in a) false (Ok tt)
  judged2 p l h =
      direction_once p (context_of l s1) (dir_in a) o.allowed refl (h (rule_direction (field_at k) o.known) refl)
      ∙ judge_direction p (context_of l s1) (field_at k) (dir_in a) o.known

  enters2 : Entered s1 (dir_in a) (Ok (Some s2))
  enters2 =
      entered_on s1 (dir_in a) s2.todo (with_dir s1 (dir_in a)) (st.at + 10) (Ok (Some s2)) to_size
      (subst (λ (x : ℕ). Noted s1 x (dir_in a) (with_dir s1 (dir_in a))) (sym o.known) (dir_packet s1 (dir_in a) refl)) (rw (← two) (omega arith))
      (settled_goes s2 sound2 (λ e. omega (arith, rows_there.next)))

  passed2 : Passed scans1.drives.earlier s1 (dir_in a) (Ok (Some s2))
  passed2 =
      passes scans1.drives.earlier s1 (dir_in a) false (Ok (Some s2)) (λ k l. looks_back scans1 (dir_in a) k l o.alone)
      (stepped_goes s1 (dir_in a) false sound1 (Ok (Some s2)) judged2 enters2)

  scans2 : Scans s n rows s2 (record { at = st.at + 10 }) (count + 1 + 1)
  scans2 = scans_on scans1 two refl takes_dir passed2 refl

  -- L_PACKET

  takes_long : taken_at s n 13 (st.at + 10) ≡ Some (long_in a, record { at = st.at + 23 })
  takes_long = let e : st.at + 10 + 13 ≡ st.at + 23 = omega arith in rw (← e) (take_part s n 10 13 0 st.at a (long_in a) _ whole (omega arith) (omega arith))

  last_row : k + 1 + 1 ≡ k + 2
  last_row = omega arith

  scans3 : Scans s n rows (opened st a) (record { at = st.at + 23 }) (count + 1 + 1 + 1)
  scans3 = rw last_row at (scans_size scans2 rows_there.next rows_there.size (rw last_row o.more) takes_long (long_packet s2 (long_in a) refl))

  -- the whole head

  scans_headed : Scans s n rows r (record { at = r.at }) (count + 3)
  scans_headed = let e : count + 3 ≡ count + 1 + 1 + 1 = omega arith in rw (o.state, e) scans3

  less_headed : n - r.at < n - st.at
  less_headed = rw o.state (omega (arith, whole.within))

-- ---- the head of a CTCS packet

module _ {s : List ℕ} {n : ℕ} {rows : List ℕ} {st : State} {c : Cursor} {count : ℕ} (i : Scans s n rows st c count)
    (z : act st.todo.node ≡ 1) {r : State} (o : Nested s n st r) where
  abbrev b : ℕ
  b = o.bits

  abbrev j : ℕ
  j = ctcs_row (id_in b)

  all : IsField s n 24 st.at b (st.at + 24)
  all = taken s n 24 st.at b (record { at = st.at + 24 }) o.field

  in_table : j < 213
  in_table = ctcs_in (id_in b)

  rows_here : HeadRows j
  rows_here = head_rows j in_table o.known

  -- NID_XUSER

  due_user : field_at st.todo.node ≡ NID_XUSER
  due_user = nest_field st.todo.node z

  nine : 9 ≡ (field_at st.todo.node).width
  nine = sym (ap (λ (f : fields.Field). f.width) due_user)

  is_user : code_of (field_at st.todo.node).sense ≡ 8
  is_user = ap (λ (f : fields.Field). code_of f.sense) due_user

  takes_user : taken_at s n 9 c.at ≡ Some (id_in b, record { at = st.at + 9 })
  takes_user =
      rw i.here (rw add-zero at (take_part s n 0 9 15 st.at b (id_in b) _ all (omega arith) (omega (arith, all.small))))

  user_there : j ≡ 0 → ⊥
  user_there e = let h : code_of (field_at 0).sense ≡ 9 = rw (← e) o.known in omega (arith, between)

  abbrev t1 : State
  t1 = record { at = st.at + 9; todo = record { node = j; left = 0; outer = 0 }; level = User; start = st.start; id = st.id; dir = st.dir; long = st.long; userstart = st.at; userlong = 0; pig = st.pig }

  to_user : Advanced st.todo (id_in b) (Some t1.todo)
  unfolding ctcs_start
  to_user = advances_inside st.todo (id_in b) i.drives.sound.tidy (ctcs_start (id_in b)) refl z

  firm1 : Sound t1
  firm1 = let d = i.drives.sound in record { tidy = to_user.tidy; first = omega (arith, d.first); second = omega arith }

  comes1 : Entered st (id_in b) (Ok (Some t1))
  comes1 =
      entered_on st (id_in b) t1.todo (in_user st) (st.at + 9) (Ok (Some t1)) to_user
      (subst (λ (x : ℕ). Noted st x (id_in b) (in_user st)) (sym is_user) (user_opens st (id_in b))) (rw (← nine))
      (settled_goes t1 firm1 (λ e. omega (arith, rows_here.direction)))

  goes1 : Scans s n rows t1 (record { at = st.at + 9 }) (count + 1)
  goes1 =
      scans_fine i nine refl takes_user (λ p l h. user_some (id_in b) user_there ∙ judge_user p (context_of l st) (field_at st.todo.node) (id_in b) is_user)
      (away_not st (λ e. omega (arith, is_user))) comes1

  -- Q_DIR

  both : 2 ≡ (field_at j).width
  both = sym (direction_width j in_table o.known)

  takes_way : taken_at s n 2 (st.at + 9) ≡ Some (dir_in b, record { at = st.at + 11 })
  takes_way = let e : st.at + 9 + 2 ≡ st.at + 11 = omega arith in rw (← e) (take_part s n 9 2 13 st.at b (dir_in b) _ all (omega arith) (omega arith))

  abbrev t2 : State
  t2 = record { at = st.at + 11; todo = record { node = j + 1; left = 0; outer = 0 }; level = User; start = st.start; id = st.id; dir = st.dir; long = st.long; userstart = st.at; userlong = 0; pig = st.pig }

  to_length : Advanced t1.todo (dir_in b) (Some t2.todo)
  to_length = advances_next t1.todo (dir_in b) firm1.tidy rows_here.direction (λ e. omega (arith, rows_here.next))

  firm2 : Sound t2
  firm2 = let d = i.drives.sound in record { tidy = to_length.tidy; first = omega (arith, d.first); second = omega arith }

  comes2 : Entered t1 (dir_in b) (Ok (Some t2))
  comes2 =
      entered_on t1 (dir_in b) t2.todo t1 (st.at + 11) (Ok (Some t2)) to_length
      (subst (λ (x : ℕ). Noted t1 x (dir_in b) t1) (sym o.known) (dir_user t1 (dir_in b) refl)) (rw (← both) (omega arith))
      (settled_goes t2 firm2 (λ e. omega (arith, rows_here.next)))

  goes2 : Scans s n rows t2 (record { at = st.at + 11 }) (count + 1 + 1)
  goes2 =
      scans_fine goes1 both refl takes_way
      (λ p l h. direction_same p (context_of l t1) (dir_in b) o.allowed refl o.alike ∙ judge_direction p (context_of l t1) (field_at j) (dir_in b) o.known)
      (away_elsewhere t1 (not_user User refl)) comes2

  -- L_PACKET

  takes_length : taken_at s n 13 (st.at + 11) ≡ Some (long_in b, record { at = st.at + 24 })
  takes_length = let e : st.at + 11 + 13 ≡ st.at + 24 = omega arith in rw (← e) (take_part s n 11 13 0 st.at b (long_in b) _ all (omega arith) (omega arith))

  behind_row : j + 1 + 1 ≡ j + 2
  behind_row = omega arith

  goes3 : Scans s n rows (nested st b) (record { at = st.at + 24 }) (count + 1 + 1 + 1)
  goes3 = rw behind_row at (scans_size goes2 rows_here.next rows_here.size (rw behind_row o.more) takes_length (long_user t2 (long_in b) refl))

  -- the whole head

  scans_nested : Scans s n rows r (record { at = r.at }) (count + 3)
  scans_nested = let e : count + 3 ≡ count + 1 + 1 + 1 = omega arith in rw (o.state, e) goes3

  less_nested : n - r.at < n - st.at
  less_nested = rw o.state (omega (arith, all.within))

-- ---- either of the two

module _ (s : List ℕ) (n : ℕ) (st : State) where
  pub led_packet : (b : Option State) → st.todo.node ≡ 0 → Headed s n st b → Led s n st b
  led_packet (Some r) e o = inl (e, o)
  led_packet None e o = tt

  pub led_inner : (b : Option State) → (st.todo.node ≡ 0 → ⊥) → act st.todo.node ≡ 1 → Inward s n st b → Led s n st b
  led_inner (Some r) e z o = inr (e, z, o)
  led_inner None e z o = tt

module _ {s : List ℕ} {n : ℕ} {rows : List ℕ} {st : State} {c : Cursor} {count : ℕ} (i : Scans s n rows st c count)
    {r : State} (o : Led s n st (Some r)) where
  pub scans_led : Scans s n rows r (record { at = r.at }) (count + 3)
  scans_led = ⊎_elim (λ w. scans_headed i w.0 w.1) (λ w. scans_nested i w.1 w.2) o

  pub less_led : n - r.at < n - st.at
  less_led = ⊎_elim (λ w. less_headed i w.0 w.1) (λ w. less_nested i w.1 w.2) o
