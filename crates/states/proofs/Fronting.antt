-- The header, taken at once: the definition takes its ten fields one after the other, and comes to the same state. Assumes nothing.
use Rattle.std.specs.Prelude.{Some, Ok}
use mathlib.Core.List.{List}
use mathlib.Core.Bool.{false}
use mathlib.Core.Path.{◌≡◌, refl, sym, ◌∙◌}
use Prim.Native.Nat.{ℕ, ◌+◌, ◌*◌, ◌<◌, ◌≤◌}
use native.Mathlib.Omega.{arith}
use lib.ListN.{length}
use Rattle.bits.specs.Bits.{value_of}
use Rattle.bits.specs.Take.{field_bits, taken_at}
use Rattle.bits.proofs.Fields.{IsField, taken, take_part, take_whole}
use Rattle.format.specs.Rules.{begun}
use Rattle.format.specs.Table.{row_at, act, field_at, code_of, low_of, high_of, words}
use Rattle.format.proofs.Rows.{header_at}
use Rattle.states.specs.Heads.{pig_in, total_in, dup_in, behind, Fronted}
use Rattle.states.specs.Machine.{context_of, Slight, Advanced, Sound, Judged, Entered, Beginning}
use Rattle.states.specs.declared.Level.TheVariants.{Header}
use Rattle.states.specs.declared.State.{State}
use Rattle.states.proofs.Advancing.{advances_next, advances_end}
use Rattle.states.proofs.Directions.{away_not}
use Rattle.states.proofs.Idling.{slight_free}
use Rattle.states.proofs.Moves.{start_todo}
use Rattle.states.proofs.Noting.{with_pig, pig_any, nothing, closes_header}
use Rattle.states.proofs.Scanning.{Scans, scans_first, scans_slight, scans_fine}
use Rattle.states.proofs.Senses.{judge_free, judge_total, total_fits}
use Rattle.states.proofs.Stepping.{settled_goes, settled_fresh, entered_on}

-- in the header: at the bit x, in row k, after an N_PIG of p, which is 0 before it
abbrev pub in_header : ℕ → ℕ → ℕ → State
in_header x k p =
    record { at = x; todo = record { node = k; left = 0; outer = 0 }; level = Header; start = 0; id = 0; dir = 0; long = 0; userstart = 0; userlong = 0; pig = p }

-- the header begins in row 1, in no group
pub first_begins : Beginning (in_header 0 1 0)
unfolding begun row_at
first_begins = record {
  right = rw (start_todo 1 refl, header_at);
  sound = record { tidy = record { inside = omega arith; settled = λ e. refl }; first = omega arith; second = omega arith };
}

-- at a field of it
sound_header : (x k p : ℕ) → k < 213 → act k ≡ 2 → Sound (in_header x k p)
sound_header x k p l e =
    record { tidy = record { inside = l; settled = λ z. absurd (omega arith) }; first = omega arith; second = omega arith }

-- a value inside the range of its field
in_range : (k v : ℕ) → code_of (field_at k).sense ≡ 10 → low_of (field_at k) ≤ v → v ≤ high_of (field_at k) → Slight k v
in_range k v e l h = record { unkept = λ g. omega arith; allowed = λ g. (l, h) }

module _ (s : List ℕ) (n : ℕ) (rows : List ℕ) (low : n ≤ 830) (wide : n ≤ 8 * length s) (table : rows ≡ words)
    {r : State} (o : Fronted s n r) where
  abbrev a : ℕ
  a = o.bits

  whole : IsField s n 25 0 a 25
  whole = taken s n 25 0 a (record { at = 25 }) o.field

  abbrev At : State → ℕ → Type 0
  At st count = Scans s n rows st (record { at = st.at }) count

  -- past a field of which nothing is kept, before another
  goes : {k x p count v : ℕ} (w : ℕ) → At (in_header x k p) count → w ≡ (field_at k).width → taken_at s n w x ≡ Some (v, record { at = x + w })
      → Slight k v → act k ≡ 2 → act (k + 1) ≡ 2 → At (in_header (x + w) (k + 1) p) (count + 1)
  goes {k} {x} {p} {v = v} w i ew e q f g =
      let m : act (k + 1) ≡ 0 → ⊥ = λ h. omega arith in
      scans_slight i ew refl e q (advances_next (in_header x k p).todo v i.drives.sound.tidy f m) m

  -- Q_UPDOWN, M_VERSION, Q_MEDIA

  after_updown : At (in_header 1 2 0) 1
  unfolding row_at
  after_updown =
      goes 1 (scans_first low wide table first_begins) refl (take_part s n 0 1 24 0 a 1 25 whole (omega arith) (omega (arith, o.fixed)))
      (in_range 1 1 refl (omega arith) (omega arith)) refl refl

  after_version : At (in_header 8 3 0) 2
  unfolding row_at
  after_version =
      goes 7 after_updown refl (take_part s n 1 7 17 0 a 16 25 whole (omega arith) (omega (arith, o.fixed)))
      (in_range 2 16 refl (omega arith) (omega arith)) refl refl

  after_media : At (in_header 9 4 0) 3
  unfolding row_at
  after_media =
      goes 1 after_version refl (take_part s n 8 1 16 0 a 0 25 whole (omega arith) (omega (arith, o.fixed)))
      (in_range 3 0 refl (omega arith) (omega arith)) refl refl

  -- N_PIG, which is kept

  judged_pig : Judged (in_header 9 4 0) (pig_in a) false (Ok tt)
  unfolding row_at
  judged_pig p l h = judge_free p (context_of l (in_header 9 4 0)) (field_at 4) (pig_in a) (omega arith)

  takes_pig : taken_at s n 3 9 ≡ Some (pig_in a, record { at = 12 })
  takes_pig = take_part s n 9 3 13 0 a (pig_in a) 25 whole (omega arith) refl

  enters_pig : Entered (in_header 9 4 0) (pig_in a) (Ok (Some (in_header 12 5 (pig_in a))))
  unfolding row_at
  enters_pig =
      entered_on (in_header 9 4 0) (pig_in a) (in_header 12 5 0).todo (with_pig (in_header 9 4 0) (pig_in a)) 12 _
      (advances_next (in_header 9 4 0).todo (pig_in a) after_media.drives.sound.tidy refl (λ e. omega arith))
      (pig_any (in_header 9 4 0) (pig_in a)) refl (settled_goes (in_header 12 5 (pig_in a)) (sound_header 12 5 (pig_in a) (omega arith) refl) (λ e. omega arith))

  after_pig : At (in_header 12 5 (pig_in a)) 4
  unfolding row_at
  after_pig = scans_fine after_media refl refl takes_pig judged_pig (away_not (in_header 9 4 0) (λ e. omega arith)) enters_pig

  -- N_TOTAL, at least N_PIG

  abbrev s5 : State
  s5 = in_header 12 5 (pig_in a)

  judged_total : Judged s5 (total_in a) false (Ok tt)
  unfolding row_at
  judged_total p l h = total_fits (pig_in a) (total_in a) o.ordered ∙ judge_total p (context_of l s5) (field_at 5) (total_in a) refl

  takes_total : taken_at s n 3 12 ≡ Some (total_in a, record { at = 15 })
  takes_total = take_part s n 12 3 10 0 a (total_in a) 25 whole (omega arith) refl

  enters_total : Entered s5 (total_in a) (Ok (Some (in_header 15 6 (pig_in a))))
  unfolding row_at
  enters_total =
      entered_on s5 (total_in a) (in_header 15 6 0).todo s5 15 _
      (advances_next s5.todo (total_in a) after_pig.drives.sound.tidy refl (λ e. omega arith))
      (nothing s5 (total_in a) 5 (λ e. omega arith) (λ e. omega arith) (λ e. omega arith) (λ e. omega arith) (λ e. omega arith))
      refl (settled_goes (in_header 15 6 (pig_in a)) (sound_header 15 6 (pig_in a) (omega arith) refl) (λ e. omega arith))

  after_total : At (in_header 15 6 (pig_in a)) 5
  unfolding row_at
  after_total = scans_fine after_pig refl refl takes_total judged_total (away_not s5 (λ e. omega arith)) enters_total

  -- M_DUP, M_MCOUNT, NID_C, NID_BG

  after_dup : At (in_header 17 7 (pig_in a)) 6
  unfolding row_at
  after_dup =
      goes 2 after_total refl (take_part s n 15 2 8 0 a (dup_in a) 25 whole (omega arith) refl)
      (in_range 6 (dup_in a) refl (omega arith) o.single) refl refl

  -- a field inside the first 50 bits
  any : (w x : ℕ) → w ≤ 64 → x + w ≤ 50 → taken_at s n w x ≡ Some (value_of (field_bits s w x), record { at = x + w })
  any w x l h = take_whole s n w x l (omega (arith, o.room)) wide

  after_count : At (in_header 25 8 (pig_in a)) 7
  unfolding row_at
  after_count = goes 8 after_dup refl (any 8 17 (omega arith) (omega arith)) (slight_free (omega arith)) refl refl

  after_country : At (in_header 35 9 (pig_in a)) 8
  unfolding row_at
  after_country = goes 10 after_count refl (any 10 25 (omega arith) (omega arith)) (slight_free (omega arith)) refl refl

  after_group : At (in_header 49 10 (pig_in a)) 9
  unfolding row_at
  after_group = goes 14 after_country refl (any 14 35 (omega arith) (omega arith)) (slight_free (omega arith)) refl refl

  -- Q_LINK, the last

  abbrev s10 : State
  s10 = in_header 49 10 (pig_in a)

  abbrev link : ℕ
  link = value_of (field_bits s 1 49)

  judged_link : Judged s10 link false (Ok tt)
  unfolding row_at
  judged_link p l h = judge_free p (context_of l s10) (field_at 10) link (omega arith)

  to_end : Advanced s10.todo link (Some (in_header 50 11 0).todo)
  unfolding row_at
  to_end = advances_end s10.todo link after_group.drives.sound.tidy refl refl refl

  enters_link : Entered s10 link (Ok (Some (behind a)))
  unfolding row_at
  enters_link =
      entered_on s10 link (in_header 50 11 0).todo s10 50 _ to_end
      (nothing s10 link 0 (λ e. omega arith) (λ e. omega arith) (λ e. omega arith) (λ e. omega arith) (λ e. omega arith)) refl
      (settled_fresh (in_header 50 11 (pig_in a)) (record { tidy = to_end.tidy; first = omega arith; second = omega arith }) refl
      (λ l. sym (closes_header (in_header 50 11 (pig_in a)) 50 l refl)))

  takes_link : taken_at s n 1 49 ≡ Some (link, record { at = 50 })
  takes_link = any 1 49 (omega arith) (omega arith)

  after_link : At (behind a) 10
  unfolding row_at
  after_link = scans_fine after_group refl refl takes_link judged_link (away_not s10 (λ e. omega arith)) enters_link

  -- the whole header
  pub scans_fronted : Scans s n rows r (record { at = r.at }) 10
  scans_fronted = rw o.state after_link
