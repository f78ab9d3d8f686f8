-- What a loop that drives the machine goes by, whatever its source: `Drives`, what holds where a field begins, kept by each turn, and
-- the answer where the loop ends. Assumes nothing.
use Rattle.std.specs.Prelude.{Ok, Some, None, Err, Option}
use mathlib.Core.Path.{◌≡◌, refl, sym, ap, ◌∙◌, subst}
use mathlib.Core.List.{List, [], ◌∷◌, ◌++◌}
use Prim.Native.Nat.{ℕ, ◌+◌, ◌≤◌, ◌<◌}
use native.Mathlib.Omega.{arith}
use lib.ListN.{length}
use Rattle.format.specs.Rules.{Earlier, begun, step, due, past, moved, paper, spot_of, spot_at, place_from, field_place}
use Rattle.format.specs.Rules.Next.{over, breaks}
use Rattle.format.specs.Table.{field_at, words}
use Rattle.format.specs.Telegrams.{Entry, entry, all, values, bit_count, Taken, Driven, Result, refusal, push, drive, whole}
use Rattle.format.specs.Telegrams.Taken.{got, lacks}
use Rattle.format.specs.Telegrams.Driven.{ended, stopped}
use Rattle.format.specs.Telegrams.Result.{accepted, refused}
use Rattle.format.specs.declared.Kind.{Kind}
use Rattle.format.specs.declared.Kind.TheVariants.{Ended, Trailing}
use Rattle.format.specs.declared.Spot.{Spot}
use Rattle.format.specs.declared.Spot.TheVariants.{Due, Behind, Outer, Inner}
use Rattle.laws.proofs.Sources.{Source, width_named}
use Rattle.laws.proofs.Points.{Sends}
use Rattle.laws.proofs.Points.Sends.{nothing, one_more}
use Rattle.laws.proofs.Pointed.{one_front, sends_at}
use Rattle.laws.proofs.Tile.{bits_more, values_more}
use Rattle.laws.proofs.Turns.{pushes, pushes_ended, pushes_stopped, pushes_one, one_mark, one_broken, one_lacking, one_field_bounds}
use Rattle.states.specs.Machine.{todo_of, context_of, view, next_of, earlier_after, Sound, Beginning}
use Rattle.states.specs.declared.State.{State}
use Rattle.states.proofs.Directions.{Passed}
use Rattle.states.proofs.Moves.{due_right}
use Rattle.format.specs.Rules as rules
use Rattle.std.specs.Prelude as code

-- ---- the place of a refusal

-- it does not go by the packets before
spot_same : (p : Spot) (st : State) (at end : ℕ) (l : List Earlier) → spot_at p at end (context_of [] st) ≡ spot_at p at end (context_of l st)
unfolding spot_at
spot_same Due st at end l = refl
spot_same Behind st at end l = refl
spot_same Outer st at end l = refl
spot_same Inner st at end l = refl

same_place : (k : Kind) (st : State) (end : ℕ) (l : List Earlier)
    → place_from k st.at end (context_of [] st) ≡ place_from k st.at end (context_of l st)
unfolding place_from spot_of
same_place k st end l = spot_same (spot_of k end (context_of [] st)) st st.at end l

-- packets begin low enough for the places of their fields to be numbers of the machine
pub starts_low : {st : State} → Sound st → st.at ≤ 830 → (st.start ≤ 65536) × (st.userstart ≤ 65536)
starts_low s l = (omega (arith, s.first), omega (arith, s.second))

module _ (source : rules.State → List ℕ → Taken) (part : Entry → List ℕ) (Good : rules.State → List ℕ → Type 0)
    (law : Source source part Good) where
  -- ---- one turn of the driver, its bound being what is left

  drive_lacking : (q : rules.State) (xs : List ℕ) (k : Kind) → source q xs ≡ lacks k
      → drive paper source (length xs) q xs ≡ stopped (refusal paper k q)
  unfolding drive
  drive_lacking q [] k e =
      let z : Ended ≡ k = cc (law.none q) in ap (λ (x : Kind). stopped (refusal paper x q)) z
  drive_lacking q (x ∷ xs) k e = one_lacking paper source (length xs) q (x ∷ xs) k e

  drive_broken : (q : rules.State) (xs ys : List ℕ) (v : ℕ) (k : Kind) → source q xs ≡ got v ys → step paper q v ≡ breaks k
      → drive paper source (length xs) q xs ≡ stopped (refusal paper k q)
  drive_broken q [] ys v k e b = let n = law.none q in let z : ◌≡◌ {A = ℕ} 0 1 = cc in absurd (omega arith)
  drive_broken q (x ∷ xs) ys v k e b = one_broken paper source (length xs) q (x ∷ xs) v ys k e b

  drive_mark : (q : rules.State) (xs ys : List ℕ) (v : ℕ) → source q xs ≡ got v ys → step paper q v ≡ over
      → drive paper source (length xs) q xs ≡ ended (entry q v ∷ []) q ys
  drive_mark q [] ys v e b = let n = law.none q in let z : ◌≡◌ {A = ℕ} 0 1 = cc in absurd (omega arith)
  drive_mark q (x ∷ xs) ys v e b = one_mark paper source (length xs) q (x ∷ xs) v ys e b

  module _ (xs₀ : List ℕ) where
    -- what driving all of the source comes to
    abbrev pub result : Result
    result = whole paper (drive paper source (length xs₀) begun xs₀)

    -- where a field begins: the definition goes on from here with what is left, after the entries so far
    pub record Drives (rows : List ℕ) (st : State) (count : ℕ) (xs : List ℕ) : Type 0 where
      pub table : rows ≡ words
      pub entries : List Entry
      pub earlier : List Earlier
      pub goes : drive paper source (length xs₀) begun xs₀ ≡ pushes entries (drive paper source (length xs) (view earlier st) xs)
      pub good : Good (view earlier st) xs
      pub sound : Sound st
      pub sends : Sends paper entries (view earlier st)
      pub front : xs₀ ≡ all part entries ++ xs
      pub counts : count ≡ length (values entries)

    from_start : (q : rules.State) (xs : List ℕ) → q ≡ begun → xs ≡ xs₀
        → drive paper source (length xs₀) begun xs₀ ≡ drive paper source (length xs) q xs
    from_start q xs e same = rw (e, same)

    pub drives_first : {rows : List ℕ} {st : State} {xs : List ℕ} → rows ≡ words → Beginning st → Good begun xs₀ → xs ≡ xs₀ → Drives rows st 0 xs
    drives_first {st = st} {xs = xs} t b g same =
        record {
          table = t;
          entries = [];
          earlier = [];
          goes = from_start (view [] st) xs b.right same;
          good = subst (λ (q : rules.State). Good q xs) (sym b.right) (subst (λ (l : List ℕ). Good begun l) (sym same) g);
          sound = b.sound;
          sends = subst (λ (q : rules.State). Sends paper [] q) (sym b.right) nothing;
          front = sym same;
          counts = refl;
        }

    module _ {rows : List ℕ} {st : State} {count : ℕ} {xs : List ℕ} (i : Drives rows st count xs) where
      abbrev pub here : rules.State
      here = view i.earlier st

      -- the field that is due, as the definition has it
      pub due_is : due (todo_of st.todo) ≡ field_at st.todo.node
      due_is = sym (due_right st.todo i.sound.tidy)

      -- where a refusal is found at the field that is due
      pub placed : (k : Kind) {end : ℕ} → end ≡ st.at + (field_at st.todo.node).width → (l : List Earlier)
          → place_from k st.at end (context_of [] st) ≡ field_place k (view l st)
      unfolding field_place
      placed k {end} e l =
          let p : past (view l st) ≡ end = rw due_is (sym e) in
          rw p (same_place k st end l)

      ends : (d : Driven) → drive paper source (length xs) here xs ≡ d → result ≡ whole paper (pushes i.entries d)
      ends d e = ap (whole paper) (i.goes ∙ ap (pushes i.entries) e)

      stops : (k : Kind) (place : ℕ) → ((l : List Earlier) → place ≡ field_place k (view l st))
          → drive paper source (length xs) here xs ≡ stopped (refusal paper k here)
          → result ≡ refused (record { kind = k; place = place })
      stops k place pl e =
          ends (stopped (refusal paper k here)) e
          ∙ rw (pushes_stopped i.entries (refusal paper k here), pl i.earlier)

      -- ---- where the loop ends

      pub refused_lacking : {k : Kind} → source here xs ≡ lacks k → {place : ℕ} → ((l : List Earlier) → place ≡ field_place k (view l st))
          → result ≡ refused (record { kind = k; place = place })
      refused_lacking {k} e {place} pl = stops k place pl (drive_lacking here xs k e)

      module _ {v : ℕ} {ys : List ℕ} (e : source here xs ≡ got v ys) {out : code.Result (Option State) Kind} (o : Passed i.earlier st v out) where
        entry_width : (entry here v).field.width ≡ (field_at st.todo.node).width
        entry_width = width_named (todo_of st.todo) v ∙ rw due_is

        step_is : step paper here v ≡ next_of (earlier_after i.earlier st v) out
        step_is = o.right

        pub refused_broken : {k : Kind} → out ≡ Err k → {place : ℕ} → ((l : List Earlier) → place ≡ field_place k (view l st))
            → result ≡ refused (record { kind = k; place = place })
        refused_broken {k} b {place} pl =
            stops k place pl (drive_broken here xs ys v k e (step_is ∙ ap (next_of (earlier_after i.earlier st v)) b))

        over_is : out ≡ (Ok None) → step paper here v ≡ over
        over_is b = step_is ∙ ap (next_of (earlier_after i.earlier st v)) b

        marked : out ≡ (Ok None) → result ≡ whole paper (ended (i.entries ++ (entry here v ∷ [])) here ys)
        marked b =
            ends _ (drive_mark here xs ys v e (over_is b)) ∙ ap (whole paper) (pushes_ended i.entries (entry here v ∷ []) here ys)

        pub accepted_mark : out ≡ (Ok None) → ys ≡ [] → result ≡ accepted (i.entries ++ (entry here v ∷ []))
        accepted_mark b z = marked b ∙ rw z

        -- its values and its bits
        pub mark_counted : count + 1 ≡ length (values (i.entries ++ (entry here v ∷ [])))
        mark_counted = rw (values_more i.entries (entry here v), i.counts)

        pub mark_sized : bit_count (i.entries ++ (entry here v ∷ [])) ≡ st.at + (field_at st.todo.node).width
        mark_sized = bits_more i.entries (entry here v) ∙ rw (← (sends_at i.sends), entry_width)

        trailing : (zs : List ℕ) → 0 < length zs
            → whole paper (ended (i.entries ++ (entry here v ∷ [])) here zs) ≡ refused (refusal paper Trailing here)
        trailing [] h = absurd (omega arith)
        trailing (z ∷ zs) h = refl

        pub refused_trailing : out ≡ (Ok None) → 0 < length ys → {place : ℕ} → ((l : List Earlier) → place ≡ field_place Trailing (view l st))
            → result ≡ refused (record { kind = Trailing; place = place })
        refused_trailing b h {place} pl = marked b ∙ trailing ys h ∙ rw (pl i.earlier)

        -- ---- where it goes on

        module _ {after : State} (g : out ≡ Ok (Some after)) where
          kept : Sound after × (after.at ≡ st.at + (field_at st.todo.node).width)
          kept = rw g at o.goes

          pub moves : after.at ≡ st.at + (field_at st.todo.node).width
          moves = kept.1

          past_is : past here ≡ after.at
          past_is = rw due_is (sym kept.1)

          abbrev onward : rules.State
          onward = view (earlier_after i.earlier st v) after

          arrives : moved here (todo_of after.todo) (context_of (earlier_after i.earlier st v) after) ≡ onward
          arrives = rw past_is

          goes_on : drive paper source (length xs) here xs ≡ push (entry here v) (drive paper source (length ys) onward ys)
          goes_on =
              one_field_bounds paper source part Good law (length xs) (length ys) here v xs ys (todo_of after.todo)
              (context_of (earlier_after i.earlier st v) after) i.good e (step_is ∙ ap (next_of (earlier_after i.earlier st v)) g)
              (omega arith) (omega arith)
              ∙ ap (λ (q : rules.State). push (entry here v) (drive paper source (length ys) q ys)) arrives

          pub drives_on : Drives rows after (count + 1) ys
          drives_on = let had = law.taken here v xs ys i.good e in record {
            table = i.table;
            entries = i.entries ++ (entry here v ∷ []);
            earlier = earlier_after i.earlier st v;
            goes = i.goes ∙ ap (pushes i.entries) goes_on ∙ sym (pushes_one i.entries (entry here v) _);
            good = subst (λ (q : rules.State). Good q ys) arrives (had.good (todo_of after.todo) _);
            sound = kept.0;
            sends = subst (λ (q : rules.State). Sends paper (i.entries ++ (entry here v ∷ [])) q) arrives
                (one_more v i.sends had.fits (step_is ∙ ap (next_of (earlier_after i.earlier st v)) g));
            front = one_front part i.entries (entry here v) ys (i.front ∙ ap (λ (l : List ℕ). all part i.entries ++ l) had.front);
            counts = rw (values_more i.entries (entry here v), i.counts);
          }
