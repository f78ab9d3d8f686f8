-- What the loop that measures a list of values goes by: the driver over values. Assumes nothing.
use Rattle.std.specs.Prelude.{Ok, Err, Some, None, Result, Option, ⊤}
use mathlib.Core.Path.{◌≡◌, refl, ap, ◌∙◌}
use mathlib.Core.Bool.{Bool, true, false, cond}
use mathlib.Core.List.{List, [], ◌∷◌}
use Prim.Native.Nat.{ℕ, ◌+◌, ◌^◌, ◌≤◌, ◌<◌}
use native.Mathlib.Numerals.{add-one}
use native.Mathlib.Omega.{arith}
use borrow.Author.Tests.{ltb-true, leb-true, leb-false, le-leb, lt-leb}
use lib.Dec.{leb, ltb}
use lib.ListN.{length, drop, get_or, length-drop, drop_of_length-le}
use lib.Seq.{drop-cons}
use Rattle.format.specs.Rules.{begun, paper, spot_of, spot_at, place_from, field_place}
use Rattle.format.specs.Table.{field_at, words}
use Rattle.format.specs.Telegrams.{values_in, from_values, write}
use Rattle.format.specs.Telegrams.Taken.{got, lacks}
use Rattle.format.specs.Telegrams.Result.{refused}
use Rattle.format.specs.declared.Kind.{Kind}
use Rattle.format.specs.declared.Kind.TheVariants.{Ended, Trailing, Wide, Full}
use Rattle.laws.proofs.Sources.{Listed, from_values_lem}
use Rattle.states.specs.Machine.{context_of, view, Beginning}
use Rattle.states.specs.Writer.{size_of, fitting}
use Rattle.states.specs.declared.State.{State}
use Rattle.states.proofs.Directions.{Passed}
use Rattle.states.proofs.Driving.{placed, Drives, drives_first, due_is, refused_lacking, refused_broken, accepted_mark, refused_trailing, mark_sized, moves, drives_on}
use Rattle.format.specs.Fields as fields
use Rattle.format.specs.Rules as rules

-- whether a value fits its field, and the field the telegram
abbrev Fits : Type 0
Fits = Result ⊤ Kind

-- ---- the value for the field that is due

module _ (q : rules.State) (f : fields.Field) (e : rules.field q ≡ f) (v : ℕ) (vs : List ℕ) where
  lacks_wide : ltb v (2 ^ f.width) ≡ false → from_values q (v ∷ vs) ≡ lacks Wide
  unfolding from_values
  lacks_wide h = rw (e, h)

  lacks_full : ltb v (2 ^ f.width) ≡ true → 830 < q.at + f.width → from_values q (v ∷ vs) ≡ lacks Full
  unfolding from_values
  lacks_full h l = rw (e, h, lt-leb (q.at + f.width) 830 l)

  has_value : ltb v (2 ^ f.width) ≡ true → q.at + f.width ≤ 830 → from_values q (v ∷ vs) ≡ got v vs
  unfolding from_values
  has_value h l = rw (e, h, le-leb (q.at + f.width) 830 l)

lacks_ended : (q : rules.State) (vs : List ℕ) → vs ≡ [] → from_values q vs ≡ lacks Ended
unfolding from_values
lacks_ended q vs e = rw e

-- ---- where a field begins

abbrev pub ValueDrives : List ℕ → List ℕ → State → ℕ → Type 0
ValueDrives vs rows st i = Drives from_values values_in Listed from_values_lem vs rows st i (drop i vs)

pub record Measures (vs rows : List ℕ) (st : State) (i : ℕ) : Type 0 where
  pub drives : ValueDrives vs rows st i
  pub within : i ≤ length vs
  pub low : st.at ≤ 830

pub measures_first : {vs rows : List ℕ} {st : State} → rows ≡ words → Beginning st → Measures vs rows st 0
unfolding begun
measures_first {vs} {rows} {st} t b =
    let z : st.at ≡ 0 = ap (λ (q : rules.State). q.at) b.right in
    record { drives = drives_first from_values values_in Listed from_values_lem vs t b tt refl; within = omega arith; low = omega arith }

module _ {vs rows : List ℕ} {st : State} {i : ℕ} (m : Measures vs rows st i) where
  abbrev q : rules.State
  q = view m.drives.earlier st

  pub field_is : rules.field q ≡ field_at st.todo.node
  field_is = due_is from_values values_in Listed from_values_lem vs m.drives

  pub ends_none : length vs ≤ i → (end : ℕ)
      → write paper vs ≡ refused (record { kind = Ended; place = place_from Ended st.at end (context_of [] st) })
  unfolding write field_place place_from spot_of spot_at
  ends_none h end =
      refused_lacking from_values values_in Listed from_values_lem vs m.drives (lacks_ended q (drop i vs) (drop_of_length-le vs h)) (λ l. refl)

  module _ (h : i < length vs) {w : ℕ} (ew : w ≡ (field_at st.todo.node).width) where
    abbrev v : ℕ
    v = get_or vs i 0

    next_is : drop i vs ≡ v ∷ drop (i + 1) vs
    next_is = rw (add-one i) (drop-cons vs i 0 h)

    ends_wide : ltb v (2 ^ w) ≡ false → (end : ℕ)
        → write paper vs ≡ refused (record { kind = Wide; place = place_from Wide st.at end (context_of [] st) })
    unfolding write field_place place_from spot_of spot_at
    ends_wide k end =
        refused_lacking from_values values_in Listed from_values_lem vs m.drives
        (ap (from_values q) next_is ∙ lacks_wide q (field_at st.todo.node) field_is v (drop (i + 1) vs) (rw (← ew) k)) (λ l. refl)

    module _ (small : ltb v (2 ^ w) ≡ true) where
      ends_full : 830 < st.at + w → (end : ℕ)
          → write paper vs ≡ refused (record { kind = Full; place = place_from Full st.at end (context_of [] st) })
      unfolding write field_place place_from spot_of spot_at
      ends_full k end =
          refused_lacking from_values values_in Listed from_values_lem vs m.drives
          (ap (from_values q) next_is ∙ lacks_full q (field_at st.todo.node) field_is v (drop (i + 1) vs) (rw (← ew) small) (rw (← ew) k)) (λ l. refl)

    module _ {end : ℕ} (past : end ≡ st.at + w) where
      unfit : {k : Kind} (small room : Bool) → ltb v (2 ^ w) ≡ small → leb end 830 ≡ room → ◌≡◌ {A = Fits} (cond {A = Fits} small (cond {A = Fits} room (Ok tt) (Err Full)) (Err Wide)) (Err k)
          → write paper vs ≡ refused (record { kind = k; place = place_from k st.at end (context_of [] st) })
      unfit {k} false room e f h = let z : Wide ≡ k = cc in rw (← z) (ends_wide e end)
      unfit {k} true false e f h = let z : Full ≡ k = cc in rw (← z) (ends_full e (rw (← past) (leb-false end 830 f)) end)
      unfit {k} true true e f h = let z : ◌≡◌ {A = ℕ} 0 1 = cc in absurd (omega arith)

      -- the first rule of the two that is broken
      pub ends_unfit : {k : Kind} → fitting v w end ≡ Err k
          → write paper vs ≡ refused (record { kind = k; place = place_from k st.at end (context_of [] st) })
      ends_unfit h = unfit (ltb v (2 ^ w)) (leb end 830) refl refl h

      both : (small room : Bool) → ltb v (2 ^ w) ≡ small → leb end 830 ≡ room → ◌≡◌ {A = Fits} (cond {A = Fits} small (cond {A = Fits} room (Ok tt) (Err Full)) (Err Wide)) (Ok tt)
          → (ltb v (2 ^ w) ≡ true) × (st.at + w ≤ 830)
      both false room e f h = let z : ◌≡◌ {A = ℕ} 0 1 = cc in absurd (omega arith)
      both true false e f h = let z : ◌≡◌ {A = ℕ} 0 1 = cc in absurd (omega arith)
      both true true e f h = (e, rw (← past) (leb-true end 830 f))

      -- where both are kept
      pub fits_both : fitting v w end ≡ (Ok tt) → (ltb v (2 ^ w) ≡ true) × (st.at + w ≤ 830)
      fits_both h = both (ltb v (2 ^ w)) (leb end 830) refl refl h

    module _ (small : ltb v (2 ^ w) ≡ true) where
      pub fits : v < 2 ^ (field_at st.todo.node).width
      fits = rw (← ew) (ltb-true v (2 ^ w) small)

      module _ (room : st.at + w ≤ 830) where
        has : from_values q (drop i vs) ≡ got v (drop (i + 1) vs)
        has = ap (from_values q) next_is ∙ has_value q (field_at st.todo.node) field_is v (drop (i + 1) vs) (rw (← ew) small) (rw (← ew) room)

        -- where the field ends
        end_is : st.at + w ≡ st.at + (field_at st.todo.node).width
        end_is = rw ew

        module _ {out : Result (Option State) Kind} (o : Passed m.drives.earlier st v out) where
          pub ends_broken : {k : Kind} → out ≡ Err k
              → write paper vs ≡ refused (record { kind = k; place = place_from k st.at (st.at + w) (context_of [] st) })
          unfolding write
          ends_broken b = refused_broken from_values values_in Listed from_values_lem vs m.drives has o b (placed from_values values_in Listed from_values_lem vs m.drives _ end_is)

          pub ends_well : out ≡ (Ok None) → i + 1 ≡ length vs → Ok (st.at + w) ≡ size_of (write paper vs)
          unfolding write
          ends_well b z =
              let all : length vs ≤ i + 1 = omega arith in
              let none : drop (i + 1) vs ≡ [] = drop_of_length-le vs all in
              rw (accepted_mark from_values values_in Listed from_values_lem vs m.drives has o b none, mark_sized from_values values_in Listed from_values_lem vs m.drives has o, ew)

          pub ends_trailing : out ≡ (Ok None) → (i + 1 ≡ length vs → ⊥)
              → write paper vs ≡ refused (record { kind = Trailing; place = place_from Trailing st.at (st.at + w) (context_of [] st) })
          unfolding write
          ends_trailing b z =
              refused_trailing from_values values_in Listed from_values_lem vs m.drives has o b (rw length-drop (omega arith)) (placed from_values values_in Listed from_values_lem vs m.drives Trailing end_is)

          pub measures_on : {after : State} → out ≡ Ok (Some after) → Measures vs rows after (i + 1)
          measures_on g = record {
            drives = drives_on from_values values_in Listed from_values_lem vs m.drives has o g;
            within = omega arith;
            low = let a = moves from_values values_in Listed from_values_lem vs m.drives has o g in omega arith;
          }
