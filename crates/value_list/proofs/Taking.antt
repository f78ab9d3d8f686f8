-- The values of a text, taken one behind the other. Assumes nothing.
use Rattle.std.specs.Prelude.{Some, None}
use mathlib.Core.Path.{◌≡◌, refl, sym, ap, ◌∙◌}
use mathlib.Core.List.{List, [], ◌∷◌, ◌++◌, append_assoc, append-nil}
use mathlib.Core.Option.{Option, some, none}
use Prim.Native.Nat.{ℕ, zero, suc, ◌+◌, ◌-◌, ◌≤◌, ◌<◌}
use native.Mathlib.Numerals.{add-one}
use native.Mathlib.Omega.{arith}
use lib.ListN.{length, drop, get_or, set, length-append, length-drop, length-set, drop_of_length-le}
use lib.Seq.{drop-cons, drop-drop, set_at}
use Rattle.pieces.specs.Numbers.{found, read_at}
use Rattle.value_list.specs.Values.{value_in, onto, first, values_in, count_of, over, Taken, Stored}
use Rattle.value_list.proofs.OneValue.{not_read, took}

-- ---- what is left of a text

no_values : (k : ℕ) → values_in k [] ≡ some []
unfolding values_in
no_values zero = refl
no_values (suc k) = refl

no_room : (text : List ℕ) → 0 < length text → values_in 0 text ≡ none
unfolding values_in
no_room [] h = absurd (omega arith)
no_room (c ∷ text) h = refl

no_value : (k : ℕ) (text : List ℕ) → 0 < length text → value_in text ≡ none → values_in k text ≡ none
unfolding values_in
no_value k [] h e = absurd (omega arith)
no_value zero (c ∷ text) h e = refl
no_value (suc k) (c ∷ text) h e = ap (first (values_in k) (c ∷ text)) e

nothing_there : value_in [] ≡ none
unfolding value_in
nothing_there = refl

one_value : (k : ℕ) (text : List ℕ) (v count : ℕ) → value_in text ≡ some (found v count)
    → values_in (suc k) text ≡ onto (v ∷ []) (values_in k (drop count text))
unfolding values_in
one_value k [] v count e = let z : none ≡ some (found v count) = sym nothing_there ∙ e in cc
one_value k (c ∷ text) v count e = ap (first (values_in k) (c ∷ text)) e

-- where no room is left, or no value, none follows
none_roomless : (text ws : List ℕ) → values_in 0 text ≡ some ws → ws ≡ []
unfolding values_in
none_roomless [] ws e = cc
none_roomless (c ∷ text) ws e = cc

none_follows : (k : ℕ) (text ws : List ℕ) → value_in text ≡ none → values_in k text ≡ some ws → ws ≡ []
none_follows k [] ws n e = let s : some [] ≡ some ws = sym (no_values k) ∙ e in cc
none_follows k (c ∷ text) ws n e = let s : none ≡ some ws = sym (no_value k (c ∷ text) (omega arith) n) ∙ e in cc

-- ---- both loops: n values were met, and those from at on follow

pub record Along (text : List ℕ) (k n at : ℕ) : Type 0 where
  pub met : List ℕ
  pub many : length met ≡ n
  pub few : n ≤ k
  pub goes : values_in k text ≡ onto met (values_in (k - n) (drop at text))

onto_nothing : (x : Option (List ℕ)) → onto [] x ≡ x
onto_nothing none = refl
onto_nothing (some vs) = refl

onto_onto : (us vs : List ℕ) (x : Option (List ℕ)) → onto us (onto vs x) ≡ onto (us ++ vs) x
onto_onto us vs none = refl
onto_onto us vs (some ws) = ap some (sym (append_assoc us vs ws))

pub along_first : (text : List ℕ) (k : ℕ) → Along text k 0 0
along_first text k =
    let all : k ≡ k - 0 = omega arith in
    record { met = []; many = refl; few = omega arith; goes = ap (λ (j : ℕ). values_in j text) all ∙ sym (onto_nothing (values_in (k - 0) text)) }

module _ {text : List ℕ} {k n at : ℕ} (g : Along text k n at) where
  pub along_on : (v end : ℕ) → n < k → Some (v, end) ≡ read_at at (value_in (drop at text)) → Along text k (n + 1) end
  along_on v end l r =
      let t = took at (value_in (drop at text)) v end r in
      let one : k - n ≡ suc (k - (n + 1)) = omega arith in
      record {
        met = g.met ++ (v ∷ []);
        many = length-append g.met (v ∷ []) ∙ ap (λ (j : ℕ). j + 1) g.many;
        few = omega arith;
        goes = g.goes ∙ ap (λ (j : ℕ). onto g.met (values_in j (drop at text))) one
            ∙ ap (onto g.met) (one_value (k - (n + 1)) (drop at text) v t.count t.is)
            ∙ onto_onto g.met (v ∷ []) (values_in (k - (n + 1)) (drop t.count (drop at text)))
            ∙ ap (λ (l : List ℕ). onto (g.met ++ (v ∷ [])) (values_in (k - (n + 1)) l))
            (drop-drop t.count at text ∙ ap (λ (m : ℕ). drop m text) (sym t.ends));
      }

  -- ---- counting

  pub counts_all : length text ≤ at → Some n ≡ count_of (values_in k text)
  counts_all h =
      sym (ap count_of (g.goes ∙ ap (λ (l : List ℕ). onto g.met (values_in (k - n) l)) (drop_of_length-le text {i = at} h)
      ∙ ap (onto g.met) (no_values (k - n)))
      ∙ ap Some (ap length (append-nil g.met) ∙ g.many))

  stops : values_in (k - n) (drop at text) ≡ none → None ≡ count_of (values_in k text)
  stops e = sym (ap count_of (g.goes ∙ ap (onto g.met) e))

  some_left : at < length text → 0 < length (drop at text)
  some_left h = omega (arith, length-drop at text)

  pub stops_full : at < length text → n ≡ k → None ≡ count_of (values_in k text)
  stops_full h e =
      let z : k - n ≡ 0 = omega arith in
      stops (ap (λ (j : ℕ). values_in j (drop at text)) z ∙ no_room (drop at text) (some_left h))

  pub stops_valueless : at < length text → None ≡ read_at at (value_in (drop at text)) → None ≡ count_of (values_in k text)
  stops_valueless h e = stops (no_value (k - n) (drop at text) (some_left h) (not_read at (value_in (drop at text)) e))

-- ---- storing

-- the values that were met stand in front of what was there
pub record Storing (text before values : List ℕ) (n at : ℕ) : Type 0 where
  pub along : Along text (length before) n at
  pub same : length values ≡ length before
  pub laid : values ≡ along.met ++ drop n before

pub storing_first : (text before : List ℕ) → Storing text before before 0 0
unfolding along_first
storing_first text before = record { along = along_first text (length before); same = refl; laid = refl }

onto_some : (us vs : List ℕ) (x : Option (List ℕ)) → onto us x ≡ some vs → ((ws : List ℕ) → x ≡ some ws → ws ≡ []) → us ≡ vs
onto_some us vs none e h = let s : none ≡ some vs = e in cc
onto_some us vs (some ws) e h =
    let s : us ++ ws ≡ vs = cc in
    sym (append-nil us) ∙ ap (λ (l : List ℕ). us ++ l) (sym (h ws refl)) ∙ s

module _ {text before values : List ℕ} {n at : ℕ} (g : Storing text before values n at) where
  pub storing_on : (v end : ℕ) → n < length values → Some (v, end) ≡ read_at at (value_in (drop at text)) → Storing text before (set values n v) (n + 1) end
  unfolding along_on
  storing_on v end l r =
      let room : n < length before = omega (arith, g.same) in
      let here : drop n before ≡ get_or before n 0 ∷ drop (n + 1) before =
      drop-cons before n 0 room ∙ ap (λ (m : ℕ). get_or before n 0 ∷ drop m before) (sym (add-one n)) in
      record {
        along = along_on g.along v end room r;
        same = length-set values n v ∙ g.same;
        laid = ap (λ (l : List ℕ). set l n v) g.laid ∙ ap (λ (l : List ℕ). set (g.along.met ++ l) n v) here
            ∙ set_at g.along.met (get_or before n 0) (drop (n + 1) before) v n g.along.many
            ∙ sym (append_assoc g.along.met (v ∷ []) (drop (n + 1) before));
      }

  stored : ((ws : List ℕ) → values_in (length before - n) (drop at text) ≡ some ws → ws ≡ []) → Stored text before values
  stored h vs e =
      let m = g.along.met in
      let same : m ≡ vs = onto_some m vs (values_in (length before - n) (drop at text)) (sym g.along.goes ∙ e) h in
      g.laid ∙ ap (λ (k : ℕ). m ++ drop k before) (sym g.along.many) ∙ ap (λ (l : List ℕ). l ++ drop (length l) before) same

  pub stored_full : length values ≤ n → Stored text before values
  stored_full h =
      let z : length before - n ≡ 0 = omega (arith, g.same) in
      stored (λ ws e. none_roomless (drop at text) ws (ap (λ (k : ℕ). values_in k (drop at text)) (sym z) ∙ e))

  pub stored_all : None ≡ read_at at (value_in (drop at text)) → Stored text before values
  stored_all r = stored (λ ws e. none_follows (length before - n) (drop at text) ws (not_read at (value_in (drop at text)) r) e)

-- ---- what was counted is stored

counted_over : (x : Option (List ℕ)) (before after : List ℕ) (n : ℕ) → Some n ≡ count_of x
    → ((vs : List ℕ) → x ≡ some vs → after ≡ vs ++ drop (length vs) before) → after ≡ over x before
counted_over none before after n e h = let z : ◌≡◌ {A = ℕ} 0 1 = cc in absurd (omega arith)
counted_over (some vs) before after n e h = h vs refl

refused_over : (x : Option (List ℕ)) (before : List ℕ) → None ≡ count_of x → before ≡ over x before
refused_over none before e = refl
refused_over (some vs) before e = let z : ◌≡◌ {A = ℕ} 0 1 = cc in absurd (omega arith)

pub taken_all : (text before after : List ℕ) (n : ℕ) → Some n ≡ count_of (values_in (length before) text) → Stored text before after → Taken text before (Some n) after
taken_all text before after n e h = record { answers = e; contents = counted_over (values_in (length before) text) before after n e h }

pub taken_none : (text before : List ℕ) → None ≡ count_of (values_in (length before) text) → Taken text before None before
taken_none text before e = record { answers = e; contents = refused_over (values_in (length before) text) before e }
