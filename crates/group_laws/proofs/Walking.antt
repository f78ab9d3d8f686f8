-- One telegram of a group after the other, by the bytes that they take. Assumes nothing.
use Rattle.std.specs.Prelude.{Ok, Err}
use mathlib.Core.Bool.{Bool, true, false}
use mathlib.Core.List.{List, [], ◌∷◌}
use mathlib.Core.Path.{◌≡◌, refl, sym, ap, ap₂, ◌∙◌}
use Prim.Native.Nat.{ℕ, suc, ◌+◌, ◌-◌, ◌≤◌, ◌<◌}
use native.Mathlib.Numerals.{add-one}
use native.Mathlib.Nat.{lt_of_not-le}
use native.Mathlib.Decide.{dec_le}
use native.Mathlib.Omega.{arith}
use borrow.Author.Tests.{eq-eqb, ne_eqb}
use lib.Dec.{eqb}
use lib.ListN.{length, get_or, take, drop, length-drop}
use lib.Seq.{drop-cons, drop-drop, drop-length, take-length, take_all, length-take-le}
use Rattle.bits.specs.Bits.{bytes_for}
use Rattle.format.specs.Rules.{paper}
use Rattle.format.specs.Telegrams.{Entry, Result}
use Rattle.format.specs.Telegrams.Result.{accepted, refused}
use Rattle.format.specs.declared.Refusal.{Refusal}
use Rattle.states.specs.Reader.{checked, answer_of}
use Rattle.states.proofs.Answers.{check_judges, sized_is}
use Rattle.headers.proofs.Numbers.{drop_all}
use Rattle.group.specs.Groups.{Arrived, arrived, arrival, parts}
use Rattle.group.specs.Groups.Arrived.{all, stops}
use Rattle.group.specs.Walks.{came_of, part_length, telegrams_of, those, Arrives, Front}
use Rattle.group_laws.proofs.Arrival.{first_of, any_number}

-- ---- the next part

abbrev empty : List ℕ → Bool
empty [] = true
empty (x ∷ xs) = false

next_part : (s : List ℕ) (n : ℕ) (ms : List ℕ) (e : ℕ) → e ≡ part_length (length s) n (empty ms)
    → parts s (n ∷ ms) ≡ record { bytes = take e s; size = n } ∷ parts (drop e s) ms
unfolding parts
next_part s n [] e h = rw (h, take-length s)
next_part s n (m ∷ ms) e h = by_room (dec_le (bytes_for n) (length s))
  where
    by_room : Dec (bytes_for n ≤ length s) → parts s (n ∷ m ∷ ms) ≡ record { bytes = take e s; size = n } ∷ parts (drop e s) (m ∷ ms)
    by_room (yes g) = let k : e ≡ bytes_for n = omega arith in rw k
    by_room (no g) =
        let l = lt_of_not-le g in
        let k : e ≡ length s = omega arith in
        rw (k, take-length s, drop-length s, take_all (bytes_for n) s (omega arith), drop_all (bytes_for n) s (omega arith))

empty_last : (ns : List ℕ) (i : ℕ) → i < length ns → empty (drop (suc i) ns) ≡ eqb (i + 1) (length ns)
empty_last ns i h = by_rest (drop (suc i) ns) (length-drop (suc i) ns)
  where
    by_rest : (l : List ℕ) → length l ≡ length ns - suc i → empty l ≡ eqb (i + 1) (length ns)
    by_rest [] e = sym (eq-eqb (i + 1) (length ns) (omega arith))
    by_rest (x ∷ l) e = sym (ne_eqb (i + 1) (length ns) (λ q. omega arith))

module _ (s ns : List ℕ) (i start : ℕ) (h : i < length ns) (w : start ≤ length s) where
  -- at its arrival number, from its byte
  pub parts_turn : (e : ℕ) → e ≡ start + part_length (length s - start) (get_or ns i 0) (eqb (i + 1) (length ns))
      → parts (drop start s) (drop i ns) ≡ record { bytes = take (e - start) (drop start s); size = get_or ns i 0 } ∷ parts (drop e s) (drop (i + 1) ns)
  parts_turn e q =
      let l = length-drop start s in
      let m = empty_last ns i h in
      let k : e - start ≡ part_length (length (drop start s)) (get_or ns i 0) (empty (drop (suc i) ns)) = rw (m, l) (omega arith) in
      let r : start + (e - start) ≡ e = omega arith in
      rw (drop-cons ns i 0 h)
      (next_part (drop start s) (get_or ns i 0) (drop (suc i) ns) (e - start) k
      ∙ ap₂ (λ (a : List ℕ) (j : ℕ). record { bytes = take (e - start) (drop start s); size = get_or ns i 0 } ∷ parts a (drop j ns)) (drop-drop (e - start) start s ∙ ap (λ (x : ℕ). drop x s) r) (sym (add-one i)))

-- ---- arriving

-- the telegrams before the i-th are accepted, and it begins at the byte start
pub record Coming (s ns : List ℕ) (i start : ℕ) : Type 0 where
  pub few : i ≤ length ns
  pub within : start ≤ length s
  pub same : came_of (arrived paper 0 (parts s ns)) ≡ came_of (arrived paper i (parts (drop start s) (drop i ns)))

pub coming_first : (s ns : List ℕ) → Coming s ns 0 0
coming_first s ns = record { few = omega arith; within = omega arith; same = refl }

after_answer : (r : Result) (k : ℕ) (i : ℕ) (a : Arrived) → answer_of r ≡ Ok k → came_of (arrival r i a) ≡ came_of a
after_answer (accepted es) k i (all ts) e = refl
after_answer (accepted es) k i (stops j q) e = refl
after_answer (refused q) k i a e = cc

stops_answer : (r : Result) (q : Refusal) (i : ℕ) (a : Arrived) → answer_of r ≡ Err q → Err (i, q) ≡ came_of (arrival r i a)
stops_answer (accepted es) q i a e = cc
stops_answer (refused r) q i a e = cc

module _ {s ns : List ℕ} {i start : ℕ} (g : Coming s ns i start) (h : i < length ns) (e : ℕ)
    (q : e ≡ start + part_length (length s - start) (get_or ns i 0) (eqb (i + 1) (length ns))) where
  turned : arrived paper i (parts (drop start s) (drop i ns))
      ≡ arrival (checked paper (take (e - start) (drop start s)) (get_or ns i 0)) i (arrived paper (suc i) (parts (drop e s) (drop (i + 1) ns)))
  unfolding arrived
  turned = ap (arrived paper i) (parts_turn s ns i start h g.within e q)

  pub part_most : e ≤ length s
  part_most = by_last (eqb (i + 1) (length ns)) q
    where
      by_last : (b : Bool) → e ≡ start + part_length (length s - start) (get_or ns i 0) b → e ≤ length s
      by_last true k = let w = g.within in omega arith
      by_last false k = let w = g.within in omega arith

  pub coming_on : (k : ℕ) → Ok k ≡ answer_of (checked paper (take (e - start) (drop start s)) (get_or ns i 0)) → Coming s ns (i + 1) e
  coming_on k a = record {
    few = omega arith;
    within = part_most;
    same = g.same ∙ ap came_of turned
        ∙ after_answer (checked paper (take (e - start) (drop start s)) (get_or ns i 0)) k i (arrived paper (suc i) (parts (drop e s) (drop (i + 1) ns))) (sym a)
        ∙ ap (λ (j : ℕ). came_of (arrived paper j (parts (drop e s) (drop (i + 1) ns)))) (sym (add-one i));
  }

  pub coming_stops : (r : Refusal) → Err r ≡ answer_of (checked paper (take (e - start) (drop start s)) (get_or ns i 0))
      → Err (i, r) ≡ came_of (arrived paper 0 (parts s ns))
  coming_stops r a =
      stops_answer (checked paper (take (e - start) (drop start s)) (get_or ns i 0)) r i (arrived paper (suc i) (parts (drop e s) (drop (i + 1) ns))) (sym a)
      ∙ sym (g.same ∙ ap came_of turned)

pub coming_all : {s ns : List ℕ} {i start : ℕ} → Coming s ns i start → length ns ≤ i → (Ok tt) ≡ came_of (arrived paper 0 (parts s ns))
unfolding arrived parts
coming_all {s} {ns} {i} {start} g h = sym (g.same ∙ ap (λ (l : List ℕ). came_of (arrived paper i (parts (drop start s) l))) (drop_all i ns h))

-- and whoever finds that all came has them
pub came_arrives : (s ns : List ℕ) → (Ok tt) ≡ came_of (arrived paper 0 (parts s ns)) → Arrives s ns
unfolding telegrams_of
came_arrives s ns h = by_way (arrived paper 0 (parts s ns)) refl h
  where
    by_way : (a : Arrived) → arrived paper 0 (parts s ns) ≡ a → (Ok tt) ≡ came_of a → Arrives s ns
    by_way (all ts) e k = record { goes = e ∙ ap all (sym (ap those e)) }
    by_way (stops i r) e k = let z : ◌≡◌ {A = ℕ} 0 1 = cc in absurd (omega arith)

-- ---- along the telegrams of which all are accepted

pub record Along (s ns : List ℕ) (i start : ℕ) : Type 0 where
  pub few : i ≤ length ns
  pub within : start ≤ length s
  pub rest : Arrives (drop start s) (drop i ns)

pub along_first : {s ns : List ℕ} → Arrives s ns → Along s ns 0 0
along_first a = record { few = omega arith; within = omega arith; rest = a }

-- the i-th, and those after it
pub record Turn (s ns : List ℕ) (i start : ℕ) : Type 0 where
  pub telegram : List Entry
  pub now : telegrams_of (drop start s) (drop i ns) ≡ telegram ∷ telegrams_of (drop (start + bytes_for (get_or ns i 0)) s) (drop (i + 1) ns)
  pub front : Front paper (drop start s) (get_or ns i 0) telegram
  pub room : start + bytes_for (get_or ns i 0) ≤ length s
  pub least : 58 ≤ get_or ns i 0
  pub most : get_or ns i 0 ≤ 830
  pub next : Along s ns (i + 1) (start + bytes_for (get_or ns i 0))

pub along_turn : {s ns : List ℕ} {i start : ℕ} → Along s ns i start → i < length ns → Turn s ns i start
unfolding telegrams_of
along_turn {s} {ns} {i} {start} g h = by_end (start + part_length (length s - start) (get_or ns i 0) (eqb (i + 1) (length ns))) refl
  where
    by_end : (e : ℕ) → e ≡ start + part_length (length s - start) (get_or ns i 0) (eqb (i + 1) (length ns)) → Turn s ns i start
    by_end e q =
        let a = g.rest.goes in
        let l = length-drop start s in
        let f = first_of paper 0 (record { bytes = take (e - start) (drop start s); size = get_or ns i 0 }) (parts (drop e s) (drop (i + 1) ns)) (telegrams_of (drop start s) (drop i ns))
        (sym (ap (arrived paper 0) (parts_turn s ns i start h g.within e q)) ∙ a) in
        let most : e ≤ length s = by_last (eqb (i + 1) (length ns)) q in
        let z = (sized_is (take (e - start) (drop start s)) (get_or ns i 0)).0 (((check_judges paper (take (e - start) (drop start s)) (get_or ns i 0)).accepts f.head).0 f.reads).size in
        let w = g.within in
        let k : length (take (e - start) (drop start s)) ≡ e - start = length-take-le (e - start) (drop start s) (omega arith) in
        let u : e - start ≡ bytes_for (get_or ns i 0) = sym k ∙ z.2 in
        let v : e ≡ start + bytes_for (get_or ns i 0) = omega arith in
        let o = any_number paper 1 0 (parts (drop e s) (drop (i + 1) ns)) f.rest f.others in
        let t : telegrams_of (drop e s) (drop (i + 1) ns) ≡ f.rest = ap those o in
        record {
          telegram = f.head;
          now = f.is ∙ ap (λ (x : List (List Entry)). f.head ∷ x) (sym t) ∙ ap (λ (x : ℕ). f.head ∷ telegrams_of (drop x s) (drop (i + 1) ns)) v;
          front = record { few = omega arith; reads = rw (← u) f.reads };
          room = omega arith;
          least = z.0;
          most = z.1;
          next = record { few = omega arith; within = omega arith; rest = record { goes = rw (← v) (o ∙ ap all (sym t)) } };
        }
      where
        by_last : (b : Bool) → e ≡ start + part_length (length s - start) (get_or ns i 0) b → e ≤ length s
        by_last true k = let w = g.within in omega arith
        by_last false k = let w = g.within in omega arith

pub along_end : {s ns : List ℕ} {i start : ℕ} → Along s ns i start → length ns ≤ i → telegrams_of (drop start s) (drop i ns) ≡ []
unfolding telegrams_of arrived parts
along_end {s} {ns} {i} {start} g h = ap (λ (l : List ℕ). telegrams_of (drop start s) l) (drop_all i ns h)
