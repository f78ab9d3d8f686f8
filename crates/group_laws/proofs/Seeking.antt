-- What is found by N_PIG in the bytes of telegrams that are all accepted: so many, and the one that alone has it. Assumes nothing.
use mathlib.Core.Bool.{Bool, true, false, cond}
use mathlib.Core.List.{List, [], ◌∷◌}
use mathlib.Core.Path.{◌≡◌, refl, sym, ap, ap₂, ◌∙◌}
use Prim.Native.Nat.{ℕ, ◌+◌, ◌≤◌, min}
use native.Mathlib.Omega.{arith}
use lib.Dec.{eqb}
use lib.ListN.{length, drop, length-drop}
use lib.Seq.{drop-drop}
use Rattle.bits.specs.Bits.{bytes_for}
use Rattle.format.specs.Fields.{N_PIG}
use Rattle.format.specs.Rules.{paper}
use Rattle.format.specs.Telegrams.{Entry}
use Rattle.seats.specs.Seats.{pig_of, tallied, seat_from, seat_of}
use Rattle.seats.specs.declared.Seat.{Seat}
use Rattle.group.specs.Groups.{held, standing, arrived, parts}
use Rattle.group.specs.Walks.{Arrives, Front, Seated, telegrams_of}
use Rattle.group_laws.proofs.Held.{front_held, front_headed}
use Rattle.group_laws.proofs.Walking.{along_first, along_turn}

-- ---- the first, and those behind it

pub record First (s : List ℕ) (n : ℕ) (ns : List ℕ) : Type 0 where
  pub telegram : List Entry
  pub now : telegrams_of s (n ∷ ns) ≡ telegram ∷ telegrams_of (drop (bytes_for n) s) ns
  pub front : Front paper s n telegram
  pub rest : Arrives (drop (bytes_for n) s) ns
  pub pig : pig_of s ≡ held N_PIG telegram

pub first_turn : {s : List ℕ} {n : ℕ} {ns : List ℕ} → Arrives s (n ∷ ns) → First s n ns
first_turn {s} {n} {ns} a =
    let t = along_turn (along_first a) (omega arith) in
    let z : 0 + bytes_for n ≡ bytes_for n = omega arith in
    record {
      telegram = t.telegram;
      now = (rw z at t.now);
      front = t.front;
      rest = (rw z at t.next.rest);
      pig = front_held t.front (front_headed t.front).pig (omega arith);
    }

-- ---- how many

one_more : (b : Bool) (t : List Entry) (l : List (List Entry)) → length (cond b (t ∷ l) l) ≡ cond b 1 0 + length l
one_more true t l = omega arith
one_more false t l = omega arith

pub tallied_is : (k : ℕ) (s ns : List ℕ) → Arrives s ns → tallied k s ns ≡ length (standing k (telegrams_of s ns))
unfolding tallied telegrams_of arrived parts
tallied_is k s [] a = refl
tallied_is k s (n ∷ ns) a =
    let f = first_turn a in
    let us = telegrams_of (drop (bytes_for n) s) ns in
    ap₂ (λ (p c : ℕ). cond (eqb p k) 1 0 + c) f.pig (tallied_is k (drop (bytes_for n) s) ns f.rest)
    ∙ sym (one_more (eqb (held N_PIG f.telegram) k) f.telegram (standing k us))
    ∙ sym (ap (λ (l : List (List Entry)). length (standing k l)) f.now)

-- ---- where

record SeatIs (s u ns : List ℕ) (k : ℕ) (r : Seat) : Type 0 where
  telegram : List Entry
  alone : standing k (telegrams_of u ns) ≡ telegram ∷ []
  within : r.start ≤ length s
  front : Front paper (drop r.start s) r.n telegram

only : (l : List (List Entry)) (t : List Entry) (us : List (List Entry)) → length l ≡ 1 → l ≡ t ∷ us → us ≡ []
only l t [] h e = refl
only l t (u ∷ us) h e = let k = ap length e in absurd (omega arith)

none_there : (k : ℕ) (u : List ℕ) → length (standing k (telegrams_of u [])) ≡ 0
unfolding telegrams_of arrived parts
none_there k u = refl

seat_found : (s : List ℕ) (k start : ℕ) (u ns : List ℕ) → start ≤ length s → u ≡ drop start s → Arrives u ns → length (standing k (telegrams_of u ns)) ≡ 1
    → SeatIs s u ns k (seat_from k start u ns)
unfolding seat_from
seat_found s k start u [] w e a o = let z = none_there k u in absurd (omega arith)
seat_found s k start u (n ∷ ns) w e a o = by_test (eqb (pig_of u) k) refl (λ x h i b j. seat_found s k x (drop (bytes_for n) u) ns h i b j)
  where
    f : First u n ns
    f = first_turn a

    us : List (List Entry)
    us = telegrams_of (drop (bytes_for n) u) ns

    looked : (b : Bool) → eqb (pig_of u) k ≡ b → standing k (telegrams_of u (n ∷ ns)) ≡ cond b (f.telegram ∷ standing k us) (standing k us)
    looked b i = ap (standing k) f.now ∙ ap (λ (p : Bool). cond p (f.telegram ∷ standing k us) (standing k us)) (ap (λ (x : ℕ). eqb x k) (sym f.pig) ∙ i)

    Others : Type 0
    Others = (x : ℕ) → x ≤ length s → drop (bytes_for n) u ≡ drop x s → Arrives (drop (bytes_for n) u) ns → length (standing k us) ≡ 1
        → SeatIs s (drop (bytes_for n) u) ns k (seat_from k x (drop (bytes_for n) u) ns)

    by_test : (b : Bool) → eqb (pig_of u) k ≡ b → Others
        → SeatIs s u (n ∷ ns) k (cond b (record { start = start; n = n }) (seat_from k (start + min (bytes_for n) (length u)) (drop (bytes_for n) u) ns))
    by_test true i others =
        let l = looked true i in
        record {
          telegram = f.telegram;
          alone = l ∙ ap (λ (x : List (List Entry)). f.telegram ∷ x) (only (standing k (telegrams_of u (n ∷ ns))) f.telegram (standing k us) o l);
          within = w;
          front = rw (← e) f.front;
        }
    by_test false i others =
        let l = looked false i in
        let m = f.front.few in
        let d = length-drop start s in
        let q = ap length e in
        let j : start + min (bytes_for n) (length u) ≡ start + bytes_for n = omega arith in
        let v : drop (bytes_for n) u ≡ drop (start + min (bytes_for n) (length u)) s = ap (drop (bytes_for n)) e ∙ drop-drop (bytes_for n) start s ∙ ap (λ (x : ℕ). drop x s) (sym j) in
        let r = others (start + min (bytes_for n) (length u)) (omega arith) v f.rest (sym (ap length l) ∙ o) in
        record { telegram = r.telegram; alone = l ∙ r.alone; within = r.within; front = r.front }

pub seat_seated : {s ns : List ℕ} (k : ℕ) → Arrives s ns → length (standing k (telegrams_of s ns)) ≡ 1 → Seated s ns k (seat_of s ns k).start (seat_of s ns k).n
seat_seated {s} {ns} k a o =
    let r = seat_found s k 0 s ns (omega arith) refl a o in
    record { telegram = r.telegram; alone = r.alone; within = r.within; front = r.front }
