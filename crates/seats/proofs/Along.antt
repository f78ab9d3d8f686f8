-- The loops that go along telegrams in a buffer. Assumes nothing.
use mathlib.Core.Bool.{Bool, true, false, cond}
use mathlib.Core.List.{List}
use mathlib.Core.Path.{◌≡◌, refl, sym, ap, ap₂, ◌∙◌}
use Prim.Native.Nat.{ℕ, suc, ◌+◌, ◌-◌, ◌≤◌, ◌<◌, min}
use native.Mathlib.Numerals.{add-one}
use native.Mathlib.Omega.{arith}
use native.Mathlib.Nat.{lt_of_not-le}
use native.Mathlib.Decide.{dec_le}
use borrow.Author.Tests.{eq-eqb, ne_eqb}
use lib.Dec.{eqb}
use lib.ListN.{length, get_or, drop, length-drop}
use lib.Seq.{drop-cons, drop-drop}
use mir.Val.{bool_byte}
use Rattle.bits.specs.Bits.{bytes_for}
use Rattle.headers.proofs.Numbers.{drop_all}
use Rattle.seats.specs.Seats.{pig_of, tallied, seat_from, seat_of}
use Rattle.seats.specs.declared.Seat.{Seat}

-- where the next one begins
module _ (s : List ℕ) (start n e : ℕ) (w : start ≤ length s) (q : e ≡ start + min (bytes_for n) (length s - start)) where
  pub next_within : e ≤ length s
  next_within = omega arith

  next_size : e ≡ start + min (bytes_for n) (length (drop start s))
  next_size = q ∙ ap (λ (l : ℕ). start + min (bytes_for n) l) (sym (length-drop start s))

  next_bytes : drop (bytes_for n) (drop start s) ≡ drop e s
  next_bytes = drop-drop (bytes_for n) start s ∙ by_room (dec_le (bytes_for n) (length s - start))
    where
      by_room : Dec (bytes_for n ≤ length s - start) → drop (start + bytes_for n) s ≡ drop e s
      by_room (yes g) = let k : e ≡ start + bytes_for n = omega arith in rw k
      by_room (no g) =
          let l = lt_of_not-le g in
          drop_all (start + bytes_for n) s (omega arith) ∙ sym (drop_all e s (omega arith))

-- ---- how many have an N_PIG

pub record Tallying (s ns : List ℕ) (k i start count : ℕ) : Type 0 where
  pub within : start ≤ length s
  pub few : count ≤ i
  pub counted : count + tallied k (drop start s) (drop i ns) ≡ tallied k s ns

pub tallying_first : (s ns : List ℕ) (k : ℕ) → Tallying s ns k 0 0 0
tallying_first s ns k = record { within = omega arith; few = omega arith; counted = omega arith }

-- a bool as a number
pub as_number : (b : Bool) → bool_byte b ≡ cond b 1 0
as_number true = refl
as_number false = refl

at_most : (b : Bool) → cond b 1 0 ≤ 1
at_most true = omega arith
at_most false = omega arith

pub one_small : (b : Bool) (more : ℕ) → more ≡ cond b 1 0 → more ≤ 1
one_small b more e = let m = at_most b in omega arith

module _ {s ns : List ℕ} {k i start count : ℕ} (g : Tallying s ns k i start count) (h : i < length ns) where
  pub tallying_on : (more : ℕ) → more ≡ cond (eqb (pig_of (drop start s)) k) 1 0
      → (e : ℕ) → e ≡ start + min (bytes_for (get_or ns i 0)) (length s - start) → Tallying s ns k (i + 1) e (count + more)
  unfolding tallied
  tallying_on more f e q =
      let n = get_or ns i 0 in
      let m = one_small (eqb (pig_of (drop start s)) k) more f in
      let l = g.few in
      let c = g.counted in
      let t : tallied k (drop start s) (drop i ns) ≡ more + tallied k (drop e s) (drop (i + 1) ns) =
      ap (tallied k (drop start s)) (drop-cons ns i 0 h)
      ∙ ap₂ ◌+◌ (sym f) (ap₂ (tallied k) (next_bytes s start n e g.within q) (ap (λ (j : ℕ). drop j ns) (sym (add-one i)))) in
      record { within = next_within s start n e g.within q; few = omega arith; counted = omega arith }

pub tallying_end : {s ns : List ℕ} {k i start count : ℕ} → Tallying s ns k i start count → length ns ≤ i → count ≡ tallied k s ns
unfolding tallied
tallying_end {s} {ns} {k} {i} {start} g h =
    let c = g.counted in
    let e : tallied k (drop start s) (drop i ns) ≡ 0 = ap (tallied k (drop start s)) (drop_all i ns h) in
    omega arith

-- ---- where the first with an N_PIG stands

pub record Looking (s ns : List ℕ) (k i start : ℕ) : Type 0 where
  pub within : start ≤ length s
  pub same : seat_of s ns k ≡ seat_from k start (drop start s) (drop i ns)

pub looking_first : (s ns : List ℕ) (k : ℕ) → Looking s ns k 0 0
looking_first s ns k = record { within = omega arith; same = refl }

module _ {s ns : List ℕ} {k i start : ℕ} (g : Looking s ns k i start) (h : i < length ns) where
  looked : (b : Bool) → eqb (pig_of (drop start s)) k ≡ b
      → seat_of s ns k
      ≡ cond b (record { start = start; n = get_or ns i 0 }) (seat_from k (start + min (bytes_for (get_or ns i 0)) (length (drop start s))) (drop (bytes_for (get_or ns i 0)) (drop start s)) (drop (suc i) ns))
  unfolding seat_from
  looked b f = g.same ∙ ap (seat_from k start (drop start s)) (drop-cons ns i 0 h) ∙ rw f

  pub looking_found : pig_of (drop start s) ≡ k → ◌≡◌ {A = Seat} (record { start = start; n = get_or ns i 0 }) (seat_of s ns k)
  looking_found f = sym (looked true (eq-eqb (pig_of (drop start s)) k f))

  pub looking_on : (pig_of (drop start s) ≡ k → ⊥) → (e : ℕ) → e ≡ start + min (bytes_for (get_or ns i 0)) (length s - start) → Looking s ns k (i + 1) e
  looking_on f e q =
      let n = get_or ns i 0 in
      record {
        within = next_within s start n e g.within q;
        same = looked false (ne_eqb (pig_of (drop start s)) k f)
            ∙ ap₂ (λ (j : ℕ) (u : List ℕ). seat_from k j u (drop (suc i) ns)) (sym (next_size s start n e g.within q)) (next_bytes s start n e g.within q)
            ∙ ap (λ (j : ℕ). seat_from k e (drop e s) (drop j ns)) (sym (add-one i));
      }

pub looking_end : {s ns : List ℕ} {k i start : ℕ} → Looking s ns k i start → length ns ≤ i → ◌≡◌ {A = Seat} (record { start = 0; n = 0 }) (seat_of s ns k)
unfolding seat_from
looking_end {s} {ns} {k} {i} {start} g h = sym (g.same ∙ ap (seat_from k start (drop start s)) (drop_all i ns h))
