-- Copies: two telegrams compared behind their headers, and what M_DUP names. Assumes nothing.
use Rattle.std.specs.Prelude.{Some, None}
use mathlib.Core.Bool.{Bool, true, false, cond, ◌&&◌}
use mathlib.Core.List.{List, [], ◌∷◌}
use mathlib.Core.Option.{some, none}
use mathlib.Core.Path.{◌≡◌, refl, sym, ap, ap₂, ◌∙◌}
use Prim.Native.Nat.{ℕ, suc, ◌+◌, ◌-◌, ◌*◌, ◌≤◌, ◌<◌}
use native.Mathlib.Numerals.{add-one}
use native.Mathlib.Omega.{arith}
use borrow.Author.Tests.{ne_eqb, eqb-true, eqb-false, le-leb}
use lib.Dec.{eqb}
use lib.ListN.{length, take, drop, length-drop}
use lib.Seq.{take_all, length-take-le}
use Rattle.bits.specs.Bits.{bits_of, bytes_for, same}
use Rattle.bits.proofs.Bytes.{length_bits_of}
use Rattle.headers.specs.Headers.{same_bodies}
use Rattle.seats.specs.Seats.{seat_of, same_packets}
use Rattle.format.specs.Rules.{paper}
use Rattle.format.specs.Telegrams.{Entry, bits}
use Rattle.states.proofs.Accepting.{sent}
use Rattle.group.specs.Groups.{body, first, names_right, miscopied, in_order}
use Rattle.group.specs.Walks.{Lineup, Seated, telegrams_of, seated, line_of, preceding, following, found_of}
use Rattle.group_laws.proofs.Held.{front_bits, front_sound, front_size}
use Rattle.group_laws.proofs.Lining.{line_turn, line_end, line_first, line_seat, seat_is}

-- ---- the same bits

other_length : (xs ys : List ℕ) → (length xs ≡ length ys → ⊥) → same xs ys ≡ false
other_length [] [] h = absurd (h refl)
other_length [] (y ∷ ys) h = refl
other_length (x ∷ xs) [] h = refl
other_length (x ∷ xs) (y ∷ ys) h = let r = other_length xs ys (λ e. h (ap suc e)) in rw r (never (eqb x y))
  where
    never : (b : Bool) → (b && false) ≡ false
    never true = refl
    never false = refl

-- ---- the bodies of two that are seated

module _ {s ns : List ℕ} {k start n : ℕ} (t : Seated s ns k start n) where
  seat_bits : take n (bits_of (drop start s)) ≡ bits (seated k (telegrams_of s ns))
  seat_bits =
      let l = sent paper (take (bytes_for n) (drop start s)) n t.telegram (front_sound t.front) in
      front_bits t.front 0 n (omega arith) ∙ take_all n (bits t.telegram) (omega arith) ∙ ap bits (seat_is t)

  seat_body : drop 50 (take n (bits_of (drop start s))) ≡ body (seated k (telegrams_of s ns))
  seat_body = ap (drop 50) seat_bits

  seat_wide : n ≤ 8 * length (drop start s)
  seat_wide = let f = t.front.few in omega arith

  seat_length : length (body (seated k (telegrams_of s ns))) + 50 ≡ n
  seat_length =
      let z = front_size t.front in
      let w = seat_wide in
      let b = length_bits_of (drop start s) in
      let c = length-take-le n (bits_of (drop start s)) (omega arith) in
      let d = length-drop 50 (take n (bits_of (drop start s))) in
      let e = ap length seat_body in
      omega arith

-- of two that are seated, what is compared are their packets
pub seats_same : {s ns : List ℕ} {j k a n b m : ℕ} → Seated s ns j a n → Seated s ns k b m
    → same_bodies (drop a s) n (drop b s) m ≡ same (body (seated j (telegrams_of s ns))) (body (seated k (telegrams_of s ns)))
seats_same {s} {ns} {j} {k} {a} {n} {b} {m} t u = by_test (eqb n m) refl
  where
    x : List ℕ
    x = body (seated j (telegrams_of s ns))

    y : List ℕ
    y = body (seated k (telegrams_of s ns))

    by_test : (c : Bool) → eqb n m ≡ c → same_bodies (drop a s) n (drop b s) m ≡ same x y
    by_test true e =
        let i = eqb-true n m e in
        let v = seat_wide u in
        let r : drop 50 (take n (bits_of (drop b s))) ≡ y = ap (λ (z : ℕ). drop 50 (take z (bits_of (drop b s)))) i ∙ seat_body u in
        rw (e, le-leb n (8 * length (drop a s)) (seat_wide t), le-leb n (8 * length (drop b s)) (omega arith)) (ap₂ same (seat_body t) r)
    by_test false e =
        let i = eqb-false n m e in
        let p = seat_length t in
        let q = seat_length u in
        rw e (sym (other_length x y (λ z. i (omega arith))))

pub line_same : {s ns : List ℕ} → Lineup s ns → (j k : ℕ) → j < length ns → k < length ns
    → same_packets s (seat_of s ns j) (seat_of s ns k) ≡ same (body (seated j (telegrams_of s ns))) (body (seated k (telegrams_of s ns)))
line_same {s} {ns} l j k h i = seats_same (line_seat l j h (seat_of s ns j) refl) (line_seat l k i (seat_of s ns k) refl)

-- ---- what M_DUP names, one balise after the other

pub record Naming (s ns : List ℕ) (k : ℕ) : Type 0 where
  pub few : k ≤ length ns
  pub same : found_of (miscopied 0 none (line_of s ns)) ≡ found_of (miscopied k (preceding k (telegrams_of s ns)) (in_order k (length ns - k) (telegrams_of s ns)))

module _ {s ns : List ℕ} (l : Lineup s ns) where
  pub naming_first : Naming s ns 0
  naming_first = record { few = omega arith; same = ap (λ (x : List (List Entry)). found_of (miscopied 0 none x)) (line_first l) }

  next_is : (k : ℕ) → k < length ns → first (in_order (k + 1) (length ns - (k + 1)) (telegrams_of s ns)) ≡ following k (length ns) (telegrams_of s ns)
  next_is k h = by_test (eqb (k + 1) (length ns)) refl
    where
      by_test : (b : Bool) → eqb (k + 1) (length ns) ≡ b → first (in_order (k + 1) (length ns - (k + 1)) (telegrams_of s ns)) ≡ following k (length ns) (telegrams_of s ns)
      by_test true e = let i = eqb-true (k + 1) (length ns) e in ap first (line_end l (k + 1) (omega arith)) ∙ rw e
      by_test false e =
          let i = eqb-false (k + 1) (length ns) e in
          ap first (line_turn l (k + 1) (by_less i)) ∙ rw e
        where
          by_less : (k + 1 ≡ length ns → ⊥) → k + 1 < length ns
          by_less i = omega (arith, i)

  module _ {k : ℕ} (g : Naming s ns k) (h : k < length ns) where
    named : found_of (miscopied 0 none (line_of s ns))
        ≡ found_of (cond (names_right (preceding k (telegrams_of s ns)) (seated k (telegrams_of s ns)) (following k (length ns) (telegrams_of s ns)))
        (miscopied (k + 1) (preceding (k + 1) (telegrams_of s ns)) (in_order (k + 1) (length ns - (k + 1)) (telegrams_of s ns))) (some k))
    unfolding miscopied
    named =
        let n : eqb (k + 1) 0 ≡ false = ne_eqb (k + 1) 0 (λ e. omega arith) in
        let m : k + 1 - 1 ≡ k = omega arith in
        let p : preceding (k + 1) (telegrams_of s ns) ≡ some (seated k (telegrams_of s ns)) = rw (n, m) in
        g.same ∙ ap (λ (x : List (List Entry)). found_of (miscopied k (preceding k (telegrams_of s ns)) x)) (line_turn l k h) ∙ rw (next_is k h, p, add-one k)

    pub naming_on : names_right (preceding k (telegrams_of s ns)) (seated k (telegrams_of s ns)) (following k (length ns) (telegrams_of s ns)) ≡ true → Naming s ns (k + 1)
    naming_on e = record { few = omega arith; same = named ∙ rw e }

    pub naming_wrong : names_right (preceding k (telegrams_of s ns)) (seated k (telegrams_of s ns)) (following k (length ns) (telegrams_of s ns)) ≡ false
        → Some k ≡ found_of (miscopied 0 none (line_of s ns))
    naming_wrong e = sym (named ∙ rw e)

  pub naming_end : {k : ℕ} → Naming s ns k → length ns ≤ k → None ≡ found_of (miscopied 0 none (line_of s ns))
  unfolding miscopied
  naming_end {k} g h = sym (g.same ∙ ap (λ (x : List (List Entry)). found_of (miscopied k (preceding k (telegrams_of s ns)) x)) (line_end l k h))
