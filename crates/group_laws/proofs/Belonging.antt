-- The first test of 21: all telegrams have the first one's identity, in one number, and the N_TOTAL that their count asks for. Assumes nothing.
use mathlib.Core.Bool.{Bool, true, false, ◌&&◌}
use mathlib.Core.List.{List, [], ◌∷◌}
use mathlib.Core.Path.{◌≡◌, refl, sym, ap, ap₂, ◌∙◌}
use Prim.Native.Nat.{ℕ, suc, ◌+◌, ◌-◌, ◌*◌, ◌/◌, ◌%◌, ◌^◌, ◌≤◌, ◌<◌, min}
use native.Mathlib.Nat.{div-div-eq-div-mul}
use native.Mathlib.Omega.{arith}
use borrow.Author.Tests.{eq-eqb, ne_eqb, eqb-true, eqb-false}
use lib.Dec.{eqb}
use lib.ListN.{length, get_or, drop}
use Rattle.bits.specs.Bits.{bytes_for, value_of}
use Rattle.bits.specs.Take.{field_bits}
use Rattle.bits.proofs.Fields.{field_in_field, field_lt}
use Rattle.format.specs.Fields.{N_TOTAL, NID_C, NID_BG, Q_LINK}
use Rattle.format.specs.Rules.{Terms}
use Rattle.format.specs.Telegrams.{Entry}
use Rattle.headers.specs.Headers.{number_at, belongs_to}
use Rattle.headers.proofs.Numbers.{number_is}
use Rattle.group.specs.Groups.{held, same_in, agree, every}
use Rattle.group.specs.Walks.{Arrives, Front, telegrams_of, alike, chief}
use Rattle.group_laws.proofs.Held.{front_held, front_headed, front_size}
use Rattle.group_laws.proofs.Walking.{Along, along_first, along_turn, along_end}
use Rattle.group_laws.proofs.Agreeing.{like, alike_first, telegrams_count}

abbrev Telegrams : Type 0
Telegrams = List (List Entry)

-- ---- who says how many they are agrees in it

abbrev like_in : List Entry → ℕ → List Entry → Bool
like_in f m t = (same_in NID_C f t && (same_in NID_BG f t && same_in Q_LINK f t)) && eqb (held N_TOTAL t) m

last_false : (a b c d : Bool) → ((a && b && c && d) && false) ≡ ((a && (b && c)) && false)
last_false true true true true = refl
last_false true true true false = refl
last_false true true false d = refl
last_false true false c d = refl
last_false false b c d = refl

all_true : (a b c : Bool) → ((a && b && c && true) && true) ≡ ((a && (b && c)) && true)
all_true true true true = refl
all_true true true false = refl
all_true true false c = refl
all_true false b c = refl

like_in_lem : (f t : List Entry) (m : ℕ) → held N_TOTAL f ≡ m → like f (suc m) t ≡ like_in f m t
like_in_lem f t m h = by_test (eqb (held N_TOTAL t) m) refl
  where
    by_test : (b : Bool) → eqb (held N_TOTAL t) m ≡ b → like f (suc m) t ≡ like_in f m t
    by_test true e =
        let i = eqb-true (held N_TOTAL t) m e in
        let j : same_in N_TOTAL f t ≡ true = eq-eqb (held N_TOTAL f) (held N_TOTAL t) (h ∙ sym i) in
        let k : eqb (suc (held N_TOTAL t)) (suc m) ≡ true = eq-eqb (suc (held N_TOTAL t)) (suc m) (ap suc i) in
        rw (e, j, k) (all_true (same_in NID_C f t) (same_in NID_BG f t) (same_in Q_LINK f t))
    by_test false e =
        let i = eqb-false (held N_TOTAL t) m e in
        let k : eqb (suc (held N_TOTAL t)) (suc m) ≡ false = ne_eqb (suc (held N_TOTAL t)) (suc m) (λ x. i (omega arith)) in
        rw (e, k) (last_false (same_in NID_C f t) (same_in NID_BG f t) (same_in Q_LINK f t) (same_in N_TOTAL f t))

every_in : (f : List Entry) (m : ℕ) (ts : Telegrams) → held N_TOTAL f ≡ m → every (like f (suc m)) ts ≡ every (like_in f m) ts
every_in f m [] h = refl
every_in f m (t ∷ ts) h = ap₂ ◌&&◌ (like_in_lem f t m h) (every_in f m ts h)

likely : (f : List Entry) (us : Telegrams) (m : ℕ) → every (like f (suc m)) (f ∷ us) ≡ every (like_in f m) (f ∷ us)
likely f us m = by_test (eqb (held N_TOTAL f) m) refl
  where
    never : (a : Bool) → (a && false) ≡ false
    never true = refl
    never false = refl

    by_test : (b : Bool) → eqb (held N_TOTAL f) m ≡ b → every (like f (suc m)) (f ∷ us) ≡ every (like_in f m) (f ∷ us)
    by_test true e = every_in f m (f ∷ us) (eqb-true (held N_TOTAL f) m e)
    by_test false e =
        let i = eqb-false (held N_TOTAL f) m e in
        let k : eqb (suc (held N_TOTAL f)) (suc m) ≡ false = ne_eqb (suc (held N_TOTAL f)) (suc m) (λ x. i (omega arith)) in
        rw (e, k, never (agree f f), never (same_in NID_C f f && (same_in NID_BG f f && same_in Q_LINK f f)))

-- ---- three fields side by side

-- numbers of 10, 14 and 1 bits in one
joined_is : (n c g l : ℕ) → n < 33554432 → c ≡ n / 32768 % 1024 → g ≡ n / 2 % 16384 → l ≡ n / 1 % 2 → n ≡ c * 32768 + (g * 2 + l)
joined_is n c g l a ec eg el = by_half (n / 2) refl (div-div-eq-div-mul n 2 16384)
  where
    by_half : (m : ℕ) → n / 2 ≡ m → n / 2 / 16384 ≡ n / 32768 → n ≡ c * 32768 + (g * 2 + l)
    by_half m e d =
        let k : n / 32768 ≡ m / 16384 = sym d ∙ ap (λ (x : ℕ). x / 16384) e in
        let h : c ≡ m / 16384 = ec ∙ rw k (omega arith) in
        let i : g ≡ m % 16384 = eg ∙ ap (λ (x : ℕ). x % 16384) e in
        let j : m ≡ c * 16384 + g = omega arith in
        omega arith

joined_same : (n m c g l d h k : ℕ) → n < 33554432 → m < 33554432
    → c ≡ n / 32768 % 1024 → g ≡ n / 2 % 16384 → l ≡ n / 1 % 2 → d ≡ m / 32768 % 1024 → h ≡ m / 2 % 16384 → k ≡ m / 1 % 2
    → eqb n m ≡ (eqb c d && (eqb g h && eqb l k))
joined_same n m c g l d h k a b ec eg el ed eh ek = by_test (eqb n m) refl
  where
    by_parts : (x y z : Bool) → eqb c d ≡ x → eqb g h ≡ y → eqb l k ≡ z → (n ≡ m → ⊥) → false ≡ (x && (y && z))
    by_parts true true true i j o ne =
        let p = eqb-true c d i in
        let q = eqb-true g h j in
        let r = eqb-true l k o in
        absurd (ne (joined_is n c g l a ec eg el ∙ ap₂ ◌+◌ (ap (λ (v : ℕ). v * 32768) p) (ap₂ ◌+◌ (ap (λ (v : ℕ). v * 2) q) r) ∙ sym (joined_is m d h k b ed eh ek)))
    by_parts true true false i j o ne = refl
    by_parts true false z i j o ne = refl
    by_parts false y z i j o ne = refl

    by_test : (t : Bool) → eqb n m ≡ t → t ≡ (eqb c d && (eqb g h && eqb l k))
    by_test true e =
        let i = eqb-true n m e in
        rw (
          eq-eqb c d (ec ∙ ap (λ (v : ℕ). v / 32768 % 1024) i ∙ sym ed),
          eq-eqb g h (eg ∙ ap (λ (v : ℕ). v / 2 % 16384) i ∙ sym eh),
          eq-eqb l k (el ∙ ap (λ (v : ℕ). v / 1 % 2) i ∙ sym ek),
        )
    by_test false e = by_parts (eqb c d) (eqb g h) (eqb l k) refl refl refl (eqb-false n m e)

module _ {p : Terms} {u : List ℕ} {n : ℕ} {es : List Entry} (q : Front p u n es) where
  front_wide : 58 ≤ 8 * length u
  front_wide = let z = front_size q in let f = q.few in omega arith

  abbrev identity : ℕ
  identity = number_at u 58 25 25

  identity_is : identity ≡ value_of (field_bits u 25 25)
  identity_is = number_is u 58 25 25 (omega arith) (omega arith) front_wide

  identity_small : identity < 33554432
  identity_small = let w = front_wide in rw identity_is (field_lt u 25 25 (omega arith))

  -- a part of it
  part : (o w low : ℕ) → o + (w + low) ≡ 25 → w ≤ 64 → number_at u 58 (25 + o) w ≡ identity / 2 ^ low % 2 ^ w
  part o w low e few =
      let r = front_wide in
      number_is u 58 (25 + o) w few (omega arith) r ∙ field_in_field u 25 o w low (omega arith) ∙ rw (e, identity_is)

  part_country : held NID_C es ≡ identity / 32768 % 1024
  part_country = sym (front_held q (front_headed q).country (omega arith)) ∙ part 0 10 15 refl (omega arith)

  part_group : held NID_BG es ≡ identity / 2 % 16384
  part_group = sym (front_held q (front_headed q).group (omega arith)) ∙ part 10 14 1 refl (omega arith)

  part_link : held Q_LINK es ≡ identity / 1 % 2
  part_link = sym (front_held q (front_headed q).link (omega arith)) ∙ part 24 1 0 refl (omega arith)

-- what the test of one telegram says
belongs_is : {p : Terms} {u : List ℕ} {n : ℕ} {es : List Entry} (q : Front p u n es) {v : List ℕ} {m : ℕ} {fs : List Entry} (r : Front p v m fs) (total : ℕ)
    → belongs_to u (number_at v 58 25 25) total ≡ like_in fs total es
belongs_is {u = u} {es = es} q {v = v} {fs = fs} r total =
    ap₂ ◌&&◌
    (joined_same (number_at v 58 25 25) (number_at u 58 25 25) (held NID_C fs) (held NID_BG fs) (held Q_LINK fs) (held NID_C es) (held NID_BG es) (held Q_LINK es)
    (identity_small r) (identity_small q) (part_country r) (part_group r) (part_link r) (part_country q) (part_group q) (part_link q))
    (ap (λ (x : ℕ). eqb x total) (front_held q (front_headed q).total (omega arith)))

-- ---- the loop over the headers

pub record Comparing (s ns : List ℕ) (i start : ℕ) : Type 0 where
  pub along : Along s ns i start
  pub same : alike (telegrams_of s ns) ≡ every (like_in (chief (telegrams_of s ns)) (length ns - 1)) (telegrams_of (drop start s) (drop i ns))

module _ {s ns : List ℕ} (a : Arrives s ns) (few : 0 < length ns) where
  abbrev ts : Telegrams
  ts = telegrams_of s ns

  alike_is : alike ts ≡ every (like_in (chief ts) (length ns - 1)) ts
  alike_is = by_first ts refl
    where
      by_first : (l : Telegrams) → ts ≡ l → alike ts ≡ every (like_in (chief ts) (length ns - 1)) ts
      by_first [] e = let c = telegrams_count a in let d = ap length e in absurd (omega arith)
      by_first (f ∷ us) e =
          let c = telegrams_count a in
          let d : length ts ≡ suc (length ns - 1) = omega arith in
          alike_first ts (length ts) ∙ ap (λ (n : ℕ). every (like (chief ts) n) ts) d
          ∙ ap (λ (l : Telegrams). every (like (chief l) (suc (length ns - 1))) l) e
          ∙ likely f us (length ns - 1)
          ∙ ap (λ (l : Telegrams). every (like_in (chief l) (length ns - 1)) l) (sym e)

  pub comparing_first : Comparing s ns 0 0
  comparing_first = record { along = along_first a; same = alike_is }

  module _ {i start : ℕ} (g : Comparing s ns i start) (h : i < length ns) where
    abbrev test : Bool
    test = belongs_to (drop start s) (number_at (drop 0 s) 58 25 25) (length ns - 1)

    compared : alike ts ≡ (test && every (like_in (chief ts) (length ns - 1)) (telegrams_of (drop (start + bytes_for (get_or ns i 0)) s) (drop (i + 1) ns)))
    compared =
        let o = along_turn (along_first a) (omega arith) in
        let t = along_turn g.along h in
        let f : o.telegram ≡ chief ts = sym (ap chief o.now) in
        let r = belongs_is t.front o.front (length ns - 1) ∙ ap (λ (x : List Entry). like_in x (length ns - 1) t.telegram) f in
        g.same ∙ ap (every (like_in (chief ts) (length ns - 1))) t.now
        ∙ ap (λ (x : Bool). x && every (like_in (chief ts) (length ns - 1)) (telegrams_of (drop (start + bytes_for (get_or ns i 0)) s) (drop (i + 1) ns))) (sym r)

    pub comparing_on : test ≡ true → (e : ℕ) → e ≡ start + min (bytes_for (get_or ns i 0)) (length s - start) → Comparing s ns (i + 1) e
    comparing_on e x q =
        let t = along_turn g.along h in
        let r = t.room in
        let j : x ≡ start + bytes_for (get_or ns i 0) = omega arith in
        rw j (record { along = t.next; same = compared ∙ rw e })

    pub comparing_fails : test ≡ false → false ≡ alike ts
    comparing_fails e = sym (compared ∙ rw e)

  pub comparing_end : {i start : ℕ} → Comparing s ns i start → length ns ≤ i → true ≡ alike ts
  comparing_end g h = sym (g.same ∙ ap (every (like_in (chief ts) (length ns - 1))) (along_end g.along h))
