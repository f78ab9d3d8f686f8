-- What changed where 2 came to collide with 0 and 1: the first rule of directions, that two are the same, and the one that holds, that one
-- train gets both. Assumes nothing.
use mathlib.Core.Bool.{Bool, true, false, ◌||◌, or-true}
use mathlib.Core.List.{List}
use mathlib.Core.Logic.{◌↔◌, ◌⊎◌, inl, inr}
use mathlib.Core.Path.{◌≡◌, refl, sym, ◌∙◌, subst}
use Prim.Native.Nat.{ℕ, ◌≤◌}
use native.Mathlib.Omega.{arith}
use borrow.Author.Tests.{eqb-true, eq-eqb}
use lib.Dec.{eqb}
use lib.ListN.{length}
use Rattle.bits.specs.Bits.{Below}
use Rattle.format.specs.Among.{PacketIn}
use Rattle.format.specs.Rules.{clash, field_place, paper}
use Rattle.format.specs.Telegrams.{Entry, Result, read, write, Telegram}
use Rattle.format.specs.Telegrams.Result.{accepted, refused}
use Rattle.format.specs.declared.Refusal.{Refusal}
use Rattle.laws.proofs.Demand2.{read_is, write_is}
use Rattle.laws.proofs.Pairs.{Pair, Implies, packet_grown}
use Rattle.laws.proofs.Apart.{telegram_apart}
use Rattle.laws.proofs.EachWay.{telegram_small}
use Rattle.laws.proofs.Tens.{directing}
use Rattle.laws.proofs.Changed.{Changed, read_changed, write_changed}

-- directions that are the same collide by either rule
pub same_clash : Implies eqb clash
unfolding clash
same_clash d e h = rw h

-- of two that are not the same and collide, one is both ways
clash_both : (d e : ℕ) → clash d e ≡ true → (d ≡ e → ⊥) → (d ≡ 2) ⊎ (e ≡ 2)
unfolding clash
clash_both d e h n = by_tests (eqb d e) (eqb d 2) (eqb e 2) refl refl refl h
  where
    by_tests : (a b c : Bool) → eqb d e ≡ a → eqb d 2 ≡ b → eqb e 2 ≡ c → (a || (b || c)) ≡ true → (d ≡ 2) ⊎ (e ≡ 2)
    by_tests true b c i j k h = absurd (n (eqb-true d e i))
    by_tests false true c i j k h = inl (eqb-true d 2 j)
    by_tests false false true i j k h = inr (eqb-true e 2 k)
    by_tests false false false i j k h = let z : ◌≡◌ {A = ℕ} 0 1 = cc in absurd (omega arith)

-- two packets of one kind that is not ETCS-44, one of them for both ways and the other for one way: "an ETCS-21 with Q_DIR 1 and another with
-- Q_DIR 2", in either order
pub data Mixed (es : List Entry) : Type 0 where
  both_later : {id way : ℕ} → (id ≡ 44 → ⊥) → way ≤ 1 → (h : PacketIn es id 2) → PacketIn h.before id way → Mixed es
  both_earlier : {id way : ℕ} → (id ≡ 44 → ⊥) → way ≤ 1 → (h : PacketIn es id way) → PacketIn h.before id 2 → Mixed es

-- in a telegram that the old rule accepted, the directions of each pair that collides now differ
differs : {es : List Entry} → Telegram (directing eqb) es → (h : Pair clash es) → h.dir ≡ h.earlier.other → ⊥
differs t h i =
    telegram_apart field_place eqb t
    (record {
      id = h.id;
      dir = h.dir;
      later = h.later;
      not_44 = h.not_44;
      earlier = record { other = h.earlier.other; packet = h.earlier.packet; collides = eq-eqb _ _ i };
    })

-- so that it is such a pair
pair_mixed : {es : List Entry} → Telegram (directing eqb) es → Pair clash es → Mixed es
pair_mixed {es} t h = by_which (clash_both d e h.earlier.collides (differs t h))
  where
    d : ℕ
    d = h.dir

    e : ℕ
    e = h.earlier.other

    later_small : d ≤ 2
    later_small = telegram_small t h.later

    earlier_small : e ≤ 2
    earlier_small =
        telegram_small t (subst (λ (l : List Entry). PacketIn l h.id e) (sym h.later.parts) (packet_grown h.earlier.packet _))

    one_way : (x : ℕ) → x ≤ 2 → (x ≡ 2 → ⊥) → x ≤ 1
    one_way x k n = omega (arith, n)

    by_which : (d ≡ 2) ⊎ (e ≡ 2) → Mixed es
    by_which (inl i) =
        let k = subst (λ (x : ℕ). (g : PacketIn es h.id x) × (PacketIn g.before h.id e)) i (h.later, h.earlier.packet) in
        both_later h.not_44 (one_way e earlier_small (λ j. differs t h (i ∙ sym j))) k.0 k.1
    by_which (inr j) =
        both_earlier h.not_44 (one_way d later_small (λ i. differs t h (i ∙ sym j))) h.later
        (subst (λ (x : ℕ). PacketIn h.later.before h.id x) j h.earlier.packet)

-- and each such pair collides
mixed_pair : {es : List Entry} → Mixed es → Pair clash es
unfolding clash
mixed_pair (both_later {id = id} {way = way} n w h k) =
    record { id = id; dir = 2; later = h; not_44 = n; earlier = record { other = way; packet = k; collides = or-true (eqb 2 way) } }
mixed_pair (both_earlier {id = id} {way = way} n w h k) =
    record {
      id = id;
      dir = way;
      later = h;
      not_44 = n;
      earlier = record { other = 2; packet = k; collides = rw (or-true (eqb way 2)) (or-true (eqb way 2)) };
    }

-- ---- the change

-- "From now on 2 collides with 0, 1 and 2": what it changes in reading
pub read_both_ways : (bs : List ℕ) → Below 2 bs → length bs ≤ 830 → Changed clash (read (directing eqb) bs) (read paper bs)
read_both_ways = read_changed eqb clash same_clash

-- and in writing
pub write_both_ways : (vs : List ℕ) → Changed clash (write (directing eqb) vs) (write paper vs)
write_both_ways = write_changed eqb clash same_clash

-- what was accepted before and is refused now is just what has such a pair
pub turned_mixed : {before now : Result} {es : List Entry} → Changed clash before now → Telegram (directing eqb) es → before ≡ accepted es
    → ((r : Refusal) × (now ≡ refused r)) ↔ Mixed es
turned_mixed {es = es} c t h =
    let k = c.turns es h in
    (λ r. pair_mixed t (k.0 r), λ m. k.1 (mixed_pair m))

pub read_turned : (bs : List ℕ) → Below 2 bs → length bs ≤ 830 → (es : List Entry) → read (directing eqb) bs ≡ accepted es
    → ((r : Refusal) × (read paper bs ≡ refused r)) ↔ Mixed es
read_turned bs b n es h = turned_mixed (read_both_ways bs b n) (read_is (directing eqb) bs es b n h).0 h

pub write_turned : (vs : List ℕ) (es : List Entry) → write (directing eqb) vs ≡ accepted es
    → ((r : Refusal) × (write paper vs ≡ refused r)) ↔ Mixed es
write_turned vs es h = turned_mixed (write_both_ways vs) (write_is (directing eqb) vs es h).0 h
