-- Whole packets that keep every rule but the tenth, by the window at their first bit: its head there, and the fields behind it. Assumes nothing.
use mathlib.Core.Bool.{false}
use mathlib.Core.List.{List, ◌∷◌}
use mathlib.Core.Option.{some}
use mathlib.Core.Path.{◌≡◌, refl, sym, ap, ◌∙◌}
use Prim.Native.Nat.{ℕ, ◌+◌, ◌*◌, ◌≤◌, ◌<◌}
use native.Mathlib.Nat.{add-zero}
use native.Mathlib.Omega.{arith}
use lib.Dec.{T}
use lib.ListN.{length}
use Rattle.laws.proofs.Steps.{going}
use Rattle.bits.specs.Ahead.{behind}
use Rattle.bits.specs.Bits.{value_of}
use Rattle.bits.specs.Take.{field_bits}
use Rattle.bits.proofs.Sight.{Ahead}
use Rattle.format.specs.Fields.{Q_DIR, L_PACKET}
use Rattle.format.specs.Packets.{Items, ◌▸◌, etcs, ctcs, find}
use Rattle.format.specs.Packets.Items.{end, nest, send}
use Rattle.format.specs.Rules.{Earlier, clash, collides_among}
use Rattle.states.specs.Lookback.{packets_before}
use Rattle.passing.proofs.Passing.{Passed, passed_grows}
use Rattle.passing.proofs.Stood.{Stood, between}
use Rattle.passing.proofs.Filled.{Filled, filled_long, filled_packet}
use Rattle.passing.proofs.Filled.Filled.{carries}

-- a packet of so many bits that keeps every rule but the tenth, with m values
pub record Kept (s : List ℕ) (at long m : ℕ) : Type 0 where
  pub rest : Items
  pub fields : ℕ
  pub found : find (value_of (field_bits s 8 at)) etcs ≡ some (send Q_DIR (send L_PACKET rest))
  pub allowed : value_of (field_bits s 2 (at + 8)) ≤ 2
  pub counts : m ≡ 3 + fields
  pub body : Filled s at long (value_of (field_bits s 2 (at + 8))) rest fields

module _ {s : List ℕ} {at long m : ℕ} (k : Kept s at long m) where
  pub kept_long : 23 ≤ long
  kept_long = filled_long k.body

  pub kept_some : 0 < m
  kept_some = omega (arith, k.counts)

  -- where it collides with none, the telegram stands behind it
  pub kept_packet : {n pig : ℕ} {l : List Earlier} {count : ℕ} → Stood s n (between at pig l) count → long ≡ value_of (field_bits s 13 (at + 10))
      → false ≡ collides_among clash (value_of (field_bits s 8 at)) (value_of (field_bits s 2 (at + 8))) (packets_before s at) → at + long ≤ n
      → Stood s n (between (at + long) pig (record { id = value_of (field_bits s 8 at); dir = value_of (field_bits s 2 (at + 8)) } ∷ l)) (count + m)
  kept_packet {count = count} i e f h =
      let g = kept_long in
      let c : count + 3 + k.fields ≡ count + m = omega (arith, k.counts) in
      rw (← c)
      (filled_packet i (record { named = refl; directed = refl; sized = e; found = k.found; allowed = k.allowed; alone = f }) h k.body)

-- ---- the head in the window

-- what stands in front of a window
pub front_is : {s : List ℕ} {at w : ℕ} → Ahead s at w → (b : ℕ) → b ≤ 57 → at + b ≤ 8 * length s → value_of (field_bits s b at) ≡ behind w 0 b
front_is a b h room = sym (rw add-zero at (a.part 0 b (omega arith) (omega arith)))

module _ {s : List ℕ} {at w : ℕ} (a : Ahead s at w) (room : at + 23 ≤ 8 * length s) where
  pub id_is : value_of (field_bits s 8 at) ≡ behind w 0 8
  id_is = front_is a 8 (omega arith) (omega arith)

  pub dir_is : value_of (field_bits s 2 (at + 8)) ≡ behind w 8 2
  dir_is = sym (a.part 8 2 (omega arith) (omega arith))

  pub long_is : value_of (field_bits s 13 (at + 10)) ≡ behind w 10 13
  long_is = sym (a.part 10 13 (omega arith) (omega arith))

  pub kept_by : (id : ℕ) {rest : Items} → find id etcs ≡ some (send Q_DIR (send L_PACKET rest)) → behind w 0 8 ≡ id → behind w 8 2 ≤ 2
      → {long k m : ℕ} → Filled s at long (value_of (field_bits s 2 (at + 8))) rest k → m ≡ 3 + k → Kept s at long m
  kept_by id f e d p c =
      record { rest = _; fields = _; found = ap (λ (i : ℕ). find i etcs) (id_is ∙ e) ∙ f; allowed = rw dir_is d; counts = c; body = p }

-- the Q_DIR of such a packet
pub kept_way : {s : List ℕ} {at w long m : ℕ} → Ahead s at w → Kept s at long m → at + long ≤ 8 * length s → behind w 8 2 ≤ 2
kept_way a k h = let l = kept_long k in rw (dir_is a (omega arith)) at k.allowed

-- ---- ETCS-44

found_44 : find 44 etcs ≡ some (Q_DIR ▸ L_PACKET ▸ nest)
unfolding find etcs
found_44 = refl

module _ {s : List ℕ} {at w long : ℕ} (a : Ahead s at w) (room : at + long ≤ 8 * length s) (dir : behind w 8 2 ≤ 2)
    (e : behind w 0 8 ≡ 44) (alike : behind w 32 2 ≡ behind w 8 2) (inner : long ≡ behind w 34 13 + 23) where
  -- with any CTCS packet behind whose head something stands
  pub kept_44 : (user : ℕ) {r : Items} → find user ctcs ≡ some (send Q_DIR (send L_PACKET r)) → behind w 23 9 ≡ user → T (going r)
      → {k : ℕ} → Passed s r (at + 47) k end (at + long) → Kept s at long (6 + k)
  kept_44 user {r} f u g {k} p =
      let h = passed_grows p in
      let name : user ≡ value_of (field_bits s 9 (at + 23)) = sym u ∙ a.part 23 9 (omega arith) (omega arith) in
      let there : at + 23 + 9 ≡ at + 32 = omega arith in
      let way : value_of (field_bits s 2 (at + 8)) ≡ value_of (field_bits s 2 (at + 23 + 9)) =
      dir_is a (omega arith) ∙ sym alike ∙ rw there (a.part 32 2 (omega arith) (omega arith)) in
      let further : at + 23 + 11 ≡ at + 34 = omega arith in
      let size : behind w 34 13 ≡ value_of (field_bits s 13 (at + 23 + 11)) = rw further (a.part 34 13 (omega arith) (omega arith)) in
      kept_by a (omega arith) 44 found_44 e dir
      (carries (record { user = user; named = name; found = f; alike = way; sized = size; more = g }) inner p) (omega arith)
