-- What the loop over whole packets goes by: the telegram stands at a packet's edge. Assumes nothing.
use Rattle.std.specs.Prelude.{Ok, Some}
use mathlib.Core.Bool.{Bool, true, false}
use mathlib.Core.Logic.{◌⊎◌, inl, inr, ⊎_elim}
use mathlib.Core.List.{List}
use mathlib.Core.Path.{◌≡◌, refl, sym, ◌∙◌}
use Prim.Native.Nat.{ℕ, ◌+◌, ◌*◌, ◌≤◌, ◌<◌}
use native.Mathlib.Omega.{arith}
use lib.ListN.{length}
use Rattle.bits.specs.Ahead.{behind}
use Rattle.bits.specs.Bits.{value_of}
use Rattle.bits.specs.Take.{field_bits}
use Rattle.bits.proofs.Fields.{taken, field_in_field}
use Rattle.bits.proofs.Sight.{Ahead}
use Rattle.format.specs.Rules.{Earlier, clash, collides_among, paper}
use Rattle.format.specs.Table.{words}
use Rattle.format.specs.Telegrams.{read}
use Rattle.states.specs.Heads.{Fronted, pig_in, front_of}
use Rattle.states.specs.Lookback.{packets_before}
use Rattle.states.specs.Machine.{fresh_at}
use Rattle.states.specs.Reader.{answer_of}
use Rattle.states.specs.declared.State as machine
use Rattle.states.proofs.Front.{front_started}
use Rattle.states.proofs.Fronting.{scans_fronted}
use Rattle.states.proofs.Scanning.{Scans, telegram_bits}
use Rattle.passing.proofs.Stood.{Stood, between, fresh_stood, stood_scans, stood_over}
use Rattle.passing.proofs.Sorts.{Kept, kept_long, kept_packet, front_is, id_is, dir_is, long_is}

-- after so many values, before the packet or the end mark at the bit at
pub record Edge (s : List ℕ) (n at count : ℕ) : Type 0 where
  pub pig : ℕ
  pub earlier : List Earlier
  pub stood : Stood s n (between at pig earlier) count
  pub known : pig ≡ value_of (field_bits s 3 9)
  pub behind : 50 ≤ at

-- ---- behind the header

module _ (s : List ℕ) (n : ℕ) {after : machine.State} (e : front_of s n ≡ Some after) where
  fronted : Fronted s n after
  fronted = rw e at (front_started s n)

  pig_in_lem : pig_in fronted.bits ≡ value_of (field_bits s 3 9)
  pig_in_lem =
      let f = taken s n 25 0 fronted.bits (record { at = 25 }) fronted.field in
      let r = f.room in
      let l = fronted.room in
      rw f.value (sym (field_in_field s 0 9 3 13 (omega arith)))

  -- the N_PIG that the state behind it has
  pub pig_first : after.pig ≡ value_of (field_bits s 3 9)
  pig_first = rw fronted.state pig_in_lem

  pub edge_first : n ≤ 830 → Edge s n 50 10
  edge_first low =
      let f = taken s n 25 0 fronted.bits (record { at = 25 }) fronted.field in
      let i = rw fronted.state at (scans_fronted s n words low f.room refl fronted) in
      record { pig = _; earlier = _; stood = fresh_stood i; known = pig_in_lem; behind = omega arith }

  pub front_at : after.at ≡ 50
  front_at = rw fronted.state

  -- at the bit where the state is that it leads to
  pub edge_front : n ≤ 830 → Edge s n after.at 10
  edge_front low = rw fronted.state (edge_first low)

-- ---- from edge to edge

module _ {s : List ℕ} {n at count : ℕ} (i : Edge s n at count) where
  module _ {w : ℕ} (a : Ahead s at w) where
    -- behind a packet that keeps its rules and collides with none
    pub edge_on : {long m : ℕ} → Kept s at long m → long ≡ behind w 10 13 → at + long ≤ n
        → false ≡ collides_among clash (behind w 0 8) (behind w 8 2) (packets_before s at) → Edge s n (at + long) (count + m)
    edge_on {long} {m} k e h f =
        let g = kept_long k in
        let r : at + 23 ≤ 8 * length s = omega (arith, i.stood.wide) in
        record {
          pig = _;
          earlier = _;
          stood = kept_packet k i.stood (e ∙ sym (long_is a r)) (rw (id_is a r, dir_is a r) f) h;
          known = i.known;
          behind = omega (arith, i.behind);
        }

    -- at the end mark
    pub edge_over : at + 8 ≡ n → behind w 0 8 ≡ 255 → Ok (count + 1) ≡ answer_of (read paper (telegram_bits s n))
    edge_over e m = stood_over i.stood (front_is a 8 (omega arith) (omega (arith, i.stood.wide)) ∙ m) e

  pub edge_scans : {rows : List ℕ} {pig : ℕ} → rows ≡ words → pig ≡ value_of (field_bits s 3 9)
      → Scans s n rows (fresh_at at pig) (record { at = at }) count
  edge_scans {pig = pig} t e = let z : pig ≡ i.pig = e ∙ sym i.known in rw z (stood_scans t i.stood)

  pub edge_within : at ≤ n
  edge_within = i.stood.within

  pub edge_few : count ≤ at
  edge_few = i.stood.few

-- ---- where the loop ends

-- over: the telegram is accepted with so many values; else not even the header is passed, or it stands at a packet's edge
abbrev pub Sweeps : List ℕ → ℕ → ℕ → ℕ → Bool → Type 0
Sweeps s n at count true = Ok count ≡ answer_of (read paper (telegram_bits s n))
Sweeps s n at count false = ((at ≡ 0) × (count ≡ 0)) ⊎ Edge s n at count

module _ {s : List ℕ} {n at count : ℕ} (w : Sweeps s n at count false) where
  -- from an edge on
  pub sweeps_on : 0 < at → {rows : List ℕ} {pig : ℕ} → rows ≡ words → pig ≡ value_of (field_bits s 3 9)
      → Scans s n rows (fresh_at at pig) (record { at = at }) count
  sweeps_on h t e = ⊎_elim (λ z. absurd (omega (arith, z.0))) (λ i. edge_scans i t e) w

  -- from the first field on
  pub sweeps_none : at ≤ 0 → count ≡ 0
  sweeps_none h = ⊎_elim (λ z. z.1) (λ i. absurd (omega (arith, i.behind))) w
