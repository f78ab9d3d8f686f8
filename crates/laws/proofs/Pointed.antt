-- Every refusal names the place of the field that it is about: in reading and in writing, for any rule of collisions. Assumes nothing.
use mathlib.Core.Bool.{Bool, true, false}
use mathlib.Core.List.{List, [], ◌∷◌, ◌++◌, append_assoc, append-nil}
use mathlib.Core.Path.{◌≡◌, refl, sym, ap, ◌∙◌, subst, subst₂}
use Prim.Native.Nat.{ℕ, ◌≤◌, ◌^◌}
use native.Mathlib.Omega.{arith}
use lib.Dec.{leb, ltb}
use lib.ListN.{length}
use Rattle.bits.specs.Bits.{Below}
use Rattle.format.specs.Fields.{Field}
use Rattle.format.specs.Packets.{Items, header}
use Rattle.format.specs.Packets.Items.{end}
use Rattle.format.specs.Rules.{State, Context, Terms, Level, Next, begun, step, field, past, rule_of, noted, fresh, moved, spot_of, spot_at, place_from, field_place}
use Rattle.format.specs.Rules.Next.{go, breaks}
use Rattle.format.specs.Telegrams.{Entry, entry, Taken, got_if, fitted, from_bits, from_values, bits_in, values_in, all, bit_count, refusal, read, write}
use Rattle.format.specs.Telegrams.Result.{refused}
use Rattle.format.specs.Telegrams.Taken.{got, lacks}
use Rattle.format.specs.declared.Kind.{Kind}
use Rattle.format.specs.declared.Kind.TheVariants.{Ended, Length, Trailing, Wide, Full}
use Rattle.format.specs.declared.Refusal.{Refusal}
use Rattle.laws.proofs.Sources.{Source, Sent, Listed, from_bits_lem, from_values_lem, width_named}
use Rattle.laws.proofs.Round.{all_append}
use Rattle.laws.proofs.Refused.{Refused, read_decides, write_decides}
use Rattle.laws.proofs.Refused as refusals
use Rattle.laws.proofs.Steps.{Stepped, stepped}
use Rattle.laws.proofs.Steps.Settled.{on, closed, misfitted}
use Rattle.laws.proofs.Steps.Stepped.{forbidden, marked, noticed}
use Rattle.laws.proofs.Tile.{bit_count_append}
use Rattle.laws.proofs.Headed.{header_fields}
use Rattle.laws.proofs.Points.{Sends, Wrong, Offends, Missing, Points, Pointed}
use Rattle.laws.proofs.Points.Sends.{nothing, one_more}
use Rattle.laws.proofs.Points.Offends.{in_header_lem, packet_name, user_name, in_packet_lem, in_user_lem, user_direction, packet_direction}
use Rattle.laws.proofs.Points.Missing.{ended, wide, full}
use Rattle.laws.proofs.Points.Points.{lacking, breaking, sizing, trailing}
use Rattle.laws.proofs.Standing.{Stands, stands_next}
use Rattle.laws.proofs.Standing.Amid.{amid_header}
use Rattle.laws.proofs.Standing.Stands.{between, amid}
use Rattle.laws.proofs.Offending.{wrong, offends}

-- the terms that give a refusal the place of its field, whatever collides
abbrev pub pointing : (Context → ℕ → Bool) → Terms
pointing collides = record { place_of = field_place; collides = collides }

-- ---- one field more

-- it ends where the entries do, and they stand as before
module _ (p : Terms) (es : List Entry) (s : State) (v : ℕ) (a : s.at ≡ bit_count es) where
  pub past_bits : past s ≡ bit_count (es ++ (entry s v ∷ []))
  past_bits = let w = width_named s.todo v in let b = bit_count_append es (entry s v ∷ []) in omega arith

  pub stands_on : (t : Items) (c : Context) → Stands es s → step p s v ≡ go t c → Stands (es ++ (entry s v ∷ [])) (moved s t c)
  stands_on t c h e = by_way (stepped p s v) e
    where
      by_way : {n : Next} → Stepped p s v n → n ≡ go t c → Stands (es ++ (entry s v ∷ [])) (moved s t c)
      by_way (forbidden b) i = let z : ◌≡◌ {A = ℕ} 0 1 = cc in absurd (omega arith)
      by_way (marked b j) i = let z : ◌≡◌ {A = ℕ} 0 1 = cc in absurd (omega arith)
      by_way (noticed {t = u} b j (on g)) i =
          let eu : u ≡ t = cc in
          let ec : noted (rule_of (field s).sense) s.context s.at v ≡ c = cc in
          rw (← eu, ← ec) (amid g (stands_next p es s v u a h b j).amid)
      by_way (noticed b j (closed k)) i =
          let et : end ≡ t = cc in
          let ec : fresh (past s) (noted (rule_of (field s).sense) s.context s.at v) ≡ c = cc in
          rw (← et, ← ec) (between refl refl refl)
      by_way (noticed b j (misfitted k f)) i = let z : ◌≡◌ {A = ℕ} 0 1 = cc in absurd (omega arith)

-- its part of the source
pub one_front : {whole : List ℕ} (part : Entry → List ℕ) (es : List Entry) (e : Entry) (ys : List ℕ) → whole ≡ all part es ++ (part e ++ ys)
    → whole ≡ all part (es ++ (e ∷ [])) ++ ys
one_front part es e ys i = rw (all_append part es (e ∷ []), append-nil (part e), append_assoc (all part es) (part e) ys) i

-- a field is due where the entries that were sent end
pub sends_at : {p : Terms} {es : List Entry} {s : State} → Sends p es s → s.at ≡ bit_count es
unfolding begun
sends_at nothing = refl
sends_at {p} (one_more {es = es} {s = s} v h f e) = past_bits p es s v (sends_at h)

-- ---- the place of each kind

missing_place : {k : Kind} (s : State) → Missing k → field_place k s ≡ s.at
unfolding field_place place_from spot_of spot_at
missing_place s ended = refl
missing_place s wide = refl
missing_place s full = refl

offends_place : {k : Kind} {f : Field} {l : Level} (s : State) → Offends k f l → field_place k s ≡ s.at
unfolding field_place place_from spot_of spot_at
offends_place s in_header_lem = refl
offends_place s packet_name = refl
offends_place s user_name = refl
offends_place s in_packet_lem = refl
offends_place s in_user_lem = refl
offends_place s user_direction = refl
offends_place s packet_direction = refl

trailing_place : (s : State) → field_place Trailing s ≡ past s
unfolding field_place place_from spot_of spot_at
trailing_place s = refl

length_place : (s : State) → field_place Length s ≡ place_from Length s.at (past s) s.context
unfolding field_place
length_place s = refl

-- ---- from any source

module _ (collides : Context → ℕ → Bool) (source : State → List ℕ → Taken) (part : Entry → List ℕ) (Good : State → List ℕ → Type 0)
    (law : Source source part Good) (missing : (s : State) (xs : List ℕ) (k : Kind) → source s xs ≡ lacks k → Missing k) where
  abbrev p : Terms
  p = pointing collides

  broken_points : (es : List Entry) (s : State) (v : ℕ) (xs ys : List ℕ) (k : Kind) → s.at ≡ bit_count es → Stands es s
      → source s xs ≡ got v ys → step p s v ≡ breaks k → Points p source es s xs (refusal p k s)
  broken_points es s v xs ys k a h e f = by_way (stepped p s v) f
    where
      by_way : {n : Next} → Stepped p s v n → n ≡ breaks k → Points p source es s xs (refusal p k s)
      by_way (forbidden {k = m} b) i =
          let ek : m ≡ k = cc in
          let o = offends p s v k h (rw ek at b) in
          rw (offends_place s o ∙ a) (breaking e f o)
      by_way (marked b j) i = let z : ◌≡◌ {A = ℕ} 0 1 = cc in absurd (omega arith)
      by_way (noticed b j (on g)) i = let z : ◌≡◌ {A = ℕ} 0 1 = cc in absurd (omega arith)
      by_way (noticed b j (closed g)) i = let z : ◌≡◌ {A = ℕ} 0 1 = cc in absurd (omega arith)
      by_way (noticed {t = u} b j (misfitted g q)) i =
          let ek : Length ≡ k = cc in
          let d : Context = noted (rule_of (field s).sense) s.context s.at v in
          let after = stands_next p es s v u a h b j in
          let still = after.still g in
          let w = wrong (past s) d (past_bits p es s v a) s.at (rw g at after.amid) q in
          rw (← ek, length_place s)
          (sizing e (rw (← ek) at f) (subst₂ (λ l x. Wrong (es ++ (entry s v ∷ [])) l x) (sym still.level) (sym (still.place s.at (past s))) w))

  module _ (whole : List ℕ) where
    pointed_from : {s : State} {xs : List ℕ} {r : Refusal} (es : List Entry) → Refused p source s xs r → Sends p es s → Stands es s
        → whole ≡ all part es ++ xs → Good s xs → Pointed p source part whole r
    pointed_from es (refusals.lacking {s = s} {xs = xs} {k = k} e) sends h i g =
        let m = missing s xs k e in
        rw (missing_place s m ∙ sends_at sends) (record { sent = es; state = s; left = xs; sends = sends; front = i; points = lacking e m })
    pointed_from es (refusals.breaking {s = s} {v = v} {xs = xs} {ys = ys} {k = k} e f) sends h i g =
        record { sent = es; state = s; left = xs; sends = sends; front = i; points = broken_points es s v xs ys k (sends_at sends) h e f }
    pointed_from es (refusals.trailing {s = s} {v = v} {xs = xs} e f) sends h i g =
        rw (trailing_place s ∙ past_bits p es s v (sends_at sends))
        (record { sent = es; state = s; left = xs; sends = sends; front = i; points = trailing e f })
    pointed_from es (refusals.later {s = s} {v = v} {xs = xs} {ys = ys} {t = t} {c = c} e f q) sends h i g =
        let had = law.taken s v xs ys g e in
        pointed_from (es ++ (entry s v ∷ [])) q (one_more v sends had.fits f) (stands_on p es s v (sends_at sends) t c h f)
        (one_front part es (entry s v) ys (i ∙ ap (λ (l : List ℕ). all part es ++ l) had.front)) (had.good t c)

-- ---- reading and writing

-- the header is due
pub begun_stands : Stands [] begun
unfolding begun header
begun_stands = amid tt (amid_header refl header_fields)

bits_missing : (s : State) (bs : List ℕ) (k : Kind) → from_bits s bs ≡ lacks k → Missing k
unfolding from_bits
bits_missing s bs k e = by_test (leb (field s).width (length bs)) _ _ e
  where
    by_test : (b : Bool) (v : ℕ) (ys : List ℕ) → got_if b Ended v ys ≡ lacks k → Missing k
    by_test true v ys i = let z : ◌≡◌ {A = ℕ} 0 1 = cc in absurd (omega arith)
    by_test false v ys i = let j : Ended ≡ k = cc in subst Missing j ended

values_missing : (s : State) (vs : List ℕ) (k : Kind) → from_values s vs ≡ lacks k → Missing k
unfolding from_values
values_missing s [] k e = let j : Ended ≡ k = cc in subst Missing j ended
values_missing s (v ∷ vs) k e = by_tests (ltb v (2 ^ (field s).width)) (leb (past s) 830) e
  where
    by_tests : (a b : Bool) → fitted a b v vs ≡ lacks k → Missing k
    by_tests true true i = let z : ◌≡◌ {A = ℕ} 0 1 = cc in absurd (omega arith)
    by_tests true false i = let j : Full ≡ k = cc in subst Missing j full
    by_tests false b i = let j : Wide ≡ k = cc in subst Missing j wide

module _ (collides : Context → ℕ → Bool) where
  -- "Refusals 4 to 13 shall give the bit where the offending field begins", in reading
  pub read_pointed : (bs : List ℕ) → Below 2 bs → length bs ≤ 830 → (r : Refusal) → read (pointing collides) bs ≡ refused r
      → Pointed (pointing collides) from_bits bits_in bs r
  unfolding begun
  read_pointed bs b n r e =
      pointed_from collides from_bits bits_in Sent from_bits_lem bits_missing bs [] (((read_decides (pointing collides) bs b n).refuses r).0 e) nothing
      begun_stands refl (record { bits = b; room = omega arith })

  -- and in writing
  pub write_pointed : (vs : List ℕ) (r : Refusal) → write (pointing collides) vs ≡ refused r
      → Pointed (pointing collides) from_values values_in vs r
  write_pointed vs r e =
      pointed_from collides from_values values_in Listed from_values_lem values_missing vs [] (((write_decides (pointing collides) vs).refuses r).0 e) nothing
      begun_stands refl tt
