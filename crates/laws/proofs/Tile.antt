-- The parts of a telegram tile it: 50 bits of header, the bits of each packet, and 8 of the end mark. Assumes nothing.
use mathlib.Core.Bool.{Bool, true, false, cond}
use mathlib.Core.List.{List, [], ◌∷◌, ◌++◌}
use mathlib.Core.Option.{some}
use mathlib.Core.Path.{◌≡◌, refl, sym, ap, ◌∙◌}
use Prim.Native.Nat.{ℕ, ◌+◌}
use native.Mathlib.Omega.{arith}
use lib.Dec.{eqb}
use lib.ListN.{length, length-append}
use Rattle.format.specs.Fields.{Field, NID_PACKET, END}
use Rattle.format.specs.Packets.{Items, header}
use Rattle.format.specs.Packets.Items.{end, nest, send, send_if, send_either, send_times}
use Rattle.format.specs.Rules.{State, Terms, begun, due, named, next}
use Rattle.format.specs.Telegrams.{Entry, entry, bits, bit_count, values, values_in, begins, Divided, before, divided, Run, Telegram}
use Rattle.format.specs.Telegrams.Run.{last, more}
use Rattle.laws.proofs.Sources.{width_named}
use Rattle.laws.proofs.Round.{before_mark, all_append}
use Rattle.laws.proofs.Demand2.{length_bits}
use Rattle.laws.proofs.Steps.{go_next, over_mark}

-- the end mark
abbrev pub end_mark : Entry
end_mark = record { field = END; value = 255 }

-- the bits of each packet, added up
abbrev pub bit_counts : List (List Entry) → ℕ
bit_counts [] = 0
bit_counts (es ∷ ps) = bit_count es + bit_counts ps

-- one after another again
abbrev pub joined : List (List Entry) → List Entry
joined [] = []
joined (es ∷ ps) = es ++ joined ps

-- ---- dividing loses nothing

pub divided_joined : (es : List Entry) → (divided es).header ++ joined (divided es).packets ≡ es
unfolding divided
divided_joined [] = refl
divided_joined (e ∷ es) = by_test (begins e) (divided es) (divided_joined es)
  where
    by_test : (b : Bool) (d : Divided) → d.header ++ joined d.packets ≡ es
        → (before b e d).header ++ joined (before b e d).packets ≡ e ∷ es
    by_test true d h = ap (λ (l : List Entry). e ∷ l) h
    by_test false d h = ap (λ (l : List Entry). e ∷ l) h

pub bit_count_append : (es fs : List Entry) → bit_count (es ++ fs) ≡ bit_count es + bit_count fs
bit_count_append [] fs = omega arith
bit_count_append (e ∷ es) fs = let h = bit_count_append es fs in omega arith

-- one entry more
pub bits_more : (es : List Entry) (e : Entry) → bit_count (es ++ (e ∷ [])) ≡ bit_count es + e.field.width
bits_more es e = omega (arith, bit_count_append es (e ∷ []))

pub values_more : (es : List Entry) (e : Entry) → length (values (es ++ (e ∷ []))) ≡ length (values es) + 1
unfolding values_in
values_more es e = rw (all_append values_in es (e ∷ []), length-append (values es) (e.value ∷ []))

pub bit_count_joined : (ps : List (List Entry)) → bit_count (joined ps) ≡ bit_counts ps
bit_count_joined [] = refl
bit_count_joined (es ∷ ps) = rw (bit_count_append es (joined ps), bit_count_joined ps)

pub bit_count_divided : (es : List Entry) → bit_count es ≡ bit_count (divided es).header + bit_counts (divided es).packets
bit_count_divided es =
    let d = divided es in
    ap bit_count (sym (divided_joined es)) ∙ bit_count_append d.header (joined d.packets) ∙ ap (λ (n : ℕ). bit_count d.header + n) (bit_count_joined d.packets)

pub bit_counts_append : (ps qs : List (List Entry)) → bit_counts (ps ++ qs) ≡ bit_counts ps + bit_counts qs
bit_counts_append [] qs = omega arith
bit_counts_append (es ∷ ps) qs = let h = bit_counts_append ps qs in omega arith

-- ---- the last part is the end mark

abbrev Marked : List (List Entry) → Type 0
Marked parts = (ps : List (List Entry)) × (parts ≡ ps ++ ((end_mark ∷ []) ∷ []))

mark_is : (t : Items) (v : ℕ) → t ≡ end → v ≡ 255 → ◌≡◌ {A = Entry} (record { field = named t v; value = v }) end_mark
mark_is t v i j = rw (i, j)

mark_alone : (e : Entry) → e ≡ end_mark → Marked (divided (e ∷ [])).packets
unfolding divided
mark_alone e i = rw i ([], refl)

mark_after : (b : Bool) (e : Entry) (d : Divided) → Marked d.packets → Marked (before b e d).packets
mark_after true e d m = ((e ∷ d.header) ∷ m.0, ap (λ (l : List (List Entry)). (e ∷ d.header) ∷ l) m.1)
mark_after false e d m = m

module _ (p : Terms) where
  marked : {s : State} {es : List Entry} → Run p s es → Marked (divided es).packets
  unfolding divided
  marked (last {s = s} {v = v} f e) =
      let m = over_mark p s v e in
      mark_alone (entry s v) (mark_is s.todo v m.0 m.1)
  marked (more {s = s} {v = v} {es = es} f e r) = mark_after (begins (entry s v)) (entry s v) (divided es) (marked r)

  -- it begins 8 bits before the end of the run
  pub mark_at : {s : State} {es : List Entry} (r : Run p s es) → (before_mark r).at + 8 ≡ s.at + bit_count es
  unfolding before_mark
  mark_at (last {s = s} {v = v} f e) =
      let w = width_named s.todo v ∙ ap (λ (t : Items). (due t).width) (over_mark p s v e).0 in
      omega arith
  mark_at (more {s = s} {v = v} f e r) =
      let w = width_named s.todo v in
      let h = mark_at r in
      omega arith

-- ---- the header

-- fields in a row, of which none begins a packet
abbrev pub Plain : Items → Type 0
Plain end = Unit
Plain nest = ⊥
Plain (send f r) = (begins (record { field = f; value = 0 }) ≡ false) × Plain r
Plain (send_if c f r) = ⊥
Plain (send_either c a b) = ⊥
Plain (send_times c g r) = ⊥

abbrev pub widths : Items → ℕ
widths end = 0
widths nest = 0
widths (send f r) = f.width + widths r
widths (send_if c f r) = 0
widths (send_either c a b) = 0
widths (send_times c g r) = 0

pub sent_next : (f : Field) (r t : Items) (v : ℕ) → next (send f r) v ≡ some t → t ≡ r
unfolding next
sent_next f r t v h = cc

-- where nothing is left to send, a packet or the end mark begins
end_begins : (t : Items) (v : ℕ) → t ≡ end → begins (record { field = named t v; value = v }) ≡ true
end_begins t v i = rw i (by_test (eqb v 255))
  where
    by_test : (b : Bool) → begins (record { field = cond b END NID_PACKET; value = v }) ≡ true
    by_test true = refl
    by_test false = refl

module _ (p : Terms) where
  header_is : (t : Items) → Plain t → {s : State} {es : List Entry} → Run p s es → s.todo ≡ t → bit_count (divided es).header ≡ widths t
  unfolding divided
  header_is end h (last {s = s} {v = v} f e) i = rw (end_begins s.todo v i)
  header_is end h (more {s = s} {v = v} f e r) i = rw (end_begins s.todo v i)
  header_is (send g t) h (last {s = s} {v = v} f e) i =
      let m = over_mark p s v e in
      let j : s.todo ≡ end = m.0 in
      cc
  header_is (send g t) h (more {s = s} {v = v} {t = u} {c = c} {es = es} f e r) i =
      let j : u ≡ t = sent_next g t u v (rw i at (go_next p s v u c e)) in
      rw (i, h.0, header_is t h.1 r j)
  header_is nest h r i = absurd h
  header_is (send_if c g t) h r i = absurd h
  header_is (send_either c a b) h r i = absurd h
  header_is (send_times c g t) h r i = absurd h

pub header_plain : Plain header
unfolding header
header_plain = (refl, (refl, (refl, (refl, (refl, (refl, (refl, (refl, (refl, (refl, tt))))))))))

-- ---- together

-- 50 bits of header, the packets, and 8 bits of the end mark
pub record Tiled (es : List Entry) : Type 0 where
  pub packets : List (List Entry)
  pub parts : (divided es).packets ≡ packets ++ ((end_mark ∷ []) ∷ [])
  pub header : bit_count (divided es).header ≡ 50
  pub mark : bit_count (end_mark ∷ []) ≡ 8
  pub all : length (bits es) ≡ 50 + bit_counts packets + 8

pub tiled : (p : Terms) {es : List Entry} → Telegram p es → Tiled es
unfolding header begun
tiled p {es} r =
    let m = marked p r in
    let h : bit_count (divided es).header ≡ 50 = header_is p header header_plain r refl in
    let s : bit_counts (divided es).packets ≡ bit_counts m.0 + 8 = ap bit_counts m.1 ∙ bit_counts_append m.0 ((end_mark ∷ []) ∷ []) in
    record { packets = m.0; parts = m.1; header = h; mark = refl; all = length_bits es ∙ bit_count_divided es ∙ omega arith }
