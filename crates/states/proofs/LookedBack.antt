-- Looking back over bits finds just the packets that were sent: those that stand whole among the entries (`Whole` of the crate laws). Assumes nothing.
use Rattle.std.specs.Prelude.{Some, Result, Option}
use mathlib.Core.Bool.{Bool}
use mathlib.Core.List.{List, [], ◌∷◌, ◌++◌, append_assoc, append-nil, reverse, reverse-cons}
use mathlib.Core.Path.{◌≡◌, sym, ap, ◌∙◌}
use Prim.Native.Nat.{ℕ, suc, ◌+◌, ◌*◌, ◌-◌, ◌≤◌, ◌<◌}
use native.Mathlib.Nat.{add-zero}
use native.Mathlib.Omega.{arith}
use lib.ListN.{length, take, drop, length-append}
use lib.Seq.{take_at, drop_at}
use Rattle.bits.specs.Bits.{digits, value_of, bits_of}
use Rattle.bits.specs.Take.{field_bits, taken_at}
use Rattle.bits.specs.declared.Cursor.{Cursor}
use Rattle.bits.proofs.Bytes.{length_bits_of}
use Rattle.bits.proofs.Digits.{length_digits, value_of_append, value_of_digits}
use Rattle.bits.proofs.Fields.{take_whole, take_past}
use Rattle.format.specs.Among.{holding}
use Rattle.format.specs.Fields.{NID_PACKET}
use Rattle.format.specs.Fields.Rule.{direction}
use Rattle.format.specs.Rules.{Earlier, rule_of, clash, collides_among, collides_by}
use Rattle.format.specs.Telegrams.{Entry, bits, bits_in, bit_count}
use Rattle.laws.proofs.Demand2.{length_bits}
use Rattle.laws.proofs.Round.{all_append}
use Rattle.laws.proofs.Tile.{bit_count_append}
use Rattle.laws.proofs.Stages.{sends_directs}
use Rattle.laws.proofs.Whole.{Whole, headed}
use Rattle.laws.proofs.Whole.Whole.{front, then}
use Rattle.states.specs.Lookback.{packets_before, id_in, dir_in, long_in, hopped, repeats}
use Rattle.states.specs.Machine.{context_of, level_of, rule_at, Stepped}
use Rattle.states.specs.declared.Level.TheVariants.{Packet}
use Rattle.states.specs.declared.State.{State}
use Rattle.states.proofs.Directions.{Passed, passes, repeats_so}
use Rattle.states.proofs.Colliding.{found_back}
use Rattle.states.proofs.Hopping.{hopped_head, hopped_short}
use Rattle.states.proofs.Scanning.{Scans, telegram_bits, inside_take, field_is}
use Rattle.format.specs.Fields as fields
use Rattle.laws.proofs.Whole as whole
use Rattle.format.specs.declared.Kind.{Kind}

-- ---- over bits

-- the three fields of a head, in one number
head_joined : (i d m : ℕ) → i < 256 → d < 4 → m < 8192 → value_of (digits 8 i ++ (digits 2 d ++ digits 13 m)) ≡ (i * 4 + d) * 8192 + m
head_joined i d m hi hd hm =
    rw (
      value_of_append (digits 8 i) (digits 2 d ++ digits 13 m),
      value_of_append (digits 2 d) (digits 13 m),
      length-append (digits 2 d) (digits 13 m),
      length_digits 2 d,
      length_digits 13 m,
      value_of_digits 8 i hi,
      value_of_digits 2 d hd,
      value_of_digits 13 m hm,
    )
    (omega arith)

head_length : (i d m : ℕ) → length (digits 8 i ++ (digits 2 d ++ digits 13 m)) ≡ 23
head_length i d m =
    rw (length-append (digits 8 i) (digits 2 d ++ digits 13 m), length-append (digits 2 d) (digits 13 m), length_digits 8 i, length_digits 2 d, length_digits 13 m)

module _ (s : List ℕ) (n : ℕ) (wide : n ≤ 8 * length s) where
  module _ (b : List Entry) {i d m : ℕ} {body : List Entry} (p : whole.Packet i d m body) (ys : List ℕ) (f : telegram_bits s n ≡ bits (b ++ headed i d m body) ++ ys)
      (stop : ℕ) (h : bit_count b + 23 ≤ stop) (l : stop ≤ n) where
    abbrev head : List ℕ
    head = digits 8 i ++ (digits 2 d ++ digits 13 m)

    -- the bits from there on begin with them
    head_front : drop (bit_count b) (telegram_bits s n) ≡ head ++ (bits body ++ ys)
    unfolding bits_in
    head_front =
        rw (
          f,
          all_append bits_in b (headed i d m body),
          append_assoc (bits b) (bits (headed i d m body)) ys,
          drop_at (bits b) (bits (headed i d m body) ++ ys) (bit_count b) (length_bits b),
          append_assoc (digits 8 i) (digits 2 d ++ digits 13 m) (bits body ++ ys),
          append_assoc (digits 2 d) (digits 13 m) (bits body ++ ys),
          append_assoc (digits 8 i) (digits 2 d ++ (digits 13 m ++ bits body)) ys,
          append_assoc (digits 2 d) (digits 13 m ++ bits body) ys,
          append_assoc (digits 13 m) (bits body) ys,
        )

    head_value : value_of (field_bits s 23 (bit_count b)) ≡ (i * 4 + d) * 8192 + m
    head_value =
        ap value_of
        (sym (inside_take (bits_of s) n (bit_count b) 23 (omega arith) (rw (length_bits_of s) wide))
        ∙ ap (take 23) head_front
        ∙ take_at head (bits body ++ ys) 23 (head_length i d m))
        ∙ head_joined i d m p.began.small p.small_dir p.small_size

    head_taken : taken_at s stop 23 (bit_count b) ≡ Some ((i * 4 + d) * 8192 + m, record { at = bit_count b + 23 })
    head_taken =
        take_whole s stop 23 (bit_count b) (omega arith) h (omega arith)
        ∙ ap (λ (a : ℕ). Some (a, record { at = bit_count b + 23 })) head_value

  -- from the header's end the hops come to where whole packets end, past each of them once, in order of sending
  module _ (stop : ℕ) (within : stop ≤ n) where
    -- one hop
    hop : (k at a next : ℕ) {i d : ℕ} → taken_at s stop 23 at ≡ Some (a, record { at = at + 23 }) → id_in a ≡ i → dir_in a ≡ d → at + 23 + (long_in a - 23) ≡ next
        → hopped (suc k) s stop at ≡ record { id = i; dir = d } ∷ hopped k s stop next
    hop k at a next e ei ed en = hopped_head k s stop at a (record { at = at + 23 }) e ∙ rw (ei, ed, en)

    whole_hops : {b : List Entry} {l : List Earlier} → Whole b l → (ys : List ℕ) → telegram_bits s n ≡ bits b ++ ys → bit_count b ≤ stop → (k : ℕ)
        → hopped (k + length l) s stop 50 ≡ reverse l ++ hopped k s stop (bit_count b)
    whole_hops (front {es = es} e c) ys f h k = rw (e, add-zero k)
    whole_hops (then {es = b} {l = l} {i = i} {d = d} {n = m} {body = body} w p) ys f h k =
        let packet : Earlier = record { id = i; dir = d } in
        let sum : bit_count (b ++ headed i d m body) ≡ bit_count b + bit_count (headed i d m body) = bit_count_append b (headed i d m body) in
        let start = head_taken b p ys f stop (omega (arith, p.size)) within in
        let ih = whole_hops w (bits (headed i d m body) ++ ys) (f ∙ ap (λ (x : List ℕ). x ++ ys) (all_append bits_in b (headed i d m body)) ∙ append_assoc (bits b) _ ys) (omega arith) (suc k) in
        let a = (i * 4 + d) * 8192 + m in
        let ei : id_in a ≡ i = omega (arith, p.small_dir, p.small_size) in
        let ed : dir_in a ≡ d = omega (arith, p.small_dir, p.small_size) in
        let en : bit_count b + 23 + (long_in a - 23) ≡ bit_count (b ++ headed i d m body) = omega (arith, p.small_size, p.size) in
        let more : k + suc (length l) ≡ suc k + length l = omega arith in
        ap (λ (x : ℕ). hopped x s stop 50) more
        ∙ ih
        ∙ ap (λ (x : List Earlier). reverse l ++ x) (hop k (bit_count b) a _ start ei ed en)
        ∙ sym (append_assoc (reverse l) (packet ∷ []) (hopped k s stop (bit_count (b ++ headed i d m body))))
        ∙ ap (λ (x : List Earlier). x ++ hopped k s stop (bit_count (b ++ headed i d m body))) (sym (reverse-cons packet l))

  -- there are no more packets than bits
  whole_few : {b : List Entry} {l : List Earlier} → Whole b l → length l ≤ bit_count b
  whole_few (front e c) = omega arith
  whole_few (then {es = b} {i = i} {d = d} {n = m} {body = body} w p) =
      let ih = whole_few w in
      let sum : bit_count (b ++ headed i d m body) ≡ bit_count b + bit_count (headed i d m body) = bit_count_append b (headed i d m body) in
      omega arith

  -- so looking back from there finds just them, in order of sending
  pub whole_before : {b : List Entry} {l : List Earlier} → Whole b l → (ys : List ℕ) → telegram_bits s n ≡ bits b ++ ys → bit_count b ≤ n
      → packets_before s (bit_count b) ≡ reverse l
  whole_before {b} {l} w ys f h =
      let k = bit_count b - length l in
      let few = whole_few w in
      let fuel : bit_count b ≡ k + length l = omega arith in
      let none = hopped_short k s (bit_count b) (bit_count b) (take_past s (bit_count b) 23 (bit_count b) (omega arith) (omega arith)) in
      ap (λ (x : ℕ). hopped x s (bit_count b) 50) fuel ∙ whole_hops (bit_count b) h w ys f (omega arith) k ∙ rw none (append-nil (reverse l))

-- where a packet's Q_DIR is due, the hops find what the context has
module _ {s : List ℕ} {n : ℕ} {rows : List ℕ} {st : State} {c : Cursor} {count : ℕ} (i : Scans s n rows st c count) where
  pub looks_back : (v : ℕ) {r : Bool} → rule_at st.todo.node ≡ direction → st.level ≡ Packet → r ≡ collides_among clash st.id v (packets_before s st.start)
      → collides_by clash (context_of i.drives.earlier st) v ≡ r
  unfolding collides_by
  looks_back v k l e =
      let q = sends_directs i.drives.sends (ap (λ (f : fields.Field). rule_of f.sense) (field_is i) ∙ k) (ap level_of l) in
      let b = q.before in
      let mark = holding NID_PACKET q.name in
      let fs : telegram_bits s n ≡ bits b ++ (bits (mark ∷ []) ++ drop st.at (telegram_bits s n)) =
      i.drives.front
      ∙ ap (λ (es : List Entry). bits es ++ drop st.at (telegram_bits s n)) q.ends
      ∙ ap (λ (x : List ℕ). x ++ drop st.at (telegram_bits s n)) (all_append bits_in b (mark ∷ []))
      ∙ append_assoc (bits b) (bits (mark ∷ [])) (drop st.at (telegram_bits s n)) in
      let low : bit_count b ≤ n = omega (arith, i.drives.sound.first, i.within, q.start) in
      found_back st.id v i.drives.earlier (ap (packets_before s) q.start ∙ whole_before s n i.wide q.whole _ fs low) e

  -- so a step that is told whether they collide is the definition's
  pub scans_passed : (v : ℕ) {twice : Bool} {r : Result (Option State) Kind} → twice ≡ repeats st v (packets_before s st.start) → Stepped st v twice r
      → Passed i.drives.earlier st v r
  scans_passed v {twice} {r} t o = passes i.drives.earlier st v twice r (λ k l. looks_back v k l (repeats_so st v _ k l t)) o
