-- **A telegram is normalised by putting each of its packets over a copy of it**: from behind its header a walk by L_PACKET goes from packet to
-- packet, and comes to the end mark when all of them are put. Assumes nothing.
use mathlib.Core.List.{List, [], ◌∷◌, ◌++◌, append-nil}
use mathlib.Core.Path.{◌≡◌, refl, sym, ap, ap₂, ◌∙◌, subst}
use Prim.Native.Nat.{ℕ, zero, suc, ◌+◌, ◌-◌, ◌*◌, ◌≤◌}
use native.Mathlib.Omega.{arith}
use borrow.Author.Tests.{ne_eqb, lt-ltb, le-ltb, le-leb}
use lib.ListN.{length, take, drop, replicate, take-append-drop}
use lib.Seq.{length-take-le, take-append-le, drop_at}
use Rattle.bits.specs.Bits.{bits_of, bytes_for, bytes_of, Below}
use Rattle.bits.proofs.Bytes.{length_bits_of, length_bytes_of, below_drop, bits_of_append, bytes_of_bits_of}
use Rattle.format.specs.Normal.{normal}
use Rattle.format.specs.Rules.{Terms, paper}
use Rattle.format.specs.Telegrams.{Entry, bits, bit_count, Telegram}
use Rattle.format.specs.Telegrams.Result.{accepted}
use Rattle.laws.proofs.Demand2.{length_bits, below_bits}
use Rattle.laws.proofs.Demand3.{normal_size}
use Rattle.laws.proofs.Prefix.{bits_no_prefix}
use Rattle.laws.proofs.Tile.{end_mark, bit_count_append, tiled}
use Rattle.laws.proofs.Told.{AllFair, fair, fair_after}
use Rattle.laws.proofs.Whole.{headed}
use Rattle.states.specs.Normaliser.{Telling, Patching, Normalised}
use Rattle.states.specs.Writer.{bytes_over}
use Rattle.states.proofs.Laying.{bytes_behind, few_bits}
use Rattle.states.proofs.Patching.{copy_behind}
use Rattle.states.proofs.Telling.{fits_in, patchable, told_over}
use Rattle.copying.specs.Copies.{copied_to}
use Rattle.telling.proofs.InOrder.{InOrder, laid}
use Rattle.telling.proofs.InOrder.InOrder.{no_more, packet_then}
use Rattle.telling.proofs.AtBits.{AtBit, at_front, at_behind, at_all, fair_front}
use Rattle.telling.proofs.Decided.{packet_at, behind_at}
use Rattle.telling.proofs.MetresThere.{packet_hop, packet_count}
use Rattle.told.specs.Decides.{packet_put, packet_end}
use Rattle.told.specs.Metres.{number_in, each_put}
use Rattle.retelling.specs.Retold.{each_packet, patched_to}
use Rattle.retelling.proofs.Packets.{patched_is}
use Rattle.told.proofs.ByNumber.{telegram_in_metres}

-- ---- a walk

-- so many packets from the bit x on, each with its head at least, lead to the bit y
abbrev pub Walks : List ℕ → ℕ → ℕ → ℕ → Type 0
Walks s zero x y = x ≡ y
Walks s (suc k) x y = (x + 23 ≤ packet_end s x) × Walks s k (packet_end s x) y

pub walks_up : (s : List ℕ) (k x y : ℕ) → Walks s k x y → x ≤ y
walks_up s zero x y w = omega arith
walks_up s (suc k) x y w = let h = walks_up s k (packet_end s x) y w.1 in omega (arith, w.0)

module _ (s : List ℕ) where
  order_walks : {es : List Entry} (h : InOrder es) (x : ℕ) → AllFair es → AtBit s x es → {y : ℕ} → x + bit_count es ≡ y → Walks s (packet_count h) x y
  order_walks no_more x fair at l = omega arith
  order_walks (packet_then {i} {d} {n} {body} {es} b h) x fair at {y} l =
      let p = packet_at s x b es fair at in
      let c : bit_count (headed i d n body ++ es) ≡ bit_count (headed i d n body) + bit_count es = bit_count_append (headed i d n body) es in
      let size : n ≡ 8 + (2 + (13 + bit_count body)) = b.size in
      let e : packet_end s x ≡ x + n = packet_hop s x p in
      let rest = order_walks h (x + n) (fair_after (headed i d n body) es fair) (behind_at s x b es at) {y = y} (omega arith) in
      (omega arith, subst (λ (z : ℕ). Walks s (packet_count h) z y) (sym e) rest)

  -- the packets of an accepted telegram of n bits: from behind its header to its end mark
  telegram_walks : (p : Terms) {es : List Entry} (t : Telegram p es) (n : ℕ) → n ≡ length (bits es) → take n (bits_of s) ≡ bits es
      → (y : ℕ) → y + 8 ≡ n → Walks s (packet_count (laid p t).order) 50 y
  telegram_walks p {es} t n long h y e =
      let l = laid p t in
      let tail = l.packets ++ (end_mark ∷ []) in
      let all : AllFair (l.header ++ tail) = subst AllFair l.parts (fair t) in
      let at : AtBit s 0 (l.header ++ tail) = subst (AtBit s 0) l.parts (at_all s n es h) in
      let wide : 0 + bit_count l.header ≡ 50 = omega (arith, l.wide) in
      let there : AtBit s 50 tail = subst (λ (j : ℕ). AtBit s j tail) wide (at_behind s 0 l.header tail at) in
      let size : n ≡ bit_count (l.header ++ tail) = long ∙ length_bits es ∙ ap bit_count l.parts in
      let parts : bit_count (l.header ++ tail) ≡ bit_count l.header + bit_count tail = bit_count_append l.header tail in
      let last : bit_count tail ≡ bit_count l.packets + 8 = bit_count_append l.packets (end_mark ∷ []) in
      order_walks l.order 50 (fair_front l.packets (end_mark ∷ []) (fair_after l.header tail all))
      (at_front s 50 l.packets (end_mark ∷ []) there) (omega arith)

-- ---- packets put one behind the other

module _ (s : List ℕ) (n : ℕ) where
  none_left : (f x : ℕ) (out : List ℕ) → x + 8 ≡ n → each_packet f s n x out ≡ out
  none_left zero x out e = refl
  none_left (suc f) x out e = rw (le-ltb (x + 8) n (omega arith))

  -- each that such a walk comes to, and no other
  each_walked : (k f x y : ℕ) (out : List ℕ) → Walks s k x y → y + 8 ≡ n → n ≤ f + x → each_packet f s n x out ≡ each_put (packet_put s) (packet_end s) k x out
  each_walked zero f x y out w e far = none_left f x out (omega arith)
  each_walked (suc k) zero x y out w e far = let u = walks_up s k (packet_end s x) y w.1 in absurd (omega (arith, w.0))
  each_walked (suc k) (suc f) x y out w e far =
      let u = walks_up s k (packet_end s x) y w.1 in
      let some : number_in s 13 (x + 10) ≡ 0 → ⊥ = λ z. omega (arith, w.0) in
      rw (lt-ltb (x + 8) n (omega (arith, w.0)), ne_eqb (number_in s 13 (x + 10)) 0 some)
      (each_walked k f (packet_end s x) y (packet_put s x out) w.1 e (omega (arith, w.0)))

-- every packet put over what is lent
abbrev walked : {s : List ℕ} {n : ℕ} {base : List ℕ} → Patching s n base → List ℕ
walked {s} {n} {base} p = each_put (packet_put s) (packet_end s) (packet_count (laid paper p.telling.telegram).order) 50 base

module _ {s : List ℕ} {n : ℕ} {base : List ℕ} (p : Patching s n base) where
  long : n ≡ length (bits p.telling.entries)
  long =
      let f = p.telling in
      sym (length-take-le n (bits_of s) (rw (length_bits_of s) f.within)) ∙ ap length f.same

  few : (n ≤ 830) × (length s ≤ 104)
  few = let h = few_bits p.telling.telegram long in (h, omega (arith, p.telling.bytes))

  -- the telegram, and behind it what was there
  base_bits : bits_of base ≡ bits p.telling.entries ++ drop n (bits_of base)
  base_bits =
      let f = p.telling in
      let front : take n (bits_of base) ≡ bits f.entries =
      ap (λ (x : List ℕ). take n (bits_of x)) p.front
      ∙ ap (take n) (bits_of_append s p.rest)
      ∙ take-append-le n (bits_of s) (bits_of p.rest) (rw (length_bits_of s) f.within)
      ∙ f.same in
      sym (take-append-drop n (bits_of base)) ∙ ap (λ (x : List ℕ). x ++ drop n (bits_of base)) front

  walked_all : Below 256 base → {out : List ℕ} → Below 256 out → out ≡ walked p → Normalised s n base out
  walked_all b {out} c e es tel k =
      let f = p.telling in
      let form = bits (normal f.entries) in
      let size : length form ≡ n = normal_size f.entries ∙ sym long in
      let told : bits_of out ≡ form ++ drop (length form) (bits_of base) =
      ap bits_of e
      ∙ telegram_in_metres s paper f.telegram n f.same base (drop n (bits_of base)) base_bits
      ∙ ap (λ (j : ℕ). form ++ drop j (bits_of base)) (sym size) in
      let behind : drop (length form) (bits_of base) ≡ replicate (8 * bytes_for (length form) - length form) 0 ++ bits_of p.rest =
      ap (λ (x : List ℕ). drop (length form) (bits_of x)) p.front
      ∙ rw size (copy_behind s n p.rest f.within f.bytes f.clear) in
      let rest_is : p.rest ≡ drop (length (bytes_of form)) base =
      sym
      (ap₂ (λ (j : ℕ) (x : List ℕ). drop j x) (length_bytes_of form ∙ ap bytes_for size ∙ sym f.bytes) p.front
      ∙ drop_at s p.rest (length s) refl) in
      let below_rest : Below 256 p.rest = subst (Below 256) (sym rest_is) (below_drop 256 (length (bytes_of form)) base b) in
      let one = bits_no_prefix paper tel f.telegram [] (append-nil (bits es) ∙ sym k ∙ f.same) in
      sym (bytes_of_bits_of out c)
      ∙ ap bytes_of told
      ∙ bytes_behind form base p.rest (below_bits (normal f.entries)) below_rest behind
      ∙ ap (λ (x : List ℕ). bytes_of form ++ x) rest_is
      ∙ ap (λ (x : List Entry). bytes_over (accepted (normal x)) base) (sym one.0)

  -- **what `patch` leaves is what normalising is to leave**
  pub patched : Below 256 base → {out : List ℕ} → Below 256 out → out ≡ patched_to s n base → Normalised s n base out
  patched b {out} c e =
      let f = p.telling in
      let least = (tiled paper f.telegram).all in
      let last : n - 8 + 8 ≡ n = omega (arith, long) in
      let w = telegram_walks s paper f.telegram n long f.same (n - 8) last in
      let each = each_walked s n (packet_count (laid paper f.telegram).order) n 50 (n - 8) base w last (omega arith) in
      let all = patched_is s n base (omega (arith, long, f.bytes)) (omega (arith, f.room)) few.0 in
      walked_all b c (e ∙ sym all ∙ each)

-- ---- over a copy

module _ {s : List ℕ} {n : ℕ} {out : List ℕ} (f : Telling s n out) where
  pub copied_whole : {one : List ℕ} → one ≡ copied_to s out → one ≡ s ++ drop (length s) out
  copied_whole e = rw (le-leb (length s) (length out) (fits_in f)) at e

  -- **a telegram is copied, and its packets are put over the copy**
  pub told : {one two : List ℕ} → one ≡ copied_to s out → two ≡ patched_to s n one → Below 256 one → Below 256 two → Normalised s n out two
  told e h b c = let k = copied_whole e in told_over f k (patched (patchable f k) b c h)
