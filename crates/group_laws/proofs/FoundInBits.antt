-- What a look over an accepted telegram's bits by L_PACKET finds are the packets that the telegram divides into. Assumes nothing.
use mathlib.Core.List.{List, [], ◌∷◌, ◌++◌, append_assoc, map}
use mathlib.Core.Path.{◌≡◌, refl, sym, ap, ap₂, ◌∙◌, subst}
use Prim.Native.Nat.{ℕ, ◌+◌, ◌-◌}
use native.Mathlib.Omega.{arith}
use lib.Dec.{T}
use lib.ListN.{length, take}
use Rattle.bits.specs.Bits.{bits_of}
use Rattle.format.specs.Packets.{Items}
use Rattle.format.specs.Packets.Items.{end}
use Rattle.format.specs.Rules.{State, Terms, Earlier, named}
use Rattle.format.specs.Telegrams.{Entry, Divided, divided, bits, bits_in, values, bit_count, Telegram}
use Rattle.format.specs.Telegrams.Result.{accepted}
use Rattle.laws.proofs.Sources.{width_positive}
use Rattle.laws.proofs.Round.{all_append}
use Rattle.laws.proofs.Demand2.{length_bits}
use Rattle.laws.proofs.Steps.{going, over_mark}
use Rattle.laws.proofs.Tile.{end_mark, joined, divided_joined, bit_count_append, tiled}
use Rattle.laws.proofs.Whole.{Whole, Stage, Fronts}
use Rattle.laws.proofs.Whole.Whole.{front}
use Rattle.laws.proofs.Whole.Stage.{fronting, resting, after_name, after_dir, after_size}
use Rattle.laws.proofs.Stages.{sends_stage}
use Rattle.laws.proofs.Apart.{finished}
use Rattle.states.specs.Lookback.{packets_before}
use Rattle.states.specs.Reader.{checked}
use Rattle.states.proofs.Answers.{check_judges, sized_is}
use Rattle.states.proofs.Accepting.{sent}
use Rattle.states.proofs.LookedBack.{whole_before}
use Rattle.group_laws.proofs.Heads.{Quiet, Divides, header_quiet, divided_front, whole_divides, head_of}

-- ---- before the end mark the packets stand whole

front_whole : (es : List Entry) (t : Items) → Fronts es t → t ≡ end → Whole es []
front_whole es t f i =
    let b : bit_count es + 0 ≡ 50 = (rw i at f.bits) in
    let c : length (values es) + 0 ≡ 10 = (rw i at f.fields) in
    front {es = es} (omega arith) (omega arith)

whole_end : {es : List Entry} {s : State} → Stage es s → s.todo ≡ end → Whole es s.context.earlier
whole_end {es} {s} (fronting l e f) i = subst (Whole es) (sym e) (front_whole es s.todo f i)
whole_end (resting i w) j = w
whole_end (after_name b g e w l p k t h) i = let z : ◌≡◌ {A = ℕ} 0 1 = cc in absurd (omega arith)
whole_end (after_dir b d g e w l p k t h q) i = let z : ◌≡◌ {A = ℕ} 0 1 = cc in absurd (omega arith)
whole_end {es} {s} (after_size b d n body g e w l p k t o q r u v) i = absurd (subst (λ x. T (going x)) i r)

-- ---- of two fronts of one list with as many bits, each is the other

same_front : (f g x y : List Entry) → f ++ x ≡ g ++ y → bit_count f ≡ bit_count g → f ≡ g
same_front [] [] x y h k = refl
same_front [] (e ∷ g) x y h k = let w = width_positive e.field in absurd (omega arith)
same_front (e ∷ f) [] x y h k = let w = width_positive e.field in absurd (omega arith)
same_front (d ∷ f) (e ∷ g) x y h k =
    let i : d ≡ e = cc in
    let j : f ++ x ≡ g ++ y = cc in
    let w : d.field.width ≡ e.field.width = ap (λ (z : Entry). z.field.width) i in
    ap₂ ◌∷◌ i (same_front f g x y j (omega arith))

-- ---- a telegram

mark_is : (t : Items) (v : ℕ) → t ≡ end → v ≡ 255 → ◌≡◌ {A = Entry} (record { field = named t v; value = v }) end_mark
mark_is t v i j = rw (i, j)

-- its entries are those of the header and of whole packets, and the end mark; and it divides into just these
pub record Standing (es : List Entry) : Type 0 where
  pub sent : List Entry
  pub list : List Earlier
  pub ends : es ≡ sent ++ (end_mark ∷ [])
  pub whole : Whole sent list
  pub divides : Divides sent list
  pub parts : (divided es).packets ≡ (divided sent).packets ++ ((end_mark ∷ []) ∷ [])

pub telegram_standing : {p : Terms} {es : List Entry} → Telegram p es → Standing es
unfolding divided
telegram_standing {p} {es} t =
    let f = finished t in
    let m = over_mark p f.state f.value f.marks in
    let w = whole_end (sends_stage f.sends) m.0 in
    let i : es ≡ f.sent ++ (end_mark ∷ []) = f.ends ∙ ap (λ (e : Entry). f.sent ++ (e ∷ [])) (mark_is f.state.todo f.value m.0 m.1) in
    record {
      sent = f.sent;
      list = f.state.context.earlier;
      ends = i;
      whole = w;
      divides = whole_divides w (λ g x j k. quiet g (x ++ (end_mark ∷ [])) (i ∙ ap (λ (l : List Entry). l ++ (end_mark ∷ [])) j ∙ append_assoc g x (end_mark ∷ [])) k);
      parts = ap (λ (l : List Entry). (divided l).packets) i ∙ ap (λ (d : Divided). d.packets) (divided_front f.sent (end_mark ∷ []) refl);
    }
  where
    quiet : (g y : List Entry) → es ≡ g ++ y → bit_count g ≡ 50 → Quiet g
    quiet g y i k =
        subst Quiet (sym (same_front g (divided es).header y (joined (divided es).packets) (sym i ∙ sym (divided_joined es)) (k ∙ sym (tiled p t).header))) (header_quiet es)

-- ---- and the look over its bits finds just them

pub found_in_bits : (p : Terms) (s : List ℕ) (n : ℕ) (es : List Entry) → checked p s n ≡ accepted es
    → (t : Telegram p es) → packets_before s (n - 8) ≡ map head_of (divided (telegram_standing t).sent).packets
found_in_bits p s n es h t =
    let a = ((check_judges p s n).accepts es).0 h in
    let z = (sized_is s n).0 a.size in
    let d = telegram_standing t in
    let b = d.sent in
    let front : take n (bits_of s) ≡ bits b ++ bits (end_mark ∷ []) = a.is ∙ ap bits d.ends ∙ all_append bits_in b (end_mark ∷ []) in
    let long : bit_count es ≡ bit_count b + 8 = ap bit_count d.ends ∙ bit_count_append b (end_mark ∷ []) in
    let size : bit_count es ≡ n = sym (length_bits es) ∙ sent p s n es a in
    let at : n - 8 ≡ bit_count b = omega arith in
    ap (packets_before s) at ∙ whole_before s n (omega (arith, z.2)) d.whole (bits (end_mark ∷ [])) front (omega arith) ∙ sym d.divides.heads
