-- What is printed for a sheet, put piece by piece. Assumes nothing.
use Rattle.std.specs.Prelude.{Ok, Err}
use mathlib.Core.Path.{◌≡◌, refl, sym, ap, ap₂, ◌∙◌, subst}
use mathlib.Core.List.{List, ◌++◌}
use Prim.Native.Nat.{ℕ, ◌+◌, ◌*◌, ◌≤◌, ◌<◌}
use native.Mathlib.Omega.{arith}
use borrow.Author.Tests.{le-leb, lt-leb}
use lib.ListN.{length, take, drop, length-append}
use lib.Seq.{take-append-le, length-take-le}
use Rattle.bits.specs.Bits.{bits_of, bytes_of, bytes_for}
use Rattle.bits.proofs.Bytes.{length_bits_of, bits_of_append, length_bytes_of, take_bits_of_bytes_of}
use Rattle.format.specs.Rules.{paper}
use Rattle.format.specs.Telegrams.{bits, bit_count}
use Rattle.laws.proofs.Demand2.{length_bits, below_bits}
use Rattle.pieces.specs.Pieces.{Appended, Grown}
use Rattle.pieces.proofs.Starts.{grown_none, grows}
use Rattle.sheet.specs.Sheets.{Imported, imported, import_into, size_of, bytes_over, Import}
use Rattle.sheet.specs.Sheets.Imported.{taken, refused_by, refused_at}
use Rattle.sheet.proofs.Numbers.{import_answer}
use Rattle.printed_in.specs.Sheet.{line_or, in_text, in_into}
use Rattle.line_text.specs.Characters.{characters_into}
use Rattle.packing.specs.Packing.{characters}
use Rattle.packing.proofs.Characters.{length_characters}
use Rattle.line_text.specs.Lines.{newline, refusal}
use Rattle.line_text.proofs.Binary.{characters_into_lem}
use Rattle.sheet.specs.declared.SheetError.{SheetError}
use Rattle.sheet.specs.Replies.{Reply}

pub in_roomless : (input before : List ℕ) → length before < 1024 → Grown before (in_into input (length before)) 0 before
unfolding in_into
in_roomless input before h = rw (lt-leb 1024 (length before) h) (grown_none before)

pub in_roomy : (input : List ℕ) (room : ℕ) → 1024 ≤ room → in_into input room ≡ in_text input
unfolding in_into
in_roomy input room h = rw (le-leb 1024 room h)

pub in_put : {before after : List ℕ} {end : ℕ} (input : List ℕ) → 1024 ≤ length before → Grown before (in_text input) end after
    → Grown before (in_into input (length before)) end after
in_put {before} {after} {end} input h g = subst (λ (t : List ℕ). Grown before t end after) (sym (in_roomy input (length before) h)) g

-- the first bits of the bytes are the telegram's, and 104 bytes hold them
pub record InLine (input s : List ℕ) (n : ℕ) : Type 0 where
  pub inside : n ≤ 8 * length s
  pub few : n ≤ 832
  pub text : characters (take n (bits_of s)) ++ newline ≡ in_text input

front_bits : (bs rest : List ℕ) → length bs ≤ length (bits_of (bytes_of bs)) → take (length bs) (bits_of (bytes_of bs)) ≡ bs
    → take (length bs) (bits_of (bytes_of bs ++ rest)) ≡ bs
front_bits bs rest h e =
    ap (take (length bs)) (bits_of_append (bytes_of bs) rest) ∙ take-append-le (length bs) (bits_of (bytes_of bs)) (bits_of rest) h ∙ e

bytes_enough : (bs : List ℕ) → length bs ≤ length (bits_of (bytes_of bs))
bytes_enough bs = rw (length_bits_of (bytes_of bs), length_bytes_of bs) (omega arith)

module _ (input before s : List ℕ) (reply : Reply) (room : length before ≡ 104) (same : length s ≡ 104) (h : Import paper input before reply s) where
  into : import_into paper input (length before) ≡ imported paper input
  unfolding import_into
  into = rw (le-leb 104 (length before) (omega arith))

  in_is : reply ≡ size_of (imported paper input)
  in_is = import_answer h ∙ ap size_of into

  pub in_done : (n : ℕ) → reply ≡ Ok n → InLine input s n
  unfolding in_text
  in_done n e = by (imported paper input) refl in_is (h.contents ∙ ap (λ (i : Imported). bytes_over i before) into)
    where
      by : (i : Imported) → imported paper input ≡ i → reply ≡ size_of i → s ≡ bytes_over i before → InLine input s n
      by (taken es) i is over =
          let m : n ≡ bit_count es = cc in
          let l : n ≡ length (bits es) = m ∙ sym (length_bits es) in
          let b : length (bytes_of (bits es)) ≡ bytes_for (length (bits es)) = length_bytes_of (bits es) in
          let all : length s ≡ length (bytes_of (bits es)) + length (drop (length (bytes_of (bits es))) before)
          = ap length over ∙ length-append (bytes_of (bits es)) (drop (length (bytes_of (bits es))) before) in
          record {
            inside = omega (arith, l, b, all);
            few = omega (arith, l, b, all, same);
            text = ap (λ (p : List ℕ). characters p ++ newline)
                (ap₂ (λ (k : ℕ) (q : List ℕ). take k (bits_of q)) l over
                ∙ front_bits (bits es) (drop (length (bytes_of (bits es))) before) (bytes_enough (bits es)) (take_bits_of_bytes_of (bits es) (below_bits es)))
                ∙ sym (ap line_or i);
          }
      by (refused_by x) i is over = let z : ◌≡◌ {A = ℕ} 0 1 = cc in absurd (omega arith)
      by (refused_at k) i is over = let z : ◌≡◌ {A = ℕ} 0 1 = cc in absurd (omega arith)

  in_other : ((n : ℕ) → reply ≡ Ok n → ⊥) → refusal reply ≡ in_text input
  unfolding in_text
  in_other not_done = by (imported paper input) in_is
    where
      by : (i : Imported) → reply ≡ size_of i → refusal reply ≡ line_or i
      by (taken es) is = absurd (not_done (bit_count es) is)
      by (refused_by x) is = ap refusal is
      by (refused_at k) is = ap refusal is

  pub in_failed : (x : SheetError) → reply ≡ Err x → refusal reply ≡ in_text input
  in_failed x e = in_other (λ n d. let z : ◌≡◌ {A = ℕ} 0 1 = cc in omega arith)

-- the line, and its newline
pub line_put : {input s before mid after : List ℕ} {n e end : ℕ} → InLine input s n → 1024 ≤ length before
    → Grown before (characters_into s n (length before)) e mid → Appended mid e newline end after → Grown before (in_text input) end after
line_put {input} {s} {before} {mid} {after} {n} {e} {end} l room p₁ p =
    let g : Grown before (characters (take n (bits_of s))) e mid
    = subst (λ (t : List ℕ). Grown before t e mid) (characters_into_lem s n before l.inside (omega (arith, l.few))) p₁ in
    let k : length (characters (take n (bits_of s))) ≡ n
    = length_characters (take n (bits_of s)) ∙ length-take-le n (bits_of s) (rw (length_bits_of s) l.inside) in
    subst (λ (t : List ℕ). Grown before t end after) l.text (grows g p (omega (arith, k, l.few)))
