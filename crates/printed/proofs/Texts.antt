-- What is printed, put piece by piece. Assumes nothing.
use Rattle.std.specs.Prelude.{Ok, Err}
use mathlib.Core.Path.{◌≡◌, sym, ap, ◌∙◌, subst}
use mathlib.Core.List.{List}
use Prim.Native.Nat.{ℕ, ◌+◌, ◌≤◌, ◌<◌}
use native.Mathlib.Omega.{arith}
use borrow.Author.Tests.{le-leb, lt-leb}
use lib.ListN.{length, take, drop, length-append}
use Rattle.format.specs.Rules.{paper}
use Rattle.format.specs.Telegrams.{Result}
use Rattle.format.specs.Telegrams.Result.{accepted, refused}
use Rattle.format.specs.declared.Kind.TheVariants.{Size}
use Rattle.format.specs.declared.Refusal.{Refusal}
use Rattle.pieces.specs.Pieces.{Grown}
use Rattle.pieces.proofs.Starts.{grown_none}
use Rattle.sheet.specs.Rows.{sheet_text}
use Rattle.sheet.specs.Sheets.{length_of, sheet_over, exported, Export}
use Rattle.sheet.proofs.Numbers.{export_answer}
use Rattle.states.specs.Reader.{at_once, checked}
use Rattle.printed.specs.Printed.{told, sheet_or, out_text, out_into}
use Rattle.line_text.specs.Lines.{line_length, refusal}
use Rattle.sheet.specs.declared.SheetError.{SheetError}
use Rattle.sheet.specs.declared.SheetError.TheVariants.{Refused, Row}
use Rattle.sheet.specs.Replies.{Reply}

-- what is put lies within what is lent
pub grown_within : {before text out : List ℕ} {at : ℕ} → Grown before text at out → at ≤ length out
grown_within {before} {text} {out} {at} g =
    let l : length out ≡ length text + length (drop (length text) before) = ap length g.is ∙ length-append text (drop (length text) before) in
    omega (arith, g.here, l)

-- ---- `out`

-- where there is room for every sheet, export answers as the reader does
pub export_told : {s before after : List ℕ} {n : ℕ} {reply : Reply} (r : Result) → 65536 ≤ length before → checked paper s n ≡ r
    → Export paper s n before reply after → (reply ≡ length_of r) × (after ≡ sheet_over r before)
unfolding exported
export_told {s} {before} {after} {n} {reply} r room e h =
    let all : exported paper s n (length before) ≡ r = rw (le-leb 65536 (length before) room) e in
    (export_answer h ∙ ap length_of all, h.contents ∙ ap (λ (x : Result). sheet_over x before) all)

-- what is refused at once leaves what is lent
pub untold : {reply : Reply} (r : Result) (before : List ℕ) → reply ≡ length_of (at_once Size) → at_once Size ≡ r
    → (reply ≡ length_of r) × (before ≡ sheet_over r before)
untold r before x e = (x ∙ ap length_of e, ap (λ (y : Result). sheet_over y before) e)

module _ (r : Result) (before mid : List ℕ) (reply : Reply) (is : reply ≡ length_of r) (over : mid ≡ sheet_over r before) where
  sheet_done : (end : ℕ) → reply ≡ Ok end → Grown before (sheet_or r) end mid
  sheet_done end e = by r is over
    where
      by : (r : Result) → reply ≡ length_of r → mid ≡ sheet_over r before → Grown before (sheet_or r) end mid
      by (accepted es) is over = let same : end ≡ length (sheet_text es) = cc in record { here = same; is = over }
      by (refused x) is over = let z : ◌≡◌ {A = ℕ} 0 1 = cc in absurd (omega arith)

  sheet_refused : (x : Refusal) (end : ℕ) (after : List ℕ) → reply ≡ Err (Refused x) → Grown mid (refusal reply) end after
      → Grown before (sheet_or r) end after
  sheet_refused x end after e g = by r is over
    where
      by : (r : Result) → reply ≡ length_of r → mid ≡ sheet_over r before → Grown before (sheet_or r) end after
      by (accepted es) is over = let z : ◌≡◌ {A = ℕ} 0 1 = cc in absurd (omega arith)
      by (refused y) is over = subst (λ (p : Reply). Grown before (refusal p) end after) is (subst (λ (m : List ℕ). Grown m (refusal reply) end after) over g)

  sheet_rowless : (k : ℕ) → reply ≡ Err (Row k) → ⊥
  sheet_rowless k e = by r is
    where
      by : (r : Result) → reply ≡ length_of r → ⊥
      by (accepted es) is = let z : ◌≡◌ {A = ℕ} 0 1 = cc in omega arith
      by (refused x) is = let z : ◌≡◌ {A = ℕ} 0 1 = cc in omega arith

module _ (input before mid : List ℕ) (n : ℕ) (reply : Reply) (e : n ≡ line_length input) (is : reply ≡ length_of (told (take n input)))
    (over : mid ≡ sheet_over (told (take n input)) before)
  where
    out_is : sheet_or (told (take n input)) ≡ out_text input
    unfolding out_text
    out_is = ap (λ (k : ℕ). sheet_or (told (take k input))) e

    pub out_done : (end : ℕ) → reply ≡ Ok end → Grown before (out_text input) end mid
    out_done end d = subst (λ (t : List ℕ). Grown before t end mid) out_is (sheet_done (told (take n input)) before mid reply is over end d)

    out_refused : (x : Refusal) (end : ℕ) (after : List ℕ) → reply ≡ Err (Refused x) → Grown mid (refusal reply) end after
        → Grown before (out_text input) end after
    out_refused x end after d g =
        subst (λ (t : List ℕ). Grown before t end after) out_is (sheet_refused (told (take n input)) before mid reply is over x end after d g)

    -- an error is a refusal, since export tells no row
    pub out_failed : (x : SheetError) (end : ℕ) (after : List ℕ) → reply ≡ Err x → Grown mid (refusal reply) end after
        → Grown before (out_text input) end after
    out_failed (Refused x) end after d g = out_refused x end after d g
    out_failed (Row k) end after d g = absurd (sheet_rowless (told (take n input)) before mid reply is over k d)

-- every room
pub out_roomless : (input before : List ℕ) → length before < 65536 → Grown before (out_into input (length before)) 0 before
unfolding out_into
out_roomless input before h = rw (lt-leb 65536 (length before) h) (grown_none before)

pub out_roomy : (input : List ℕ) (room : ℕ) → 65536 ≤ room → out_into input room ≡ out_text input
unfolding out_into
out_roomy input room h = rw (le-leb 65536 room h)

pub out_put : {before after : List ℕ} {end : ℕ} (input : List ℕ) → 65536 ≤ length before → Grown before (out_text input) end after
    → Grown before (out_into input (length before)) end after
out_put {before} {after} {end} input h g = subst (λ (t : List ℕ). Grown before t end after) (sym (out_roomy input (length before) h)) g
