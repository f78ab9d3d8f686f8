-- The line of a refusal, put piece by piece. Assumes nothing.
use mathlib.Core.Path.{◌≡◌, sym, subst}
use mathlib.Core.List.{List, ◌++◌}
use Prim.Native.Nat.{ℕ, ◌≤◌, ◌<◌}
use native.Mathlib.Omega.{arith}
use borrow.Author.Tests.{le-leb, lt-leb}
use lib.ListN.{length, length-append}
use Rattle.pieces.specs.Numbers.{decimal}
use Rattle.pieces.specs.Pieces.{Appended, Grown}
use Rattle.pieces.proofs.Decimals.{length_decimal}
use Rattle.pieces.proofs.Starts.{grown_none, grows}
use Rattle.sheet.specs.Rows.{text_of}
use Rattle.sheet.specs.Sheets.{number_of, value_of}
use Rattle.line_text.specs.Lines.{newline, refusal, refusal_into}
use Rattle.sheet.specs.Replies.{Reply}

pub refusal_roomless : (reply : Reply) (before : List ℕ) → length before < 64 → Grown before (refusal_into reply (length before)) 0 before
unfolding refusal_into
refusal_roomless reply before h = rw (lt-leb 64 (length before) h) (grown_none before)

pub refusal_into_lem : (reply : Reply) (room : ℕ) → 64 ≤ room → refusal_into reply room ≡ refusal reply
unfolding refusal_into
refusal_into_lem reply room h = rw (le-leb 64 room h)

pub refusal_put : {before o₁ o₂ o₃ o₄ after : List ℕ} {e₁ e₂ e₃ e₄ end : ℕ} (reply : Reply) (a b : ℕ) → 64 ≤ length before
    → a ≡ number_of reply → b ≡ value_of reply → Appended before 0 (text_of "refused ") e₁ o₁ → Appended o₁ e₁ (decimal a) e₂ o₂
    → Appended o₂ e₂ (text_of " ") e₃ o₃ → Appended o₃ e₃ (decimal b) e₄ o₄ → Appended o₄ e₄ newline end after
    → Grown before (refusal_into reply (length before)) end after
unfolding refusal
refusal_put {before} {o₁} {o₂} {o₃} {o₄} {after} {e₁} {e₂} {e₃} {e₄} {end} reply a b room x y p₁ p₂ p₃ p₄ p₅ =
    subst (λ (t : List ℕ). Grown before t end after) (sym (refusal_into_lem reply (length before) room)) whole
  where
    g₁ : Grown before (text_of "refused ") e₁ o₁
    g₁ = grows (grown_none before) p₁ (omega arith)

    g₂ : Grown before (text_of "refused " ++ decimal a) e₂ o₂
    g₂ = grows g₁ p₂ (omega (arith, length_decimal 20 a))

    g₃ : Grown before (text_of "refused " ++ decimal a ++ text_of " ") e₃ o₃
    g₃ = grows g₂ p₃ (simp length-append (omega (arith, length_decimal 20 a)))

    g₄ : Grown before (text_of "refused " ++ decimal a ++ text_of " " ++ decimal b) e₄ o₄
    g₄ = grows g₃ p₄ (simp length-append (omega (arith, length_decimal 20 a, length_decimal 20 b)))

    whole : Grown before (refusal reply) end after
    whole = rw (sym x, sym y) (grows g₄ p₅ (simp length-append (omega (arith, length_decimal 20 a, length_decimal 20 b))))

-- where there is room it is there
pub refusal_there : {before after : List ℕ} {end : ℕ} (reply : Reply) → Grown before (refusal_into reply (length before)) end after → 64 ≤ length before
    → Grown before (refusal reply) end after
refusal_there {before} {after} {end} reply g h = subst (λ (t : List ℕ). Grown before t end after) (refusal_into_lem reply (length before) h) g
