-- What the program reads of its input has the answer of the input. Assumes nothing.
use mathlib.Core.Path.{◌≡◌, sym, ap, ap₂, ◌∙◌, subst}
use mathlib.Core.List.{List}
use Prim.Native.Nat.{ℕ, ◌≤◌}
use native.Mathlib.Omega.{arith}
use lib.ListN.{length, take, drop}
use lib.Seq.{take_all, length-take-le, take-append_seam}
use Rattle.pieces.specs.Pieces.{Grown}
use Rattle.printed.specs.Printed.{out_text, out_into, TellsLine}
use Rattle.printed.proofs.Texts.{out_roomy}
use Rattle.printed_in.specs.Sheet.{in_text, in_into, TellsSheet}
use Rattle.printed_in.proofs.Texts.{in_roomy}
use Rattle.sheets.specs.Input.{Holds, Prints}

-- what is put for the part of an input that a buffer holds is put for the input
pub out_held : {before after : List ℕ} {end : ℕ} (buffer : List ℕ) (n : ℕ) (input : List ℕ) → TellsLine (length buffer) → 65536 ≤ length before
    → Holds buffer n input → Grown before (out_into (take n buffer) (length before)) end after → Grown before (out_text input) end after
out_held {before} {after} {end} buffer n input tells room e g =
    subst (λ (t : List ℕ). Grown before t end after) (out_roomy (take n buffer) (length before) room ∙ ap out_text e ∙ tells.tells input) g

pub in_held : {before after : List ℕ} {end : ℕ} (buffer : List ℕ) (n : ℕ) (input : List ℕ) → TellsSheet (length buffer) → 1024 ≤ length before
    → Holds buffer n input → Grown before (in_into (take n buffer) (length before)) end after → Grown before (in_text input) end after
in_held {before} {after} {end} buffer n input tells room e g =
    subst (λ (t : List ℕ). Grown before t end after) (in_roomy (take n buffer) (length before) room ∙ ap in_text e ∙ tells.tells input) g

-- a buffer of the same length tells the same
pub tells_as : {m n : ℕ} → TellsLine m → m ≡ n → TellsLine n
tells_as t e = subst TellsLine e t

-- the bytes that were read are themselves such an input
pub held : (buffer : List ℕ) (n : ℕ) → n ≤ length buffer → Holds buffer n (take n buffer)
held buffer n h = let l : length (take n buffer) ≡ n = length-take-le n buffer h in sym (take_all (length buffer) (take n buffer) (omega (arith, l)))

-- a text that was put at the front is what stands there up to its end
grown_front : {before text after : List ℕ} {end : ℕ} → Grown before text end after → take end after ≡ text
grown_front {before} {text} g =
    ap₂ (λ (n : ℕ) (l : List ℕ). take n l) g.here g.is ∙ take-append_seam text (drop (length text) before)

pub grown_prints : {before after : List ℕ} {end : ℕ} (f : List ℕ → List ℕ) (buffer : List ℕ) (n : ℕ) → n ≤ length buffer
    → ((input : List ℕ) → Holds buffer n input → Grown before (f input) end after) → Prints f (take end after)
grown_prints f buffer n h g = record { buffer = buffer; n = n; within = h; answers = λ input e. grown_front (g input e) }
