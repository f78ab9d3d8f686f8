-- The start of an input is enough for its answer: 832 bytes of a line, or more. Assumes nothing.
use mathlib.Core.Path.{◌≡◌, sym, ap, ◌∙◌}
use mathlib.Core.List.{List}
use Prim.Native.Nat.{ℕ, ◌≤◌}
use native.Mathlib.Nat.{lt_of_not-le}
use native.Mathlib.Decide.{dec_le}
use native.Mathlib.Omega.{arith}
use lib.ListN.{length, take}
use lib.Seq.{take_all, length-take-le}
use Rattle.format.specs.declared.Kind.TheVariants.{Size}
use Rattle.states.specs.Reader.{at_once}
use Rattle.printed.specs.Printed.{sheet_or, out_text, TellsLine}
use Rattle.line_text.specs.Lines.{line_length}
use Rattle.line_text.proofs.Lines.{line_few, line_many}
use Rattle.printed.proofs.Lines.{long_refused}

-- 832 bytes or more have a line of more than 830 characters
long_out : (input : List ℕ) → 832 ≤ length input → out_text input ≡ sheet_or (at_once Size)
unfolding out_text
long_out input h =
    let few = line_few input in
    let many = line_many input in
    let l : length (take (line_length input) input) ≡ line_length input = length-take-le (line_length input) input few in
    ap sheet_or (long_refused (take (line_length input) input) (omega (arith, l, many)))

line_kept : (input : List ℕ) (m : ℕ) → 832 ≤ m → out_text (take m input) ≡ out_text input
line_kept input m h = by (dec_le (length input) m)
  where
    by : Dec (length input ≤ m) → out_text (take m input) ≡ out_text input
    by (yes g) = ap out_text (take_all m input g)
    by (no g) =
        let more = lt_of_not-le g in
        let l : length (take m input) ≡ m = length-take-le m input (omega arith) in
        long_out (take m input) (omega (arith, l)) ∙ sym (long_out input (omega arith))

pub out_kept : (m : ℕ) → 832 ≤ m → TellsLine m
out_kept m h = record { tells = λ input. line_kept input m h }
