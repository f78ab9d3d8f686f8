-- `line_text::line::characters` meets its contract: the bits, then the room, then the characters. Assumes nothing.
use mathlib.Core.Path.{sym, subst}
use mathlib.Core.List.{List}
use Prim.Native.Nat.{ℕ}
use native.Mathlib.Omega.{arith}
use Rattle.pieces.specs.Pieces.{Grown}
use Rattle.line_text.proofs.Binary.{bits_few, room_few, characters_into_lem}
use Rattle.line_text.proofs.line.characters.Goals as goal

pub returns-then-s-bytes_for : goal.returns-then-s-bytes_for
returns-then-s-bytes_for c = bits_few c.args.s.now c.args.n _ (omega (arith, c.bytes_for.ensures))

pub returns-then-out-n : goal.returns-then-out-n
returns-then-out-n c = room_few c.args.s.now c.args.n _ (omega (arith, c.bytes_for.ensures)) (omega arith)

pub put_characters-requires : goal.put_characters-requires
put_characters-requires c = (omega (arith, c.bytes_for.ensures), omega arith)

pub returns : goal.returns
returns c =
    subst (λ (t : List ℕ). Grown c.args.out.now t c.put_characters.result c.put_characters.new.out)
    (sym (characters_into_lem c.args.s.now c.args.n c.args.out.now (omega (arith, c.bytes_for.ensures)) (omega arith)))
    c.put_characters.ensures
