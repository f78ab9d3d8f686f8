-- `line_text::line::put_characters` meets its contract. The loop's invariant: the first i bits stand in front as characters, and behind them what
-- was there. Assumes nothing.
use mathlib.Core.Path.{refl, ◌∙◌}
use native.Mathlib.Omega.{arith}
use lib.ListN.{length-set}
use Rattle.bits.specs.Bits.{bits_of}
use Rattle.bits.proofs.Bytes.{length_bits_of}
use Rattle.packing.proofs.Characters.{character_there}
use Rattle.line_text.proofs.Binary.{characters_again, characters_all}
use Rattle.line_text.proofs.line.put_characters.Goals as goal

pub loop-i-init : goal.loop-i-init
loop-i-init c = (refl, refl)

pub loop-i-preserved : goal.loop-i-preserved
loop-i-preserved c =
    let a = c.args in
    let l = c.loop-i in
    let room = length_bits_of a.s.now in (
      simp length-set l.invariant.0,
      rw (l.invariant.1, c.character.ensures ∙ character_there a.s.now a.n l.i (omega arith) (omega arith)) (characters_again (bits_of a.s.now) a.out.now l.i (omega arith) (omega arith)),
    )

pub shape_of-out : goal.shape_of-out
shape_of-out c = c.loop-i.invariant.0

pub returns : goal.returns
returns c =
    let a = c.args in
    let l = c.loop-i in
    let room = length_bits_of a.s.now in
    characters_all (bits_of a.s.now) a.out.now _ l.i a.n (omega arith) (omega arith) l.invariant.1
