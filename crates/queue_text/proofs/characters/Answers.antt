-- `queue_text::characters` meets its contract. The loop's invariant: the first bits up to at have joined as characters. Assumes nothing.
use mathlib.Core.Path.{◌∙◌}
use Prim.Native.Nat.{◌+◌}
use native.Mathlib.Omega.{arith}
use Rattle.packing.proofs.Characters.{character_there}
use Rattle.queue.proofs.Joining.{joins_nothing, joins_length}
use Rattle.queue_text.proofs.Bitwise.{characters_more, characters_few, characters_all}
use Rattle.queue_text.proofs.characters.Goals as goal

pub loop-at-init : goal.loop-at-init
loop-at-init c = joins_nothing c.args.q c.args.out.now

pub shape_of-out-then-s-at : goal.shape_of-out-then-s-at
shape_of-out-then-s-at c = joins_length c.loop-at.invariant

pub returns-then-s-at : goal.returns-then-s-at
returns-then-s-at c = characters_few c.args.s.now c.loop-at.at c.args.n c.loop-at.invariant (omega arith) (omega arith)

pub loop-at-preserved : goal.loop-at-preserved
loop-at-preserved c =
    let s = c.args.s.now in
    let l = c.loop-at in
    characters_more s l.at c.character.result (omega arith)
    (c.character.ensures ∙ character_there s (l.at + 1) l.at (omega arith) (omega arith)) l.invariant c.put-r.ensures

pub shape_of-out : goal.shape_of-out
shape_of-out c = joins_length c.loop-at.invariant

pub returns : goal.returns
returns c = characters_all c.args.s.now c.loop-at.at c.args.n c.loop-at.invariant (omega arith)
