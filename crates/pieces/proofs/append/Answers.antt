-- `pieces::append` meets its contract: the piece is put where there is room for it, and nothing else is. Assumes nothing.
use mathlib.Core.Path.{refl}
use Prim.Native.Nat.{◌+◌, ◌-◌}
use native.Mathlib.Omega.{arith}
use lib.ListN.{length}
use Rattle.std.proofs.lemmas.Slice.{put_mid-paste}
use Rattle.pieces.proofs.Starts.{put_nothing, put_whole}
use Rattle.pieces.proofs.append.Goals as goal

pub returns-then-out-at : goal.returns-then-out-at
returns-then-out-at c = put_nothing c.args.out.now c.args.at c.args.piece.now (omega arith)

pub returns-then-out-at-2 : goal.returns-then-out-at-2
returns-then-out-at-2 c = put_nothing c.args.out.now c.args.at c.args.piece.now (omega arith)

pub returns : goal.returns
returns c =
    put_whole c.args.out.now c.args.at c.args.piece.now (omega arith) _
    (put_mid-paste c.args.at (c.args.at + length c.args.piece.now - c.args.at) c.args.out.now _ _ (length c.args.piece.now) c.copy_from_slice.ensures.after (omega arith) refl)
