-- `printed_in::from_sheet` meets its contract: room, and one law for each reply. Assumes nothing.
use mathlib.Core.Path.{refl, subst}
use mathlib.Core.List.{List}
use Prim.Native.Nat.{ℕ}
use native.Mathlib.Omega.{arith}
use borrow.Author.Rules.{rules}
use Rattle.pieces.specs.Pieces.{Grown}
use Rattle.line_text.proofs.Refusals.{refusal_there}
use Rattle.printed_in.proofs.Texts.{in_roomless, in_put, in_done, in_failed, line_put}
use Rattle.printed_in.proofs.from_sheet.Goals as goal

pub returns-then-out-lt1024 : goal.returns-then-out-lt1024
returns-then-out-lt1024 c = in_roomless c.args.input.now _ (omega arith)

pub returns-in-Ok : goal.returns-in-Ok
returns-in-Ok c =
    in_put c.args.input.now (omega arith)
    (line_put {before = c.args.out.now}
    (in_done c.args.input.now _ _ c.import-reply.result refl c.import-reply.auto.out c.import-reply.ensures _ c.in-Ok.is) (omega arith)
    c.characters-end.ensures
    c.append.ensures)

pub returns-in-Err : goal.returns-in-Err
returns-in-Err c =
    in_put c.args.input.now (omega arith)
    (subst (λ (t : List ℕ). Grown c.args.out.now t c.refuse.result c.refuse.new.out)
    (in_failed c.args.input.now _ _ c.import-reply.result refl c.import-reply.auto.out c.import-reply.ensures _ c.in-Err.is)
    (refusal_there _ c.refuse.ensures (search rules)))
