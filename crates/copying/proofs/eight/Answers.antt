-- `copying::eight` meets its contract. Assumes nothing.
use mathlib.Core.Path.{refl}
use native.Mathlib.Omega.{arith}
use lib.ListN.{length-set}
use Rattle.copying.proofs.Pasted.{pasted}
use Rattle.copying.proofs.eight.Goals as goal

pub bounds-out-k-2 : goal.bounds-out-k-2
bounds-out-k-2 c = simp length-set (omega arith)

pub bounds-out-k-3 : goal.bounds-out-k-3
bounds-out-k-3 c = simp length-set (omega arith)

pub bounds-out-k-4 : goal.bounds-out-k-4
bounds-out-k-4 c = simp length-set (omega arith)

pub bounds-out-k-5 : goal.bounds-out-k-5
bounds-out-k-5 c = simp length-set (omega arith)

pub bounds-out-k-6 : goal.bounds-out-k-6
bounds-out-k-6 c = simp length-set (omega arith)

pub bounds-out-k-7 : goal.bounds-out-k-7
bounds-out-k-7 c = simp length-set (omega arith)

pub bounds-out-k-8 : goal.bounds-out-k-8
bounds-out-k-8 c = simp length-set (omega arith)

pub shape_of-out : goal.shape_of-out
shape_of-out c = simp length-set

pub returns : goal.returns
returns c = let a = c.args in pasted a.s.now a.out.now a.k (omega arith) (omega arith) refl
