-- `group_face::code` meets its contract. Assumes nothing.
use mathlib.Core.Path.{sym, ap}
use Rattle.group_face.specs.GroupCodes.{group_code}
use Rattle.group_face.proofs.Causes.{cause_most}
use native.Mathlib.Omega.{arith}
use Rattle.group_face.proofs.code.Goals as goal

pub overflow_mul-head : goal.overflow_mul-head
overflow_mul-head c = omega (arith, cause_most c.in-Err.f.cause, c.number.ensures)

pub overflow_add-head : goal.overflow_add-head
overflow_add-head c = omega (arith, cause_most c.in-Err.f.cause, c.number.ensures, c.min.ensures)

pub overflow_mul-result : goal.overflow_mul-result
overflow_mul-result c = omega (arith, cause_most c.in-Err.f.cause, c.number.ensures, c.min.ensures)

pub overflow_add-result : goal.overflow_add-result
overflow_add-result c = omega (arith, cause_most c.in-Err.f.cause, c.number.ensures, c.min.ensures, c.min-in-Err.ensures)

pub returns-in-Err : goal.returns-in-Err
returns-in-Err c = rw (c.number.ensures, c.min.ensures, c.min-in-Err.ensures) (sym (ap group_code c.in-Err.is))
