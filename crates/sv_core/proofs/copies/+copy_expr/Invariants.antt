use Rattle.std.proofs.Common.{◌≡◌, take}
use Rattle.sv_core.proofs.copies.+copy_expr.Given as goal

abbrev pub invariant-copy_exprs-loop-e : goal.invariant-copy_exprs-loop-e
invariant-copy_exprs-loop-e l = l.copies ≡ take l.e-index l.e-items
