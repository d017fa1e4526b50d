use Rattle.std.proofs.Common.{subst, sym, map}
use Rattle.sv_cert.specs.PlainNodes.{plain_part}
use Rattle.sv_log_sort.specs.TakenSorts.{Grows}
use Rattle.sv_log_sort.proofs.Growing.{grows_none}
use Rattle.sv_log_shape.specs.LoggedShapes.{cells_in}
use Rattle.sv_log_shape.proofs.parts.sort.Goals as goal

pub returns-clause-grows : goal.returns-clause-grows
returns-clause-grows c =
    subst (λ v. Grows c.args.room.now v (cells_in (map plain_part c.args.parts.now))) (sym c.loop-part.invariant.0) (grows_none c.args.room.now (cells_in (map plain_part c.args.parts.now)))
