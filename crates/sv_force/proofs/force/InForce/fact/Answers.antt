use Rattle.sv_force.proofs.Storing.{some_row_at}
use Rattle.sv_force.proofs.force.InForce.fact.Goals as goal

pub returns-in-Row : goal.returns-in-Row
returns-in-Row c = some_row_at _ _ _ _ _ _ c.self.view_is c.self.invariant.0 c.args.place c.index.result.now _ c.requires c.index.ensures c.in-Row.is
