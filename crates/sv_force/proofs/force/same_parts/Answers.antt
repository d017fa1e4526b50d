use Rattle.std.proofs.lemmas.Slice.Eq.{slice_eq-Decides}
use Rattle.sv_force.proofs.Seeking.{pair_decides}
use Rattle.sv_force.proofs.force.same_parts.Goals as goal

pub returns : goal.returns
returns c = slice_eq-Decides pair_decides c.args.own.now c.args.other.now c.eq.result c.eq.ensures
