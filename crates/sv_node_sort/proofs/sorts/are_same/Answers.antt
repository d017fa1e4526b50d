use Rattle.sv_node_sort.proofs.Fitting.{same_number}
use Rattle.sv_node_sort.proofs.sorts.are_same.Goals as goal

pub returns : goal.returns
returns c = same_number c.args.sorts.now.cells c.is_sound.ensures c.args.first c.args.second c.requires.0 c.requires.1
