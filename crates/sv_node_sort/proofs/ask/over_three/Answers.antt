use Rattle.sv_node_sort.proofs.Fitting.{three_misfits}
use Rattle.sv_node_sort.proofs.ask.over_three.Goals as goal

pub returns-in_default : goal.returns-in_default
returns-in_default c = three_misfits _ c.args.shape c.args.a c.args.b c.args.c c.requires.named c.in_default.not-Ite c.in_default.not-Sto c.in_default.not-Mix
