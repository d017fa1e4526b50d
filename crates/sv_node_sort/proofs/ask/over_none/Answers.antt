use Rattle.sv_node_sort.proofs.Fitting.{none_misfits}
use Rattle.sv_node_sort.proofs.ask.over_none.Goals as goal

pub returns-in_default : goal.returns-in_default
returns-in_default c = none_misfits _ c.args.shape c.requires.0 c.in_default.not-Lit c.in_default.not-Truth c.in_default.not-Var
