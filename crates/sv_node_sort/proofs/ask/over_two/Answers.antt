use Rattle.sv_node_sort.proofs.Fitting.{two_misfits}
use Rattle.sv_node_sort.proofs.ask.over_two.Goals as goal

pub returns-in_default : goal.returns-in_default
returns-in_default c =
    two_misfits _ c.args.shape c.args.a c.args.b c.requires.named c.in_default.not-Add c.in_default.not-Sub c.in_default.not-Mul c.in_default.not-Div c.in_default.not-Mod c.in_default.not-Le
    c.in_default.not-Eq c.in_default.not-And c.in_default.not-Or c.in_default.not-Sel
