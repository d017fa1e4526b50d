use Rattle.sv_plain.specs.ShownExprs.{expr_of}
use Rattle.sv_plain.proofs.Sizes.{size}
use Rattle.sv_annotation.proofs.openings.+bare.Given as goal

abbrev pub decreases-bare : goal.decreases-bare
decreases-bare l = size (expr_of l.e)
