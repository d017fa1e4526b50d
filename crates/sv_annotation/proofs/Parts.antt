-- What the parts of a node are.
use Rattle.sv_plain.proofs.ExprViews.{parts}

pub ruleset fitting = (parts)
