-- What the parts of a statement are.
use Rattle.sv_plain.proofs.StmtViews.{statement_parts}

pub ruleset stating = (statement_parts)
