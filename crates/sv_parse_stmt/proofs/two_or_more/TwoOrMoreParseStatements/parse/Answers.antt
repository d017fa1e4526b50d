use Rattle.sv_read.specs.PartReading.{no_memory}
use Rattle.sv_read.proofs.Exits.{left_by}
use Rattle.sv_parse_stmt.proofs.two_or_more.TwoOrMoreParseStatements.parse.Goals as goal

pub returns-in_err-first : goal.returns-in_err-first
returns-in_err-first γ c = left_by _ _ _ _ _ _ c.from_residual.ensures c.in_err-first.ensures

pub returns : goal.returns
returns γ c = rw c.in_ok-items.ensures c.in_ok-first.ensures

pub returns-in_err-items : goal.returns-in_err-items
returns-in_err-items γ c = left_by _ _ _ _ _ _ c.from_residual-in_err-items.ensures no_memory
