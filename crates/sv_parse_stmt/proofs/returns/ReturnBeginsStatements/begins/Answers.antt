use Rattle.sv_parse_stmt.proofs.returns.ReturnBeginsStatements.begins.Goals as goal

pub returns : goal.returns
returns γ c = c.sees.ensures
