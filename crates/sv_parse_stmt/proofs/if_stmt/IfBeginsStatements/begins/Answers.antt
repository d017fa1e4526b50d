use Rattle.sv_parse_stmt.proofs.if_stmt.IfBeginsStatements.begins.Goals as goal

pub returns : goal.returns
returns γ c = c.sees.ensures
