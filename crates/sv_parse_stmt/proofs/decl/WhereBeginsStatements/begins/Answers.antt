use Rattle.sv_parse_stmt.proofs.decl.WhereBeginsStatements.begins.Goals as goal

pub returns : goal.returns
returns γ c = c.sees_any.ensures
