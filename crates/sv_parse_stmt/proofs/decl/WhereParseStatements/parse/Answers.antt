use Rattle.sv_parse_stmt.proofs.decl.WhereParseStatements.parse.Goals as goal

pub returns : goal.returns
returns γ c = c.read_location.ensures
