use Rattle.sv_parse_stmt.proofs.block.BlockBeginsStatements.begins.Goals as goal

pub returns : goal.returns
returns γ c = c.sees.ensures
