use Rattle.sv_ast.specs.Classes.{sizes, elementary_names}
use Rattle.sv_ast.proofs.class.is_elementary.Goals as goal

pub returns : goal.returns
unfolding elementary_names sizes
returns c = c.is_one_of.ensures
