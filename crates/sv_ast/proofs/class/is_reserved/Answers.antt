use Rattle.sv_ast.specs.Classes.{reserved_words}
use Rattle.sv_ast.proofs.class.is_reserved.Goals as goal

pub returns : goal.returns
unfolding reserved_words
returns c = c.is_one_of.ensures
