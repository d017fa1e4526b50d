use Rattle.std.proofs.Common.{refl}
use Rattle.sv_ast.specs.Classes.{sizes}
use Rattle.sv_type_piece.specs.ElementaryTypes.{elementary_rows}
use Rattle.sv_type_piece.proofs.elementary.elementary_rows.Goals as goal

pub returns : goal.returns
unfolding elementary_rows sizes
returns c = refl
