use Rattle.std.proofs.Common.{refl, ◌∙◌}
use Rattle.sv_ast.specs.Firsts.{firsts, nulls}
use Rattle.sv_ast.specs.Syntax as g
use Rattle.sv_grammar.specs.Reading.{first}
use Rattle.sv_read.specs.Here.{seen}
use Rattle.sv_parse_unit.proofs.FirstSets.{same_classes}
use Rattle.sv_parse_unit.proofs.contract.VarWordBeginsUnits.begins.Goals as goal

pub returns : goal.returns
returns c = c.begins.ensures ∙ same_classes (seen c.args.cursor.now) (first nulls firsts (g.rules g.var_word)) (firsts g.var_word) refl refl
