use Rattle.std.proofs.Common.{refl, sym, ◌∙◌, map}
use Rattle.sv_ast.specs.Terminals.{code}
use Rattle.sv_ast.specs.Firsts.{firsts}
use Rattle.sv_ast.specs.Syntax as g
use Rattle.sv_read.specs.Here.{seen}
use Rattle.sv_parse_unit.specs.declared.contract.TheConstants.{KEYWORDS}
use Rattle.sv_parse_unit.proofs.FirstSets.{of_one, of_other}
use Rattle.sv_parse_unit.proofs.contract.PartBeginsUnits.begins.Goals as goal

pub returns-then-sees_type : goal.returns-then-sees_type
returns-then-sees_type c = c.if-sees_type.true ∙ of_one (seen c.args.cursor.now) (firsts g.type) (firsts g.part) refl (sym c.sees_type.ensures ∙ c.if-sees_type.true)

pub returns-else-sees_type : goal.returns-else-sees_type
returns-else-sees_type c = c.sees_any.ensures ∙ of_other (seen c.args.cursor.now) (firsts g.type) (map code KEYWORDS) (firsts g.part) refl refl (sym c.sees_type.ensures ∙ c.if-sees_type.false)
