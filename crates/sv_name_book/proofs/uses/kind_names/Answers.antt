use Rattle.std.proofs.Common.{arith}
use Rattle.std.proofs.lemmas.Grind.{common_steps}
use Rattle.sv_plain.proofs.ExprViews.{parts}
use Rattle.sv_name_book.proofs.uses.kind_names.Goals as goal

pub returns-in-Named : goal.returns-in-Named
returns-in-Named c = grind (arith, parts, common_steps)

pub returns-in-Elementary : goal.returns-in-Elementary
returns-in-Elementary c = grind (arith, parts, common_steps)

pub returns-in-Address : goal.returns-in-Address
returns-in-Address c = grind (arith, parts, common_steps)

pub returns-in-String : goal.returns-in-String
returns-in-String c = grind (arith, parts, common_steps)

pub returns-in-Mapping : goal.returns-in-Mapping
returns-in-Mapping c = grind (arith, parts, common_steps)
