use Rattle.std.proofs.Common.{arith}
use Rattle.std.proofs.lemmas.Grind.{common_steps}
use Rattle.sv_plain.proofs.ExprViews.{parts}
use Rattle.sv_name_book.proofs.uses.plain_use.Goals as goal

pub returns : goal.returns
returns c = grind (arith, parts, common_steps)
