use Rattle.std.proofs.Common.{arith}
use Rattle.sv_plain.proofs.StmtViews.{statement_parts}
use Rattle.sv_name_book.proofs.Ifs.{if_is_no_for}
use Rattle.sv_name_book.proofs.nodes.is_for.Goals as goal

pub returns-in-For : goal.returns-in-For
returns-in-For c = grind (arith, statement_parts)

pub returns-in-While : goal.returns-in-While
returns-in-While c = grind (arith, statement_parts)

pub returns-in-Unchecked : goal.returns-in-Unchecked
returns-in-Unchecked c = grind (arith, statement_parts)

pub returns-in-Block : goal.returns-in-Block
returns-in-Block c = grind (arith, statement_parts)

pub returns-in-Simple : goal.returns-in-Simple
returns-in-Simple c = grind (arith, statement_parts)

pub returns-in-If : goal.returns-in-If
returns-in-If c = grind (arith, statement_parts, if_is_no_for)
