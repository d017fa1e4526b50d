use Rattle.sv_cli.proofs.due.check_tree.Goals as goal

pub returns-in-Ok : goal.returns-in-Ok
returns-in-Ok c = (c.in-Ok.ensures.answers.0, c.in-Ok.ensures.answers.2)

pub returns-in-Err-Syntax : goal.returns-in-Err-Syntax
returns-in-Err-Syntax c = rw c.in-Err-Syntax.field-0-is at c.in-Err-Syntax.ensures.answers
