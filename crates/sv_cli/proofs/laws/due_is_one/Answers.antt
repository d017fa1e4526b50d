use Rattle.sv_cli.proofs.OneDue.{due_is_one}
use Rattle.sv_cli.proofs.laws.due_is_one.Goals as goal

pub returns : goal.returns
returns c = due_is_one
