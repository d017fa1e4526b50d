use Rattle.sv_local_names.proofs.Scopes.{scope_is_its_own}
use Rattle.sv_local_names.proofs.laws.scope_is_its_own.Goals as goal

pub returns : goal.returns
returns c = scope_is_its_own
