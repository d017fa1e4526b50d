use Rattle.sv_local_names.proofs.Scopes.{innermost_is_found}
use Rattle.sv_local_names.proofs.laws.innermost_is_found.Goals as goal

pub returns : goal.returns
returns c = innermost_is_found
