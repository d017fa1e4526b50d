use Rattle.sv_local_names.proofs.Scopes.{newest_is_found}
use Rattle.sv_local_names.proofs.laws.newest_is_found.Goals as goal

pub returns : goal.returns
returns c = newest_is_found
