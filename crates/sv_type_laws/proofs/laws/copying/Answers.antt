use Rattle.sv_type_laws.proofs.Copies.{defaults_fit, cleared_fits, copies_read, assignments_read}
use Rattle.sv_type_laws.proofs.Into.{copies_into}
use Rattle.sv_type_laws.proofs.laws.copying.Goals as goal

pub returns : goal.returns
returns c = record { defaults = defaults_fit; cleared = cleared_fits; copies = copies_read; assignments = assignments_read; into_memory = copies_into }
