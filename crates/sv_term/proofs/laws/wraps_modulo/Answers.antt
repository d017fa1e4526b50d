use Rattle.sv_term.proofs.Numbers.{wraps_modulo}
use Rattle.sv_term.proofs.laws.wraps_modulo.Goals as goal

pub returns : goal.returns
returns c = wraps_modulo
