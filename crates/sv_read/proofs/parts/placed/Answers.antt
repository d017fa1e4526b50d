use Rattle.std.proofs.Common.{refl}
use Rattle.sv_read.proofs.Exits.{left_by}
use Rattle.sv_read.proofs.Reading.{gives_side, fails_side}
use Rattle.sv_read.proofs.parts.placed.Goals as goal

pub parse-requires : goal.parse-requires
parse-requires g c = c.requires

pub returns-in_err-read : goal.returns-in_err-read
returns-in_err-read g c = λ s e. left_by _ _ _ _ _ _ c.from_residual.ensures (fails_side (rw e c.in_err-read.ensures))

pub returns : goal.returns
returns g c = λ s e. gives_side refl c.at-from.ensures.is c.extent.ensures (rw e c.in_ok-read.ensures)
