use Rattle.sv_read.specs.PartReading.{no_memory}
use Rattle.sv_read.proofs.Exits.{left_by}
use Rattle.sv_read.proofs.parts.BoxedParse.parse.Goals as goal

pub returns-in_err-new : goal.returns-in_err-new
returns-in_err-new g c = left_by _ _ _ _ _ _ c.from_residual-in_err-new.ensures no_memory

pub parse-requires : goal.parse-requires
parse-requires g c = c.requires
