use Rattle.std.proofs.Common.{refl}
use Rattle.sv_sort_room.specs.CellCodes.{mixed}
use Rattle.sv_sort_room.proofs.cell.mix.Goals as goal

pub returns : goal.returns
unfolding mixed
returns c = refl
