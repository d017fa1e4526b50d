use Rattle.sv_point.proofs.Bounds.{chosen}
use Rattle.sv_point.proofs.chosen_is_nearest.Goals as goal

pub returns : goal.returns
returns c = chosen
