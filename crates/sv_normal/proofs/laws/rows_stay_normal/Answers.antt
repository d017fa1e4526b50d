use Rattle.sv_normal.proofs.NormalParts as n
use Rattle.sv_normal.proofs.laws.rows_stay_normal.Goals as goal

pub returns : goal.returns
returns c = n.rows_stay_normal
