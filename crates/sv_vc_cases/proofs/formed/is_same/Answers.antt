use Rattle.sv_vc_cases.proofs.FormedTests.{sort_same}
use Rattle.sv_vc_cases.proofs.formed.is_same.Goals as goal

pub returns : goal.returns
returns c h = sort_same c.args.s c.args.r h
