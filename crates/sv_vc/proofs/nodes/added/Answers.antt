use Rattle.sv_vc.proofs.Growth.{adds_one}
use Rattle.sv_vc.proofs.nodes.added.Goals as goal

pub returns-clause-size : goal.returns-clause-size
returns-clause-size c = adds_one c.args.bank.now c.add.new.self c.args.node c.in_ok-add.ensures.there c.in_ok-add.ensures.last
