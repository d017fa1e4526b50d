use Rattle.std.proofs.Common.{arith}
use Rattle.sv_lin.proofs.Forces.{length_force}
use Rattle.sv_lin.proofs.work.Work.len.Goals as goal

pub returns : goal.returns
returns c = let a = c.len.ensures in let l = length_force c.args.rows.now c.args.self.now.made.items in let k = c.args.self.now.made.ok.0 in omega (arith, a, l, k)
