use Rattle.std.proofs.Common.{arith}
use Rattle.sv_lin.proofs.Forces.{length_force, get_given, get_made}
use Rattle.sv_lin.proofs.work.Work.row.Goals as goal

pub index-requires : goal.index-requires
index-requires c = let l = length_force c.args.rows.now c.args.self.now.made.items in let h = c.requires in let k = c.args.self.now.made.ok in omega (arith, l, h)

pub returns-then-number-rows : goal.returns-then-number-rows
returns-then-number-rows c = get_given c.args.rows.now c.args.self.now.made.items c.args.number c.index-rows-number.result c.if-number-rows.true c.index-rows-number.is

pub returns-else-number-rows : goal.returns-else-number-rows
returns-else-number-rows c =
    let l = length_force c.args.rows.now c.args.self.now.made.items in
    let h = c.requires in
    let k = c.if-number-rows.false in
    get_made c.args.rows.now c.args.self.now.made.items c.args.number c.index.result.now k (omega (arith, l, h, k)) c.index.ensures
