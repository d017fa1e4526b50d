use Rattle.std.proofs.Common.{suc, arith}
use Rattle.std.proofs.lemmas.Grind.{common_steps}
use Rattle.sv_term.specs.Banks.{row_of}
use Rattle.sv_bank_sorts.proofs.Numbering.{taken_step, taken_more}
use Rattle.sv_bank_sorts.proofs.need.cells_for.Goals as goal

pub returns-in_err-sum : goal.returns-in_err-sum
returns-in_err-sum c =
    let step = taken_step c.args.bank.now.sorts c.loop-k.k (row_of c.sort_node.result.now) c.sort_node.ensures.node in
    let more = taken_more c.args.bank.now.sorts (suc c.loop-k.k) c.args.count (omega (arith, c.loop-k-test.true)) in
    grind (arith, common_steps, step, more)

pub loop-k-preserved : goal.loop-k-preserved
loop-k-preserved c =
    let step = taken_step c.args.bank.now.sorts c.loop-k.k (row_of c.sort_node.result.now) c.sort_node.ensures.node in
    grind (arith, common_steps, step)
