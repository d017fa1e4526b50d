use Rattle.std.proofs.Common.{arith, ◌+◌, nat_eq}
use Rattle.indexmap.specs.IndexMap.{get}
use Rattle.sv_vc.proofs.Memos.{missing_most}
use Rattle.sv_vc.proofs.replacing.replaced.Goals as goal

pub returns-clause-size : goal.returns-clause-size
returns-clause-size c =
    let paid = c.in_ok-replace.ensures.pays.size (c.args.t.0 + 1) (omega arith) in
    omega (arith, paid, missing_most (get nat_eq c.new-memo.result) (c.args.t.0 + 1))
