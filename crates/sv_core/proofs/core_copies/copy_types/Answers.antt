use Rattle.std.proofs.Common.{◌≡◌, Some, slice_get, arith}
use Rattle.sv_core.proofs.LabelLemmas.{pushed_next}
use Rattle.sv_core.proofs.core_copies.copy_types.Goals as goal

pub loop-k-preserved : goal.loop-k-preserved
loop-k-preserved c =
    let got : slice_get c.args.types.now c.loop-k.k ≡ Some c.get.result.now = grind arith in
    pushed_next c.args.types.now c.loop-k.k c.get.result.now _ _ _ got c.in_ok-copy_info.ensures c.loop-k.invariant c.in_ok-push.ensures.items

pub returns-in_err-copy_info : goal.returns-in_err-copy_info
returns-in_err-copy_info c = grind arith

pub returns-in_err-push : goal.returns-in_err-push
returns-in_err-push c = grind arith
