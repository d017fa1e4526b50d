use Rattle.std.proofs.Common.{rules, slice_index_or, pos, FitsSigned}
use mir.Syntax.{w128}
use Rattle.sv_term_forms.proofs.Forming.{one_more}
use Rattle.sv_term_forms.proofs.asking.read.Goals as goal

pub loop-k-preserved : goal.loop-k-preserved
loop-k-preserved c =
    let f : FitsSigned w128 (slice_index_or c.args.parts.now c.loop-k.k (pos 0, 0)).0 = search rules in
    one_more c.args.parts.now c.loop-k.k c.loop-k-test.true f c.loop-k.invariant
