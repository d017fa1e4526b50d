use Rattle.std.proofs.Common.{arith}
use Rattle.sv_first_judge.proofs.AssignedLemmas.{AreLight-tried, length_tried}
use Rattle.sv_first_judge.proofs.values.Values.assign.Goals as goal

pub invariant_of-self : goal.invariant_of-self
invariant_of-self c =
    let values = c.args.self.now in
    record {
      few = omega (arith, length_tried c.push.result values.assigned c.push.new.self _ c.push.ensures.ok c.push.ensures.err);
      light = AreLight-tried c.push.result values.assigned c.push.new.self _ c.push.ensures.ok c.push.ensures.err c.requires.light values.light;
    }
