use Rattle.std.proofs.Common.{◌≡◌, drop}
use Rattle.std.specs.List.{list_any}
use Rattle.sv_ring.specs.RingSteps.{is_constant_word}
use Rattle.sv_ring.proofs.steps.is_constant.Given as goal

abbrev pub invariant-loop-w : goal.invariant-loop-w
invariant-loop-w l = list_any is_constant_word (drop l.w-index l.words) ≡ list_any is_constant_word l.words
