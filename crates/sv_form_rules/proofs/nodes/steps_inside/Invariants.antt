use Rattle.std.proofs.Common.{◌≡◌, map, length}
use Rattle.sv_plain.specs.PlainExprs.{suffixes}
use Rattle.sv_plain.specs.ExprFolds.{plain_suffix}
use Rattle.sv_form_rules.specs.NodeRules.{steps_inside}
use Rattle.sv_form_rules.proofs.nodes.steps_inside.Given as goal

abbrev pub decreases-suffixes : goal.decreases-suffixes
decreases-suffixes l = length l.left

abbrev pub invariant-suffixes : goal.invariant-suffixes
invariant-suffixes l = steps_inside l.inner (suffixes (map plain_suffix l.left)) ≡ steps_inside l.inner (suffixes (map plain_suffix l.fn.list))
