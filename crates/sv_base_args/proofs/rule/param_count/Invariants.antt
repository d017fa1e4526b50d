use Rattle.std.proofs.Common.{◌≡◌, drop}
use Rattle.sv_base_args.specs.BaseArguments.{param_count}
use Rattle.sv_base_args.proofs.rule.param_count.Given as goal

abbrev pub invariant-loop-d : goal.invariant-loop-d
invariant-loop-d l = param_count (drop l.d-index l.list) ≡ param_count l.list
