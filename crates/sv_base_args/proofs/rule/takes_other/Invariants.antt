use Rattle.std.proofs.Common.{◌≡◌, drop}
use Rattle.sv_base_args.specs.BaseArguments.{takes_other}
use Rattle.sv_base_args.proofs.rule.takes_other.Given as goal

abbrev pub invariant-loop-c : goal.invariant-loop-c
invariant-loop-c l = takes_other (drop l.c-index l.contracts) l.name l.count ≡ takes_other l.contracts l.name l.count
