use Rattle.std.proofs.Common.{◌≡◌, drop}
use Rattle.sv_base_args.specs.BaseArguments.{is_given_along}
use Rattle.sv_base_args.proofs.given.is_given_along.Given as goal

abbrev pub invariant-loop-d : goal.invariant-loop-d
invariant-loop-d l = is_given_along l.contracts l.sought (drop l.d-index l.line) ≡ is_given_along l.contracts l.sought l.line
