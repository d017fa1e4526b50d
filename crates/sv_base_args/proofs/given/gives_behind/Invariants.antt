use Rattle.std.proofs.Common.{◌≡◌, drop}
use Rattle.sv_base_args.specs.BaseArguments.{gives_behind}
use Rattle.sv_base_args.proofs.given.gives_behind.Given as goal

abbrev pub invariant-loop-d : goal.invariant-loop-d
invariant-loop-d l = gives_behind l.sought (drop l.d-index l.declarations) ≡ gives_behind l.sought l.declarations
