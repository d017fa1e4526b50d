use Rattle.std.proofs.Common.{◌≡◌, drop}
use Rattle.std.specs.List.{list_any}
use Rattle.sv_base_args.specs.BaseArguments.{is_sought}
use Rattle.sv_base_args.proofs.given.are_among.Given as goal

abbrev pub invariant-loop-u : goal.invariant-loop-u
invariant-loop-u l = list_any (is_sought l.sought) (drop l.u-index l.uses) ≡ list_any (is_sought l.sought) l.uses
