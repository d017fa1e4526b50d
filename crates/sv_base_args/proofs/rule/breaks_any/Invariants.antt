use Rattle.std.proofs.Common.{◌≡◌, drop}
use Rattle.sv_base_args.specs.BaseArguments.{breaks_any}
use Rattle.sv_base_args.proofs.rule.breaks_any.Given as goal

abbrev pub invariant-loop-line : goal.invariant-loop-line
invariant-loop-line l = breaks_any l.contracts (drop l.line-index l.lines) l.c l.name l.given ≡ breaks_any l.contracts l.lines l.c l.name l.given
