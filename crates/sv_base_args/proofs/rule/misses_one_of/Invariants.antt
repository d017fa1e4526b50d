use Rattle.std.proofs.Common.{◌≡◌, drop, not, nat_eq, ◌&&◌, slice_get}
use Rattle.std.specs.List.{list_any}
use Rattle.sv_base_args.specs.BaseArguments.{is_missing}
use Rattle.sv_base_args.proofs.rule.misses_one_of.Given as goal

abbrev pub invariant-loop-a : goal.invariant-loop-a
invariant-loop-a l = list_any (λ a. not (nat_eq a l.c) && is_missing l.contracts l.line (slice_get l.contracts a)) (drop l.a-index l.line) ≡ list_any (λ a. not (nat_eq a l.c) && is_missing l.contracts l.line (slice_get l.contracts a)) l.line
