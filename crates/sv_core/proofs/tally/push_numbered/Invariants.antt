use Rattle.std.proofs.Common.{◌≡◌, ◌++◌}
use Rattle.sv_core.specs.Checks.{numbered}
use Rattle.sv_core.proofs.tally.push_numbered.Given as goal

abbrev pub invariant-loop-k : goal.invariant-loop-k
invariant-loop-k l = l.found.items ≡ l.initial.found.items ++ numbered l.site l.kind l.name l.k
