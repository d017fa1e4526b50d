use Rattle.std.proofs.Common.{◌≡◌, ◌++◌, map, reverse, length}
use Rattle.sv_cert.specs.PlainLogs.{plain_entry}
use Rattle.sv_lin.specs.UnderWay.{entries_of}
use Rattle.sv_lin.proofs.elimination.entries.Given as goal

abbrev pub invariant-loop-made : goal.invariant-loop-made
invariant-loop-made l = map plain_entry l.entries.items ++ entries_of (reverse l.left.items) ≡ entries_of l.fn.work.made.items

abbrev pub decreases-loop-made : goal.decreases-loop-made
decreases-loop-made l = length l.left.items
