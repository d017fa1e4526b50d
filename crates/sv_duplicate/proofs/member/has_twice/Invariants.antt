use Rattle.std.proofs.Common.{◌≡◌, length}
use Rattle.sv_duplicate.specs.DuplicateMembers.{has_twice}
use Rattle.sv_duplicate.proofs.member.has_twice.Given as goal

abbrev pub invariant-loop-n : goal.invariant-loop-n
invariant-loop-n l = has_twice l.rest ≡ has_twice l.names

abbrev pub decreases-loop-n : goal.decreases-loop-n
decreases-loop-n l = length l.rest
