use Rattle.std.proofs.Common.{◌≡◌, ◌+◌, drop}
use Rattle.sv_base.specs.BaseNumbers.{first_at}
use Rattle.sv_base.proofs.numbers.first_at.Given as goal

abbrev pub invariant-loop-x : goal.invariant-loop-x
invariant-loop-x l = (l.count ≡ l.x-index) × (l.count + first_at l.n (drop l.x-index l.names) ≡ first_at l.n l.names)
