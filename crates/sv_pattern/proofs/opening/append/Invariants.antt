use Rattle.std.proofs.Common.{◌≡◌, ◌++◌, take}
use Rattle.sv_pattern.proofs.opening.append.Given as goal

abbrev pub invariant-loop-n : goal.invariant-loop-n
invariant-loop-n l = record { items : l.registers.items ≡ l.fn.registers.items ++ take l.n-index l.args }
