use Rattle.std.proofs.Common.{◌-◌, ◌≤◌, length, vec_capacity}
use Rattle.sv_bank_sorts.proofs.Numbering.{IsFilled}
use Rattle.sv_bank_sorts.proofs.fill.number_sorts.Given as goal

abbrev pub invariant-loop-room : goal.invariant-loop-room
invariant-loop-room l = IsFilled l.bank l.count l.fn.room l.numbers.items l.room × (l.count ≤ vec_capacity l.numbers)

abbrev pub decreases-loop-room : goal.decreases-loop-room
decreases-loop-room l = l.count - length l.numbers.items
