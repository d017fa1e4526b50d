use Rattle.std.proofs.Common.{◌≤◌, length, drop}
use Rattle.sv_term.specs.Banks.{TupRow}
use Rattle.sv_bank_sorts.specs.SortNumbering.{IsAdded}
use Rattle.sv_bank_sorts.proofs.fill.add_tuple.Given as goal

-- the tail of the tuple from that place on is in the room
abbrev pub invariant-loop-left : goal.invariant-loop-left
invariant-loop-left l = (l.left ≤ length l.parts) × IsAdded l.fn.room (TupRow (drop l.left l.parts)) l.numbers l.number l.room

abbrev pub decreases-loop-left : goal.decreases-loop-left
decreases-loop-left l = l.left
