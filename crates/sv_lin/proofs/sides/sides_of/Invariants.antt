use Rattle.sv_lin.specs.UnderWay.{force, AreSides}
use Rattle.sv_lin.proofs.sides.sides_of.Given as goal

abbrev pub invariant-loop-number : goal.invariant-loop-number
invariant-loop-number l = AreSides (force l.rows l.work.made.items) l.column l.number l.sides.uppers.items l.sides.lowers.items
