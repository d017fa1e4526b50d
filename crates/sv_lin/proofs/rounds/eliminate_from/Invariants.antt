use Rattle.std.proofs.Common.{length}
use Rattle.sv_lin.specs.Eliminations.{AreDivided}
use Rattle.sv_lin.specs.UnderWay.{entries_of, given, force, IsUnderWay, AreLeft}
use Rattle.sv_lin.proofs.rounds.eliminate_from.Given as goal

abbrev pub invariant-loop-column : goal.invariant-loop-column
invariant-loop-column l = record {
  way : IsUnderWay (given l.rows) l.limit (entries_of l.work.made.items);
  divided : AreDivided (force l.rows l.work.made.items);
  left : AreLeft (force l.rows l.work.made.items) l.fn.columns l.left;
}

abbrev pub decreases-loop-column : goal.decreases-loop-column
decreases-loop-column l = length l.left
