use Rattle.sv_lin.specs.Eliminations.{AreDivided}
use Rattle.sv_lin.specs.UnderWay.{entries_of, given, force, IsUnderWay, CombinesFirstOf}
use Rattle.sv_lin.proofs.rounds.combine_sides.Given as goal

abbrev pub invariant-loop-upper : goal.invariant-loop-upper
invariant-loop-upper l = record {
  way : IsUnderWay (given l.rows) l.limit (entries_of l.work.made.items);
  divided : AreDivided (force l.rows l.work.made.items);
  sums : CombinesFirstOf l.upper-index l.uppers l.lowers (force l.rows l.fn.work.made.items) (force l.rows l.work.made.items);
}
