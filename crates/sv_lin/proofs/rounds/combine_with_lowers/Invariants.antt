use Rattle.sv_lin.specs.Eliminations.{AreDivided}
use Rattle.sv_lin.specs.UnderWay.{entries_of, given, force, IsUnderWay, CombinesFirst}
use Rattle.sv_lin.proofs.rounds.combine_with_lowers.Given as goal

abbrev pub invariant-loop-lower : goal.invariant-loop-lower
invariant-loop-lower l = record {
  way : IsUnderWay (given l.rows) l.limit (entries_of l.work.made.items);
  divided : AreDivided (force l.rows l.work.made.items);
  sums : CombinesFirst l.lower-index l.upper l.lowers (force l.rows l.fn.work.made.items) (force l.rows l.work.made.items);
}
