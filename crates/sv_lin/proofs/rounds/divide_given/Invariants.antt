use Rattle.sv_lin.specs.UnderWay.{entries_of, given, IsUnderWay}
use Rattle.sv_lin.proofs.Dividing.{DividesFirst}
use Rattle.sv_lin.proofs.rounds.divide_given.Given as goal

abbrev pub invariant-loop-number : goal.invariant-loop-number
invariant-loop-number l = record {
  way : IsUnderWay (given l.rows) l.limit (entries_of l.work.made.items);
  firsts : DividesFirst l.rows l.work.made.items l.number;
}
