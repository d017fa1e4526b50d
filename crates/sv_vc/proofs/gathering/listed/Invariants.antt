use Rattle.std.proofs.Common.{◌≡◌, ◌++◌, drop}
use Rattle.sv_vc.specs.CodeStates.{found_of}
use Rattle.sv_vc.specs.Gatherings.{AllConjunctions, labels_of}
use Rattle.sv_vc.proofs.gathering.listed.Given as goal

abbrev pub invariant-loop-label : goal.invariant-loop-label
invariant-loop-label l = record {
  labels : labels_of l.list ++ drop l.label-index l.labels ≡ l.labels;
  conjunctions : AllConjunctions l.bank (found_of l.fn.bank l.found) l.list;
}
