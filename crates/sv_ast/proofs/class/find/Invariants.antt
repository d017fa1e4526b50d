use Rattle.sv_ast.proofs.ClassLemmas.{IsPassed}
use Rattle.sv_ast.proofs.class.find.Given as goal

abbrev pub invariant-loop-spelled : goal.invariant-loop-spelled
invariant-loop-spelled l = IsPassed l.table l.text l.spelled-index
