use Rattle.sv_vc_cases.specs.FormedTests.{AreFine}
use Rattle.sv_vc_cases.proofs.formed.terms_are_fine.Given as goal

abbrev pub invariant-loop-i : goal.invariant-loop-i
invariant-loop-i l = AreFine l.bank l.vars l.i
