use Rattle.std.proofs.Common.{drop}
use Rattle.sv_term.specs.Banks.{AreSorts}
use Rattle.sv_vc_cases.specs.FormedTests.{sorts_of}
use Rattle.sv_vc_cases.proofs.formed.sorts_are_there.Given as goal

abbrev pub invariant-loop-var : goal.invariant-loop-var
invariant-loop-var l = AreSorts l.bank (sorts_of (drop l.var-index l.vars)) → AreSorts l.bank (sorts_of l.vars)
