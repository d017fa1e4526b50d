use Rattle.std.proofs.Common.{◌≡◌, ◌≤◌, ◌+◌, drop, length}
use Rattle.sv_term.specs.Banks.{Keeps, IsBool, term, term_list}
use Rattle.sv_vc.specs.ConditionWalk.{agreed}
use Rattle.sv_vc.specs.CodeStates.{marked}
use Rattle.sv_vc.proofs.joining.agreement.Given as goal

abbrev pub invariant-loop-i : goal.invariant-loop-i
invariant-loop-i l = record {
  kept : Keeps l.fn.bank l.bank;
  truth : IsBool l.bank l.all;
  terms : agreed (marked l.marks) l.i (term l.bank l.all) (drop l.i (term_list l.fn.bank l.env)) (drop l.i (term_list l.fn.bank l.versions)) ≡ agreed (marked l.marks) 0 (term l.fn.bank l.fn.facts) (term_list l.fn.bank l.env) (term_list l.fn.bank l.versions);
  size : length l.bank.nodes ≤ length l.fn.bank.nodes + (l.i + l.i);
}
