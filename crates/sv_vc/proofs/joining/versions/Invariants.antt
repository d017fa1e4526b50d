use Rattle.std.proofs.Common.{◌≡◌, ◌≤◌, ◌+◌, ◌++◌, drop, length}
use Rattle.sv_term.specs.Banks.{Keeps, AreTerms, term_list}
use Rattle.sv_vc.specs.ConditionWalk.{joint, after_joint}
use Rattle.sv_vc.specs.CodeStates.{Extends, sorts_in, marked}
use Rattle.sv_vc.proofs.joining.versions.Given as goal

abbrev pub invariant-loop-i : goal.invariant-loop-i
invariant-loop-i l = record {
  kept : Keeps l.fn.bank l.bank;
  within : AreTerms l.bank l.now;
  terms : term_list l.bank l.now ++ joint (sorts_in l.fn.bank l.scope) (marked l.marks) l.i (drop l.i (term_list l.fn.bank l.env)) (length l.vars) ≡ joint (sorts_in l.fn.bank l.scope) (marked l.marks) 0 (term_list l.fn.bank l.env) (length l.fn.vars);
  next : after_joint (marked l.marks) l.i (drop l.i (term_list l.fn.bank l.env)) (length l.vars) ≡ after_joint (marked l.marks) 0 (term_list l.fn.bank l.env) (length l.fn.vars);
  extends : Extends l.scope l.fn.vars l.vars;
  size : length l.bank.nodes ≤ length l.fn.bank.nodes + l.i;
}
