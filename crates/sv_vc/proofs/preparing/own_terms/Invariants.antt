use Rattle.std.proofs.Common.{◌≡◌, ◌≤◌, ◌+◌, ◌++◌, drop, length}
use Rattle.sv_term.specs.Banks.{Keeps, AreTerms, sort_list, term_list}
use Rattle.sv_vc.specs.ConditionWalk.{own}
use Rattle.sv_vc.specs.CodeStates.{sorts_of}
use Rattle.sv_vc.proofs.preparing.own_terms.Given as goal

abbrev pub invariant-loop-i : goal.invariant-loop-i
invariant-loop-i l = record {
  kept : Keeps l.fn.bank l.bank;
  within : AreTerms l.bank l.env;
  terms : term_list l.bank l.env ++ own (drop l.i (sort_list l.fn.bank (sorts_of l.vars))) l.i ≡ own (sort_list l.fn.bank (sorts_of l.vars)) 0;
  size : length l.bank.nodes ≤ length l.fn.bank.nodes + l.i;
}
