use Rattle.std.proofs.Common.{◌≡◌, ◌≤◌, ◌+◌, suc, drop, length, map, true, false}
use Rattle.sv_term.specs.Terms.{Truth}
use Rattle.sv_term.specs.Banks.{Keeps, IsBool, AreTerms, term, term_list}
use Rattle.sv_gcl.specs.CommandShapes.{shape, shaped, commands}
use Rattle.sv_vc.specs.ConditionWalk.{walk_all, walk_any}
use Rattle.sv_vc.specs.CodeStates.{sorts_in, formulas_of, found_of, state_of, marked, AllBool, Extends, IsReady, costs, load}
use Rattle.sv_vc.proofs.Weights.{weight, weights}
use Rattle.sv_vc.proofs.walking.+walk.Given as goal

abbrev pub decreases-walk : goal.decreases-walk
decreases-walk l = weight (shape l.cmd.now)

abbrev pub decreases-walk_all : goal.decreases-walk_all
decreases-walk_all l = weights (shaped (map shape l.cmds.now))

abbrev pub decreases-walk_choice : goal.decreases-walk_choice
decreases-walk_choice l = suc (weights (shaped (map shape l.cmds.now)))

abbrev pub decreases-walk_each : goal.decreases-walk_each
decreases-walk_each l = weights (shaped (map shape l.cmds.now))

abbrev pub invariant-walk_all-loop-cmd : goal.invariant-walk_all-loop-cmd
invariant-walk_all-loop-cmd l = record {
  kept : Keeps l.fn.bank l.bank;
  truth : IsBool l.bank l.facts;
  ready : IsReady l.bank (sorts_in l.fn.bank l.scope) l.state;
  walked : walk_all (sorts_in l.fn.bank l.scope) (commands l.fn.bank (shaped (map shape (drop l.cmd-index l.cmds)))) (term l.fn.bank l.before) (term l.bank l.facts) (state_of l.bank l.state)
      ≡ walk_all (sorts_in l.fn.bank l.scope) (commands l.fn.bank (shaped (map shape l.cmds))) (term l.fn.bank l.before) (Truth true) (state_of l.fn.bank l.fn.state);
  extends : Extends l.scope l.fn.state.vars l.state.vars;
  size : load l.bank l.state + costs (length l.scope.given) (shaped (map shape (drop l.cmd-index l.cmds))) ≤ load l.fn.bank l.fn.state + (costs (length l.scope.given) (shaped (map shape l.cmds)) + 1);
}

abbrev pub invariant-walk_each-loop-cmd : goal.invariant-walk_each-loop-cmd
invariant-walk_each-loop-cmd l = record {
  kept : Keeps l.fn.bank l.bank;
  truth : IsBool l.bank l.any;
  found : AreTerms l.bank (formulas_of l.state.found);
  truths : AllBool (found_of l.bank l.state.found);
  walked : walk_any (sorts_in l.fn.bank l.scope) (commands l.fn.bank (shaped (map shape (drop l.cmd-index l.cmds)))) (term l.fn.bank l.before) (term_list l.fn.bank l.env) (marked l.marks) (term_list l.fn.bank l.joined) (term l.bank l.any) (state_of l.bank l.state)
      ≡ walk_any (sorts_in l.fn.bank l.scope) (commands l.fn.bank (shaped (map shape l.cmds))) (term l.fn.bank l.before) (term_list l.fn.bank l.env) (marked l.marks) (term_list l.fn.bank l.joined) (Truth false) (state_of l.fn.bank l.fn.state);
  extends : Extends l.scope l.fn.state.vars l.state.vars;
  size : load l.bank l.state + costs (length l.scope.given) (shaped (map shape (drop l.cmd-index l.cmds))) ≤ load l.fn.bank l.fn.state + (costs (length l.scope.given) (shaped (map shape l.cmds)) + 1);
}
