use Rattle.std.proofs.Common.{◌≡◌, ◌++◌, drop, map}
use Rattle.sv_term.specs.Banks.{Keeps, AreSorts, sort, sort_list, wide}
use Rattle.sv_vc.specs.CodeStates.{sorts_of}
use Rattle.sv_vc.specs.Preparations.{names_of}
use Rattle.sv_vc.proofs.preparing.widened.Given as goal

abbrev pub invariant-loop-var : goal.invariant-loop-var
invariant-loop-var l = record {
  kept : Keeps l.fn.bank l.bank;
  nodes : l.bank.nodes ≡ l.fn.bank.nodes;
  within : AreSorts l.bank (sorts_of l.list);
  wides : sort_list l.bank (sorts_of l.list) ++ map (λ v. wide (sort l.fn.bank v.sort)) (drop l.var-index l.vars) ≡ map (λ v. wide (sort l.fn.bank v.sort)) l.vars;
  names : names_of l.list ++ names_of (drop l.var-index l.vars) ≡ names_of l.vars;
}
