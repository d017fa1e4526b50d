use Rattle.std.proofs.Common.{◌≡◌, ◌+◌, ◌*◌, ◌++◌, drop, map, nat_eq}
use Rattle.indexmap.specs.IndexMap.{get}
use Rattle.sv_term.specs.Banks.{Keeps, AreTerms, term, term_list}
use Rattle.sv_vc.specs.Replacing.{replaced}
use Rattle.sv_vc.specs.OpenTerms.{Remembers, Pays}
use Rattle.sv_vc.proofs.replacing.+replace.Given as goal

abbrev pub decreases-replace : goal.decreases-replace
decreases-replace l = 3 * l.t.0 + 2

abbrev pub decreases-replace_node : goal.decreases-replace_node
decreases-replace_node l = 3 * l.t.0 + 1

abbrev pub decreases-replace_args : goal.decreases-replace_args
decreases-replace_args l = 3 * l.t.0

abbrev pub invariant-replace_args-loop-arg : goal.invariant-replace_args-loop-arg
invariant-replace_args-loop-arg l = record {
  kept : Keeps l.fn.bank l.bank;
  within : AreTerms l.bank l.list;
  terms : term_list l.bank l.list ++ map (λ k. replaced (term l.fn.bank k) (term_list l.fn.bank l.env)) (drop l.arg-index l.arg-items) ≡ map (λ k. replaced (term l.fn.bank k) (term_list l.fn.bank l.env)) l.arg-items;
  remembers : Remembers l.bank (term_list l.fn.bank l.env) (get nat_eq l.memo);
  pays : Pays l.fn.bank l.bank l.fn.t.0 0 (get nat_eq l.fn.memo) (get nat_eq l.memo);
}
