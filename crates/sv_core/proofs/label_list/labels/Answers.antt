use Rattle.std.proofs.Common.{sym, subst, Contains, arith}
use Rattle.std.proofs.lemmas.List.Filters.{dedup_is}
use Rattle.std.proofs.lemmas.List.Kept.{Contains-dedup, Contains-from_dedup, IsStrictlySortedBy-dedup}
use Rattle.std.proofs.lemmas.List.Sorted.{Contains-permutation, IsPermutation-sym}
use Rattle.sv_core.specs.contracts.label.LabelOrd.TheImpl.Laws.{total-law, matches_eq-law}
use Rattle.sv_core.specs.contracts.label.LabelEq.TheImpl.Laws.{laws-law}
use Rattle.sv_core.proofs.LabelOrders.{in_full_order, same_label}
use Rattle.sv_core.proofs.label_list.labels.Goals as goal

pub returns : goal.returns
returns c =
    let is = dedup_is _ _ _ c.dedup.ensures.filtered in
    let moved = c.sort_unstable.ensures.permutation in
    let found = c.in_ok-found.ensures in
    record {
      in_order = rw is (in_full_order _ (IsStrictlySortedBy-dedup total-law matches_eq-law _ c.sort_unstable.ensures.sorted));
      all = λ l h. rw is (Contains-dedup laws-law same_label _ l (Contains-permutation _ _ l moved (subst (λ xs. Contains xs l) (sym found) h)));
      only = λ l h. subst (λ xs. Contains xs l) found (Contains-permutation _ _ l (IsPermutation-sym _ _ moved) (Contains-from_dedup _ _ l (rw is at h)));
    }

pub returns-in_err-found : goal.returns-in_err-found
returns-in_err-found c = grind arith
