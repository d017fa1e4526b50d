use Rattle.std.proofs.Common.{◌+◌, ◌*◌, ◌++◌, ◌≡◌, ◌∙◌, Some, None, length, map, drop, get_or, nat_eq, option_copied, sym, ap, subst, arith}
use Rattle.indexmap.specs.IndexMap.{get}
use Rattle.sv_term.specs.Banks.{Keeps, Stands, term, term_list, args}
use Rattle.sv_term.proofs.BankGrowth.{keeps_on, keeps_same}
use Rattle.sv_vc.specs.NodeShapes.{IsLike, variable_in}
use Rattle.sv_vc.specs.Replacing.{replaced}
use Rattle.sv_vc.specs.OpenTerms.{Remembers}
use Rattle.sv_vc.proofs.ListSteps.{push_step, none_within, none_listed, within_step, listed_step}
use Rattle.sv_vc.proofs.Memos.{no_some, remembers_kept, remembers_put, pays_same, pays_more, pays_on, pays_put}
use Rattle.sv_vc.proofs.Renewing.{var_within, var_stands, args_long, renewed, renewed_fits, arg_below, may_replace, arg_is}
use Rattle.sv_vc.proofs.replacing.+replace.Goals as goal

pub replace-returns-in-Some : goal.replace-returns-in-Some
replace-returns-in-Some t c =
    let h : get nat_eq c.args.memo.now c.args.t.0 ≡ Some c.in-Some.known.now = sym c.get.ensures.value ∙ ap option_copied c.in-Some.is in
    record {
      kept = keeps_same c.args.bank.now;
      stands = (c.requires.remembers.at c.args.t c.in-Some.known.now h).1;
      remembers = c.requires.remembers;
      pays = pays_same c.args.bank.now (c.args.t.0 + 1) 0 (get nat_eq c.args.memo.now);
    }

pub replace-returns : goal.replace-returns
replace-returns t c =
    let k : Keeps c.args.bank.now c.replace_node.new.bank = c.in_ok-now.ensures.kept in
    let absent : get nat_eq c.args.memo.now c.args.t.0 ≡ None = sym c.get.ensures.value ∙ ap option_copied (no_some c.get.result c.in_default.not-Some) in
    record {
      kept = k;
      stands = c.in_ok-now.ensures.stands;
      remembers = remembers_put c.args.t c.in_ok-now.now (get nat_eq c.insert.new.self) (omega (arith, c.requires.within, k.size))
          (subst (λ z. Stands c.replace_node.new.bank c.in_ok-now.now (replaced z (term_list c.args.bank.now c.args.env.now))) (sym (k.terms c.args.t c.requires.within)) c.in_ok-now.ensures.stands)
          c.in_ok-insert.ensures.updates.0 c.in_ok-now.ensures.remembers;
      pays = pays_put c.args.t.0 c.in_ok-now.now (get nat_eq c.insert.new.self) absent c.in_ok-insert.ensures.updates.0 c.in_ok-now.ensures.pays;
    }

pub replace_args-loop-arg-init : goal.replace_args-loop-arg-init
replace_args-loop-arg-init t c = record {
  kept = keeps_same c.args.bank.now;
  within = none_within c.args.bank.now c.new-list.result c.new-list.ensures;
  terms = none_listed c.args.bank.now c.new-list.result _ c.new-list.ensures;
  remembers = c.requires.remembers;
  pays = pays_same c.args.bank.now c.args.t.0 0 (get nat_eq c.args.memo.now);
}

pub replace_args-replace-requires : goal.replace_args-replace-requires
replace_args-replace-requires t c =
    let d : 3 * c.args.t.0 ≡ t = c.decreases in
    let same : c.as_slice-arg-items.result.now ≡ args c.node_of.result.now = c.as_slice-arg-items.ensures ∙ c.in_ok-args.ensures in
    let below = arg_below c.args.bank.now c.loop-arg.bank c.args.t c.node_of.result.now c.args.env.now c.loop-arg.invariant.kept c.node_of.ensures.placed c.requires.env_within c.as_slice-arg-items.result.now c.loop-arg.arg-index same c.loop-arg-test.true in (
      omega (arith, d, below),
      may_replace c.args.bank.now c.loop-arg.bank c.args.t c.node_of.result.now c.args.env.now c.loop-arg.invariant.kept c.node_of.ensures.placed c.requires.env_within c.as_slice-arg-items.result.now c.loop-arg.arg-index same c.loop-arg-test.true
          (get nat_eq c.loop-arg.memo) c.requires.open_is c.loop-arg.invariant.remembers,
    )

pub replace_args-loop-arg-preserved : goal.replace_args-loop-arg-preserved
replace_args-loop-arg-preserved t c =
    let k : Keeps c.args.bank.now c.loop-arg.bank = c.loop-arg.invariant.kept in
    let same : c.as_slice-arg-items.result.now ≡ args c.node_of.result.now = c.as_slice-arg-items.ensures ∙ c.in_ok-args.ensures in
    let below = arg_below c.args.bank.now c.loop-arg.bank c.args.t c.node_of.result.now c.args.env.now k c.node_of.ensures.placed c.requires.env_within c.as_slice-arg-items.result.now c.loop-arg.arg-index same c.loop-arg-test.true in
    record {
      kept = keeps_on k c.in_ok-replace.ensures.kept;
      within = within_step c.loop-arg.bank c.replace.new.bank c.loop-arg.list c.push.new.self c.in_ok-replace.field-0 c.in_ok-replace.ensures.kept c.loop-arg.invariant.within c.in_ok-replace.ensures.stands.within c.in_ok-push.ensures.ok;
      terms =
          ap (λ z. z ++ map (λ j. replaced (term c.args.bank.now j) (term_list c.args.bank.now c.args.env.now)) (drop (c.loop-arg.arg-index + 1) c.as_slice-arg-items.result.now)) (listed_step c.loop-arg.bank c.replace.new.bank c.loop-arg.list c.push.new.self c.in_ok-replace.field-0 c.in_ok-replace.ensures.kept c.loop-arg.invariant.within c.in_ok-push.ensures.ok)
          ∙ push_step (λ j. replaced (term c.args.bank.now j) (term_list c.args.bank.now c.args.env.now)) (term_list c.loop-arg.bank c.loop-arg.list) c.as_slice-arg-items.result.now c.loop-arg.arg-index record { 0 = 0 } (term c.replace.new.bank c.in_ok-replace.field-0) _ c.loop-arg-test.true
          (arg_is c.args.bank.now c.loop-arg.bank c.args.t c.node_of.result.now c.args.env.now k c.node_of.ensures.placed c.requires.env_within c.as_slice-arg-items.result.now c.loop-arg.arg-index same c.loop-arg-test.true c.replace.new.bank c.in_ok-replace.field-0 c.in_ok-replace.ensures.stands)
          c.loop-arg.invariant.terms;
      remembers = subst (λ e. Remembers c.replace.new.bank e (get nat_eq c.replace.new.memo)) (k.lists c.args.env.now c.requires.env_within) c.in_ok-replace.ensures.remembers;
      pays = pays_on ((get_or c.as_slice-arg-items.result.now c.loop-arg.arg-index record { 0 = 0 }).0 + 1) (omega (arith, below)) c.loop-arg.invariant.pays c.in_ok-replace.ensures.pays;
    }

pub replace_node-value_of-requires : goal.replace_node-value_of-requires
replace_node-value_of-requires t c = var_within c.args.bank.now c.args.t c.in-Some.x c.node_of.result.now c.node_of.ensures.placed (sym c.variable_of.ensures ∙ c.in-Some.is) c.args.env.now c.requires.open_is

pub replace_node-returns-in-Some : goal.replace_node-returns-in-Some
replace_node-returns-in-Some t c = record {
  kept = keeps_same c.args.bank.now;
  stands = subst (λ z. Stands c.args.bank.now z (replaced (term c.args.bank.now c.args.t) (term_list c.args.bank.now c.args.env.now))) (sym c.value_of.ensures)
      (var_stands c.args.bank.now c.args.t c.in-Some.x c.node_of.result.now c.node_of.ensures.placed (sym c.variable_of.ensures ∙ c.in-Some.is) c.args.env.now c.requires.open_is c.requires.env_within);
  remembers = c.requires.remembers;
  pays = pays_same c.args.bank.now c.args.t.0 1 (get nat_eq c.args.memo.now);
}

pub replace_node-with_args-requires : goal.replace_node-with_args-requires
replace_node-with_args-requires t c =
    ap length c.as_slice.ensures
    ∙ args_long c.args.bank.now c.replace_args.new.bank c.args.t c.args.env.now c.node_of.result.now c.node_of-2.result.now c.in_ok-args.ensures.kept c.requires.within c.node_of.ensures.node c.node_of-2.ensures.node c.in_ok-args.args c.node_of.ensures.placed
    (c.in_ok-args.ensures.terms c.node_of.result.now c.node_of.ensures.node)

pub replace_node-added-requires : goal.replace_node-added-requires
replace_node-added-requires t c =
    let inner : variable_in c.node_of.result.now ≡ None = sym c.variable_of.ensures ∙ no_some c.variable_of.result c.in_default.not-Some in
    let like : IsLike c.node_of-2.result.now c.in_ok-args.args c.in_ok-node.node = subst (λ z. IsLike c.node_of-2.result.now z c.in_ok-node.node) c.as_slice.ensures c.in_ok-node.ensures in
    renewed_fits c.args.bank.now c.replace_args.new.bank c.args.t c.args.env.now c.node_of.result.now c.node_of-2.result.now c.in_ok-args.ensures.kept c.requires.within c.node_of.ensures.node c.node_of-2.ensures.node c.in_ok-args.args c.node_of.ensures.placed
    (c.in_ok-args.ensures.terms c.node_of.result.now c.node_of.ensures.node) c.in_ok-node.node c.node_of-2.ensures.placed inner like c.requires.env_within c.in_ok-args.ensures.within c.requires.open_is c.is_sound.ensures.terms c.is_sound.ensures.nodes

pub replace_node-returns : goal.replace_node-returns
replace_node-returns t c =
    let inner : variable_in c.node_of.result.now ≡ None = sym c.variable_of.ensures ∙ no_some c.variable_of.result c.in_default.not-Some in
    let like : IsLike c.node_of-2.result.now c.in_ok-args.args c.in_ok-node.node = subst (λ z. IsLike c.node_of-2.result.now z c.in_ok-node.node) c.as_slice.ensures c.in_ok-node.ensures in
    record {
      kept = keeps_on c.in_ok-args.ensures.kept c.in_ok-added.ensures.kept;
      stands = record {
        within = c.in_ok-added.ensures.stands.within;
        is = c.in_ok-added.ensures.stands.is ∙ renewed c.args.bank.now c.replace_args.new.bank c.args.t c.args.env.now c.node_of.result.now c.node_of-2.result.now c.in_ok-args.ensures.kept c.requires.within c.node_of.ensures.node c.node_of-2.ensures.node c.in_ok-args.args c.node_of.ensures.placed
            (c.in_ok-args.ensures.terms c.node_of.result.now c.node_of.ensures.node) c.in_ok-node.node c.node_of-2.ensures.placed inner like;
      };
      remembers = remembers_kept c.in_ok-added.ensures.kept c.in_ok-args.ensures.remembers;
      pays = pays_more c.added.new.bank c.args.t.0 (omega arith) c.in_ok-added.ensures.size c.in_ok-args.ensures.pays;
    }
