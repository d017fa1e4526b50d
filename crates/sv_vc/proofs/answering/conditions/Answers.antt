use Rattle.std.proofs.Common.{◌≡◌, ◌≤◌, ◌+◌, ◌∙◌, ℕ, length, map, refl, sym, ap, subst, arith}
use Rattle.sv_term.specs.Banks.{Keeps, AreSorts, sort_list, wide}
use Rattle.sv_term.proofs.BankGrowth.{keeps_on}
use Rattle.sv_gcl.specs.CommandShapes.{shape}
use Rattle.sv_vc.specs.ConditionWalk.{own}
use Rattle.sv_vc.specs.CodeStates.{sorts_of, found_of, load, cost}
use Rattle.sv_vc.specs.Preparations.{names_of}
use Rattle.sv_vc.specs.Gatherings.{MayGather, AllConjunctions}
use Rattle.sv_vc.proofs.Extending.{are_versions}
use Rattle.sv_vc.proofs.CostBounds.{within_bound}
use Rattle.sv_vc.proofs.Top.{begins, first_made, gathers, all_exact}
use Rattle.sv_vc.proofs.answering.conditions.Goals as goal

pub widened-requires : goal.widened-requires
widened-requires c = subst (λ z. AreSorts c.args.l.bank (sorts_of z)) (sym c.as_slice.ensures) c.requires.vars

pub own_terms-requires : goal.own_terms-requires
own_terms-requires c = c.in_ok-joined.ensures.kept.sorts_within (sorts_of c.as_slice-2.result.now) (subst (λ z. AreSorts c.args.l.bank (sorts_of z)) (sym c.as_slice-2.ensures) c.requires.vars)

pub walk-requires-clause-made : goal.walk-requires-clause-made
walk-requires-clause-made c = first_made c.args.l c.requires c.widened.new.bank c.own_terms.new.bank c.added.new.bank c.in_ok-given.given c.in_ok-joined.joined c.args.l.vars c.in_ok-env.env c.new.result c.in_ok-nothing.nothing c.in_ok-joined.ensures.kept c.in_ok-env.ensures.kept c.in_ok-nothing.ensures.kept
    c.in_ok-joined.ensures.within (c.in_ok-joined.ensures.wides ∙ ap (λ z. map wide (sort_list c.args.l.bank (sorts_of z))) c.as_slice.ensures) c.in_ok-env.ensures.within (c.in_ok-env.ensures.terms ∙ ap (λ z. own (sort_list c.widened.new.bank (sorts_of z)) 0) c.as_slice-2.ensures) (c.in_ok-given.ensures ∙ c.as_slice-3.ensures) refl c.new.ensures c.in_ok-nothing.ensures.stands
    c.is_sound.ensures.terms

pub walk-requires-clause-begins : goal.walk-requires-clause-begins
walk-requires-clause-begins c = begins c.args.l c.requires c.widened.new.bank c.own_terms.new.bank c.added.new.bank c.in_ok-given.given c.in_ok-joined.joined c.args.l.vars c.in_ok-env.env c.new.result c.in_ok-nothing.nothing c.in_ok-joined.ensures.kept c.in_ok-env.ensures.kept c.in_ok-nothing.ensures.kept
    c.in_ok-joined.ensures.within (c.in_ok-joined.ensures.wides ∙ ap (λ z. map wide (sort_list c.args.l.bank (sorts_of z))) c.as_slice.ensures) c.in_ok-env.ensures.within (c.in_ok-env.ensures.terms ∙ ap (λ z. own (sort_list c.widened.new.bank (sorts_of z)) 0) c.as_slice-2.ensures) (c.in_ok-given.ensures ∙ c.as_slice-3.ensures) refl c.new.ensures c.in_ok-nothing.ensures.stands

pub listed-requires : goal.listed-requires
listed-requires c = subst (λ z. MayGather c.walk.new.bank z c.in_ok-nothing.nothing) (sym c.as_slice-5.ensures) (gathers c.args.l c.requires c.widened.new.bank c.own_terms.new.bank c.added.new.bank c.in_ok-given.given c.in_ok-joined.joined c.args.l.vars c.in_ok-env.env c.new.result c.in_ok-nothing.nothing c.in_ok-joined.ensures.kept c.in_ok-env.ensures.kept c.in_ok-nothing.ensures.kept
    c.in_ok-joined.ensures.within (c.in_ok-joined.ensures.wides ∙ ap (λ z. map wide (sort_list c.args.l.bank (sorts_of z))) c.as_slice.ensures) c.in_ok-env.ensures.within (c.in_ok-env.ensures.terms ∙ ap (λ z. own (sort_list c.widened.new.bank (sorts_of z)) 0) c.as_slice-2.ensures) (c.in_ok-given.ensures ∙ c.as_slice-3.ensures) refl c.new.ensures c.in_ok-nothing.ensures.stands
    c.is_sound.ensures.terms c.walk.new.bank c.walk.new.state c.in_ok-walk.field-0 c.in_ok-walk.ensures.kept c.in_ok-walk.ensures.gives)

pub returns-clause-labels : goal.returns-clause-labels
returns-clause-labels c = c.in_ok-list.ensures.labels_are ∙ c.as_slice-4.ensures

pub returns-clause-exact : goal.returns-clause-exact
returns-clause-exact c = all_exact c.args.l c.requires c.widened.new.bank c.own_terms.new.bank c.added.new.bank c.in_ok-given.given c.in_ok-joined.joined c.args.l.vars c.in_ok-env.env c.new.result c.in_ok-nothing.nothing c.in_ok-joined.ensures.kept c.in_ok-env.ensures.kept c.in_ok-nothing.ensures.kept
    c.in_ok-joined.ensures.within (c.in_ok-joined.ensures.wides ∙ ap (λ z. map wide (sort_list c.args.l.bank (sorts_of z))) c.as_slice.ensures) c.in_ok-env.ensures.within (c.in_ok-env.ensures.terms ∙ ap (λ z. own (sort_list c.widened.new.bank (sorts_of z)) 0) c.as_slice-2.ensures) (c.in_ok-given.ensures ∙ c.as_slice-3.ensures) refl c.new.ensures c.in_ok-nothing.ensures.stands
    c.is_sound.ensures.terms c.walk.new.bank c.walk.new.state c.in_ok-walk.field-0 c.in_ok-walk.ensures.kept c.in_ok-walk.ensures.gives
    c.is_sound.ensures.nodes c.listed.new.bank c.in_ok-list.list (subst (λ z. AllConjunctions c.listed.new.bank (found_of c.walk.new.bank z) c.in_ok-list.list) c.as_slice-5.ensures c.in_ok-list.ensures.conjunctions)

pub returns-clause-size : goal.returns-clause-size
returns-clause-size c =
    let given : length c.in_ok-given.given ≡ length c.args.l.vars = ap length (c.in_ok-given.ensures ∙ c.as_slice-3.ensures) in
    let own_long : length c.as_slice-2.result.now ≡ length c.args.l.vars = ap length c.as_slice-2.ensures in
    let found : length c.as_slice-5.result.now ≡ length c.walk.new.state.found = ap length c.as_slice-5.ensures in
    let start : ◌≡◌ {A = ℕ} (length c.new.result) 0 = ap length c.new.ensures in
    let same : length c.widened.new.bank.nodes ≡ length c.args.l.bank.nodes = ap length c.in_ok-joined.ensures.nodes in
    let walked = c.in_ok-walk.ensures.size in
    let bound = within_bound c.args.l.bank (length c.args.l.vars) (length c.args.l.labels) (shape c.args.l.cmd) c.requires.within in
    omega (arith, own_long, found, start, same, subst (λ n. load c.walk.new.bank c.walk.new.state ≤ load c.added.new.bank record { env = c.in_ok-env.env; vars = c.args.l.vars; found = c.new.result } + cost n (shape c.args.l.cmd)) given walked, bound, c.in_ok-env.ensures.size, c.in_ok-nothing.ensures.size, c.in_ok-list.ensures.size)

pub returns-clause-vars : goal.returns-clause-vars
returns-clause-vars c =
    let kept : Keeps c.widened.new.bank c.listed.new.bank = keeps_on (keeps_on (keeps_on c.in_ok-env.ensures.kept c.in_ok-nothing.ensures.kept) c.in_ok-walk.ensures.kept) c.in_ok-list.ensures.kept in
    are_versions c.args.l c.widened.new.bank c.listed.new.bank c.in_ok-given.given c.in_ok-joined.joined c.in_ok-joined.ensures.kept kept c.requires.vars c.in_ok-joined.ensures.within (c.in_ok-given.ensures ∙ c.as_slice-3.ensures)
    (c.in_ok-joined.ensures.names ∙ ap names_of c.as_slice.ensures) (c.in_ok-joined.ensures.wides ∙ ap (λ z. map wide (sort_list c.args.l.bank (sorts_of z))) c.as_slice.ensures) c.walk.new.state.vars c.in_ok-walk.ensures.extends

pub returns-clause-kept : goal.returns-clause-kept
returns-clause-kept c = keeps_on (keeps_on (keeps_on (keeps_on c.in_ok-joined.ensures.kept c.in_ok-env.ensures.kept) c.in_ok-nothing.ensures.kept) c.in_ok-walk.ensures.kept) c.in_ok-list.ensures.kept
