use Rattle.std.proofs.Common.{◌≡◌, ◌<◌, ◌∙◌, ℕ, suc, drop, map, length, sym, ap, ap₂, subst, arith}
use Rattle.sv_term.specs.Banks.{Keeps, AreTerms, term, term_list, kind_of}
use Rattle.sv_term.proofs.BankGrowth.{keeps_on, keeps_same, bool_kept}
use Rattle.sv_term.proofs.BankLists.{list_length}
use Rattle.sv_gcl.specs.Commands as choice
use Rattle.sv_gcl.specs.CommandShapes.{Seq, Choice, shape, shaped, commands}
use Rattle.sv_vc.specs.ConditionWalk.{agreed, walk, walk_all, walk_any}
use Rattle.sv_vc.specs.SetVariables.{some_shape_sets}
use Rattle.sv_vc.specs.CodeStates.{sorts_in, formulas_of, state_of, marked, AllBool, IsReady, IsMade, Gives, shapes_of}
use Rattle.sv_vc.proofs.Extending.{extends_same, extends_on}
use Rattle.sv_vc.proofs.Kept.{found_kept, made_at, made_later, all_made_later, may_walk, state_kept, ready_kept}
use Rattle.sv_vc.proofs.StepLemmas.{scope_long}
use Rattle.sv_vc.proofs.Turns.{shapes_end, costs_more, all_ready, all_walked, branch_ready, branch_size, branch_kinds, any_found, any_truths, any_walked}
use Rattle.sv_vc.proofs.Choices.{may_join, may_branch, chosen}
use Rattle.sv_vc.proofs.Weights.{weight, weights, weight_at}
use Rattle.sv_vc.proofs.CommandForms.{assume_shape, check_shape, set_shape, forget_shape, seq_shape, choice_shape, seq_made, choice_made, walked_as, stopped, stopped_any}
use Rattle.sv_vc.proofs.walking.+walk.Goals as goal

-- ---- form by form

pub walk-assume-requires-clause-made : goal.walk-assume-requires-clause-made
walk-assume-requires-clause-made t c = subst (IsMade c.args.bank.now (sorts_in c.args.bank.now c.args.scope.now)) (ap shape c.in-Assume.is ∙ assume_shape c.in-Assume.f) c.requires.made

pub walk-assume-requires-clause-begins : goal.walk-assume-requires-clause-begins
walk-assume-requires-clause-begins t c = c.requires.begins

pub walk-returns-in-Assume : goal.walk-returns-in-Assume
walk-returns-in-Assume t c = walked_as (ap shape c.in-Assume.is ∙ assume_shape c.in-Assume.f) c.assume.ensures

pub walk-check-requires-clause-made : goal.walk-check-requires-clause-made
walk-check-requires-clause-made t c = subst (IsMade c.args.bank.now (sorts_in c.args.bank.now c.args.scope.now)) (ap shape c.in-Check.is ∙ check_shape c.in-Check.label c.in-Check.f) c.requires.made

pub walk-check-requires-clause-begins : goal.walk-check-requires-clause-begins
walk-check-requires-clause-begins t c = c.requires.begins

pub walk-returns-in-Check : goal.walk-returns-in-Check
walk-returns-in-Check t c = walked_as (ap shape c.in-Check.is ∙ check_shape c.in-Check.label c.in-Check.f) c.check.ensures

pub walk-assign-requires-clause-made : goal.walk-assign-requires-clause-made
walk-assign-requires-clause-made t c = subst (IsMade c.args.bank.now (sorts_in c.args.bank.now c.args.scope.now)) (ap shape c.in-Set.is ∙ set_shape c.in-Set.x c.in-Set.t) c.requires.made

pub walk-assign-requires-clause-begins : goal.walk-assign-requires-clause-begins
walk-assign-requires-clause-begins t c = c.requires.begins

pub walk-returns-in-Set : goal.walk-returns-in-Set
walk-returns-in-Set t c = walked_as (ap shape c.in-Set.is ∙ set_shape c.in-Set.x c.in-Set.t) c.assign.ensures

pub walk-forget-requires-clause-made : goal.walk-forget-requires-clause-made
walk-forget-requires-clause-made t c = subst (IsMade c.args.bank.now (sorts_in c.args.bank.now c.args.scope.now)) (ap shape c.in-Forget.is ∙ forget_shape c.in-Forget.x) c.requires.made

pub walk-forget-requires-clause-begins : goal.walk-forget-requires-clause-begins
walk-forget-requires-clause-begins t c = c.requires.begins

pub walk-returns-in-Forget : goal.walk-returns-in-Forget
walk-returns-in-Forget t c = walked_as (ap shape c.in-Forget.is ∙ forget_shape c.in-Forget.x) c.forget.ensures

pub walk-walk_all-requires : goal.walk-walk_all-requires
walk-walk_all-requires t c =
    let e : shape c.args.cmd.now ≡ Seq (shapes_of c.as_slice.result.now) = ap shape c.in-Seq.is ∙ (seq_shape c.in-Seq.cmds ∙ ap (λ z. Seq (shapes_of z)) (sym c.as_slice.ensures)) in
    let d : weight (shape c.args.cmd.now) ≡ t = c.decreases in
    let less : weight (shape c.args.cmd.now) ≡ weight (Seq (shapes_of c.as_slice.result.now)) = ap weight e in (
      omega (arith, d, less),
      record {
        made = seq_made c.args.bank.now (sorts_in c.args.bank.now c.args.scope.now) (shapes_of c.as_slice.result.now) (subst (IsMade c.args.bank.now (sorts_in c.args.bank.now c.args.scope.now)) e c.requires.made);
        begins = c.requires.begins;
      },
    )

pub walk-returns-in-Seq : goal.walk-returns-in-Seq
walk-returns-in-Seq t c =
    let e : shape c.args.cmd.now ≡ Seq (shapes_of c.as_slice.result.now) = ap shape c.in-Seq.is ∙ (seq_shape c.in-Seq.cmds ∙ ap (λ z. Seq (shapes_of z)) (sym c.as_slice.ensures)) in
    walked_as e c.walk_all.ensures

pub walk-walk_choice-requires : goal.walk-walk_choice-requires
walk-walk_choice-requires t c =
    let e : shape c.args.cmd.now ≡ Choice (shapes_of c.as_slice-in-Choice.result.now) = ap shape c.in-Choice.is ∙ (choice_shape c.in-Choice.cmds ∙ ap (λ z. Choice (shapes_of z)) (sym c.as_slice-in-Choice.ensures)) in
    let d : weight (shape c.args.cmd.now) ≡ t = c.decreases in
    let less : weight (shape c.args.cmd.now) ≡ weight (Choice (shapes_of c.as_slice-in-Choice.result.now)) = ap weight e in (
      omega (arith, d, less),
      record {
        made = choice_made c.args.bank.now (sorts_in c.args.bank.now c.args.scope.now) (shapes_of c.as_slice-in-Choice.result.now) (subst (IsMade c.args.bank.now (sorts_in c.args.bank.now c.args.scope.now)) e c.requires.made);
        begins = c.requires.begins;
      },
    )

pub walk-returns-in-Choice : goal.walk-returns-in-Choice
walk-returns-in-Choice t c =
    let e : shape c.args.cmd.now ≡ Choice (shapes_of c.as_slice-in-Choice.result.now) = ap shape c.in-Choice.is ∙ (choice_shape c.in-Choice.cmds ∙ ap (λ z. Choice (shapes_of z)) (sym c.as_slice-in-Choice.ensures)) in
    walked_as e c.walk_choice.ensures

-- ---- one after another

pub walk_all-loop-cmd-init : goal.walk_all-loop-cmd-init
walk_all-loop-cmd-init t c =
    let k : Keeps c.args.bank.now c.added.new.bank = c.in_ok-facts.ensures.kept in
    record {
      kept = k;
      truth = record { within = c.in_ok-facts.ensures.stands.within; truth = ap kind_of c.in_ok-facts.ensures.stands.is };
      ready = ready_kept c.args.bank.now c.added.new.bank k (sorts_in c.args.bank.now c.args.scope.now) c.args.state.now c.requires.begins.ready;
      walked = ap₂ (walk_all (sorts_in c.args.bank.now c.args.scope.now) (commands c.args.bank.now (shaped (map shape c.args.cmds.now))) (term c.args.bank.now c.args.before)) c.in_ok-facts.ensures.stands.is
          (state_kept c.args.bank.now c.added.new.bank k c.args.state.now c.requires.begins.ready.env c.requires.begins.ready.found);
      extends = extends_same c.args.scope.now c.args.state.now.vars;
      size = omega (arith, c.in_ok-facts.ensures.size);
    }

pub walk_all-added-requires-in-loop-cmd : goal.walk_all-added-requires-in-loop-cmd
walk_all-added-requires-in-loop-cmd t c = (bool_kept c.args.bank.now c.loop-cmd.bank c.loop-cmd.invariant.kept c.args.before c.requires.begins.known, c.loop-cmd.invariant.truth)

pub walk_all-walk-requires : goal.walk_all-walk-requires
walk_all-walk-requires t c =
    let oa : Keeps c.args.bank.now c.added-in-loop-cmd.new.bank = keeps_on c.loop-cmd.invariant.kept c.in_ok-known.ensures.kept in
    let d : weights (shaped (map shape c.args.cmds.now)) ≡ t = c.decreases in (
      omega (arith, d, weight_at c.args.cmds.now c.loop-cmd.cmd-index c.cmd-item.result c.loop-cmd-test.true c.cmd-item.is),
      (
        made_later c.args.bank.now c.added-in-loop-cmd.new.bank oa c.args.scope.now c.requires.begins.scope_is (shape c.cmd-item.result)
            (made_at c.args.bank.now (sorts_in c.args.bank.now c.args.scope.now) c.args.cmds.now c.loop-cmd.cmd-index c.cmd-item.result c.loop-cmd-test.true c.cmd-item.is c.requires.made),
        may_walk c.args.bank.now c.added-in-loop-cmd.new.bank oa c.args.scope.now c.requires.begins.scope_is c.in_ok-known.known c.loop-cmd.state
            record { within = c.in_ok-known.ensures.stands.within; truth = ap kind_of c.in_ok-known.ensures.stands.is }
            (ready_kept c.loop-cmd.bank c.added-in-loop-cmd.new.bank c.in_ok-known.ensures.kept (sorts_in c.args.bank.now c.args.scope.now) c.loop-cmd.state c.loop-cmd.invariant.ready),
      ),
    )

pub walk_all-added-requires-in-loop-cmd-2 : goal.walk_all-added-requires-in-loop-cmd-2
walk_all-added-requires-in-loop-cmd-2 t c = (bool_kept c.loop-cmd.bank c.walk.new.bank (keeps_on c.in_ok-known.ensures.kept c.in_ok-more.ensures.kept) c.loop-cmd.facts c.loop-cmd.invariant.truth, c.in_ok-more.ensures.gives.truth)

pub walk_all-loop-cmd-preserved : goal.walk_all-loop-cmd-preserved
walk_all-loop-cmd-preserved t c =
    let ol : Keeps c.args.bank.now c.loop-cmd.bank = c.loop-cmd.invariant.kept in
    record {
      kept = keeps_on ol (keeps_on (keeps_on c.in_ok-known.ensures.kept c.in_ok-more.ensures.kept) c.in_ok-facts-2.ensures.kept);
      truth = record { within = c.in_ok-facts-2.ensures.stands.within; truth = ap kind_of c.in_ok-facts-2.ensures.stands.is };
      ready = all_ready c.args.bank.now c.args.scope.now c.args.cmds.now c.args.before c.requires.begins.scope_is c.requires.begins.known c.requires.made c.loop-cmd.cmd-index c.cmd-item.result c.loop-cmd-test.true c.cmd-item.is
          c.loop-cmd.bank c.added-in-loop-cmd.new.bank c.walk.new.bank c.added-in-loop-cmd-2.new.bank c.loop-cmd.facts c.in_ok-known.known c.in_ok-more.more c.in_ok-facts-2.facts c.loop-cmd.state c.walk.new.state
          ol c.in_ok-known.ensures.kept c.in_ok-more.ensures.kept c.in_ok-facts-2.ensures.kept c.loop-cmd.invariant.truth c.loop-cmd.invariant.ready c.in_ok-known.ensures.stands c.in_ok-more.ensures.gives c.in_ok-facts-2.ensures.stands;
      walked = all_walked c.args.bank.now c.args.scope.now c.args.cmds.now c.args.before c.requires.begins.scope_is c.requires.begins.known c.requires.made c.loop-cmd.cmd-index c.cmd-item.result c.loop-cmd-test.true c.cmd-item.is
          c.loop-cmd.bank c.added-in-loop-cmd.new.bank c.walk.new.bank c.added-in-loop-cmd-2.new.bank c.loop-cmd.facts c.in_ok-known.known c.in_ok-more.more c.in_ok-facts-2.facts c.loop-cmd.state c.walk.new.state
          ol c.in_ok-known.ensures.kept c.in_ok-more.ensures.kept c.in_ok-facts-2.ensures.kept c.loop-cmd.invariant.truth c.loop-cmd.invariant.ready c.in_ok-known.ensures.stands c.in_ok-more.ensures.gives c.in_ok-facts-2.ensures.stands _ c.loop-cmd.invariant.walked;
      extends = extends_on c.loop-cmd.invariant.extends c.in_ok-more.ensures.extends;
      size = omega (arith, c.loop-cmd.invariant.size, costs_more (length c.args.scope.now.given) c.args.cmds.now c.loop-cmd.cmd-index c.cmd-item.result c.loop-cmd-test.true c.cmd-item.is, c.in_ok-known.ensures.size, c.in_ok-more.ensures.size, c.in_ok-facts-2.ensures.size);
    }

pub walk_all-returns : goal.walk_all-returns
walk_all-returns t c =
    let e : shaped (map shape (drop c.loop-cmd.cmd-index c.args.cmds.now)) ≡ _ = shapes_end c.args.cmds.now c.loop-cmd.cmd-index c.loop-cmd-test.false in
    let w = ap (λ z. walk_all (sorts_in c.args.bank.now c.args.scope.now) (commands c.args.bank.now z) (term c.args.bank.now c.args.before) (term c.loop-cmd.bank c.loop-cmd.facts) (state_of c.loop-cmd.bank c.loop-cmd.state)) (sym e) ∙ c.loop-cmd.invariant.walked in
    record {
      kept = c.loop-cmd.invariant.kept;
      gives = record { truth = c.loop-cmd.invariant.truth; facts = ap (λ z. z.facts) w; env = c.loop-cmd.invariant.ready.env; found = c.loop-cmd.invariant.ready.found; state = ap (λ z. z.state) w };
      extends = c.loop-cmd.invariant.extends;
      size = omega (arith, c.loop-cmd.invariant.size);
    }

-- ---- a choice

pub walk_choice-versions-requires : goal.walk_choice-versions-requires
walk_choice-versions-requires t c =
    let size : length c.as_slice-marks.result.now ≡ length c.args.state.now.env = ap length c.as_slice-marks.ensures ∙ (c.in_ok-list.ensures.size ∙ c.len.ensures) in
    let is : (x : ℕ) → x < length c.args.state.now.env → marked c.as_slice-marks.result.now x ≡ some_shape_sets (shaped (map shape c.args.cmds.now)) x =
    λ x h. ap (λ m. marked m x) c.as_slice-marks.ensures ∙ c.in_ok-list.ensures.marks x (subst (λ n. x < n) (sym c.len.ensures) h) in
    let same : c.as_slice-env.result.now ≡ c.args.state.now.env = c.as_slice-env.ensures ∙ (c.in_ok-copy.ensures ∙ c.as_slice.ensures) in
    may_join c.args.bank.now c.args.scope.now (shaped (map shape c.args.cmds.now)) c.args.before c.args.state.now c.requires.made c.requires.begins c.as_slice-marks.result.now size is c.as_slice-env.result.now same

pub walk_choice-walk_each-requires : goal.walk_choice-walk_each-requires
walk_choice-walk_each-requires t c =
    let size : length c.as_slice-marks.result.now ≡ length c.args.state.now.env = ap length c.as_slice-marks.ensures ∙ (c.in_ok-list.ensures.size ∙ c.len.ensures) in
    let is : (x : ℕ) → x < length c.args.state.now.env → marked c.as_slice-marks.result.now x ≡ some_shape_sets (shaped (map shape c.args.cmds.now)) x =
    λ x h. ap (λ m. marked m x) c.as_slice-marks.ensures ∙ c.in_ok-list.ensures.marks x (subst (λ n. x < n) (sym c.len.ensures) h) in
    let same : c.as_slice-env.result.now ≡ c.args.state.now.env = c.as_slice-env.ensures ∙ (c.in_ok-copy.ensures ∙ c.as_slice.ensures) in
    let d : suc (weights (shaped (map shape c.args.cmds.now))) ≡ t = c.decreases in
    let oa : Keeps c.args.bank.now c.versions.new.bank = c.in_ok-joined.ensures.kept in
    let r : IsReady c.versions.new.bank (sorts_in c.args.bank.now c.args.scope.now) c.args.state.now = ready_kept c.args.bank.now c.versions.new.bank oa (sorts_in c.args.bank.now c.args.scope.now) c.args.state.now c.requires.begins.ready in (
      omega (arith, d),
      record {
        made = all_made_later c.args.bank.now c.versions.new.bank oa c.args.scope.now c.requires.begins.scope_is (shaped (map shape c.args.cmds.now)) c.requires.made;
        begins = may_walk c.args.bank.now c.versions.new.bank oa c.args.scope.now c.requires.begins.scope_is c.args.before _ (bool_kept c.args.bank.now c.versions.new.bank oa c.args.before c.requires.begins.known)
            record { env = r.env; found = r.found; sorted = record { size = r.sorted.size; kinds = r.sorted.kinds; truths = r.sorted.truths } };
        branches = may_branch c.args.bank.now c.args.scope.now (shaped (map shape c.args.cmds.now)) c.args.before c.args.state.now c.requires.made c.requires.begins c.as_slice-marks.result.now size is
            c.versions.new.bank c.as_slice-env.result.now c.as_slice-2.result.now c.versions.new.vars same c.in_ok-joined.ensures.kept (subst (AreTerms c.versions.new.bank) (sym c.as_slice-2.ensures) c.in_ok-joined.ensures.within) (ap (term_list c.versions.new.bank) c.as_slice-2.ensures ∙ c.in_ok-joined.ensures.terms) c.in_ok-joined.ensures.next;
      },
    )

pub walk_choice-returns : goal.walk_choice-returns
walk_choice-returns t c =
    let size : length c.as_slice-marks.result.now ≡ length c.args.state.now.env = ap length c.as_slice-marks.ensures ∙ (c.in_ok-list.ensures.size ∙ c.len.ensures) in
    let is : (x : ℕ) → x < length c.args.state.now.env → marked c.as_slice-marks.result.now x ≡ some_shape_sets (shaped (map shape c.args.cmds.now)) x =
    λ x h. ap (λ m. marked m x) c.as_slice-marks.ensures ∙ c.in_ok-list.ensures.marks x (subst (λ n. x < n) (sym c.len.ensures) h) in
    let same : c.as_slice-env.result.now ≡ c.args.state.now.env = c.as_slice-env.ensures ∙ (c.in_ok-copy.ensures ∙ c.as_slice.ensures) in
    let long : length c.as_slice-env.result.now ≡ length c.args.scope.now.given =
    ap length same ∙ (sym (list_length c.args.bank.now c.args.state.now.env) ∙ (c.requires.begins.ready.sorted.size ∙ scope_long c.args.bank.now c.args.scope.now)) in
    record {
      kept = keeps_on c.in_ok-joined.ensures.kept c.in_ok-any.ensures.kept;
      gives = subst (λ z. Gives c.walk_each.new.bank record { env = z; vars = c.walk_each.new.state.vars; found = c.walk_each.new.state.found } c.in_ok-any.any (walk (sorts_in c.args.bank.now c.args.scope.now) (choice.Choice (commands c.args.bank.now (shaped (map shape c.args.cmds.now)))) (term c.args.bank.now c.args.before) (state_of c.args.bank.now c.args.state.now))) c.as_slice-2.ensures
          (chosen c.args.bank.now c.args.scope.now (shaped (map shape c.args.cmds.now)) c.args.before c.args.state.now c.requires.made c.requires.begins c.as_slice-marks.result.now size is
          c.versions.new.bank c.as_slice-env.result.now c.as_slice-2.result.now c.versions.new.vars same c.in_ok-joined.ensures.kept (subst (AreTerms c.versions.new.bank) (sym c.as_slice-2.ensures) c.in_ok-joined.ensures.within) (ap (term_list c.versions.new.bank) c.as_slice-2.ensures ∙ c.in_ok-joined.ensures.terms) c.in_ok-joined.ensures.next
          c.walk_each.new.bank c.in_ok-any.any c.walk_each.new.state c.in_ok-any.ensures.kept c.in_ok-any.ensures.gives);
      extends = extends_on c.in_ok-joined.ensures.extends c.in_ok-any.ensures.extends;
      size = omega (arith, long, c.in_ok-joined.ensures.size, c.in_ok-any.ensures.size);
    }

-- ---- its branches

pub walk_each-loop-cmd-init : goal.walk_each-loop-cmd-init
walk_each-loop-cmd-init t c =
    let k : Keeps c.args.bank.now c.added.new.bank = c.in_ok-any.ensures.kept in
    record {
      kept = k;
      truth = record { within = c.in_ok-any.ensures.stands.within; truth = ap kind_of c.in_ok-any.ensures.stands.is };
      found = k.within (formulas_of c.args.state.now.found) c.requires.begins.ready.found;
      truths = subst AllBool (sym (found_kept c.args.bank.now c.added.new.bank k c.args.state.now.found c.requires.begins.ready.found)) c.requires.begins.ready.sorted.truths;
      walked = ap₂ (walk_any (sorts_in c.args.bank.now c.args.scope.now) (commands c.args.bank.now (shaped (map shape c.args.cmds.now))) (term c.args.bank.now c.args.before) (term_list c.args.bank.now c.args.env.now) (marked c.args.marks.now) (term_list c.args.bank.now c.args.joined.now)) c.in_ok-any.ensures.stands.is
          (state_kept c.args.bank.now c.added.new.bank k c.args.state.now c.requires.begins.ready.env c.requires.begins.ready.found);
      extends = extends_same c.args.scope.now c.args.state.now.vars;
      size = omega (arith, c.in_ok-any.ensures.size);
    }

pub walk_each-walk-requires : goal.walk_each-walk-requires
walk_each-walk-requires t c =
    let ol : Keeps c.args.bank.now c.loop-cmd.bank = c.loop-cmd.invariant.kept in
    let d : weights (shaped (map shape c.args.cmds.now)) ≡ t = c.decreases in (
      omega (arith, d, weight_at c.args.cmds.now c.loop-cmd.cmd-index c.cmd-item.result c.loop-cmd-test.true c.cmd-item.is),
      (
        made_later c.args.bank.now c.loop-cmd.bank ol c.args.scope.now c.requires.begins.scope_is (shape c.cmd-item.result)
            (made_at c.args.bank.now (sorts_in c.args.bank.now c.args.scope.now) c.args.cmds.now c.loop-cmd.cmd-index c.cmd-item.result c.loop-cmd-test.true c.cmd-item.is c.requires.made),
        may_walk c.args.bank.now c.loop-cmd.bank ol c.args.scope.now c.requires.begins.scope_is c.args.before _
            (bool_kept c.args.bank.now c.loop-cmd.bank ol c.args.before c.requires.begins.known)
            (branch_ready c.args.bank.now c.args.scope.now c.args.cmds.now c.args.before c.requires.begins.scope_is c.requires.begins.known c.requires.made c.loop-cmd.cmd-index c.cmd-item.result c.loop-cmd-test.true c.cmd-item.is
            c.args.marks.now c.args.env.now c.args.joined.now c.requires.branches c.loop-cmd.bank c.loop-cmd.state c.in_ok-state.field-0 ol c.loop-cmd.invariant.found c.loop-cmd.invariant.truths c.in_ok-state.ensures),
      ),
    )

pub walk_each-agreement-requires : goal.walk_each-agreement-requires
walk_each-agreement-requires t c =
    let oa : Keeps c.args.bank.now c.walk.new.bank = keeps_on c.loop-cmd.invariant.kept c.in_ok-facts.ensures.kept in
    let size : length c.as_slice.result.now ≡ length c.args.env.now = ap length c.as_slice.ensures ∙ branch_size c.args.bank.now c.args.scope.now c.args.cmds.now c.args.before c.requires.begins.scope_is c.requires.begins.known c.requires.made c.loop-cmd.cmd-index c.cmd-item.result c.loop-cmd-test.true c.cmd-item.is
    c.args.marks.now c.args.env.now c.args.joined.now c.requires.branches c.loop-cmd.bank c.loop-cmd.state c.in_ok-state.field-0 c.loop-cmd.invariant.kept c.loop-cmd.invariant.found c.loop-cmd.invariant.truths c.in_ok-state.ensures c.walk.new.bank c.in_ok-facts.facts c.walk.new.state c.in_ok-facts.ensures.kept c.in_ok-facts.ensures.gives in
    record {
      truth = c.in_ok-facts.ensures.gives.truth;
      env_within = subst (AreTerms c.walk.new.bank) (sym c.as_slice.ensures) c.in_ok-facts.ensures.gives.env;
      versions_within = oa.within c.args.joined.now c.requires.branches.joined_within;
      marks_size = c.requires.branches.marks_size ∙ sym size;
      versions_size = c.requires.branches.joined_size ∙ sym size;
      kinds = branch_kinds c.args.bank.now c.args.scope.now c.args.cmds.now c.args.before c.requires.begins.scope_is c.requires.begins.known c.requires.made c.loop-cmd.cmd-index c.cmd-item.result c.loop-cmd-test.true c.cmd-item.is
          c.args.marks.now c.args.env.now c.args.joined.now c.requires.branches c.loop-cmd.bank c.loop-cmd.state c.in_ok-state.field-0 c.loop-cmd.invariant.kept c.loop-cmd.invariant.found c.loop-cmd.invariant.truths c.in_ok-state.ensures c.walk.new.bank c.in_ok-facts.facts c.walk.new.state c.in_ok-facts.ensures.kept c.in_ok-facts.ensures.gives ∙ ap (λ z. map kind_of (term_list c.walk.new.bank z)) (sym c.as_slice.ensures);
    }

pub walk_each-added-requires-in-loop-cmd : goal.walk_each-added-requires-in-loop-cmd
walk_each-added-requires-in-loop-cmd t c = (bool_kept c.loop-cmd.bank c.agreement.new.bank (keeps_on c.in_ok-facts.ensures.kept c.in_ok-agreed.ensures.kept) c.loop-cmd.any c.loop-cmd.invariant.truth, c.in_ok-agreed.ensures.truth)

pub walk_each-loop-cmd-preserved : goal.walk_each-loop-cmd-preserved
walk_each-loop-cmd-preserved t c =
    let agree : term c.agreement.new.bank c.in_ok-agreed.agreed ≡ agreed (marked c.args.marks.now) 0 (term c.walk.new.bank c.in_ok-facts.facts) (term_list c.walk.new.bank c.walk.new.state.env) (term_list c.walk.new.bank c.args.joined.now) =
    subst (λ z. term c.agreement.new.bank c.in_ok-agreed.agreed ≡ agreed (marked c.args.marks.now) 0 (term c.walk.new.bank c.in_ok-facts.facts) (term_list c.walk.new.bank z) (term_list c.walk.new.bank c.args.joined.now)) c.as_slice.ensures c.in_ok-agreed.ensures.is in
    let size : length c.as_slice.result.now ≡ length c.args.env.now = ap length c.as_slice.ensures ∙ branch_size c.args.bank.now c.args.scope.now c.args.cmds.now c.args.before c.requires.begins.scope_is c.requires.begins.known c.requires.made c.loop-cmd.cmd-index c.cmd-item.result c.loop-cmd-test.true c.cmd-item.is
    c.args.marks.now c.args.env.now c.args.joined.now c.requires.branches c.loop-cmd.bank c.loop-cmd.state c.in_ok-state.field-0 c.loop-cmd.invariant.kept c.loop-cmd.invariant.found c.loop-cmd.invariant.truths c.in_ok-state.ensures c.walk.new.bank c.in_ok-facts.facts c.walk.new.state c.in_ok-facts.ensures.kept c.in_ok-facts.ensures.gives in
    let given : length c.args.env.now ≡ length c.args.scope.now.given = c.requires.branches.env_size ∙ scope_long c.args.bank.now c.args.scope.now in
    record {
      kept = keeps_on c.loop-cmd.invariant.kept (keeps_on (keeps_on c.in_ok-facts.ensures.kept c.in_ok-agreed.ensures.kept) c.in_ok-any-2.ensures.kept);
      truth = record { within = c.in_ok-any-2.ensures.stands.within; truth = ap kind_of c.in_ok-any-2.ensures.stands.is };
      found = any_found c.args.bank.now c.args.scope.now c.args.cmds.now c.args.before c.requires.begins.scope_is c.requires.begins.known c.requires.made c.loop-cmd.cmd-index c.cmd-item.result c.loop-cmd-test.true c.cmd-item.is
          c.args.marks.now c.args.env.now c.args.joined.now c.requires.branches c.loop-cmd.bank c.loop-cmd.state c.in_ok-state.field-0 c.loop-cmd.invariant.kept c.loop-cmd.invariant.found c.loop-cmd.invariant.truths c.in_ok-state.ensures c.walk.new.bank c.in_ok-facts.facts c.walk.new.state c.in_ok-facts.ensures.kept c.in_ok-facts.ensures.gives
          c.agreement.new.bank c.added-in-loop-cmd.new.bank c.loop-cmd.any c.in_ok-agreed.agreed c.in_ok-any-2.any c.in_ok-agreed.ensures.kept c.in_ok-any-2.ensures.kept c.loop-cmd.invariant.truth agree c.in_ok-any-2.ensures.stands;
      truths = any_truths c.args.bank.now c.args.scope.now c.args.cmds.now c.args.before c.requires.begins.scope_is c.requires.begins.known c.requires.made c.loop-cmd.cmd-index c.cmd-item.result c.loop-cmd-test.true c.cmd-item.is
          c.args.marks.now c.args.env.now c.args.joined.now c.requires.branches c.loop-cmd.bank c.loop-cmd.state c.in_ok-state.field-0 c.loop-cmd.invariant.kept c.loop-cmd.invariant.found c.loop-cmd.invariant.truths c.in_ok-state.ensures c.walk.new.bank c.in_ok-facts.facts c.walk.new.state c.in_ok-facts.ensures.kept c.in_ok-facts.ensures.gives
          c.agreement.new.bank c.added-in-loop-cmd.new.bank c.loop-cmd.any c.in_ok-agreed.agreed c.in_ok-any-2.any c.in_ok-agreed.ensures.kept c.in_ok-any-2.ensures.kept c.loop-cmd.invariant.truth agree c.in_ok-any-2.ensures.stands;
      walked = any_walked c.args.bank.now c.args.scope.now c.args.cmds.now c.args.before c.requires.begins.scope_is c.requires.begins.known c.requires.made c.loop-cmd.cmd-index c.cmd-item.result c.loop-cmd-test.true c.cmd-item.is
          c.args.marks.now c.args.env.now c.args.joined.now c.requires.branches c.loop-cmd.bank c.loop-cmd.state c.in_ok-state.field-0 c.loop-cmd.invariant.kept c.loop-cmd.invariant.found c.loop-cmd.invariant.truths c.in_ok-state.ensures c.walk.new.bank c.in_ok-facts.facts c.walk.new.state c.in_ok-facts.ensures.kept c.in_ok-facts.ensures.gives
          c.agreement.new.bank c.added-in-loop-cmd.new.bank c.loop-cmd.any c.in_ok-agreed.agreed c.in_ok-any-2.any c.in_ok-agreed.ensures.kept c.in_ok-any-2.ensures.kept c.loop-cmd.invariant.truth agree c.in_ok-any-2.ensures.stands _ c.loop-cmd.invariant.walked;
      extends = extends_on c.loop-cmd.invariant.extends c.in_ok-facts.ensures.extends;
      size = omega (arith, c.loop-cmd.invariant.size, costs_more (length c.args.scope.now.given) c.args.cmds.now c.loop-cmd.cmd-index c.cmd-item.result c.loop-cmd-test.true c.cmd-item.is, size, given, c.in_ok-facts.ensures.size, c.in_ok-agreed.ensures.size, c.in_ok-any-2.ensures.size);
    }

pub walk_each-returns : goal.walk_each-returns
walk_each-returns t c =
    let e : shaped (map shape (drop c.loop-cmd.cmd-index c.args.cmds.now)) ≡ _ = shapes_end c.args.cmds.now c.loop-cmd.cmd-index c.loop-cmd-test.false in
    let w = ap (λ z. walk_any (sorts_in c.args.bank.now c.args.scope.now) (commands c.args.bank.now z) (term c.args.bank.now c.args.before) (term_list c.args.bank.now c.args.env.now) (marked c.args.marks.now) (term_list c.args.bank.now c.args.joined.now) (term c.loop-cmd.bank c.loop-cmd.any) (state_of c.loop-cmd.bank c.loop-cmd.state)) (sym e) ∙ c.loop-cmd.invariant.walked in
    record {
      kept = c.loop-cmd.invariant.kept;
      gives = record { truth = c.loop-cmd.invariant.truth; facts = ap (λ z. z.facts) w; found = c.loop-cmd.invariant.found; next = ap (λ z. z.state.next) w; found_is = ap (λ z. z.state.found) w };
      extends = c.loop-cmd.invariant.extends;
      size = omega (arith, c.loop-cmd.invariant.size);
    }

-- ---- want of memory

pub walk_all-returns-in_err-facts : goal.walk_all-returns-in_err-facts
walk_all-returns-in_err-facts t c = stopped _ _ _ _ _ _ _ _ c.from_residual.ensures.0 (c.in_err-facts.ensures.kept)

pub walk_all-returns-in_err-known : goal.walk_all-returns-in_err-known
walk_all-returns-in_err-known t c = stopped _ _ _ _ _ _ _ _ c.from_residual-in_err-known.ensures.0 (keeps_on c.loop-cmd.invariant.kept c.in_err-known.ensures.kept)

pub walk_all-returns-in_err-more : goal.walk_all-returns-in_err-more
walk_all-returns-in_err-more t c = stopped _ _ _ _ _ _ _ _ c.from_residual-in_err-more.ensures.0 (keeps_on c.loop-cmd.invariant.kept (keeps_on c.in_ok-known.ensures.kept c.in_err-more.ensures.kept))

pub walk_all-returns-in_err-facts-2 : goal.walk_all-returns-in_err-facts-2
walk_all-returns-in_err-facts-2 t c = stopped _ _ _ _ _ _ _ _ c.from_residual-in_err-facts-2.ensures.0 (keeps_on c.loop-cmd.invariant.kept (keeps_on (keeps_on c.in_ok-known.ensures.kept c.in_ok-more.ensures.kept) c.in_err-facts-2.ensures.kept))

pub walk_choice-returns-in_err-list : goal.walk_choice-returns-in_err-list
walk_choice-returns-in_err-list t c = stopped _ _ _ _ _ _ _ _ c.from_residual.ensures.0 (keeps_same c.args.bank.now)

pub walk_choice-returns-in_err-copy : goal.walk_choice-returns-in_err-copy
walk_choice-returns-in_err-copy t c = stopped _ _ _ _ _ _ _ _ c.from_residual-in_err-copy.ensures.0 (keeps_same c.args.bank.now)

pub walk_choice-returns-in_err-joined : goal.walk_choice-returns-in_err-joined
walk_choice-returns-in_err-joined t c = stopped _ _ _ _ _ _ _ _ c.from_residual-in_err-joined.ensures.0 (c.in_err-joined.ensures.kept)

pub walk_choice-returns-in_err-any : goal.walk_choice-returns-in_err-any
walk_choice-returns-in_err-any t c = stopped _ _ _ _ _ _ _ _ c.from_residual-in_err-any.ensures.0 (keeps_on c.in_ok-joined.ensures.kept c.in_err-any.ensures.kept)

pub walk_each-returns-in_err-any : goal.walk_each-returns-in_err-any
walk_each-returns-in_err-any t c = stopped_any _ _ _ _ _ _ _ _ _ _ _ c.from_residual.ensures.0 (c.in_err-any.ensures.kept)

pub walk_each-returns-in_err-state : goal.walk_each-returns-in_err-state
walk_each-returns-in_err-state t c = stopped_any _ _ _ _ _ _ _ _ _ _ _ c.from_residual-in_err-state.ensures.0 (c.loop-cmd.invariant.kept)

pub walk_each-returns-in_err-facts : goal.walk_each-returns-in_err-facts
walk_each-returns-in_err-facts t c = stopped_any _ _ _ _ _ _ _ _ _ _ _ c.from_residual-in_err-facts.ensures.0 (keeps_on c.loop-cmd.invariant.kept c.in_err-facts.ensures.kept)

pub walk_each-returns-in_err-agreed : goal.walk_each-returns-in_err-agreed
walk_each-returns-in_err-agreed t c = stopped_any _ _ _ _ _ _ _ _ _ _ _ c.from_residual-in_err-agreed.ensures.0 (keeps_on c.loop-cmd.invariant.kept (keeps_on c.in_ok-facts.ensures.kept c.in_err-agreed.ensures.kept))

pub walk_each-returns-in_err-any-2 : goal.walk_each-returns-in_err-any-2
walk_each-returns-in_err-any-2 t c = stopped_any _ _ _ _ _ _ _ _ _ _ _ c.from_residual-in_err-any-2.ensures.0 (keeps_on c.loop-cmd.invariant.kept (keeps_on (keeps_on c.in_ok-facts.ensures.kept c.in_ok-agreed.ensures.kept) c.in_err-any-2.ensures.kept))
