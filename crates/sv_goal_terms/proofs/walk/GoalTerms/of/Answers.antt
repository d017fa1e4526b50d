use Rattle.std.proofs.Common.{rules, ℕ, Option, None, ◌≡◌, [], ◌∷◌, ◌++◌, length, get_or, sym, ap, ◌∙◌, subst, List}
use Rattle.sv_term.specs.Banks.{AreBelow, args}
use Rattle.sv_goal_terms.specs.GoalNumbers.{HaveNumbers, IsMissing}
use Rattle.sv_goal_terms.specs.declared.walk.Open.{Open}
use Rattle.sv_goal_terms.proofs.Standing.{begun, begins, none_there, as_length, place_there, pushes, pushes_less, finishes, finishes_less}
use Rattle.sv_goal_terms.proofs.walk.GoalTerms.of.Goals as goal

pub loop-top-init : goal.loop-top-init
loop-top-init c =
    let all = c.in_ok-numbers.ensures.items_if_clones_equal (λ y h. search rules) in
    let size : length c.in_ok-numbers.numbers.items ≡ length c.args.bank.now.nodes = as_length _ _ _ all c.len.ensures in
    let none : (k : ℕ) → get_or c.in_ok-numbers.numbers.items k None ≡ None = (λ k. ap (λ (l : List (Option ℕ)). get_or l k None) all ∙ none_there _ k) in
    let items : c.push.new.self.items ≡ begun c.args.goal 0 ∷ [] = c.in_ok-push.ensures.items ∙ ap (λ (l : List Open). l ++ begun c.args.goal 0 ∷ []) c.new-begun.ensures.items in
    begins _ _ _ _ _ c.requires size none c.new-order.ensures.items items

pub first_missing-requires-clause-within : goal.first_missing-requires-clause-within
first_missing-requires-clause-within c = let t = place_there _ _ c.is_sound.ensures.term_number _ _ _ _ _ _ c.loop-top.invariant c.in-Some.ensures.items c.node_of.ensures.node c.node_of.ensures.placed in subst (λ (l : List (Option ℕ)). AreBelow (length l) (args c.node_of.result.now)) (sym c.deref.ensures.value) t

pub loop-top-smaller-in-Continue-branch-4 : goal.loop-top-smaller-in-Continue-branch-4
loop-top-smaller-in-Continue-branch-4 c =
    pushes_less _ _ c.is_sound.ensures.term_number _ _ _ _ _ _ c.loop-top.invariant c.in-Some.ensures.items c.node_of.ensures.node c.node_of.ensures.placed
    c.in-Some-first_missing.missing (subst (λ (l : List (Option ℕ)). IsMissing l (args c.node_of.result.now) c.in-Some-first_missing.missing) c.deref.ensures.value c.in-Some-first_missing.ensures) _ _ c.in_ok-push-in-Some-first_missing.ensures.items c.in_ok-push-in-Some-first_missing-2.ensures.items

pub loop-top-preserved-in-Continue-branch-4 : goal.loop-top-preserved-in-Continue-branch-4
loop-top-preserved-in-Continue-branch-4 c =
    pushes _ _ c.is_sound.ensures.term_number _ _ _ _ _ _ c.loop-top.invariant c.in-Some.ensures.items c.node_of.ensures.node c.node_of.ensures.placed
    c.in-Some-first_missing.missing (subst (λ (l : List (Option ℕ)). IsMissing l (args c.node_of.result.now) c.in-Some-first_missing.missing) c.deref.ensures.value c.in-Some-first_missing.ensures) _ _ c.in_ok-push-in-Some-first_missing.ensures.items c.in_ok-push-in-Some-first_missing-2.ensures.items

pub loop-top-smaller : goal.loop-top-smaller
loop-top-smaller c =
    finishes_less _ _ c.is_sound.ensures.term_number _ _ _ _ _ _ c.loop-top.invariant c.in-Some.ensures.items c.node_of.ensures.node c.node_of.ensures.placed
    (subst (λ (l : List (Option ℕ)). HaveNumbers l (args c.node_of.result.now)) c.deref.ensures.value c.in-None.ensures) _ _ (search rules) c.in_ok-push-in-None.ensures.items

pub loop-top-preserved : goal.loop-top-preserved
loop-top-preserved c =
    finishes _ _ c.is_sound.ensures.term_number _ _ _ _ _ _ c.loop-top.invariant c.in-Some.ensures.items c.node_of.ensures.node c.node_of.ensures.placed
    (subst (λ (l : List (Option ℕ)). HaveNumbers l (args c.node_of.result.now)) c.deref.ensures.value c.in-None.ensures) _ _ (search rules) c.in_ok-push-in-None.ensures.items
