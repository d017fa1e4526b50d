use Rattle.std.proofs.Common.{Option, None, ℕ, List, ◌≡◌, ◌≤◌, sym, ap, ◌∙◌, get_or, arith}
use Rattle.sv_goal_terms.proofs.Reading.{number_is}
use Rattle.sv_goal_terms.proofs.walk.GoalTerms.number_of.Goals as goal

pub returns-in_err-get : goal.returns-in_err-get
returns-in_err-get c =
    let past = c.in_err-get.ensures.lookup.4 (omega arith) None in
    number_is _ _ _ c.args.id c.self.view_is c.self.invariant _ (c.from_residual.ensures ∙ past ∙ ap (λ (l : List (Option ℕ)). get_or l c.args.id.0 None) c.deref.ensures.value)

pub returns : goal.returns
returns c =
    let at = c.in_ok-get.ensures.lookup.4 (omega arith) None in
    number_is _ _ _ c.args.id c.self.view_is c.self.invariant _ (at ∙ ap (λ (l : List (Option ℕ)). get_or l c.args.id.0 None) c.deref.ensures.value)
