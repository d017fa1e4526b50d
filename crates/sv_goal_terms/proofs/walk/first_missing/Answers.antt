use Rattle.std.proofs.Common.{sym, ◌∙◌, ◌≡◌, suc, length, slice_get, Some, arith, subst}
use Rattle.std.proofs.lemmas.Grind.{common_steps}
use Rattle.sv_term.specs.Banks.{args}
use Rattle.sv_goal_terms.proofs.MissingLaws.{have_more, have_all, below_at, within_at}
use Rattle.sv_goal_terms.proofs.walk.first_missing.Goals as goal

pub offset_bounds-numbers-arg : goal.offset_bounds-numbers-arg
offset_bounds-numbers-arg c = let w = below_at _ _ c.loop-arg.place _ c.requires.within (sym c.arg.ensures.is ∙ c.in-Some.is) in grind (arith, common_steps)

pub bounds-numbers-arg : goal.bounds-numbers-arg
bounds-numbers-arg c = below_at _ _ c.loop-arg.place _ c.requires.within (sym c.arg.ensures.is ∙ c.in-Some.is)

pub overflow_add-place : goal.overflow_add-place
overflow_add-place c = grind (arith, common_steps)

pub loop-arg-smaller : goal.loop-arg-smaller
loop-arg-smaller c = let w = within_at _ c.loop-arg.place _ (sym c.arg.ensures.is ∙ c.in-Some.is) in omega (arith, w)

pub loop-arg-preserved : goal.loop-arg-preserved
loop-arg-preserved c = have_more _ _ c.loop-arg.place _ (sym c.arg.ensures.is ∙ c.in-Some.is) (grind (arith, common_steps)) c.loop-arg.invariant

pub returns-then-is_none : goal.returns-then-is_none
returns-then-is_none c = record {
  is = sym c.arg.ensures.is ∙ c.in-Some.is;
  lacks = grind (arith, common_steps);
  before = c.loop-arg.invariant;
}

pub returns : goal.returns
returns c = have_all _ _ c.loop-arg.place (sym c.arg.ensures.is ∙ c.in_default.is) c.loop-arg.invariant
