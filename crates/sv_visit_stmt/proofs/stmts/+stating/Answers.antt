use Rattle.std.proofs.Common.{arith}
use Rattle.std.proofs.lemmas.Grind.{common_steps}
use Rattle.sv_ast.specs.declared.stmt.BodyKind.TheFolds.{the_lemmas}
use Rattle.sv_visit_stmt.proofs.Parts.{stating}
use Rattle.sv_visit_stmt.proofs.stmts.+stating.Goals as goal

pub walk_block-returns-in_err-before : goal.walk_block-returns-in_err-before
walk_block-returns-in_err-before g t c = grind (arith, common_steps, stating)

pub walk_block-returns-in_err-walk_stmts : goal.walk_block-returns-in_err-walk_stmts
walk_block-returns-in_err-walk_stmts g t c = grind (arith, common_steps, stating)

pub walk_block-returns : goal.walk_block-returns
walk_block-returns g t c = grind (arith, common_steps, stating)

pub walk_body-returns-in-Block : goal.walk_body-returns-in-Block
walk_body-returns-in-Block g t c = grind (arith, common_steps, stating)

pub walk_body-returns-in-Simple : goal.walk_body-returns-in-Simple
walk_body-returns-in-Simple g t c = grind (arith, common_steps, stating)

pub walk_branch-returns : goal.walk_branch-returns
walk_branch-returns g t c = grind (arith, common_steps, stating)

pub walk_branches-loop-b-init : goal.walk_branches-loop-b-init
walk_branches-loop-b-init g t c = grind (arith, common_steps, stating)

pub walk_branches-offset_bounds-list-b-index : goal.walk_branches-offset_bounds-list-b-index
walk_branches-offset_bounds-list-b-index g t c = grind (arith, common_steps, stating)

pub walk_branches-returns-in_err-walk_branch : goal.walk_branches-returns-in_err-walk_branch
walk_branches-returns-in_err-walk_branch g t c = grind (arith, common_steps, stating)

pub walk_branches-loop-b-smaller : goal.walk_branches-loop-b-smaller
walk_branches-loop-b-smaller g t c = grind (arith, common_steps, stating)

pub walk_branches-loop-b-preserved : goal.walk_branches-loop-b-preserved
walk_branches-loop-b-preserved g t c = grind (arith, common_steps, stating)

pub walk_branches-returns : goal.walk_branches-returns
walk_branches-returns g t c = grind (arith, common_steps, stating)

pub walk_else-returns : goal.walk_else-returns
walk_else-returns g t c = grind (arith, common_steps, stating)

pub walk_for-returns-in_err-walk_start : goal.walk_for-returns-in_err-walk_start
walk_for-returns-in_err-walk_start g t c = grind (arith, common_steps, stating)

pub walk_for-returns-in_err-walk_notes : goal.walk_for-returns-in_err-walk_notes
walk_for-returns-in_err-walk_notes g t c = grind (arith, common_steps, stating)

pub walk_for-returns-in_err-walk_optional : goal.walk_for-returns-in_err-walk_optional
walk_for-returns-in_err-walk_optional g t c = grind (arith, common_steps, stating)

pub walk_for-returns-in_err-walk_step : goal.walk_for-returns-in_err-walk_step
walk_for-returns-in_err-walk_step g t c = grind (arith, common_steps, stating)

pub walk_for-returns : goal.walk_for-returns
walk_for-returns g t c = grind (arith, common_steps, stating)

pub walk_guarded-returns-in_err-walk_expr : goal.walk_guarded-returns-in_err-walk_expr
walk_guarded-returns-in_err-walk_expr g t c = grind (arith, common_steps, stating)

pub walk_guarded-returns : goal.walk_guarded-returns
walk_guarded-returns g t c = grind (arith, common_steps, stating)

pub walk_if-returns-in_err-walk_guarded : goal.walk_if-returns-in_err-walk_guarded
walk_if-returns-in_err-walk_guarded g t c = grind (arith, common_steps, stating)

pub walk_if-returns-in_err-walk_branches : goal.walk_if-returns-in_err-walk_branches
walk_if-returns-in_err-walk_branches g t c = grind (arith, common_steps, stating)

pub walk_if-returns-in-None : goal.walk_if-returns-in-None
walk_if-returns-in-None g t c = grind (arith, common_steps, stating)

pub walk_if-returns-in-Some : goal.walk_if-returns-in-Some
walk_if-returns-in-Some g t c = grind (arith, common_steps, stating)

pub walk_stmt-returns-in_err-before : goal.walk_stmt-returns-in_err-before
walk_stmt-returns-in_err-before g t c = grind (arith, common_steps, stating)

pub walk_stmt-returns-in_err-walk_stmt_kind : goal.walk_stmt-returns-in_err-walk_stmt_kind
walk_stmt-returns-in_err-walk_stmt_kind g t c = grind (arith, common_steps, stating)

pub walk_stmt-returns : goal.walk_stmt-returns
walk_stmt-returns g t c = grind (arith, common_steps, stating)

pub walk_stmt_kind-returns-in-Block : goal.walk_stmt_kind-returns-in-Block
walk_stmt_kind-returns-in-Block g t c = grind (arith, common_steps, stating)

pub walk_stmt_kind-returns-in-Unchecked : goal.walk_stmt_kind-returns-in-Unchecked
walk_stmt_kind-returns-in-Unchecked g t c = grind (arith, common_steps, stating)

pub walk_stmt_kind-returns-in-Simple : goal.walk_stmt_kind-returns-in-Simple
walk_stmt_kind-returns-in-Simple g t c = grind (arith, common_steps, stating)

pub walk_stmt_kind-returns-in-If : goal.walk_stmt_kind-returns-in-If
walk_stmt_kind-returns-in-If g t c = grind (arith, common_steps, stating)

pub walk_stmt_kind-returns-in-While : goal.walk_stmt_kind-returns-in-While
walk_stmt_kind-returns-in-While g t c = grind (arith, common_steps, stating)

pub walk_stmt_kind-returns-in-For : goal.walk_stmt_kind-returns-in-For
walk_stmt_kind-returns-in-For g t c = grind (arith, common_steps, stating)

pub walk_stmts-loop-s-init : goal.walk_stmts-loop-s-init
walk_stmts-loop-s-init g t c = grind (arith, common_steps, stating)

pub walk_stmts-offset_bounds-list-s-index : goal.walk_stmts-offset_bounds-list-s-index
walk_stmts-offset_bounds-list-s-index g t c = grind (arith, common_steps, stating)

pub walk_stmts-returns-in_err-walk_stmt : goal.walk_stmts-returns-in_err-walk_stmt
walk_stmts-returns-in_err-walk_stmt g t c = grind (arith, common_steps, stating)

pub walk_stmts-loop-s-smaller : goal.walk_stmts-loop-s-smaller
walk_stmts-loop-s-smaller g t c = grind (arith, common_steps, stating)

pub walk_stmts-loop-s-preserved : goal.walk_stmts-loop-s-preserved
walk_stmts-loop-s-preserved g t c = grind (arith, common_steps, stating)

pub walk_stmts-returns : goal.walk_stmts-returns
walk_stmts-returns g t c = grind (arith, common_steps, stating)

pub walk_while-returns-in_err-walk_notes : goal.walk_while-returns-in_err-walk_notes
walk_while-returns-in_err-walk_notes g t c = grind (arith, common_steps, stating)

pub walk_while-returns : goal.walk_while-returns
walk_while-returns g t c = grind (arith, common_steps, stating)

pub walk_block-walk_stmts-requires : goal.walk_block-walk_stmts-requires
walk_block-walk_stmts-requires g t c κs within = grind (arith, the_lemmas)

pub walk_body-walk_block-requires : goal.walk_body-walk_block-requires
walk_body-walk_block-requires g t c κs within = grind (arith, the_lemmas)

pub walk_branch-walk_guarded-requires : goal.walk_branch-walk_guarded-requires
walk_branch-walk_guarded-requires g t c κs within = grind (arith, the_lemmas)

pub walk_branches-walk_branch-requires : goal.walk_branches-walk_branch-requires
walk_branches-walk_branch-requires g t c κs within = grind (arith, the_lemmas)

pub walk_else-walk_body-requires : goal.walk_else-walk_body-requires
walk_else-walk_body-requires g t c κs within = grind (arith, the_lemmas)

pub walk_for-walk_body-requires : goal.walk_for-walk_body-requires
walk_for-walk_body-requires g t c κs within = grind (arith, the_lemmas)

pub walk_if-walk_guarded-requires : goal.walk_if-walk_guarded-requires
walk_if-walk_guarded-requires g t c κs within = grind (arith, the_lemmas)

pub walk_if-walk_branches-requires : goal.walk_if-walk_branches-requires
walk_if-walk_branches-requires g t c κs within = grind (arith, the_lemmas)

pub walk_if-walk_else-requires : goal.walk_if-walk_else-requires
walk_if-walk_else-requires g t c κs within = grind (arith, the_lemmas)

pub walk_stmt-walk_stmt_kind-requires : goal.walk_stmt-walk_stmt_kind-requires
walk_stmt-walk_stmt_kind-requires g t c κs within = grind (arith, the_lemmas)

pub walk_stmt_kind-walk_block-requires : goal.walk_stmt_kind-walk_block-requires
walk_stmt_kind-walk_block-requires g t c κs within = grind (arith, the_lemmas)

pub walk_stmt_kind-walk_if-requires : goal.walk_stmt_kind-walk_if-requires
walk_stmt_kind-walk_if-requires g t c κs within = grind (arith, the_lemmas)

pub walk_stmt_kind-walk_while-requires : goal.walk_stmt_kind-walk_while-requires
walk_stmt_kind-walk_while-requires g t c κs within = grind (arith, the_lemmas)

pub walk_stmt_kind-walk_for-requires : goal.walk_stmt_kind-walk_for-requires
walk_stmt_kind-walk_for-requires g t c κs within = grind (arith, the_lemmas)

pub walk_stmts-walk_stmt-requires : goal.walk_stmts-walk_stmt-requires
walk_stmts-walk_stmt-requires g t c κs within = grind (arith, the_lemmas)

pub walk_while-walk_guarded-requires : goal.walk_while-walk_guarded-requires
walk_while-walk_guarded-requires g t c κs within = grind (arith, the_lemmas)

pub walk_stmt_kind-walk_block-requires-in-Unchecked : goal.walk_stmt_kind-walk_block-requires-in-Unchecked
walk_stmt_kind-walk_block-requires-in-Unchecked g t c κs within = grind (arith, the_lemmas)

pub walk_guarded-walk_body-requires : goal.walk_guarded-walk_body-requires
walk_guarded-walk_body-requires g t c κs within = grind (arith, the_lemmas)
