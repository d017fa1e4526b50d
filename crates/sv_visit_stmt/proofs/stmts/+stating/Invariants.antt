use Rattle.std.proofs.Common.{◌≡◌, drop}
use Rattle.sv_book.specs.Visits.{visit_in}
use Rattle.sv_visit_stmt.specs.StmtSites.{stmt_list, branch_list}
use Rattle.sv_visit_stmt.proofs.stmts.+stating.Given as goal

abbrev pub invariant-walk_stmts-loop-s : goal.invariant-walk_stmts-loop-s
invariant-walk_stmts-loop-s g l =
    (visit_in g.J.Judge.book (stmt_list (drop l.s-index l.list)) (g.J.Judge.state l.j) ≡ visit_in g.J.Judge.book (stmt_list l.list) (g.J.Judge.state l.fn.j))

abbrev pub invariant-walk_branches-loop-b : goal.invariant-walk_branches-loop-b
invariant-walk_branches-loop-b g l =
    (visit_in g.J.Judge.book (branch_list (drop l.b-index l.list)) (g.J.Judge.state l.j) ≡ visit_in g.J.Judge.book (branch_list l.list) (g.J.Judge.state l.fn.j))
