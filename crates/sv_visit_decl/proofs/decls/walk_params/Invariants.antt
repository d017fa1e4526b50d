use Rattle.std.proofs.Common.{◌≡◌, drop}
use Rattle.sv_book.specs.Visits.{visit_in}
use Rattle.sv_visit_decl.specs.DeclSites.{params_parts}
use Rattle.sv_visit_decl.proofs.decls.walk_params.Given as goal

abbrev pub invariant-loop-p : goal.invariant-loop-p
invariant-loop-p g l =
    (visit_in g.J.Judge.book (params_parts (drop l.p-index l.list)) (g.J.Judge.state l.j) ≡ visit_in g.J.Judge.book (params_parts l.list) (g.J.Judge.state l.fn.j))
