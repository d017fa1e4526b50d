use Rattle.std.proofs.Common.{◌≡◌, drop}
use Rattle.sv_book.specs.Visits.{visit_in}
use Rattle.sv_visit_decl.specs.DeclSites.{parts_parts}
use Rattle.sv_visit_decl.proofs.functions.walk_parts.Given as goal

abbrev pub invariant-loop-p : goal.invariant-loop-p
invariant-loop-p g l =
    (visit_in g.J.Judge.book (parts_parts (drop l.p-index l.list)) (g.J.Judge.state l.j) ≡ visit_in g.J.Judge.book (parts_parts l.list) (g.J.Judge.state l.fn.j))
