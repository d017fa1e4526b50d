use Rattle.std.proofs.Common.{◌≡◌, drop}
use Rattle.sv_book.specs.Visits.{visit_in}
use Rattle.sv_visit_decl.specs.DeclSites.{fields_parts}
use Rattle.sv_visit_decl.proofs.decls.walk_fields.Given as goal

abbrev pub invariant-loop-f : goal.invariant-loop-f
invariant-loop-f g l =
    (visit_in g.J.Judge.book (fields_parts (drop l.f-index l.list)) (g.J.Judge.state l.j) ≡ visit_in g.J.Judge.book (fields_parts l.list) (g.J.Judge.state l.fn.j))
