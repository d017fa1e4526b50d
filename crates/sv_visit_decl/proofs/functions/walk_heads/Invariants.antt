use Rattle.std.proofs.Common.{◌≡◌, drop}
use Rattle.sv_book.specs.Visits.{visit_in}
use Rattle.sv_visit_decl.specs.DeclSites.{heads_parts}
use Rattle.sv_visit_decl.proofs.functions.walk_heads.Given as goal

abbrev pub invariant-loop-h : goal.invariant-loop-h
invariant-loop-h g l =
    (visit_in g.J.Judge.book (heads_parts (drop l.h-index l.list)) (g.J.Judge.state l.j) ≡ visit_in g.J.Judge.book (heads_parts l.list) (g.J.Judge.state l.fn.j))
