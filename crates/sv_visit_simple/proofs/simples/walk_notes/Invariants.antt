use Rattle.std.proofs.Common.{◌≡◌, drop}
use Rattle.sv_book.specs.Visits.{visit_in}
use Rattle.sv_visit_simple.specs.SimpleSites.{notes_parts}
use Rattle.sv_visit_simple.proofs.simples.walk_notes.Given as goal

abbrev pub invariant-loop-n : goal.invariant-loop-n
invariant-loop-n g l =
    (visit_in g.J.Judge.book (notes_parts (drop l.n-index l.list)) (g.J.Judge.state l.j) ≡ visit_in g.J.Judge.book (notes_parts l.list) (g.J.Judge.state l.fn.j))
