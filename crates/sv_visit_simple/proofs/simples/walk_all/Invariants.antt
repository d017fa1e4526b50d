use Rattle.std.proofs.Common.{◌≡◌, drop}
use Rattle.sv_book.specs.Visits.{visit_in}
use Rattle.sv_visit_simple.specs.SimpleSites.{all_parts}
use Rattle.sv_visit_simple.proofs.simples.walk_all.Given as goal

abbrev pub invariant-loop-e : goal.invariant-loop-e
invariant-loop-e g l =
    (visit_in g.J.Judge.book (all_parts (drop l.e-index l.list)) (g.J.Judge.state l.j) ≡ visit_in g.J.Judge.book (all_parts l.list) (g.J.Judge.state l.fn.j))
