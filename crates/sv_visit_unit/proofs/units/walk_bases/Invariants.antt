use Rattle.std.proofs.Common.{◌≡◌, drop}
use Rattle.sv_book.specs.Visits.{visit_in}
use Rattle.sv_visit_unit.specs.UnitSites.{bases_parts}
use Rattle.sv_visit_unit.proofs.units.walk_bases.Given as goal

abbrev pub invariant-loop-b : goal.invariant-loop-b
invariant-loop-b g l =
    (visit_in g.J.Judge.book (bases_parts (drop l.b-index l.list)) (g.J.Judge.state l.j) ≡ visit_in g.J.Judge.book (bases_parts l.list) (g.J.Judge.state l.fn.j))
