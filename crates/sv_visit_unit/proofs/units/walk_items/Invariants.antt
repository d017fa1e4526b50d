use Rattle.std.proofs.Common.{◌≡◌, drop}
use Rattle.sv_book.specs.Visits.{visit_in}
use Rattle.sv_visit_unit.specs.UnitSites.{items_parts}
use Rattle.sv_visit_unit.proofs.units.walk_items.Given as goal

abbrev pub invariant-loop-i : goal.invariant-loop-i
invariant-loop-i g l =
    (visit_in g.J.Judge.book (items_parts (drop l.i-index l.list)) (g.J.Judge.state l.j) ≡ visit_in g.J.Judge.book (items_parts l.list) (g.J.Judge.state l.fn.j))
