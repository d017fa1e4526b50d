use Rattle.std.proofs.Common.{◌≡◌, drop}
use Rattle.sv_book.specs.Visits.{visit_in}
use Rattle.sv_visit_simple.specs.SimpleSites.{slots_parts}
use Rattle.sv_visit_simple.proofs.simples.walk_slots.Given as goal

abbrev pub invariant-loop-s : goal.invariant-loop-s
invariant-loop-s g l =
    (visit_in g.J.Judge.book (slots_parts (drop l.s-index l.list)) (g.J.Judge.state l.j) ≡ visit_in g.J.Judge.book (slots_parts l.list) (g.J.Judge.state l.fn.j))
