use Rattle.sv_reach.specs.Paths.{AreMarks, IsOnRing}
use Rattle.sv_reach.proofs.rings.on_a_ring.Given as goal

abbrev pub invariant-loop-next : goal.invariant-loop-next
invariant-loop-next l = AreMarks l.next-index (IsOnRing l.graph) l.marks
