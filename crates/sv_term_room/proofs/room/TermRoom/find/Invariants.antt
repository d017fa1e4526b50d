use Rattle.sv_sort_room.proofs.Seeking.{Sought, seen}
use Rattle.sv_term_room.specs.TermRows.{term_node, nodes_of}
use Rattle.sv_term_room.specs.NodeCodes.{code_of}
use Rattle.sv_term_room.proofs.room.TermRoom.find.Given as goal

-- the node stands nowhere from there on
abbrev pub invariant-loop-at : goal.invariant-loop-at
invariant-loop-at l = Sought code_of (nodes_of l.self.rows) (term_node l.shape l.args) l.at

abbrev pub decreases-loop-at : goal.decreases-loop-at
decreases-loop-at l = seen l.at
