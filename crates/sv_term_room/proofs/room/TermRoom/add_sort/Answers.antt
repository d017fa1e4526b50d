use Rattle.std.proofs.Common.{ap, ◌∙◌}
use Rattle.sv_term_room.specs.TermRows.{terms_of}
use Rattle.sv_term_room.proofs.TermRooms.{stored_more, terms_more}
use Rattle.sv_term_room.proofs.room.TermRoom.add_sort.Goals as goal

pub invariant_of-self : goal.invariant_of-self
invariant_of-self c = (stored_more _ _ _ _ _ c.add.ensures.kept c.self.invariant.0, c.self.invariant.1, c.self.invariant.2)

pub returns-clause-terms : goal.returns-clause-terms
returns-clause-terms c = terms_more _ _ _ c.add.ensures.kept c.self.invariant.0.rows ∙ ap terms_of c.self.view_is
