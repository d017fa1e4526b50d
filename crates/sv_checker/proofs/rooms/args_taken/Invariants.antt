use Rattle.std.proofs.Common.{◌≡◌, take}
use Rattle.sv_list_room.specs.NumberLists.{numbers_in}
use Rattle.sv_term_room.specs.TermRows.{args_of}
use Rattle.sv_checker.proofs.rooms.args_taken.Given as goal

-- those of the first terms
abbrev pub invariant-loop-n : goal.invariant-loop-n
invariant-loop-n l = l.taken ≡ numbers_in (args_of (take l.n l.terms.rows))
