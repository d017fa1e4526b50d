use Rattle.std.proofs.Common.{◌≡◌, take}
use Rattle.sv_term.specs.Banks.{term_list}
use Rattle.sv_room.specs.HeldRooms.{args_in}
use Rattle.sv_goal_room.proofs.size.args_in.Given as goal

abbrev pub invariant-loop-id : goal.invariant-loop-id
invariant-loop-id l = l.sum ≡ args_in (term_list l.bank (take l.id-index l.ids))
