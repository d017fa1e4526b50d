use Rattle.std.proofs.Common.{◌↔◌, IsTrue, true, refl, subst}
use Rattle.sv_room.specs.Rooms.{room}
use Rattle.sv_checker.specs.Checkers.{Checking, HasRoomFor}
use Rattle.sv_checker.proofs.Rooming.{room_none}
use Rattle.sv_checker.proofs.checker.Checker.needs_none.Goals as goal

pub returns : goal.returns
returns c = subst (λ (v : Checking). IsTrue true ↔ HasRoomFor v (room 0 0 0 0 0 0)) c.self.view_is (λ e. room_none c.self.inside.terms c.self.inside.branch c.self.invariant.within, λ h. refl)
