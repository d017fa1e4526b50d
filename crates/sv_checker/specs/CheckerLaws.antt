-- Believed: what the steps of a checker come to. Hold it against the law of closed logs in `sv_log`, and the law of room in `sv_room`.
use Rattle.std.specs.Prelude.{List, [], ◌∷◌, ◌++◌, ◌≡◌, true}
use Rattle.sv_term.specs.Terms.{Term}
use Rattle.sv_term.specs.Models.{is_claim, Valid}
use Rattle.sv_log.specs.LogEntries.{Entry}
use Rattle.sv_log.specs.Logs.{begun, IsClosed}
use Rattle.sv_room.specs.Rooms.{both, total, capped_room, IsReal}
use Rattle.sv_room.specs.Needs.{need_of}
use Rattle.sv_checker.specs.Checkers.{Checking, state, taken, rooms, HasRoom, Accepts}

-- from one checker to another by steps that accept these entries
abbrev pub LeadsTo : Checking → List Entry → Checking → Type 0
LeadsTo v [] w = v ≡ w
LeadsTo v (e ∷ es) w = (u : Checking) × Accepts v u e × LeadsTo u es w

-- a checker that began with a goal and is closed has proved it
abbrev pub ClosedProves : Type 0
ClosedProves = (goal : Term) (es : List Entry) (v w : Checking) → is_claim goal ≡ true → state v ≡ begun goal → LeadsTo v es w → IsClosed (state w) → Valid goal

-- a checker that began with the room of a log beside what it held has room for each of its entries, where that is a room for which there is memory
abbrev pub LogsHaveRoom : Type 0
LogsHaveRoom = (before rest : List Entry) (e : Entry) (v w : Checking)
    → rooms v ≡ both (taken v) (capped_room (total need_of (before ++ e ∷ rest)))
    → IsReal (capped_room (total need_of (before ++ e ∷ rest)))
    → LeadsTo v before w → HasRoom w e
