-- Believed: that the room of a log is enough for each of its entries. Hold it against the contract of `room_of`.
use Rattle.std.specs.Prelude.{List, ◌∷◌, ◌++◌}
use Rattle.sv_term.specs.Terms.{Term}
use Rattle.sv_log.specs.LogEntries.{Entry}
use Rattle.sv_log.specs.Logs.{IsAccepted, begun, after_all}
use Rattle.sv_room.specs.Rooms.{both, total, capped_room, IsWithin, IsReal}
use Rattle.sv_room.specs.Needs.{need_of}
use Rattle.sv_room.specs.HeldRooms.{held}

-- what the entries before one took, and what it takes, are within the room of the log, where that is one for which there is memory
abbrev pub PrefixesHaveRoom : Type 0
PrefixesHaveRoom = (before rest : List Entry) (e : Entry)
    → IsReal (capped_room (total need_of (before ++ e ∷ rest)))
    → IsWithin (both (total need_of before) (need_of e)) (capped_room (total need_of (before ++ e ∷ rest)))

-- entries that are accepted from a condition leave no more than what they take, beside what the condition holds
abbrev pub StatesAreWithin : Type 0
StatesAreWithin = (goal : Term) (es : List Entry) → IsAccepted (begun goal) es
    → IsWithin (held (after_all (begun goal) es)) (both (held (begun goal)) (total need_of es))

-- so after each beginning of a log that is accepted, what the condition holds and the room of the log together have room for the next entry
abbrev pub EntriesHaveRoom : Type 0
EntriesHaveRoom = (goal : Term) (before rest : List Entry) (e : Entry) → IsAccepted (begun goal) before
    → IsReal (capped_room (total need_of (before ++ e ∷ rest)))
    → IsWithin (both (held (after_all (begun goal) before)) (need_of e)) (both (held (begun goal)) (capped_room (total need_of (before ++ e ∷ rest))))
