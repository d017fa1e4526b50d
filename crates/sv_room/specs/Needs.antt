-- Believed: what an entry of a log takes at most of a checker's rooms. Hold it against the README's table of entries.
use Rattle.std.specs.Prelude.{ℕ, ◌+◌, length}
use Rattle.sv_term.specs.Sorts.{Sort, NumSort, BoolSort, ArrSort, TupSort, Sorts, NoSorts, SortAnd}
use Rattle.sv_log.specs.LogEntries.{Part, TermPart, SortPart, NumberPart, FlagPart, LogNode, Row, Entry, AddTerm, AddFact, Linear, Combine, Divide, SplitOn, Cut, CloseAt, Clash}
use Rattle.sv_room.specs.Rooms.{room, none, both, total}
use Rattle.sv_room.specs.declared.room.Room.{Room}

-- a sort and all within it; a tuple is a first part and a tuple of the others
abbrev mutual
  pub cells_of : Sort → ℕ
  cells_of (NumSort r) = 1
  cells_of BoolSort = 1
  cells_of (ArrSort s) = cells_of s + 1
  cells_of (TupSort ss) = cells_of_all ss + 1

  pub cells_of_all : Sorts → ℕ
  cells_of_all NoSorts = 0
  cells_of_all (SortAnd s ss) = cells_of s + 1 + cells_of_all ss

abbrev pub need_of_part : Part → Room
need_of_part (TermPart n) = room 0 1 0 0 0 0
need_of_part (SortPart s) = room 0 0 (cells_of s) 0 0 0
need_of_part (NumberPart m) = none
need_of_part (FlagPart b) = none

-- a term, an argument for each term among its parts, the sort that it names, and its own
abbrev pub need_of_node : LogNode → Room
need_of_node node = both (room 1 0 1 0 0 0) (total need_of_part node.parts)

abbrev pub need_of_row : Row → Room
need_of_row r = room 0 0 0 1 (length r.parts) 0

abbrev pub need_of : Entry → Room
need_of (AddTerm node) = need_of_node node
need_of (AddFact rule sign n from) = room 0 0 0 1 0 0
need_of (Linear p forward r) = need_of_row r
need_of (Combine m p n q r) = need_of_row r
need_of (Divide d p r) = need_of_row r
need_of (SplitOn n) = room 0 0 0 1 0 1
-- what a cut adds has the room of what it takes away
need_of Cut = none
need_of (CloseAt p) = none
need_of (Clash p q) = none
