-- Believed: how large a room of terms is beside what it holds. Hold it against the README's table of calls.
use Rattle.std.specs.Prelude.{◌+◌, ◌≡◌, length}
use Rattle.sv_list_room.specs.NumberLists.{numbers_in}
use Rattle.sv_term_room.specs.TermRows.{TermRows, args_of, terms_of}
use Rattle.sv_room.specs.HeldRooms.{args_in}
use Rattle.sv_room.specs.declared.room.Room.{Room}

-- beside what it holds there is room for so many more terms, arguments and sorts, and for none beyond
pub record HasMore (v : TermRows) (more : Room) : Type 0 where
  pub terms : v.room ≡ length v.rows + more.terms
  pub args : v.args_room ≡ numbers_in (args_of v.rows) + more.args
  pub sorts : v.sorts_room ≡ length v.cells + more.sorts

-- the arguments that are taken are those of the terms
abbrev pub TakesArgs : TermRows → Type 0
TakesArgs v = numbers_in (args_of v.rows) ≡ args_in (terms_of v)
