-- Believed: how much the state of a log holds. Hold it against the state in the definitions of `sv_log`.
use Rattle.std.specs.Prelude.{ℕ, suc, ◌+◌, List, [], ◌∷◌, length}
use Rattle.sv_term.specs.Terms.{Term, App, Terms, End, More}
use Rattle.sv_log.specs.Logs.{Item, Known, Bound, State}
use Rattle.sv_room.specs.Rooms.{room}
use Rattle.sv_room.specs.declared.room.Room.{Room}

abbrev pub arg_count : Terms → ℕ
arg_count End = 0
arg_count (More t ts) = 1 + arg_count ts

abbrev pub args_of : Term → ℕ
args_of (App x ts) = arg_count ts

-- the arguments of all terms
abbrev pub args_in : List Term → ℕ
args_in [] = 0
args_in (t ∷ ts) = args_of t + args_in ts

abbrev pub numbers_of : Item → ℕ
numbers_of (Known f) = 0
numbers_of (Bound r) = length r.parts

-- the numbers of all rows
abbrev pub numbers_in : List Item → ℕ
numbers_in [] = 0
numbers_in (i ∷ items) = numbers_of i + numbers_in items

-- a state has no list of sorts, so those aren't counted
abbrev pub held : State → Room
held s = room (length s.terms) (args_in s.terms) 0 (length s.items) (numbers_in s.items) (length s.splits)
