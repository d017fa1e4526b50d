-- Believed: the code's values, states and events, as those that the definition of a history speaks of. Hold it against the types of `history`.
use Rattle.std.specs.Prelude.{ℕ, List, map, slice_index}
use Rattle.sv_first_judge.specs.History.{Values, State, Event, History}
use Rattle.sv_first_judge.specs.History.Event.{Call, Gift}
use Rattle.sv_first_judge.specs.declared.history.Event.{Event as CodeEvent}
use Rattle.sv_first_judge.specs.declared.history.Event.TheVariants.{Call as CodeCall, Gift as CodeGift}
use Rattle.sv_first_judge.specs.declared.history.State.{State as CodeState}

-- the number of each variable, by its place in a list of numbers; 0 past the end
abbrev pub values_of : List ℕ → Values
values_of numbers = λ v. slice_index numbers v

abbrev pub state_of : CodeState → State
state_of s = record { values = values_of s.values; balance = s.balance }

abbrev pub event_of : CodeEvent → Event
event_of (CodeCall function gas) = Call function gas
event_of (CodeGift amount) = Gift amount

abbrev pub history_of : ℕ → List CodeEvent → History
history_of balance events = record { balance = balance; events = map event_of events }
