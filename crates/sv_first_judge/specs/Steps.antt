-- Serves the proof: what the code gives for a step of a history.
use Rattle.std.specs.Prelude.{◌≡◌, ℕ, ◌+◌, ◌<◌, ◌^◌, List, ◌++◌, IfSome, length, map}
use Rattle.std.specs.Option.{option_map}
use Rattle.std.specs.declared.option.Option.{Option}
use Rattle.sv_first_form.specs.FirstForm.{IsContract}
use Rattle.sv_first_form.specs.declared.contract.Contract.{Contract}
use Rattle.sv_first_form.specs.declared.contract.Equation.{Equation}
use Rattle.sv_first_judge.specs.History.{Values, Passed, IsTrueIn, after_event, range, sum_value}
use Rattle.sv_first_judge.specs.Marks.{event_of, state_of, values_of}
use Rattle.sv_first_judge.specs.declared.history.Event.{Event as CodeEvent}
use Rattle.sv_first_judge.specs.declared.history.State.{State as CodeState}

-- the sides are equal, and in range
pub record IsMet (values : Values) (e : Equation) : Type 0 where
  pub fits : sum_value values e.left < range
  pub equal : IsTrueIn values e

-- a state of a contract of the first form: it has a number for each variable
pub record IsStateOf (c : Contract) (s : CodeState) : Type 0 where
  pub form : IsContract c
  pub len : length s.values ≡ length c.variables

-- the values that a run leaves, as many as before it, or none where it reverts
pub record Leaves (before : List ℕ) (end : Option Values) (after : Option (List ℕ)) : Type 0 where
  pub values : option_map values_of after ≡ end
  pub len : IfSome after (λ next. length next ≡ length before)

-- a step passes so: it leads to a state with as many values as before, and adds its marks
pub record Passes (passed : Passed) (before after : CodeState) (told told' : List CodeState) : Type 0 where
  pub state : state_of after ≡ passed.state
  pub marks : map state_of told' ≡ map state_of told ++ passed.marks
  pub len : length after.values ≡ length before.values

-- an event passes so, and its gift is below 2^64
pub record PassesEvent (c : Contract) (event : CodeEvent) (before after : CodeState) (told told' : List CodeState) : Type 0 where
  pub passes : Passes (after_event c (state_of before) (event_of event)) before after told told'
  pub balance : after.balance < before.balance + 2 ^ 64
