-- Believed: what a contract of the first form does in every list of transactions, and what it is to be safe, in exact numbers and the true range of `uint256`. Hold it against docs/promises.md.
use Rattle.std.specs.Prelude.{◌≡◌, ◌==◌, ℕ, zero, suc, ◌+◌, ◌^◌, ◌&&◌, List, [], ◌∷◌, ◌++◌, All, Some, None, option_and_then, nat_lt, slice_get, if◌then◌else◌}
use Rattle.std.specs.declared.option.Option.{Option}
use Rattle.sv_first_form.specs.declared.contract.Act.{Act}
use Rattle.sv_first_form.specs.declared.contract.Act.TheVariants.{Assign, Require}
use Rattle.sv_first_form.specs.declared.contract.Contract.{Contract}
use Rattle.sv_first_form.specs.declared.contract.Equation.{Equation}
use Rattle.sv_first_form.specs.declared.contract.Function.{Function}
use Rattle.sv_first_form.specs.declared.contract.Item.{Item}
use Rattle.sv_first_form.specs.declared.contract.Item.TheVariants.{Variable, Number}

-- a number for each variable, by its place
abbrev pub Values : Type 0
Values = ℕ → ℕ

-- a state: the variables' numbers, and the balance
pub record State : Type 0 where
  pub values : Values
  pub balance : ℕ

-- the value of an item and of a sum
abbrev pub item_value : Values → Item → ℕ
item_value values (Variable v) = values v
item_value values (Number n) = n

abbrev pub sum_value : Values → List Item → ℕ
sum_value values [] = 0
sum_value values (item ∷ items) = item_value values item + sum_value values items

-- the two sides are equal
abbrev pub IsTrueIn : Values → Equation → Type 0
IsTrueIn values e = sum_value values e.left ≡ sum_value values e.right

-- the numbers that are too large for a `uint256` begin here
abbrev pub range : ℕ
range = 2 ^ 256

-- one act: the values after it, or none where it reverts: at a result that is out of range, and at a false `require`
abbrev pub after_act : Values → Act → Option Values
after_act values (Assign v sum) =
    if nat_lt (sum_value values sum) range then Some (λ w. if w == v then sum_value values sum else values w) else None
after_act values (Require e) =
    if nat_lt (sum_value values e.left) range && (sum_value values e.left == sum_value values e.right) then Some values else None

-- acts in order, each for one unit of gas: none left is a revert
abbrev pub run : List Act → ℕ → Values → Option Values
run [] gas values = Some values
run (act ∷ acts) zero values = None
run (act ∷ acts) (suc gas) values = option_and_then (λ (next : Values). run acts gas next) (after_act values act)

-- a transaction, or ether that arrives by force: a call of a function, by its place, with an amount of gas; and a gift of an amount
pub data Event : Type 0 where
  Call : (function gas : ℕ) → Event
  Gift : (amount : ℕ) → Event

-- what an event leaves: the state, and the marks that it made, each with the state there
pub record Passed : Type 0 where
  pub state : State
  pub marks : List State

-- a call that reverts gives the state back, and its end is a mark; one that doesn't has a mark at the function's end too
abbrev pub after_call : State → Option Values → Passed
after_call s None = record { state = s; marks = s ∷ [] }
after_call s (Some values) =
    let end : State = record { values = values; balance = s.balance } in
    record { state = end; marks = end ∷ end ∷ [] }

-- a call of a function that isn't there reverts
abbrev pub run_of : Option Function → ℕ → Values → Option Values
run_of None gas values = None
run_of (Some f) gas values = run f.acts gas values

abbrev pub after_event : Contract → State → Event → Passed
after_event c s (Call function gas) = after_call s (run_of (slice_get c.functions function) gas s.values)
after_event c s (Gift amount) =
    let end : State = record { values = s.values; balance = s.balance + amount } in
    record { state = end; marks = end ∷ [] }

abbrev pub marks_after : Contract → State → List Event → List State
marks_after c s [] = []
marks_after c s (event ∷ events) =
    let passed = after_event c s event in passed.marks ++ marks_after c passed.state events

-- a history: the balance at construction, and what happens after it
pub record History : Type 0 where
  pub balance : ℕ
  pub events : List Event

-- construction leaves zeros; it has a mark at the constructor's end, and one at the transaction's end
abbrev pub constructed : History → State
constructed h = record { values = λ _. 0; balance = h.balance }

abbrev pub marks_of : Contract → History → List State
marks_of c h = constructed h ∷ constructed h ∷ marks_after c (constructed h) h.events

-- safe: in every history, at each mark, every invariant is true
abbrev pub Safe : Contract → Type 0
Safe c = (h : History) → All (λ (s : State). All (IsTrueIn s.values) c.invariants) (marks_of c h)
