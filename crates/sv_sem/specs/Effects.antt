-- Believed: what the one effect of a full expression does: calls from inside, calls of other accounts, `push`, `pop` and new objects. Hold it against Solidity's documentation, "Function Calls", "Members of Address Types" and "Members of arrays".
use Rattle.std.specs.Prelude.{ℕ, ◌+◌, Bool, true, false, ◌&&◌, if◌then◌else◌, List, [], ◌∷◌, ◌++◌, Option, Some, None, ℤ, pos, int_lt}
use Rattle.sv_type.specs.Shapes.{Shape, Fixed, Dynamic, Mapping, shape_of, id_of}
use Rattle.sv_type.specs.StorageTrees.{Tree}
use Rattle.sv_type.specs.TypedTrees.{fits, as_nat}
use Rattle.sv_core.specs.declared.expr.OutKind.{OutKind}
use Rattle.sv_core.specs.declared.expr.OutKind.TheVariants as out
use Rattle.sv_core.specs.PlainCode as code
use Rattle.sv_core.specs.PlainCode.{Expr, Exprs, Maybe, exprs}
use Rattle.sv_core.specs.PlainCore.{Contract, Function, Modifier, Use}
use Rattle.sv_sem.specs.States.{Held, Value, Pointer, State, View, with_state, less_balance, type_of}
use Rattle.sv_sem.specs.Operators.{of_bool}
use Rattle.sv_sem.specs.NamedParts.{Worked, KeptAll, pushed, pushed_value, popped, made, new_array, copied_in}
use Rattle.sv_sem.specs.TrueValues.{value, values, a_number}
use Rattle.sv_sem.specs.Adversary.{Mark, AtState, Meeting}
use Rattle.sv_sem.specs.RunParts.{Done, Outcome, Ends, Reverted, Config, Ran, Runner, Rec, reverted, viewed, marked, with_option, func_at, modifier_at, in_function, in_modifier, bound, entered, results_of, back_in, end_marks, into_modifier, at_rest}

-- ---- modifiers, each body nested at the `_` of the one before it

-- a body has ended, by itself or by `return`
abbrev pub finished_by : Outcome → (View → View) → Ran → Ran
finished_by (Ends how) back r = record { outcome = Ends Done; config = viewed (back r.config.view) r.config; marks = r.marks }
finished_by Reverted back r = r

abbrev pub finished : (View → View) → Ran → Ran
finished back r = finished_by r.outcome back r

abbrev pub same_view : View → View
same_view c = c

-- the arguments of a modifier are worked out when it is entered
abbrev pub run_modifier : Contract → Rec → Modifier → Exprs → Runner → Runner
run_modifier core rec m args rest g =
    with_option (values core g.view [] args) g (λ hs.
    let own = bound core m.locals m.params hs g.view in
    finished at_rest (rec (in_modifier core m) rest m.body (viewed (into_modifier own.held own.view) g)))

-- the modifiers from the first, and inside of all the body
abbrev pub run_uses : Contract → Rec → Function → List Use → Runner
run_uses core rec f [] g = finished same_view (rec (in_function core f) reverted f.body g)
run_uses core rec f (u ∷ us) g = run_modifier core rec (modifier_at core u.which) (exprs u.args) (run_uses core rec f us) g

abbrev pub run_function : Contract → Rec → Function → Runner
run_function core rec f g = run_uses core rec f f.uses g

-- ---- calls from inside

abbrev pub returned_by : Outcome → Function → View → View → (List Held → Runner) → Ran → Ran
returned_by (Ends how) f caller entry go r =
    marked (r.marks ++ end_marks f entry r.config.view) (go (results_of f r.config.view) (viewed (back_in caller r.config.view) r.config))
returned_by Reverted f caller entry go r = r

abbrev pub call : Contract → Rec → Function → Exprs → Config → (List Held → Runner) → Ran
call core rec f args g go =
    with_option (values core g.view [] args) g (λ hs.
    let entry = entered core f hs g.view in
    let r = run_function core rec f (viewed entry g) in
    returned_by r.outcome f g.view entry go r)

-- ---- calls of other accounts

-- what such a call leaves
pub record Met : Type 0 where
  pub ok : Bool
  pub results : List Tree
  pub state : State
  pub replies : List Meeting
  pub marks : List Mark

-- a tree for each type, and of that type
abbrev pub all_fit : Contract → List ℕ → List Tree → Bool
all_fit core [] [] = true
all_fit core (t ∷ ts) (u ∷ us) = fits (shape_of core.types t) u && all_fit core ts us
all_fit core _ _ = false

-- from the state in which the balance has fallen. A missing reply is a failed call, and so is one whose results don't fit; a
-- failed call gives the state back that was before the balance fell
abbrev pub met_reply : Contract → List ℕ → List Meeting → State → State → Met
met_reply core ts [] old low = record { ok = false; results = []; state = old; replies = []; marks = AtState low ∷ [] }
met_reply core ts (m ∷ ms) old low =
    let during = m.during low in
    let ok = m.ok && all_fit core ts m.results in
    record { ok = ok; results = m.results; state = if ok then during.state else old; replies = ms; marks = AtState low ∷ during.marks }

-- a call whose value is above the balance fails, and is not made
abbrev pub met : Contract → List ℕ → ℤ → State → List Meeting → Met
met core ts v s ms =
    if int_lt (pos s.balance) v
    then record { ok = false; results = []; state = s; replies = ms; marks = [] }
    else met_reply core ts ms s (less_balance (as_nat v) s)

-- the results as values, and as new objects where they are of a reference type
abbrev pub taken : Contract → List ℕ → List Tree → View → KeptAll
taken core (t ∷ ts) (u ∷ us) c =
    let first = copied_in core t u c in
    let others = taken core ts us first.view in
    record { held = first.held ∷ others.held; view = others.view }
taken core _ _ c = record { held = []; view = c }

-- `send` and `call` answer whether the call succeeded; where others fail, their caller reverts
abbrev pub answered : Contract → OutKind → List ℕ → Bool → List Tree → Config → (List Held → Runner) → Ran
answered core out.Send ts ok us g go = go (Value (of_bool ok) ∷ []) g
answered core out.Call ts ok us g go = go (Value (of_bool ok) ∷ []) g
answered core out.Transfer ts true us g go = go [] g
answered core out.Typed ts true us g go = let k = taken core ts us g.view in go k.held (viewed k.view g)
answered core _ ts false us g go = reverted g

abbrev pub call_outside : Contract → OutKind → List ℕ → ℤ → Config → (List Held → Runner) → Ran
call_outside core how ts v g go =
    let m = met core ts v g.view.state g.replies in
    marked m.marks (answered core how ts m.ok m.results (record g { view = with_state m.state g.view; replies = m.replies }) go)

-- ---- `push`, `pop` and new objects, from the values of their operands

abbrev pub element_of_shape : Shape → ℕ
element_of_shape (Fixed id n s) = id_of s
element_of_shape (Dynamic id s) = id_of s
element_of_shape (Mapping id s) = id_of s
element_of_shape s = 0

-- the type of the elements of an array
abbrev pub element_type : Contract → ℕ → ℕ
element_type core t = element_of_shape (shape_of core.types t)

abbrev pub push_to : Held → View → Option Worked
push_to (Pointer p) c = Some (pushed p c)
push_to h c = None

abbrev pub push_value_to : Contract → ℕ → Held → Held → View → Option Worked
push_value_to core t (Pointer p) x c = pushed_value core t p x c
push_value_to core t h x c = None

abbrev pub pop_from : Contract → ℕ → Held → View → Option Worked
pop_from core t (Pointer p) c = popped core t p c
pop_from core t h c = None

abbrev pub value_or_zero : Contract → View → Maybe → Option ℤ
value_or_zero core c code.Nothing = Some (pos 0)
value_or_zero core c (code.Just e) = a_number (value core c [] e)

-- ---- the effect

abbrev pub go_on : Option Worked → Config → (List Held → Runner) → Ran
go_on o g go = with_option o g (λ w. go w.results (viewed w.view g))

abbrev pub operate : Contract → Rec → Expr → Config → (List Held → Runner) → Ran
operate core rec (code.Node place t (code.Call f args)) g go = call core rec (func_at core f) args g go
operate core rec (code.Node place t (code.Outside how to v args ts)) g go =
    with_option (value core g.view [] to) g (λ account.
    with_option (value_or_zero core g.view v) g (λ amount.
    with_option (values core g.view [] args) g (λ hs. call_outside core how ts amount g go)))
operate core rec (code.Node place t (code.Push a code.Nothing)) g go = with_option (value core g.view [] a) g (λ h. go_on (push_to h g.view) g go)
operate core rec (code.Node place t (code.Push a (code.Just e))) g go =
    with_option (value core g.view [] a) g (λ h. with_option (value core g.view [] e) g (λ x. go_on (push_value_to core (element_type core (type_of a)) h x g.view) g go))
operate core rec (code.Node place t (code.Pop a)) g go = with_option (value core g.view [] a) g (λ h. go_on (pop_from core (element_type core (type_of a)) h g.view) g go)
operate core rec (code.Node place t (code.Make es)) g go = with_option (values core g.view [] es) g (λ hs. let w = made core t hs g.view in go w.results (viewed w.view g))
operate core rec (code.Node place t (code.NewArray n)) g go = with_option (a_number (value core g.view [] n)) g (λ z. let w = new_array t z g.view in go w.results (viewed w.view g))
operate core rec e g go = go [] g

-- goes on after the effect, if there is one
abbrev pub after_effect : Contract → Rec → Option Expr → Config → (List Held → Runner) → Ran
after_effect core rec None g go = go [] g
after_effect core rec (Some e) g go = operate core rec e g go
