-- Believed: modular runs of one function, in which calls and loops are cut by what is written at them. Hold it against docs/meaning.md, "How a function is judged".
use Rattle.std.specs.Prelude.{◌≡◌, ◌⊎◌, ℕ, suc, Bool, true, false, not, List, [], ◌∷◌, ◌++◌, take, Option, Some, None, slice_get, ℤ, pos, int_lt}
use Rattle.sv_text.specs.declared.place.Place.{Place}
use Rattle.sv_type.specs.StorageTrees.{Tree}
use Rattle.sv_type.specs.TypedTrees.{as_nat}
use Rattle.sv_type.specs.Memory.{Memory}
use Rattle.sv_core.specs.declared.expr.OutKind.{OutKind}
use Rattle.sv_core.specs.declared.expr.OutKind.TheVariants as out
use Rattle.sv_core.specs.declared.label.Label.{Label}
use Rattle.sv_core.specs.declared.label.Site.TheVariants as site
use Rattle.sv_core.specs.declared.contract.VarKind.TheVariants as variable
use Rattle.sv_core.specs.PlainCode as code
use Rattle.sv_core.specs.PlainCode.{Expr, Act, Stmts, Arms, Exprs, exprs}
use Rattle.sv_core.specs.PlainCore.{Contract, Function, Modifier, Use, Variable}
use Rattle.sv_sem.specs.States.{Held, Value, State, View, Choose, or_else, type_of, with_state, less_balance}
use Rattle.sv_sem.specs.Operators.{is_zero, binary}
use Rattle.sv_sem.specs.NamedParts.{Worked, Target, assign, delete, made, new_array}
use Rattle.sv_sem.specs.TrueValues.{effect_of, given}
use Rattle.sv_sem.specs.AnnotationTruth.{Limits, Reading, AllHold, FirstFalse, at_view, at_state, at_end}
use Rattle.sv_sem.specs.RunParts.{End, Done, Broke, Continued, Returned, Setting, func_at, modifier_at, in_function, in_modifier, bound, entered, back_in, into_modifier, at_rest, after_rest, into_results, into_slots}
use Rattle.sv_sem.specs.Effects.{all_fit, taken, element_type, push_to, push_value_to, pop_from, same_view}
use Rattle.sv_sem.specs.FreeValues.{FreeValue, FreeValues, FreeAmount, FreeTarget, known}
use Rattle.sv_sem.specs.WellTyped.{WellState, WellMemory, WellView, WellResults}
use Rattle.sv_sem.specs.Changes.{Changes, LoopChanges, Assigns, Keeps, KeepsLocals}

-- a modular run ends with a view, or at a check that fails
pub data Verdict : Type 0 where
  EndsIn : (how : End) (c : View) → Verdict
  Fails : (label : Label) → Verdict

abbrev pub Rel : Type 1
Rel = View → Verdict → Type 0

-- the statements after it are not run
abbrev pub IsStop : Verdict → Type 0
IsStop (EndsIn Done c) = ⊥
IsStop _ = Unit {0}

abbrev pub IsNoReturn : Verdict → Type 0
IsNoReturn (EndsIn Returned c) = ⊥
IsNoReturn _ = Unit {0}

-- ---- checks

-- the label of a check at a place, of the annotation that stands at k from 0
abbrev pub label_at : Place → ℕ → ℕ → ℕ → Label
label_at place kind name k = record { site = site.At place; kind = kind; number = suc k; «of» = name }

abbrev pub assert_label : Place → ℕ → Label
assert_label place name = record { site = site.At place; kind = 4; number = 0; «of» = name }

abbrev pub end_label : ℕ → ℕ → ℕ → Label
end_label kind name k = record { site = site.End; kind = kind; number = suc k; «of» = name }

-- checks in order: one that fails ends the run with its label, and where all hold the run goes on
abbrev pub Checked : (ℕ → Label) → Limits → Contract → Reading → List Expr → Type 0 → Verdict → Type 0
Checked label l core r notes go o = (AllHold l core r notes × go) ⊎ ((k : ℕ) × FirstFalse l core r notes k × (o ≡ Fails (label k)))

abbrev pub invariants_if : Bool → Contract → List Expr
invariants_if true core = core.invariants
invariants_if false core = []

-- ---- calls from inside

-- the view at the end of a function: any state, memory and results
abbrev pub end_view : Function → View → State → Memory → List Held → View
end_view f entry s m rs = record { state = s; frame = record (entry.frame) { locals = take f.params entry.frame.locals ++ rs; memory = m } }

-- the preconditions are checked, and for a public function the invariants. Then follow any well-typed values for its results and
-- for what it may change, which meet its postconditions, and for a public function the invariants
abbrev pub CallsInside : Limits → Contract → Place → ℕ → Function → View → View → (List Held → View → Type 0) → Verdict → Type 0
CallsInside l core place n f caller entry go o =
    Checked (label_at place 1 f.name) l core (at_view entry) f.pre
    (Checked (label_at place 2 f.name) l core (at_state entry.frame.this entry.state) (invariants_if f.public core)
    ((s : State) × (m : Memory) × (rs : List Held) × WellState core s × WellMemory core m × WellResults core f rs
    × Keeps (Changes core n) entry (end_view f entry s m rs)
    × AllHold l core (at_end f.params entry (end_view f entry s m rs)) f.post
    × AllHold l core (at_state entry.frame.this s) (invariants_if f.public core)
    × go rs (back_in caller (end_view f entry s m rs)))
    o)
    o

-- ---- calls of other accounts

-- where the call fails: `send` and `call` answer false, and others revert their caller, which ends the run
abbrev pub FailedCall : OutKind → View → (List Held → View → Type 0) → Type 0
FailedCall out.Send c go = go (Value (pos 0) ∷ []) c
FailedCall out.Call c go = go (Value (pos 0) ∷ []) c
FailedCall _ c go = ⊥

-- where it succeeds: a call with results answers any of their types
abbrev pub AnsweredCall : Contract → OutKind → List ℕ → View → (List Held → View → Type 0) → Type 0
AnsweredCall core out.Send ts c go = go (Value (pos 1) ∷ []) c
AnsweredCall core out.Call ts c go = go (Value (pos 1) ∷ []) c
AnsweredCall core out.Transfer ts c go = go [] c
AnsweredCall core out.Typed ts c go = (us : List Tree) × (all_fit core ts us ≡ true) × go (taken core ts us c).held (taken core ts us c).view

abbrev pub KeepsImmutables : Contract → State → State → Type 0
KeepsImmutables core s t = (k : ℕ) (v : Variable) → slice_get core.vars k ≡ Some v → v.kind ≡ variable.Immutable → slice_get s.vars k ≡ slice_get t.vars k

-- below the balance the call fails. Else the balance falls and the invariants are checked; then either the call fails, and the state
-- is as before the balance fell, or any well-typed state follows that meets the invariants
abbrev pub CallsOutside : Limits → Contract → Place → OutKind → List ℕ → ℤ → View → (List Held → View → Type 0) → Verdict → Type 0
CallsOutside l core place how ts v c go o =
    ((int_lt (pos c.state.balance) v ≡ true) × FailedCall how c go)
    ⊎ ((int_lt (pos c.state.balance) v ≡ false)
    × Checked (label_at place 3 core.name) l core (at_state c.frame.this (less_balance (as_nat v) c.state)) core.invariants
    (FailedCall how c go
    ⊎ ((t : State) × WellState core t × KeepsImmutables core c.state t × AllHold l core (at_state c.frame.this t) core.invariants
    × AnsweredCall core how ts (with_state t c) go))
    o)

-- ---- the effect of a full expression

abbrev pub GoesOn : Option Worked → (List Held → View → Type 0) → Type 0
GoesOn o go = (w : Worked) × (o ≡ Some w) × go w.results w.view

abbrev pub Operates : Limits → Contract → Expr → View → (List Held → View → Type 0) → Verdict → Type 0
Operates l core (code.Node place t (code.Call f args)) c go o = (hs : List Held) × FreeValues l core c [] args hs × CallsInside l core place f (func_at core f) c (entered core (func_at core f) hs c) go o
Operates l core (code.Node place t (code.Outside how to v args ts)) c go o =
    (account : Held) × (amount : ℤ) × (hs : List Held) × FreeValue l core c [] to account × FreeAmount l core c v amount × FreeValues l core c [] args hs
    × CallsOutside l core place how ts amount c go o
Operates l core (code.Node place t (code.Push a code.Nothing)) c go o = (h : Held) × FreeValue l core c [] a h × GoesOn (push_to h c) go
Operates l core (code.Node place t (code.Push a (code.Just e))) c go o =
    (h : Held) × (x : Held) × FreeValue l core c [] a h × FreeValue l core c [] e x × GoesOn (push_value_to core (element_type core (type_of a)) h x c) go
Operates l core (code.Node place t (code.Pop a)) c go o = (h : Held) × FreeValue l core c [] a h × GoesOn (pop_from core (element_type core (type_of a)) h c) go
Operates l core (code.Node place t (code.Make es)) c go o = (hs : List Held) × FreeValues l core c [] es hs × go (made core t hs c).results (made core t hs c).view
Operates l core (code.Node place t (code.NewArray n)) c go o = (z : ℤ) × FreeValue l core c [] n (Value z) × go (new_array t z c).results (new_array t z c).view
Operates l core e c go o = go [] c

abbrev pub AfterEffect : Limits → Contract → Option Expr → View → (List Held → View → Type 0) → Verdict → Type 0
AfterEffect l core None c go o = go [] c
AfterEffect l core (Some e) c go o = Operates l core e c go o

-- ---- full expressions

abbrev pub WithValue : Limits → Contract → Expr → View → (Held → View → Type 0) → Verdict → Type 0
WithValue l core e c go o = AfterEffect l core (effect_of e) c (λ rs d. (x : Held) × FreeValue l core d rs e x × go x d) o

abbrev pub WithTruth : Limits → Contract → Expr → View → (Bool → View → Type 0) → Verdict → Type 0
WithTruth l core e c go o = AfterEffect l core (effect_of e) c (λ rs d. (x : ℤ) × FreeValue l core d rs e (Value x) × go (not (is_zero x)) d) o

abbrev pub WithValues : Limits → Contract → List Expr → View → (List Held → View → Type 0) → Verdict → Type 0
WithValues l core [] c go o = go [] c
WithValues l core (e ∷ es) c go o =
    AfterEffect l core (effect_of e) c (λ rs d. (x : Held) × FreeValue l core d rs e x × WithValues l core es d (λ xs m. go (given rs x ++ xs) m) o) o

-- ---- loops

-- after the body the update is run, and the invariants of the loop are checked; there the run ends
abbrev pub AfterTurn : (View → Verdict → Type 0) → (View → Verdict → Type 0) → View → Verdict → Type 0
AfterTurn update checks m o = ((u : View) × update m (EndsIn Done u) × checks u o) ⊎ ((k : Label) × update m (Fails k) × (o ≡ Fails k))

-- one turn: the run goes on from each exit of the loop, and ends behind a turn that comes to its end
abbrev pub Turns : (View → Verdict → Type 0) → (View → Verdict → Type 0) → View → Verdict → Type 0
Turns body after d o =
    ((m : View) × body d (EndsIn Done m) × after m o)
    ⊎ ((m : View) × body d (EndsIn Continued m) × after m o)
    ⊎ ((m : View) × body d (EndsIn Broke m) × (o ≡ EndsIn Done m))
    ⊎ ((m : View) × body d (EndsIn Returned m) × (o ≡ EndsIn Returned m))
    ⊎ ((k : Label) × body d (Fails k) × (o ≡ Fails k))

-- only what the turns may change differs
pub record Forgets (core : Contract) (set : Setting) (loop : Act) (c d : View) : Type 0 where
  pub keeps : Keeps (LoopChanges core set.locals loop) c d
  pub locals : KeepsLocals (Assigns loop) c d
  pub around : c.frame.around ≡ d.frame.around
  pub sender : c.frame.sender ≡ d.frame.sender
  pub value : c.frame.value ≡ d.frame.value
  pub time : c.frame.time ≡ d.frame.time
  pub number : c.frame.number ≡ d.frame.number
  pub this : c.frame.this ≡ d.frame.this

-- ---- statements

-- a body ends in any way, and the run goes on behind it
abbrev pub Finishes : (View → View) → (Verdict → Type 0) → Verdict → Type 0
Finishes back body o = ((how : End) × (d : View) × body (EndsIn how d) × (o ≡ EndsIn Done (back d))) ⊎ ((k : Label) × body (Fails k) × (o ≡ Fails k))

-- `rest` is what stands for `_`
abbrev mutual
  pub Runs : Limits → Setting → (View → Verdict → Type 0) → Place → Act → View → Verdict → Type 0
  Runs l set rest place (code.Set a e) c o =
      AfterEffect l set.core (or_else (effect_of a) (effect_of e)) c (λ rs d.
      (x : Held) × (to : Target) × (m : View) × FreeValue l set.core d rs e x × FreeTarget l set.core d rs a to
      × (assign set.core set.locals (type_of a) to x d ≡ Some m) × (o ≡ EndsIn Done m)) o
  Runs l set rest place (code.Update a op e) c o =
      AfterEffect l set.core (or_else (effect_of a) (effect_of e)) c (λ rs d.
      (to : Target) × (x : ℤ) × (y : ℤ) × (z : ℤ) × (m : View)
      × FreeTarget l set.core d rs a to × FreeValue l set.core d rs a (Value x) × FreeValue l set.core d rs e (Value y)
      × (binary (known set.core (type_of a)) op x y ≡ Some z)
      × (assign set.core set.locals (type_of a) to (Value z) d ≡ Some m) × (o ≡ EndsIn Done m)) o
  Runs l set rest place (code.Delete a) c o =
      AfterEffect l set.core (effect_of a) c (λ rs d. (to : Target) × (m : View) × FreeTarget l set.core d rs a to × (delete set.core (type_of a) to d ≡ Some m) × (o ≡ EndsIn Done m)) o
  Runs l set rest place (code.Do e) c o = WithValue l set.core e c (λ x d. o ≡ EndsIn Done d) o
  Runs l set rest place (code.Many slots e) c o = AfterEffect l set.core (effect_of e) c (λ rs d. o ≡ EndsIn Done (into_slots set.core set.locals slots rs d)) o
  Runs l set rest place (code.If arms otherwise) c o = RunsArms l set rest arms (RunsAll l set rest otherwise) c o
  Runs l set rest place (code.Loop notes test body update) c o =
      Checked (label_at place 5 set.core.name) l set.core (at_view c) notes
      ((d : View) × Forgets set.core set (code.Loop notes test body update) c d × WellView set.core set.locals d × AllHold l set.core (at_view d) notes
      × WithTruth l set.core test d (λ b m.
      Choose b
      (Turns (RunsAll l set rest body)
      (AfterTurn (RunsAll l set rest update) (λ u. Checked (label_at place 6 set.core.name) l set.core (at_view u) notes ⊥)) m o)
      (o ≡ EndsIn Done m)) o)
      o
  Runs l set rest place code.Break c o = o ≡ EndsIn Broke c
  Runs l set rest place code.Continue c o = o ≡ EndsIn Continued c
  Runs l set rest place (code.Return es) c o = WithValues l set.core es c (λ xs d. o ≡ EndsIn Returned (into_results set.core set.locals set.results xs d)) o
  Runs l set rest place (code.Require e) c o = WithTruth l set.core e c (λ b d. Choose b (o ≡ EndsIn Done d) ⊥) o
  Runs l set rest place (code.Assert e) c o = WithTruth l set.core e c (λ b d. Choose b (o ≡ EndsIn Done d) (o ≡ Fails (assert_label place set.core.name))) o
  Runs l set rest place (code.Revert es) c o = WithValues l set.core es c (λ xs d. ⊥) o
  Runs l set rest place (code.Emit es) c o = WithValues l set.core es c (λ xs d. o ≡ EndsIn Done d) o
  Runs l set rest place code.Rest c o = Finishes (after_rest c.frame.locals) (rest (at_rest c)) o
  Runs l set rest place (code.Frame body) c o =
      ((d : View) × RunsAll l set rest body c (EndsIn Returned d) × (o ≡ EndsIn Done d)) ⊎ (IsNoReturn o × RunsAll l set rest body c o)

  pub RunsAll : Limits → Setting → (View → Verdict → Type 0) → Stmts → View → Verdict → Type 0
  RunsAll l set rest code.Done c o = o ≡ EndsIn Done c
  RunsAll l set rest (code.Then (code.Numbered number place act) ss) c o =
      ((m : View) × Runs l set rest place act c (EndsIn Done m) × RunsAll l set rest ss m o) ⊎ (IsStop o × Runs l set rest place act c o)

  -- the first condition that is true; `otherwise` is what is run where none is
  pub RunsArms : Limits → Setting → (View → Verdict → Type 0) → Arms → (View → Verdict → Type 0) → View → Verdict → Type 0
  RunsArms l set rest code.NoArm otherwise c o = otherwise c o
  RunsArms l set rest (code.Arm test body more) otherwise c o =
      WithTruth l set.core test c (λ b d. Choose b (RunsAll l set rest body d o) (RunsArms l set rest more otherwise d o)) o

-- ---- functions, with their modifiers

abbrev pub NoRest : View → Verdict → Type 0
NoRest c o = ⊥

abbrev pub RunsModifier : Limits → Contract → Modifier → Exprs → (View → Verdict → Type 0) → View → Verdict → Type 0
RunsModifier l core m args rest c o =
    (hs : List Held) × FreeValues l core c [] args hs
    × Finishes at_rest (RunsAll l (in_modifier core m) rest m.body (into_modifier (bound core m.locals m.params hs c).held (bound core m.locals m.params hs c).view)) o

abbrev pub RunsUses : Limits → Contract → Function → List Use → View → Verdict → Type 0
RunsUses l core f [] c o = Finishes same_view (RunsAll l (in_function core f) NoRest f.body c) o
RunsUses l core f (u ∷ us) c o = RunsModifier l core (modifier_at core u.which) (exprs u.args) (RunsUses l core f us) c o

abbrev pub RunsFunction : Limits → Contract → Function → View → Verdict → Type 0
RunsFunction l core f c o = RunsUses l core f f.uses c o
