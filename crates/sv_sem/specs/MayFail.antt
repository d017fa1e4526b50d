-- Believed: from where functions, the constructor and gifts are judged, and which checks may fail. Hold it against docs/meaning.md, "How a function is judged".
use Rattle.std.specs.Prelude.{◌≡◌, ◌⊎◌, ℕ, suc, Bool, List, [], ◌∷◌, reverse, Option, Some, None, slice_get}
use Rattle.sv_core.specs.declared.label.Label.{Label}
use Rattle.sv_core.specs.declared.label.FuncId.{FuncId}
use Rattle.sv_core.specs.declared.label.FuncId.TheVariants as func
use Rattle.sv_core.specs.PlainCode.{Expr}
use Rattle.sv_core.specs.PlainCore.{Contract, Function, Constructor, Given, Variable}
use Rattle.sv_sem.specs.States.{Held, State, View, Choose, choose, root, more_balance, with_state}
use Rattle.sv_sem.specs.NamedParts.{assign, ToPath}
use Rattle.sv_sem.specs.AnnotationTruth.{Limits, AllHold, FirstFalse, at_view, at_state, at_end}
use Rattle.sv_sem.specs.RunParts.{Done, bound, entered}
use Rattle.sv_sem.specs.Effects.{same_view}
use Rattle.sv_sem.specs.Histories.{Prepared, ctor_at, in_ctor, ctor_view, own_ctor, default_state, prepared_own, bound_view}
use Rattle.sv_sem.specs.FreeValues.{AreLimits, FreeValue}
use Rattle.sv_sem.specs.WellTyped.{WellState, WellMemory, WellArguments}
use Rattle.sv_sem.specs.ModularRuns.{Verdict, EndsIn, Fails, Finishes, WithValues, RunsAll, RunsFunction, NoRest, invariants_if, end_label}

-- ---- functions

-- the value is credited after the entry state, where the function is payable
abbrev pub credited : Bool → View → View
credited payable entry = choose payable (with_state (more_balance entry.frame.value entry.state) entry) entry

-- a function that may be called from outside starts in a state that meets the invariants, another where its preconditions hold
abbrev pub Starts : Limits → Contract → Function → View → Type 0
Starts l core f entry = Choose f.public (AllHold l core (at_state entry.frame.this entry.state) core.invariants) (AllHold l core (at_view entry) f.pre)

-- at the end the invariants are checked where the function is public, and then the postconditions, where all preconditions held at
-- the entry
abbrev pub FailsAtEnd : Limits → Contract → Function → View → View → Label → Type 0
FailsAtEnd l core f entry end label =
    ((k : ℕ) × FirstFalse l core (at_state end.frame.this end.state) (invariants_if f.public core) k × (label ≡ end_label 7 core.name k))
    ⊎ (AllHold l core (at_state end.frame.this end.state) (invariants_if f.public core) × AllHold l core (at_view entry) f.pre
    × ((k : ℕ) × FirstFalse l core (at_end f.params entry end) f.post k × (label ≡ end_label 8 core.name k)))

abbrev pub FunctionFails : Limits → Contract → Function → View → Label → Type 0
FunctionFails l core f entry label =
    RunsFunction l core f (credited f.payable entry) (Fails label)
    ⊎ ((end : View) × RunsFunction l core f (credited f.payable entry) (EndsIn Done end) × FailsAtEnd l core f entry end label)

-- the entry is made from any well-typed state, memory and arguments, and any environment
abbrev pub FunctionMayFail : Limits → Contract → Function → Label → Type 0
FunctionMayFail l core f label =
    (c : View) × (hs : List Held) × WellState core c.state × WellMemory core c.frame.memory × WellArguments core f.locals f.params hs
    × Starts l core f (entered core f hs c) × FunctionFails l core f (entered core f hs c) label

-- ---- the constructor

abbrev pub RunsGiven : Limits → Contract → Constructor → List Given → List Prepared → View → (List Prepared → View → Type 0) → Verdict → Type 0
RunsGiven l core k [] ps c go o = go ps c
RunsGiven l core k (x ∷ xs) ps c go o =
    WithValues l core x.args (ctor_view core k ps c) (λ hs d.
    RunsGiven l core k xs (record { owner = x.base; locals = (bound core (ctor_at core x.base).locals (ctor_at core x.base).params hs d).held } ∷ ps) (bound core (ctor_at core x.base).locals (ctor_at core x.base).params hs d).view go o) o

abbrev pub RunsAllGiven : Limits → Contract → List Constructor → List Prepared → View → (List Prepared → View → Type 0) → Verdict → Type 0
RunsAllGiven l core [] ps c go o = go ps c
RunsAllGiven l core (k ∷ ks) ps c go o = RunsGiven l core k k.base_args ps c (λ qs d. RunsAllGiven l core ks qs d go o) o

abbrev pub Inits : Limits → Contract → ℕ → ℕ → Option Expr → View → View → Type 0
Inits l core k t None c d = d ≡ c
Inits l core k t (Some e) c d = (h : Held) × FreeValue l core c [] e h × (assign core [] t (ToPath (root k)) h c ≡ Some d)

abbrev pub InitsAll : Limits → Contract → ℕ → List Variable → View → View → Type 0
InitsAll l core k [] c d = d ≡ c
InitsAll l core k (v ∷ vs) c d = (m : View) × Inits l core k v.t v.init c m × InitsAll l core (suc k) vs m d

abbrev pub RunsBodies : Limits → Contract → List Constructor → List Prepared → View → Verdict → Type 0
RunsBodies l core [] ps c o = o ≡ EndsIn Done c
RunsBodies l core (k ∷ ks) ps c o =
    ((d : View) × Finishes same_view (RunsAll l (in_ctor core k) NoRest k.body (ctor_view core k ps c)) (EndsIn Done d) × RunsBodies l core ks ps d o)
    ⊎ ((label : Label) × Finishes same_view (RunsAll l (in_ctor core k) NoRest k.body (ctor_view core k ps c)) (Fails label) × (o ≡ Fails label))

-- all arguments of bases, then all initialisers, then the bodies
abbrev pub RunsConstruction : Limits → Contract → List Prepared → View → Verdict → Type 0
RunsConstruction l core ps c o =
    RunsAllGiven l core (reverse core.ctors) ps c (λ qs d. (m : View) × InitsAll l core 0 core.vars d m × RunsBodies l core core.ctors qs m o) o

-- at its end the invariants are checked
abbrev pub ConstructionFails : Limits → Contract → List Held → View → Label → Type 0
ConstructionFails l core hs c label =
    RunsConstruction l core (prepared_own core hs c) (bound_view core hs c) (Fails label)
    ⊎ ((end : View) × RunsConstruction l core (prepared_own core hs c) (bound_view core hs c) (EndsIn Done end)
    × ((k : ℕ) × FirstFalse l core (at_state end.frame.this end.state) core.invariants k × (label ≡ end_label 7 core.name k)))

-- from default trees and any balance, to which a payable constructor adds the value
abbrev pub ConstructorMayFail : Limits → Contract → Label → Type 0
ConstructorMayFail l core label =
    (c : View) × (hs : List Held) × (c.state ≡ default_state core c.state.balance) × WellMemory core c.frame.memory
    × WellArguments core (own_ctor core).locals (own_ctor core).params hs
    × ConstructionFails l core hs (credited (own_ctor core).payable c) label

-- ---- gifts, and all

-- the balance rises by any number
abbrev pub GiftMayFail : Limits → Contract → Label → Type 0
GiftMayFail l core label =
    (s : State) × (this : ℕ) × (n : ℕ) × WellState core s × AllHold l core (at_state this s) core.invariants
    × ((k : ℕ) × FirstFalse l core (at_state this (more_balance n s)) core.invariants k × (label ≡ end_label 7 core.name k))

abbrev pub MayFailBy : Limits → Contract → FuncId → Label → Type 0
MayFailBy l core func.Constructor label = ConstructorMayFail l core label
MayFailBy l core (func.Function n) label = (f : Function) × (slice_get core.funcs n ≡ Some f) × FunctionMayFail l core f label
MayFailBy l core func.Gift label = GiftMayFail l core label

-- some modular run fails the check with this label
abbrev pub MayFail : Contract → FuncId → Label → Type 0
MayFail core f label = (l : Limits) × AreLimits core l × MayFailBy l core f label
