-- Believed: well-typed values, states, memories and views. Hold it against Solidity's documentation, "Types": what a variable of a type may hold. Wide types have no upper bound here.
use Rattle.std.specs.Prelude.{◌≡◌, ℕ, true, List, [], ◌∷◌, take, drop, Some, slice_get, pos, int_le}
use Rattle.sv_type.specs.Shapes.{shape_of, is_well_typed}
use Rattle.sv_type.specs.TypedTrees.{Fits, Leads}
use Rattle.sv_type.specs.Memory.{Memory, MemoryFits}
use Rattle.sv_core.specs.declared.contract.LocalInfo.{LocalInfo}
use Rattle.sv_core.specs.declared.expr.Loc.{Loc}
use Rattle.sv_core.specs.declared.expr.Loc.TheVariants as loc
use Rattle.sv_core.specs.PlainCore.{Contract, Variable, Function}
use Rattle.sv_sem.specs.States.{Path, Held, Value, Pointer, Unset, State, View, kind_of}

-- the lists are as long as each other, and the relation holds at each place
abbrev pub Both : {A B : Type 0} → (A → B → Type 0) → List A → List B → Type 0
Both P [] [] = Unit {0}
Both P [] (y ∷ ys) = ⊥
Both P (x ∷ xs) [] = ⊥
Both P (x ∷ xs) (y ∷ ys) = P x y × Both P xs ys

-- the path leads from a variable to a tree of the type
abbrev pub WellPath : Contract → ℕ → Path → Type 0
WellPath core t p = (v : Variable) × (slice_get core.vars p.var ≡ Some v) × Leads p.steps (shape_of core.types v.t) (shape_of core.types t)

-- a number of a value type, a reference, which is any number of at least 0, or a path of its type
abbrev pub WellHeld : Contract → ℕ → Loc → Held → Type 0
WellHeld core t loc.Value (Value z) = is_well_typed (kind_of core t) z ≡ true
WellHeld core t loc.Memory (Value z) = int_le (pos 0) z ≡ true
WellHeld core t loc.Storage (Pointer p) = WellPath core t p
WellHeld core t _ h = ⊥

abbrev pub WellValue : Contract → LocalInfo → Held → Type 0
WellValue core l h = WellHeld core l.t l.loc h

-- a storage pointer that was not set yet is one that a local may hold
abbrev pub MayBeUnset : Loc → Type 0
MayBeUnset loc.Storage = Unit {0}
MayBeUnset _ = ⊥

abbrev pub WellLocal : Contract → LocalInfo → Held → Type 0
WellLocal core l Unset = MayBeUnset l.loc
WellLocal core l h = WellHeld core l.t l.loc h

abbrev pub WellState : Contract → State → Type 0
WellState core s = Both (λ v t. Fits (shape_of core.types v.t) t) core.vars s.vars

abbrev pub WellMemory : Contract → Memory → Type 0
WellMemory core m = MemoryFits (shape_of core.types) m

-- of a body with these locals
pub record WellView (core : Contract) (ls : List LocalInfo) (c : View) : Type 0 where
  pub state : WellState core c.state
  pub memory : WellMemory core c.frame.memory
  pub locals : Both (WellLocal core) ls c.frame.locals

abbrev pub WellArguments : Contract → List LocalInfo → ℕ → List Held → Type 0
WellArguments core ls n hs = Both (WellValue core) (take n ls) hs

abbrev pub WellResults : Contract → Function → List Held → Type 0
WellResults core f hs = Both (WellValue core) (take f.results (drop f.params f.locals)) hs
