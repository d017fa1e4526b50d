-- Believed: states, frames, and what a local variable holds. Hold it against Solidity's documentation, "Layout of State Variables in Storage", "Data location" and "Block and Transaction Properties".
use Rattle.std.specs.Prelude.{ℕ, ◌+◌, ◌-◌, Bool, true, false, List, [], ◌∷◌, ◌++◌, Option, Some, None, slice_index_or, slice_set, ℤ}
use Rattle.sv_type.specs.Shapes.{Shape, Kind, Number, Truth, shape_of, is_value_shape}
use Rattle.sv_type.specs.StorageTrees.{Tree, Step, nil, read, write, number}
use Rattle.sv_type.specs.Memory.{Memory}
use Rattle.sv_core.specs.PlainCode as code
use Rattle.sv_core.specs.PlainCode.{Expr}
use Rattle.sv_core.specs.PlainCore.{Contract}

-- a variable of the contract, and the steps below it
pub record Path : Type 0 where
  pub var : ℕ
  pub steps : List Step

-- what a local holds: a number, which for a memory type is the reference to an object; a path; or nothing yet, where a
-- storage pointer was not set
pub data Held : Type 0 where
  Value : (z : ℤ) → Held
  Pointer : (p : Path) → Held
  Unset : Held

-- the trees of the contract's variables, immutables among them, and its balance
pub record State : Type 0 where
  pub vars : List Tree
  pub balance : ℕ

-- the locals of the body that runs, those of the function around it while the body of a modifier runs, the memory, and the
-- environment of the call
pub record Frame : Type 0 where
  pub locals : List Held
  pub around : List Held
  pub memory : Memory
  pub sender : ℕ
  pub value : ℕ
  pub time : ℕ
  pub number : ℕ
  pub this : ℕ

pub record View : Type 0 where
  pub state : State
  pub frame : Frame

-- ---- types of expressions

abbrev pub type_of : Expr → ℕ
type_of (code.Node place t kind) = t

abbrev pub kind_of_shape : Shape → Kind
kind_of_shape (Number id kind) = kind
kind_of_shape _ = Truth

-- what the numbers of a value type stand for
abbrev pub kind_of : Contract → ℕ → Kind
kind_of core t = kind_of_shape (shape_of core.types t)

abbrev pub is_value_type : Contract → ℕ → Bool
is_value_type core t = is_value_shape (shape_of core.types t)

-- ---- paths

abbrev pub root : ℕ → Path
root k = record { var = k; steps = [] }

abbrev pub below : Path → Step → Path
below p s = record { var = p.var; steps = p.steps ++ s ∷ [] }

abbrev pub tree_at : Path → State → Tree
tree_at p s = read p.steps (slice_index_or s.vars p.var nil)

abbrev pub with_tree : Path → Tree → State → State
with_tree p t s = record s { vars = slice_set s.vars p.var (write p.steps t (slice_index_or s.vars p.var nil)) }

abbrev pub more_balance : ℕ → State → State
more_balance v s = record s { balance = s.balance + v }

abbrev pub less_balance : ℕ → State → State
less_balance v s = record s { balance = s.balance - v }

-- ---- views

abbrev pub with_state : State → View → View
with_state s c = record c { state = s }

abbrev pub with_frame : Frame → View → View
with_frame f c = record c { frame = f }

abbrev pub with_locals : List Held → View → View
with_locals hs c = record c { frame = record (c.frame) { locals = hs } }

abbrev pub with_memory : Memory → View → View
with_memory m c = record c { frame = record (c.frame) { memory = m } }

abbrev pub local_at : ℕ → View → Held
local_at k c = slice_index_or c.frame.locals k Unset

abbrev pub set_local : ℕ → Held → View → View
set_local k h c = with_locals (slice_set c.frame.locals k h) c

-- ---- lists

abbrev pub with_some : {A B : Type 0} → Option A → (A → Option B) → Option B
with_some None f = None
with_some (Some x) f = f x

abbrev pub choose : {A : Type 0} → Bool → A → A → A
choose true a b = a
choose false a b = b

abbrev pub Choose : Bool → Type 0 → Type 0 → Type 0
Choose true A B = A
Choose false A B = B

abbrev pub or_else : {A : Type 0} → Option A → Option A → Option A
or_else None o = o
or_else (Some x) o = Some x

abbrev pub from_some : {A : Type 0} → A → Option A → A
from_some d None = d
from_some d (Some x) = x
