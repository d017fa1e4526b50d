-- Believed: when an annotation is true. Hold it against docs/meaning.md, "Annotations": integers are exact, indexes and quotients are total, parameters are those of the entry, and `old` reads the entry.
use Rattle.std.specs.Prelude.{◌≡◌, ℕ, zero, suc, Bool, true, false, not, nat_lt, List, [], ◌∷◌, Option, Some, None, ℤ, pos}
use Rattle.sv_type.specs.StorageTrees.{At, sum}
use Rattle.sv_type.specs.Memory.{empty_memory}
use Rattle.sv_core.specs.declared.expr.Op.{Op}
use Rattle.sv_core.specs.PlainCode as code
use Rattle.sv_core.specs.PlainCode.{Expr}
use Rattle.sv_core.specs.PlainCore.{Contract}
use Rattle.sv_sem.specs.States.{Held, Value, State, View, root, tree_at, local_at, type_of, kind_of, with_some, choose}
use Rattle.sv_sem.specs.Operators.{of_bool, is_zero, binary, unary, decides, total}
use Rattle.sv_sem.specs.NamedParts.{at_path, environment, part, any_element, length_held}
use Rattle.sv_sem.specs.TrueValues.{literal, limit, a_number}

-- the greatest (true) and the least number of each type. A history has the true ones
abbrev pub Limits : Type 0
Limits = ℕ → Bool → ℤ

abbrev pub true_limits : Contract → Limits
true_limits core t greatest = limit (kind_of core t) greatest

-- what an annotation reads: the entry of the function, what is now, and how many locals are read at the entry
pub record Reading : Type 0 where
  pub entry : View
  pub now : View
  pub params : ℕ

abbrev pub exact : ℤ → Option ℤ
exact z = Some z

abbrev pub joined_exactly : Op → ℤ → Option ℤ → Option Held
joined_exactly op x y = choose (decides op x) (Some (Value (of_bool (not (is_zero x))))) (with_some y (λ z. Some (Value (total (binary exact op x z)))))

-- the value of an annotation; none where it reads a reference to no object
abbrev mutual
  pub noted : Limits → Contract → Reading → Expr → Option Held
  noted l core r (code.Node place t kind) = kind_noted l core r t kind

  pub kind_noted : Limits → Contract → Reading → ℕ → code.Kind → Option Held
  kind_noted l core r t (code.Num negative m) = Some (Value (literal negative m))
  kind_noted l core r t (code.Truth b) = Some (Value (of_bool b))
  kind_noted l core r t (code.Local k) = Some (local_at k (choose (nat_lt k r.params) r.entry r.now))
  kind_noted l core r t (code.State k) = Some (at_path core t (root k) r.now.state)
  kind_noted l core r t (code.Env name) = Some (Value (environment name r.now))
  kind_noted l core r t (code.Field a k) = with_some (noted l core r a) (λ h. part core t (type_of a) (At k) h r.now)
  kind_noted l core r t (code.Index a i) = with_some (noted l core r a) (λ h. with_some (a_number (noted l core r i)) (λ z. any_element core t (type_of a) z h r.now))
  kind_noted l core r t (code.Length a) = with_some (noted l core r a) (λ h. length_held (type_of a) h r.now)
  kind_noted l core r t (code.Unary op a) = with_some (a_number (noted l core r a)) (λ x. Some (Value (total (unary exact op x))))
  kind_noted l core r t (code.Binary op a b) = with_some (a_number (noted l core r a)) (λ x. joined_exactly op x (a_number (noted l core r b)))
  kind_noted l core r t (code.Cond e a b) = with_some (a_number (noted l core r e)) (λ x. choose (is_zero x) (noted l core r b) (noted l core r a))
  kind_noted l core r t (code.Convert a) = noted l core r a
  kind_noted l core r t (code.Limit greatest) = Some (Value (l t greatest))
  kind_noted l core r t (code.Copy to a) = noted l core r a
  kind_noted l core r t (code.Old a) = noted l core (record { entry = r.entry; now = r.entry; params = r.params }) a
  kind_noted l core r t (code.Sum k) = Some (Value (sum (tree_at (root k) r.now.state)))
  kind_noted l core r t _ = Some (Value (pos 0))

-- ---- truth

abbrev pub truth : Option ℤ → Option Bool
truth None = None
truth (Some z) = Some (not (is_zero z))

abbrev pub holds : Limits → Contract → Reading → Expr → Option Bool
holds l core r e = truth (a_number (noted l core r e))

abbrev pub AllHold : Limits → Contract → Reading → List Expr → Type 0
AllHold l core r [] = Unit {0}
AllHold l core r (e ∷ es) = (holds l core r e ≡ Some true) × AllHold l core r es

-- the first that doesn't hold is false, and stands at this place, from 0
abbrev pub FirstFalse : Limits → Contract → Reading → List Expr → ℕ → Type 0
FirstFalse l core r [] k = ⊥
FirstFalse l core r (e ∷ es) zero = holds l core r e ≡ Some false
FirstFalse l core r (e ∷ es) (suc k) = (holds l core r e ≡ Some true) × FirstFalse l core r es k

-- ---- what is read where

-- preconditions and the invariants of loops
abbrev pub at_view : View → Reading
at_view c = record { entry = c; now = c; params = 0 }

-- an invariant reads the state and the contract's address
abbrev pub alone : State → ℕ → View
alone s this = record { state = s; frame = record { locals = []; around = []; memory = empty_memory; sender = 0; value = 0; time = 0; number = 0; this = this } }

abbrev pub at_state : ℕ → State → Reading
at_state this s = at_view (alone s this)

-- a postcondition of a function with n parameters
abbrev pub at_end : ℕ → View → View → Reading
at_end n entry end = record { entry = entry; now = end; params = n }
