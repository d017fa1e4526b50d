-- Believed: the value of an expression in a history, or a revert. Hold it against Solidity's documentation, "Expressions and Control Structures" and "Order of Precedence of Operators".
use Rattle.std.specs.Prelude.{ℕ, Bool, true, false, not, if◌then◌else◌, List, [], ◌∷◌, Option, Some, None, ℤ, pos, neg_ℤ}
use Rattle.sv_type.specs.Shapes.{Kind, least, greatest, is_in_type}
use Rattle.sv_type.specs.StorageTrees.{At, Index, sum}
use Rattle.sv_core.specs.declared.expr.Op.{Op}
use Rattle.sv_core.specs.PlainCode as code
use Rattle.sv_core.specs.PlainCode.{Expr, Exprs}
use Rattle.sv_core.specs.PlainCore.{Contract}
use Rattle.sv_sem.specs.States.{Held, Value, View, root, tree_at, local_at, type_of, kind_of, with_some, choose, or_else}
use Rattle.sv_sem.specs.Operators.{of_bool, is_zero, tested, binary, unary, decides, converted}
use Rattle.sv_sem.specs.NamedParts.{at_path, environment, part, element, length_held, settled, Target, ToLocal, ToPath, part_target, path_target, tree_held, is_within}

-- ---- the one effect of a full expression

-- a call, `push`, `pop` or the making of an object, wherever it stands. It is worked out first, and the rest after it
abbrev mutual
  pub effect_of : Expr → Option Expr
  effect_of (code.Node place t kind) = effect_in (code.Node place t kind) kind

  pub effect_in : Expr → code.Kind → Option Expr
  effect_in e (code.Call f args) = Some e
  effect_in e (code.Outside how target value args results) = Some e
  effect_in e (code.Push a value) = Some e
  effect_in e (code.Pop a) = Some e
  effect_in e (code.Make fields) = Some e
  effect_in e (code.NewArray n) = Some e
  effect_in e (code.Field a k) = effect_of a
  effect_in e (code.Index a i) = or_else (effect_of a) (effect_of i)
  effect_in e (code.Length a) = effect_of a
  effect_in e (code.Unary op a) = effect_of a
  effect_in e (code.Binary op a b) = or_else (effect_of a) (effect_of b)
  effect_in e (code.Cond c a b) = or_else (effect_of c) (or_else (effect_of a) (effect_of b))
  effect_in e (code.Convert a) = effect_of a
  effect_in e (code.Copy to a) = effect_of a
  effect_in e (code.Old a) = effect_of a
  effect_in e _ = None

-- ---- values

abbrev pub literal : Bool → ℕ → ℤ
literal true m = neg_ℤ (pos m)
literal false m = pos m

-- the greatest or the least number of a type
abbrev pub limit : Kind → Bool → ℤ
limit kind true = greatest kind
limit kind false = least kind

abbrev pub a_value : Option ℤ → Option Held
a_value o = with_some o (λ z. Some (Value z))

-- what is held is a number
abbrev pub a_number : Option Held → Option ℤ
a_number (Some (Value z)) = Some z
a_number _ = None

-- the second operand is left aside where the first decides
abbrev pub joined : (ℤ → Option ℤ) → Op → ℤ → Option ℤ → Option ℤ
joined range op x y = choose (decides op x) (Some (of_bool (not (is_zero x)))) (with_some y (λ z. binary range op x z))

abbrev pub converted_held : Kind → Kind → Held → Option Held
converted_held to from (Value z) = a_value (converted to from z)
converted_held to from h = Some h

-- after its effect, which gave `rs`
abbrev mutual
  pub value : Contract → View → List Held → Expr → Option Held
  value core c rs (code.Node place t kind) = kind_value core c rs t kind

  pub kind_value : Contract → View → List Held → ℕ → code.Kind → Option Held
  kind_value core c rs t (code.Num negative m) = a_value (tested is_in_type (kind_of core t) (literal negative m))
  kind_value core c rs t (code.Truth b) = Some (Value (of_bool b))
  kind_value core c rs t (code.Local k) = Some (local_at k c)
  kind_value core c rs t (code.State k) = Some (at_path core t (root k) c.state)
  kind_value core c rs t (code.Env name) = Some (Value (environment name c))
  kind_value core c rs t (code.Field a k) = with_some (value core c rs a) (λ h. part core t (type_of a) (At k) h c)
  kind_value core c rs t (code.Index a i) = with_some (value core c rs a) (λ h. with_some (a_number (value core c rs i)) (λ z. element core t (type_of a) z h c))
  kind_value core c rs t (code.Length a) = with_some (value core c rs a) (λ h. length_held (type_of a) h c)
  kind_value core c rs t (code.Unary op a) = with_some (a_number (value core c rs a)) (λ x. a_value (unary (tested is_in_type (kind_of core t)) op x))
  kind_value core c rs t (code.Binary op a b) =
      with_some (a_number (value core c rs a)) (λ x. a_value (joined (tested is_in_type (kind_of core t)) op x (a_number (value core c rs b))))
  kind_value core c rs t (code.Cond e a b) = with_some (a_number (value core c rs e)) (λ x. choose (is_zero x) (value core c rs b) (value core c rs a))
  kind_value core c rs t (code.Convert a) = with_some (value core c rs a) (λ h. converted_held (kind_of core t) (kind_of core (type_of a)) h)
  kind_value core c rs t (code.Limit greatest) = Some (Value (limit (kind_of core t) greatest))
  kind_value core c rs t (code.Copy to a) = value core c rs a
  kind_value core c rs t (code.Old a) = value core c rs a
  kind_value core c rs t (code.Sum k) = Some (Value (sum (tree_at (root k) c.state)))
  kind_value core c rs t _ = Some (settled core t rs c)

abbrev pub values : Contract → View → List Held → Exprs → Option (List Held)
values core c rs code.Nil = Some []
values core c rs (code.Cons e es) = with_some (value core c rs e) (λ h. with_some (values core c rs es) (λ hs. Some (h ∷ hs)))

-- what a full expression gives: its value, or all results of a call that has several
abbrev pub given : List Held → Held → List Held
given (first ∷ second ∷ more) x = first ∷ second ∷ more
given rs x = x ∷ []

-- ---- targets

-- what an effect gave is assigned to
abbrev pub pointed : List Held → Option Target
pointed (h ∷ hs) = path_target h
pointed [] = None

abbrev pub element_target : ℕ → ℤ → Held → View → Option Target
element_target u i h c = with_some (tree_held u h c) (λ o. if is_within o i then part_target u (Index i) h else None)

abbrev pub target : Contract → View → List Held → Expr → Option Target
target core c rs (code.Node place t (code.Local k)) = Some (ToLocal k)
target core c rs (code.Node place t (code.State k)) = Some (ToPath (root k))
target core c rs (code.Node place t (code.Field a k)) = with_some (value core c rs a) (λ h. part_target (type_of a) (At k) h)
target core c rs (code.Node place t (code.Index a i)) = with_some (value core c rs a) (λ h. with_some (a_number (value core c rs i)) (λ z. element_target (type_of a) z h c))
target core c rs (code.Node place t kind) = pointed rs
