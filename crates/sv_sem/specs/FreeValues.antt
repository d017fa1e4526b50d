-- Believed: the values that an expression may have in a modular run. Hold it against `TrueValues`: it differs in the bounds that are known, in the constants of wide types, and in conversions to wide types.
use Rattle.std.specs.Prelude.{◌≡◌, ℕ, Bool, true, false, not, List, [], ◌∷◌, Option, Some, ℤ, pos, int_le}
use Rattle.sv_type.specs.Shapes.{Kind, is_well_typed, has_least, has_greatest}
use Rattle.sv_type.specs.StorageTrees.{At, Index, sum}
use Rattle.sv_core.specs.declared.expr.Op.{Op}
use Rattle.sv_core.specs.PlainCode as code
use Rattle.sv_core.specs.PlainCode.{Expr, Exprs, Maybe}
use Rattle.sv_core.specs.PlainCore.{Contract}
use Rattle.sv_sem.specs.States.{Held, Value, View, root, tree_at, local_at, type_of, kind_of, Choose}
use Rattle.sv_sem.specs.Operators.{of_bool, is_zero, tested, binary, unary, decides, converted, is_open}
use Rattle.sv_sem.specs.NamedParts.{at_path, environment, part, element, length_held, settled, Target, ToLocal, ToPath, part_target}
use Rattle.sv_sem.specs.TrueValues.{literal, limit, a_value, element_target, pointed}
use Rattle.sv_sem.specs.AnnotationTruth.{Limits}

-- ---- the constants of wide types

-- a bound that is known is the true one; else the greatest number is not negative, and the least is not positive
abbrev pub IsLimit : Kind → Bool → ℤ → Type 0
IsLimit kind true z = Choose (has_greatest kind) (z ≡ limit kind true) (int_le (pos 0) z ≡ true)
IsLimit kind false z = Choose (has_least kind) (z ≡ limit kind false) (int_le z (pos 0) ≡ true)

-- one for each type, the same in the whole run
abbrev pub AreLimits : Contract → Limits → Type 0
AreLimits core l = (t : ℕ) (greatest : Bool) → IsLimit (kind_of core t) greatest (l t greatest)

-- ---- values

-- only a result outside a known bound reverts
abbrev pub known : Contract → ℕ → ℤ → Option ℤ
known core t z = tested is_well_typed (kind_of core t) z

-- a conversion to a wide type that may not keep its source gives any number of the type
abbrev pub FreeConverted : Kind → Kind → Held → Held → Type 0
FreeConverted to from (Value z) h = Choose (is_open to from) ((v : ℤ) × (is_well_typed to v ≡ true) × (h ≡ Value v)) (a_value (converted to from z) ≡ Some h)
FreeConverted to from x h = h ≡ x

-- the second operand is left aside where the first decides
abbrev pub FreeJoined : (ℤ → Option ℤ) → Op → ℤ → (Held → Type 0) → Held → Type 0
FreeJoined range op x second h = Choose (decides op x) (h ≡ Value (of_bool (not (is_zero x)))) ((y : ℤ) × second (Value y) × (a_value (binary range op x y) ≡ Some h))

abbrev mutual
  pub FreeValue : Limits → Contract → View → List Held → Expr → Held → Type 0
  FreeValue l core c rs (code.Node place t kind) h = FreeKind l core c rs t kind h

  pub FreeKind : Limits → Contract → View → List Held → ℕ → code.Kind → Held → Type 0
  FreeKind l core c rs t (code.Num negative m) h = a_value (known core t (literal negative m)) ≡ Some h
  FreeKind l core c rs t (code.Truth b) h = h ≡ Value (of_bool b)
  FreeKind l core c rs t (code.Local k) h = h ≡ local_at k c
  FreeKind l core c rs t (code.State k) h = h ≡ at_path core t (root k) c.state
  FreeKind l core c rs t (code.Env name) h = h ≡ Value (environment name c)
  FreeKind l core c rs t (code.Field a k) h = (x : Held) × FreeValue l core c rs a x × (part core t (type_of a) (At k) x c ≡ Some h)
  FreeKind l core c rs t (code.Index a i) h = (x : Held) × (z : ℤ) × FreeValue l core c rs a x × FreeValue l core c rs i (Value z) × (element core t (type_of a) z x c ≡ Some h)
  FreeKind l core c rs t (code.Length a) h = (x : Held) × FreeValue l core c rs a x × (length_held (type_of a) x c ≡ Some h)
  FreeKind l core c rs t (code.Unary op a) h = (x : ℤ) × FreeValue l core c rs a (Value x) × (a_value (unary (known core t) op x) ≡ Some h)
  FreeKind l core c rs t (code.Binary op a b) h = (x : ℤ) × FreeValue l core c rs a (Value x) × FreeJoined (known core t) op x (FreeValue l core c rs b) h
  FreeKind l core c rs t (code.Cond e a b) h = (x : ℤ) × FreeValue l core c rs e (Value x) × Choose (is_zero x) (FreeValue l core c rs b h) (FreeValue l core c rs a h)
  FreeKind l core c rs t (code.Convert a) h = (x : Held) × FreeValue l core c rs a x × FreeConverted (kind_of core t) (kind_of core (type_of a)) x h
  FreeKind l core c rs t (code.Limit greatest) h = h ≡ Value (l t greatest)
  FreeKind l core c rs t (code.Copy to a) h = FreeValue l core c rs a h
  FreeKind l core c rs t (code.Old a) h = FreeValue l core c rs a h
  FreeKind l core c rs t (code.Sum k) h = h ≡ Value (sum (tree_at (root k) c.state))
  FreeKind l core c rs t _ h = h ≡ settled core t rs c

abbrev pub FreeValues : Limits → Contract → View → List Held → Exprs → List Held → Type 0
FreeValues l core c rs code.Nil hs = hs ≡ []
FreeValues l core c rs (code.Cons e es) hs = (x : Held) × (xs : List Held) × FreeValue l core c rs e x × FreeValues l core c rs es xs × (hs ≡ x ∷ xs)

-- the value that a call sends
abbrev pub FreeAmount : Limits → Contract → View → Maybe → ℤ → Type 0
FreeAmount l core c code.Nothing z = z ≡ pos 0
FreeAmount l core c (code.Just e) z = FreeValue l core c [] e (Value z)

-- ---- targets

abbrev pub FreeTarget : Limits → Contract → View → List Held → Expr → Target → Type 0
FreeTarget l core c rs (code.Node place t (code.Local k)) to = to ≡ ToLocal k
FreeTarget l core c rs (code.Node place t (code.State k)) to = to ≡ ToPath (root k)
FreeTarget l core c rs (code.Node place t (code.Field a k)) to = (x : Held) × FreeValue l core c rs a x × (part_target (type_of a) (At k) x ≡ Some to)
FreeTarget l core c rs (code.Node place t (code.Index a i)) to =
    (x : Held) × (z : ℤ) × FreeValue l core c rs a x × FreeValue l core c rs i (Value z) × (element_target (type_of a) z x c ≡ Some to)
FreeTarget l core c rs (code.Node place t kind) to = pointed rs ≡ Some to
