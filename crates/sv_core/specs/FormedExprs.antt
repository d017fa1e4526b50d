-- Believed: when an expression is formed: in range, of the type and at the place that its parts ask for, with its effects where they are in order. Hold it against Solidity's documentation, "Types" and "Expressions and Control Structures", and `docs/language.md`.
use Rattle.std.specs.Prelude.{◌≡◌, ◌≤◌, ◌<◌, ◌-◌, ◌^◌, ◌⊎◌, ◌++◌, if◌then◌else◌, ℕ, Bool, true, false, List, [], ◌∷◌, Option, Some, None, length, take, drop, slice_get}
use Rattle.sv_type.specs.declared.info.TypeInfo.{TypeInfo}
use Rattle.sv_type.specs.declared.info.TypeInfo.TheVariants.{Uint, Int, Bool as BoolType, Address, Contract as ContractType, Enum, Struct, Dynamic, Mapping}
use Rattle.sv_type.specs.TypeParts.{is_value, IsFlat, IsValueType, IsArrayOf}
use Rattle.sv_core.specs.declared.contract.LocalInfo.{LocalInfo}
use Rattle.sv_core.specs.declared.contract.VarKind.TheVariants.{State as StateVariable, Immutable}
use Rattle.sv_core.specs.declared.expr.Op.{Op}
use Rattle.sv_core.specs.declared.expr.Op.TheVariants.{Add, Sub, Mul, Div, Mod, Eq, Ne, Lt, Gt, Le, Ge, And, Or, Not, Neg}
use Rattle.sv_core.specs.declared.expr.Loc.{Loc}
use Rattle.sv_core.specs.declared.expr.Loc.TheVariants.{Value, Memory, Storage}
use Rattle.sv_core.specs.declared.expr.EnvName.{EnvName}
use Rattle.sv_core.specs.declared.expr.EnvName.TheVariants.{Sender, Value as SentValue, This, Balance}
use Rattle.sv_core.specs.declared.expr.OutKind.{OutKind}
use Rattle.sv_core.specs.declared.expr.OutKind.TheVariants.{Transfer, Send, Call as CallKind, Typed}
use Rattle.sv_core.specs.PlainCode as code
use Rattle.sv_core.specs.PlainCode.{Expr, Kind, Exprs, Maybe}
use Rattle.sv_core.specs.PlainCore.{Contract, Variable, Function}
use Rattle.sv_core.specs.FormedTypes.{IsType, HasMapping}

-- what an expression is part of: code, of a constructor or not, or an annotation. Pre- and postconditions and the invariants of loops may name the sender and the value, invariants of the contract may not
pub data Text : Type 0 where
  Code : (constructor : Bool) → Text
  Invariant : Text
  Condition : Text
  Postcondition : Text

-- what the names of an expression mean
pub record Scope : Type 0 where
  pub core : Contract
  pub locals : List LocalInfo
  pub text : Text

-- ---- types and places of values

abbrev pub type_of : Expr → ℕ
type_of (code.Node place t kind) = t

abbrev pub Has : Scope → Expr → TypeInfo → Type 0
Has s e info = IsType s.core.types (type_of e) info

abbrev pub is_integer : TypeInfo → Bool
is_integer (Uint bits) = true
is_integer (Int bits) = true
is_integer _ = false

-- an integer or a member of an enum
abbrev pub is_ordered : TypeInfo → Bool
is_ordered (Enum members) = true
is_ordered info = is_integer info

abbrev pub IsInteger : Scope → ℕ → Type 0
IsInteger s t = (info : TypeInfo) × (IsType s.core.types t info × (is_integer info ≡ true))

abbrev pub IsOrderedType : Scope → ℕ → Type 0
IsOrderedType s t = (info : TypeInfo) × (IsType s.core.types t info × (is_ordered info ≡ true))

abbrev pub IsUnsigned : Scope → ℕ → Type 0
IsUnsigned s t = (bits : ℕ) × IsType s.core.types t (Uint bits)

abbrev pub IsAddress : Scope → ℕ → Type 0
IsAddress s t = (payable : Bool) × IsType s.core.types t (Address payable)

-- the numbers of a type
abbrev pub InRange : TypeInfo → Bool → ℕ → Type 0
InRange (Uint bits) negative m = (negative ≡ false) × (m < 2 ^ bits)
InRange (Int bits) false m = m < 2 ^ (bits - 1)
InRange (Int bits) true m = m ≤ 2 ^ (bits - 1)
InRange (Address payable) negative m = (negative ≡ false) × (m < 2 ^ 160)
InRange (ContractType n) negative m = (negative ≡ false) × (m < 2 ^ 160)
InRange (Enum members) negative m = (negative ≡ false) × (m < members)
InRange _ negative m = ⊥

-- the place of a value of a type that holds none itself
abbrev pub held : List TypeInfo → ℕ → Loc → Loc
held types t loc = at (slice_get types t)
  where
    at : Option TypeInfo → Loc
    at (Some info) = if is_value info then Value else loc
    at None = loc

-- the results of a function, as locals
abbrev pub results_of : Function → List LocalInfo
results_of f = take f.results (drop f.params f.locals)

abbrev pub loc_at : Option LocalInfo → Loc
loc_at (Some local) = local.loc
loc_at None = Value

-- where the only result of a function is held
abbrev pub call_place : Contract → ℕ → Loc
call_place c f = first (slice_get c.funcs f)
  where
    first : Option Function → Loc
    first (Some g) = loc_at (slice_get (results_of g) 0)
    first None = Value

-- where the value of an expression is held: in storage, in memory, or in the expression itself
abbrev mutual
  pub place_of : Scope → Expr → Loc
  place_of s (code.Node place t kind) = held s.core.types t (kind_place s kind)

  pub kind_place : Scope → Kind → Loc
  kind_place s (code.Local k) = loc_at (slice_get s.locals k)
  kind_place s (code.State k) = Storage
  kind_place s (code.Field a k) = place_of s a
  kind_place s (code.Index a i) = place_of s a
  kind_place s (code.Cond c a b) = place_of s a
  kind_place s (code.Call f args) = call_place s.core f
  kind_place s (code.Outside how target value args results) = Memory
  kind_place s (code.Push a value) = Storage
  kind_place s (code.Make fields) = Memory
  kind_place s (code.NewArray n) = Memory
  kind_place s (code.Copy to a) = to
  kind_place s (code.Old a) = place_of s a
  kind_place s _ = Value

-- ---- effects

-- the effectful operations in an expression: true for one that makes an object in memory
abbrev mutual
  pub effects : Expr → List Bool
  effects (code.Node place t kind) = kind_effects kind

  pub kind_effects : Kind → List Bool
  kind_effects (code.Field a k) = effects a
  kind_effects (code.Index a i) = effects a ++ effects i
  kind_effects (code.Length a) = effects a
  kind_effects (code.Unary op a) = effects a
  kind_effects (code.Binary op a b) = effects a ++ effects b
  kind_effects (code.Cond c a b) = effects c ++ effects a ++ effects b
  kind_effects (code.Convert a) = effects a
  kind_effects (code.Call f args) = false ∷ all_effects args
  kind_effects (code.Outside how target value args results) = false ∷ effects target ++ maybe_effects value ++ all_effects args
  kind_effects (code.Push a value) = false ∷ effects a ++ maybe_effects value
  kind_effects (code.Pop a) = false ∷ effects a
  kind_effects (code.Make fields) = true ∷ all_effects fields
  kind_effects (code.NewArray n) = true ∷ effects n
  kind_effects (code.Copy to a) = effects a
  kind_effects (code.Old a) = effects a
  kind_effects _ = []

  pub all_effects : Exprs → List Bool
  all_effects code.Nil = []
  all_effects (code.Cons e es) = effects e ++ all_effects es

  pub maybe_effects : Maybe → List Bool
  maybe_effects code.Nothing = []
  maybe_effects (code.Just e) = effects e

abbrev pub IsCalm : Expr → Type 0
IsCalm e = effects e ≡ []

-- an operand that no operation can change: built by operators and conversions of literals, immutables, the environment and locals that hold values
abbrev mutual
  pub IsSettled : Scope → Expr → Type 0
  IsSettled s (code.Node place t kind) = KindSettled s kind

  pub KindSettled : Scope → Kind → Type 0
  KindSettled s (code.Num negative m) = Unit {0}
  KindSettled s (code.Truth b) = Unit {0}
  KindSettled s (code.Limit greatest) = Unit {0}
  KindSettled s (code.Local k) = (local : LocalInfo) × ((slice_get s.locals k ≡ Some local) × (local.loc ≡ Value))
  KindSettled s (code.State k) = (v : Variable) × ((slice_get s.core.vars k ≡ Some v) × (v.kind ≡ Immutable))
  KindSettled s (code.Env Balance) = ⊥
  KindSettled s (code.Env name) = Unit {0}
  KindSettled s (code.Unary op a) = IsSettled s a
  KindSettled s (code.Binary op a b) = IsSettled s a × IsSettled s b
  KindSettled s (code.Cond c a b) = IsSettled s c × (IsSettled s a × IsSettled s b)
  KindSettled s (code.Convert a) = IsSettled s a
  KindSettled s _ = ⊥

-- beside the making of an object any operand without effects may stand
abbrev pub IsBeside : Bool → Scope → Expr → Type 0
IsBeside true s e = IsCalm e
IsBeside false s e = IsSettled s e

-- without operations the one, else the other
abbrev pub either_around : List Bool → Type 0 → Type 0 → Type 0
either_around [] calm busy = calm
either_around (x ∷ xs) calm busy = busy

-- around one operation stand operands beside it alone, and it is in no part that may be skipped
abbrev mutual
  pub Around : Bool → Scope → Expr → Type 0
  Around makes s (code.Node place t kind) = either_around (kind_effects kind) (IsBeside makes s (code.Node place t kind)) (KindAround makes s kind)

  pub KindAround : Bool → Scope → Kind → Type 0
  KindAround makes s (code.Field a k) = Around makes s a
  KindAround makes s (code.Index a i) = Around makes s a × Around makes s i
  KindAround makes s (code.Length a) = Around makes s a
  KindAround makes s (code.Unary op a) = Around makes s a
  KindAround makes s (code.Binary And a b) = ⊥
  KindAround makes s (code.Binary Or a b) = ⊥
  KindAround makes s (code.Binary op a b) = Around makes s a × Around makes s b
  KindAround makes s (code.Cond c a b) = ⊥
  KindAround makes s (code.Convert a) = Around makes s a
  KindAround makes s (code.Copy to a) = Around makes s a
  KindAround makes s (code.Old a) = ⊥
  KindAround makes s _ = Unit {0}

abbrev pub AllAround : Bool → Scope → List Expr → Type 0
AllAround makes s [] = Unit {0}
AllAround makes s (e ∷ es) = Around makes s e × AllAround makes s es

abbrev pub effects_of : List Expr → List Bool
effects_of [] = []
effects_of (e ∷ es) = effects e ++ effects_of es

-- a full expression, made of these operands, has no operation, or one with the rest beside it. Else what it gives would depend on the order in which its parts are worked out
abbrev pub HasOneEffect : Scope → List Expr → Type 0
HasOneEffect s es = (effects_of es ≡ []) ⊎ ((makes : Bool) × ((effects_of es ≡ makes ∷ []) × AllAround makes s es))

-- the target of a plain assignment counts by its indexes, and by what it is reached through
abbrev pub reached_through : Expr → List Expr
reached_through e = through e
  where
    through : Expr → List Expr
    through (code.Node place t (code.Local k)) = []
    through (code.Node place t (code.State k)) = []
    through (code.Node place t (code.Field a k)) = through a
    through (code.Node place t (code.Index a i)) = through a ++ i ∷ []
    through e = e ∷ []

-- ---- types

-- it is in code, and not in an annotation. Else a check would have an effect, or could fail
abbrev pub IsCode : Text → Type 0
IsCode (Code constructor) = Unit {0}
IsCode _ = ⊥

-- the one in code, the other in annotations
abbrev pub InCodeOrNote : Text → Type 0 → Type 0 → Type 0
InCodeOrNote (Code constructor) code note = code
InCodeOrNote _ code note = note

-- what the environment gives an annotation: the time and the number of a block change between two calls
abbrev pub MayName : Text → EnvName → Type 0
MayName (Code constructor) name = Unit {0}
MayName text This = Unit {0}
MayName text Balance = Unit {0}
MayName Invariant name = ⊥
MayName text Sender = Unit {0}
MayName text SentValue = Unit {0}
MayName text name = ⊥

abbrev pub env_type : EnvName → TypeInfo
env_type Sender = Address false
env_type This = Address false
env_type name = Uint 256

-- integers of all types mix in annotations, where they are exact
abbrev pub Arithmetic : Scope → ℕ → ℕ → ℕ → Type 0
Arithmetic s t x y = InCodeOrNote s.text (IsInteger s t × ((x ≡ t) × (y ≡ t))) (IsInteger s t × (IsInteger s x × IsInteger s y))

abbrev pub Compared : Scope → ℕ → ℕ → Type 0 → Type 0
Compared s x y same = InCodeOrNote s.text ((x ≡ y) × same) (((x ≡ y) × same) ⊎ (IsInteger s x × IsInteger s y))

abbrev pub OpFormed : Scope → ℕ → Op → ℕ → ℕ → Type 0
OpFormed s t Add x y = Arithmetic s t x y
OpFormed s t Sub x y = Arithmetic s t x y
OpFormed s t Mul x y = Arithmetic s t x y
OpFormed s t Div x y = Arithmetic s t x y
OpFormed s t Mod x y = Arithmetic s t x y
OpFormed s t Eq x y = IsType s.core.types t BoolType × Compared s x y (IsValueType s.core.types x)
OpFormed s t Ne x y = IsType s.core.types t BoolType × Compared s x y (IsValueType s.core.types x)
OpFormed s t Lt x y = IsType s.core.types t BoolType × Compared s x y (IsOrderedType s x)
OpFormed s t Gt x y = IsType s.core.types t BoolType × Compared s x y (IsOrderedType s x)
OpFormed s t Le x y = IsType s.core.types t BoolType × Compared s x y (IsOrderedType s x)
OpFormed s t Ge x y = IsType s.core.types t BoolType × Compared s x y (IsOrderedType s x)
OpFormed s t And x y = IsType s.core.types t BoolType × ((x ≡ t) × (y ≡ t))
OpFormed s t Or x y = IsType s.core.types t BoolType × ((x ≡ t) × (y ≡ t))
OpFormed s t _ x y = ⊥

abbrev pub UnaryFormed : Scope → ℕ → Op → ℕ → Type 0
UnaryFormed s t Not x = IsType s.core.types t BoolType × (x ≡ t)
UnaryFormed s t Neg x = InCodeOrNote s.text ((x ≡ t) × ((bits : ℕ) × IsType s.core.types t (Int bits))) (IsInteger s x × IsInteger s t)
UnaryFormed s t _ x = ⊥

-- which values are converted to which types: bools to bools alone, all others are numbers
abbrev pub is_number : TypeInfo → Bool
is_number BoolType = false
is_number info = is_value info

abbrev pub Converts : Scope → ℕ → ℕ → Type 0
Converts s from to = ((from ≡ to) × IsValueType s.core.types to)
    ⊎ ((a : TypeInfo) × ((b : TypeInfo) × (IsType s.core.types from a × (IsType s.core.types to b × ((is_number a ≡ true) × (is_number b ≡ true))))))

-- a literal is in its type in code; in an annotation it is any number
abbrev pub NumberFormed : Scope → ℕ → Bool → ℕ → Type 0
NumberFormed s t negative m = (info : TypeInfo) × (IsType s.core.types t info × ((is_number info ≡ true) × InCodeOrNote s.text (InRange info negative m) (Unit {0})))

-- it gives one value, and not none or several
abbrev pub GivesOne : Contract → Expr → Type 0
GivesOne c (code.Node place t (code.Call f args)) = (g : Function) × ((slice_get c.funcs f ≡ Some g) × (g.results ≡ 1))
GivesOne c (code.Node place t (code.Outside Transfer target value args results)) = ⊥
GivesOne c (code.Node place t (code.Outside Typed target value args results)) = length results ≡ 1
GivesOne c (code.Node place t (code.Push a (code.Just e))) = ⊥
GivesOne c (code.Node place t (code.Pop a)) = ⊥
GivesOne c e = Unit {0}

abbrev pub IsCopyToStorage : Expr → Type 0
IsCopyToStorage (code.Node place t (code.Copy Storage a)) = Unit {0}
IsCopyToStorage e = ⊥

-- a value of a type, for a local that is held at a place. Else a reference would stand where a number is due, or a path where an object is
abbrev pub Goes : Scope → Expr → ℕ → Loc → Type 0
Goes s e t loc = GivesOne s.core e × ((type_of e ≡ t) × ((place_of s e ≡ loc) × (IsCopyToStorage e → ⊥)))

-- a value of a type, for a place in storage: a value, or a copy of all of it
abbrev pub Stored : Scope → Expr → ℕ → Type 0
Stored s e t = GivesOne s.core e × ((type_of e ≡ t) × ((place_of s e ≡ Value) ⊎ IsCopyToStorage e))

-- a type that is copied whole: its arrays hold values, and it has no mapping
abbrev pub IsCopied : Scope → ℕ → Type 0
IsCopied s t = IsFlat s.core.types t × (HasMapping s.core.types t → ⊥)

-- a type of references
abbrev pub IsReference : Scope → ℕ → Type 0
IsReference s t = (info : TypeInfo) × (IsType s.core.types t info × (is_value info ≡ false))

-- the type of what gives a list of results: that of the only one, and bool for none or several
abbrev pub TypeOfResults : Scope → List ℕ → ℕ → Type 0
TypeOfResults s [] t = IsType s.core.types t BoolType
TypeOfResults s (x ∷ []) t = t ≡ x
TypeOfResults s (x ∷ y ∷ xs) t = IsType s.core.types t BoolType

abbrev pub types_of : List LocalInfo → List ℕ
types_of [] = []
types_of (x ∷ xs) = x.t ∷ types_of xs

-- whom code may call: nothing calls a payable function from inside, and a constructor calls internal functions that nothing overrides
abbrev pub MayCall : Text → Function → Type 0
MayCall (Code true) g = (g.payable ≡ false) × ((g.public ≡ false) × (g.top ≡ true))
MayCall (Code false) g = g.payable ≡ false
MayCall _ g = ⊥

-- results of a call of another account that are references become new objects
abbrev pub ResultsFormed : Scope → List ℕ → Type 0
ResultsFormed s [] = Unit {0}
ResultsFormed s (t ∷ ts) = ((t < length s.core.types) × IsCopied s t) × ResultsFormed s ts

abbrev pub OutsideFormed : Scope → ℕ → OutKind → ℕ → Maybe → Exprs → List ℕ → Type 0
OutsideFormed s t Transfer target (code.Just v) code.Nil [] = IsType s.core.types target (Address true) × IsType s.core.types t BoolType
OutsideFormed s t Send target (code.Just v) code.Nil [] = IsType s.core.types target (Address true) × IsType s.core.types t BoolType
OutsideFormed s t CallKind target value code.Nil [] = IsAddress s target × IsType s.core.types t BoolType
OutsideFormed s t Typed target value args results = ((n : ℕ) × IsType s.core.types target (ContractType n)) × (ResultsFormed s results × TypeOfResults s results t)
OutsideFormed s t _ target value args results = ⊥

-- the default object of a type, or one made of fields
abbrev pub MadeFormed : Scope → ℕ → Exprs → Type 0
MadeFormed s t code.Nil = IsReference s t × IsCopied s t
MadeFormed s t (code.Cons e es) = ((fields : List ℕ) × (IsType s.core.types t (Struct fields) × FieldsGo fields (code.Cons e es))) × IsCopied s t
  where
    FieldsGo : List ℕ → Exprs → Type 0
    FieldsGo [] code.Nil = Unit {0}
    FieldsGo (x ∷ xs) (code.Cons a as') = Goes s a x (held s.core.types x Memory) × FieldsGo xs as'
    FieldsGo _ _ = ⊥

abbrev pub CopyFormed : Scope → Loc → Expr → Type 0
CopyFormed s Memory a = place_of s a ≡ Storage
CopyFormed s Storage a = (place_of s a ≡ Storage) ⊎ (place_of s a ≡ Memory)
CopyFormed s Value a = ⊥

abbrev mutual
  pub ExprFormed : Scope → Expr → Type 0
  ExprFormed s (code.Node place t kind) = KindFormed s t kind

  pub KindFormed : Scope → ℕ → Kind → Type 0
  KindFormed s t (code.Num negative m) = (m < 2 ^ 128) × NumberFormed s t negative m  -- else the literal is over the limit, or no value of its type
  KindFormed s t (code.Truth b) = IsType s.core.types t BoolType  -- else a truth value stands for a number
  KindFormed s t (code.Local k) = (local : LocalInfo) × ((slice_get s.locals k ≡ Some local) × (t ≡ local.t))  -- else there is no such local, or it holds another type
  KindFormed s t (code.State k) = (v : Variable) × ((slice_get s.core.vars k ≡ Some v) × ((t ≡ v.t) × (s.text ≡ Code true → v.kind ≡ StateVariable)))  -- else there is no such variable, or a constructor reads an immutable that may not be set yet
  KindFormed s t (code.Env name) = MayName s.text name × IsType s.core.types t (env_type name)  -- else an annotation would change its truth while no code runs
  KindFormed s t (code.Field a k) = ExprFormed s a × ((fields : List ℕ) × (Has s a (Struct fields) × (slice_get fields k ≡ Some t)))  -- else there is no such field
  KindFormed s t (code.Index a i) = (ExprFormed s a × ExprFormed s i)
      × ((IsArrayOf s.core.types (type_of a) t × InCodeOrNote s.text (IsUnsigned s (type_of i)) (IsInteger s (type_of i)))
      ⊎ ((key : ℕ) × (Has s a (Mapping key t) × InCodeOrNote s.text (type_of i ≡ key) ((type_of i ≡ key) ⊎ (IsInteger s key × IsInteger s (type_of i))))))  -- else there is no such element, or the key is of another type
  KindFormed s t (code.Length a) = ExprFormed s a × (((element : ℕ) × IsArrayOf s.core.types (type_of a) element) × IsType s.core.types t (Uint 256))  -- else there is nothing to count
  KindFormed s t (code.Unary op a) = ExprFormed s a × UnaryFormed s t op (type_of a)  -- else the operator has no meaning on this operand
  KindFormed s t (code.Binary op a b) = (ExprFormed s a × ExprFormed s b) × OpFormed s t op (type_of a) (type_of b)  -- else the operator has no meaning on these operands
  KindFormed s t (code.Cond c a b) = (ExprFormed s c × (ExprFormed s a × ExprFormed s b))
      × (Has s c BoolType × ((place_of s a ≡ place_of s b) × InCodeOrNote s.text ((type_of a ≡ t) × (type_of b ≡ t)) (((type_of a ≡ t) × (type_of b ≡ t)) ⊎ Arithmetic s t (type_of a) (type_of b))))  -- else the value would be held at one of two places, or be of one of two types
  KindFormed s t (code.Convert a) = ExprFormed s a × Converts s (type_of a) t  -- else the value stands for none of the other type
  KindFormed s t (code.Limit greatest) = IsInteger s t  -- else the type has no greatest and no least value
  KindFormed s t (code.Call f args) = (g : Function) × ((slice_get s.core.funcs f ≡ Some g) × (MayCall s.text g × (TypeOfResults s (types_of (results_of g)) t × ArgsFormed s args (take g.params g.locals))))  -- else nobody is called, or a parameter has no value
  KindFormed s t (code.Outside how target value args results) = (s.text ≡ Code false) × (ExprFormed s target × (MaybeFormed s value × (OutsideArgsFormed s args × OutsideFormed s t how (type_of target) value args results)))  -- else nobody is called, or a contract that isn't there yet is called back
  KindFormed s t (code.Push a code.Nothing) = IsCode s.text × (ExprFormed s a × ((place_of s a ≡ Storage) × Has s a (Dynamic t)))  -- else there is no array that can grow
  KindFormed s t (code.Push a (code.Just e)) = IsCode s.text × ((ExprFormed s a × ExprFormed s e) × ((place_of s a ≡ Storage) × (IsType s.core.types t BoolType × ((element : ℕ) × (Has s a (Dynamic element) × Stored s e element)))))  -- the same, or the new element is of another type
  KindFormed s t (code.Pop a) = IsCode s.text × (ExprFormed s a × ((place_of s a ≡ Storage) × (IsType s.core.types t BoolType × ((element : ℕ) × (Has s a (Dynamic element) × IsFlat s.core.types element)))))  -- else there is no array that can shrink, or arrays in what is popped would keep their elements
  KindFormed s t (code.Make fields) = IsCode s.text × (AllFormed s fields × MadeFormed s t fields)  -- else a field has no value
  KindFormed s t (code.NewArray n) = IsCode s.text × (ExprFormed s n × (IsUnsigned s (type_of n) × ((element : ℕ) × (IsType s.core.types t (Dynamic element) × IsValueType s.core.types element))))  -- else an element has no default
  KindFormed s t (code.Copy to a) = IsCode s.text × (ExprFormed s a × ((type_of a ≡ t) × (IsCopied s t × CopyFormed s to a)))  -- else the copy would share a part with what it copies
  KindFormed s t (code.Old a) = (s.text ≡ Postcondition) × (ExprFormed s a × ((type_of a ≡ t) × IsValueType s.core.types t))  -- else there is no entry that has the value
  KindFormed s t (code.Sum k) = (IsCode s.text → ⊥) × ((v : Variable) × ((slice_get s.core.vars k ≡ Some v) × (IsInteger s t × ((key : ℕ) × ((element : ℕ) × (IsType s.core.types v.t (Mapping key element) × IsInteger s element))))))  -- else there are no numbers to add up

  pub AllFormed : Scope → Exprs → Type 0
  AllFormed s code.Nil = Unit {0}
  AllFormed s (code.Cons e es) = ExprFormed s e × AllFormed s es

  -- an amount that is sent
  pub MaybeFormed : Scope → Maybe → Type 0
  MaybeFormed s code.Nothing = Unit {0}
  MaybeFormed s (code.Just e) = ExprFormed s e × (GivesOne s.core e × Has s e (Uint 256))

  -- an argument for each parameter
  pub ArgsFormed : Scope → Exprs → List LocalInfo → Type 0
  ArgsFormed s code.Nil [] = Unit {0}
  ArgsFormed s (code.Cons e es) (x ∷ xs) = (ExprFormed s e × Goes s e x.t x.loc) × ArgsFormed s es xs
  ArgsFormed s es xs = ⊥

  -- what goes to another account, an event or an error is copied as it stands
  pub OutsideArgsFormed : Scope → Exprs → Type 0
  OutsideArgsFormed s code.Nil = Unit {0}
  OutsideArgsFormed s (code.Cons e es) = (ExprFormed s e × (GivesOne s.core e × IsCopied s (type_of e))) × OutsideArgsFormed s es
