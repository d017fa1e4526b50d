-- Believed: when a contract is formed, which is the condition of all that is said of it. Hold it against `docs/language.md`. Behind each clause stands what would go wrong without it.
use Rattle.std.specs.Prelude.{◌≡◌, ◌≢◌, ◌↔◌, ◌≤◌, ◌<◌, ◌+◌, ◌-◌, ◌^◌, ◌++◌, ◌==◌, IsTrue, ℕ, Bool, true, false, List, [], ◌∷◌, Option, Some, None, Contains, AllPairs, count_by, length, map, take, slice_get}
use Rattle.std.specs.List.{range_with_len}
use Rattle.sv_type.specs.TypeParts.{IsValueType}
use Rattle.sv_core.specs.declared.contract.LocalInfo.{LocalInfo}
use Rattle.sv_core.specs.declared.contract.VarKind.TheVariants.{Immutable}
use Rattle.sv_core.specs.declared.expr.Loc.{Loc}
use Rattle.sv_core.specs.declared.expr.Loc.TheVariants.{Value, Memory, Storage}
use Rattle.sv_core.specs.declared.expr.OutKind.{OutKind}
use Rattle.sv_core.specs.PlainCode as code
use Rattle.sv_core.specs.PlainCode.{Expr, Kind, Exprs, Maybe, Stmt, Act, Stmts, Arms, exprs}
use Rattle.sv_core.specs.PlainCore.{Contract, Variable, Function, Constructor, Modifier, Use, Given}
use Rattle.sv_core.specs.FormedTypes.{TypesFormed}
use Rattle.sv_core.specs.FormedExprs.{Code, Invariant, Condition, Postcondition, Scope, results_of, effects_of, HasOneEffect, IsReference, IsCopied, ExprFormed, ArgsFormed}
use Rattle.sv_core.specs.FormedStats.{NotesFormed, BodyFormed}

abbrev pub Few : {X : Type 0} → List X → Type 0
Few xs = length xs < 2 ^ 32

-- ---- what stands in a text

-- all statements of a body, each before those inside it; of a loop its update before its body
abbrev mutual
  pub stmt_all : Stmt → List Stmt
  stmt_all (code.Numbered n place act) = code.Numbered n place act ∷ act_all act

  pub act_all : Act → List Stmt
  act_all (code.If arms otherwise) = arms_all arms ++ body_all otherwise
  act_all (code.Loop notes test body update) = body_all update ++ body_all body
  act_all (code.Frame body) = body_all body
  act_all _ = []

  pub body_all : Stmts → List Stmt
  body_all code.Done = []
  body_all (code.Then s ss) = stmt_all s ++ body_all ss

  pub arms_all : Arms → List Stmt
  arms_all code.NoArm = []
  arms_all (code.Arm test body more) = body_all body ++ arms_all more

abbrev pub number_of : Stmt → ℕ
number_of (code.Numbered n place act) = n

abbrev pub is_rest : Stmt → Bool
is_rest (code.Numbered n place code.Rest) = true
is_rest _ = false

-- statements are numbered from 1 in order of the text
abbrev pub IsNumbered : Stmts → Type 0
IsNumbered body = map number_of (body_all body) ≡ range_with_len 1 (length (body_all body))

abbrev pub tests_of : Arms → List Expr
tests_of code.NoArm = []
tests_of (code.Arm test body more) = test ∷ tests_of more

-- the expressions of a statement's own
abbrev pub exprs_of : Stmt → List Expr
exprs_of (code.Numbered n place (code.Set a e)) = a ∷ e ∷ []
exprs_of (code.Numbered n place (code.Update a op e)) = a ∷ e ∷ []
exprs_of (code.Numbered n place (code.Delete a)) = a ∷ []
exprs_of (code.Numbered n place (code.Do e)) = e ∷ []
exprs_of (code.Numbered n place (code.Many slots e)) = e ∷ []
exprs_of (code.Numbered n place (code.If arms otherwise)) = tests_of arms
exprs_of (code.Numbered n place (code.Loop notes test body update)) = test ∷ []
exprs_of (code.Numbered n place (code.Return values)) = values
exprs_of (code.Numbered n place (code.Require e)) = e ∷ []
exprs_of (code.Numbered n place (code.Assert e)) = e ∷ []
exprs_of (code.Numbered n place (code.Revert values)) = values
exprs_of (code.Numbered n place (code.Emit values)) = values
exprs_of _ = []

-- an expression and all its parts
abbrev mutual
  pub expr_all : Expr → List Kind
  expr_all (code.Node place t kind) = kind ∷ kind_all kind

  pub kind_all : Kind → List Kind
  kind_all (code.Field a k) = expr_all a
  kind_all (code.Index a i) = expr_all a ++ expr_all i
  kind_all (code.Length a) = expr_all a
  kind_all (code.Unary op a) = expr_all a
  kind_all (code.Binary op a b) = expr_all a ++ expr_all b
  kind_all (code.Cond c a b) = expr_all c ++ expr_all a ++ expr_all b
  kind_all (code.Convert a) = expr_all a
  kind_all (code.Call f args) = exprs_all args
  kind_all (code.Outside how target value args results) = expr_all target ++ maybe_all value ++ exprs_all args
  kind_all (code.Push a value) = expr_all a ++ maybe_all value
  kind_all (code.Pop a) = expr_all a
  kind_all (code.Make fields) = exprs_all fields
  kind_all (code.NewArray n) = expr_all n
  kind_all (code.Copy to a) = expr_all a
  kind_all (code.Old a) = expr_all a
  kind_all _ = []

  pub exprs_all : Exprs → List Kind
  exprs_all code.Nil = []
  exprs_all (code.Cons e es) = expr_all e ++ exprs_all es

  pub maybe_all : Maybe → List Kind
  maybe_all code.Nothing = []
  maybe_all (code.Just e) = expr_all e

abbrev pub list_all_kinds : List Expr → List Kind
list_all_kinds [] = []
list_all_kinds (e ∷ es) = expr_all e ++ list_all_kinds es

abbrev pub stmts_kinds : List Stmt → List Kind
stmts_kinds [] = []
stmts_kinds (s ∷ ss) = list_all_kinds (exprs_of s) ++ stmts_kinds ss

abbrev pub body_kinds : Stmts → List Kind
body_kinds body = stmts_kinds (body_all body)

abbrev pub modifier_kinds : Option Modifier → List Kind
modifier_kinds (Some m) = body_kinds m.body
modifier_kinds None = []

abbrev pub uses_kinds : List Modifier → List Use → List Kind
uses_kinds mods [] = []
uses_kinds mods (u ∷ us) = list_all_kinds u.args ++ modifier_kinds (slice_get mods u.which) ++ uses_kinds mods us

-- the text of a function together with its modifiers
abbrev pub function_kinds : Contract → Function → List Kind
function_kinds c f = uses_kinds c.mods f.uses ++ body_kinds f.body

abbrev pub given_kinds : List Given → List Kind
given_kinds [] = []
given_kinds (g ∷ gs) = list_all_kinds g.args ++ given_kinds gs

abbrev pub ctor_kinds : Constructor → List Kind
ctor_kinds k = given_kinds k.base_args ++ body_kinds k.body

-- the text calls the function
abbrev pub Calls : List Kind → ℕ → Type 0
Calls kinds f = (args : Exprs) × Contains kinds (code.Call f args)

abbrev pub CallsOutside : List Kind → Type 0
CallsOutside kinds = (how : OutKind) × ((target : Expr) × ((value : Maybe) × ((args : Exprs) × ((results : List ℕ) × Contains kinds (code.Outside how target value args results)))))

-- from the text one comes to function g by the calls of a way
abbrev pub Reaches : Contract → List Kind → List ℕ → ℕ → Type 0
Reaches c kinds [] g = Calls kinds g
Reaches c kinds (f ∷ way) g = Calls kinds f × ((i : Function) × ((slice_get c.funcs f ≡ Some i) × Reaches c (function_kinds c i) way g))

-- ---- declarations

-- values are held in the local itself, references in memory or storage. Mappings are in storage alone
abbrev pub LocalFormed : Contract → LocalInfo → Type 0
LocalFormed c x = at x.loc
  where
    at : Loc → Type 0
    at Value = IsValueType c.types x.t
    at Memory = IsReference (record { core = c; locals = []; text = Invariant }) x.t × IsCopied (record { core = c; locals = []; text = Invariant }) x.t
    at Storage = IsReference (record { core = c; locals = []; text = Invariant }) x.t

abbrev pub LocalsFormed : Contract → List LocalInfo → Type 0
LocalsFormed c [] = Unit {0}
LocalsFormed c (x ∷ xs) = LocalFormed c x × LocalsFormed c xs

-- no paths: nothing outside has one
abbrev pub NoPaths : List LocalInfo → Type 0
NoPaths [] = Unit {0}
NoPaths (x ∷ xs) = (x.loc ≢ Storage) × NoPaths xs

-- an initialiser is a literal of the variable's type
abbrev pub InitFormed : Contract → ℕ → Option Expr → Type 0
InitFormed c t None = Unit {0}
InitFormed c t (Some (code.Node place u (code.Num negative m))) = (u ≡ t) × ExprFormed (record { core = c; locals = []; text = Code true }) (code.Node place u (code.Num negative m))
InitFormed c t (Some (code.Node place u (code.Truth b))) = (u ≡ t) × ExprFormed (record { core = c; locals = []; text = Code true }) (code.Node place u (code.Truth b))
InitFormed c t (Some e) = ⊥

pub record VariableFormed (c : Contract) (v : Variable) : Type 0 where
  pub owner : v.owner < length c.owners  -- else nobody declares it
  pub type : v.t < length c.types  -- else it holds nothing
  pub init : InitFormed c v.t v.init  -- else construction would work out code before any code runs
  pub immutable : v.kind ≡ Immutable → IsValueType c.types v.t  -- else a part of it could be written after construction

-- a modifier is used with an argument for each parameter, none of which has an effect, and doesn't call the function that it is used on
pub record UseFormed (c : Contract) (k : ℕ) (f : Function) (u : Use) : Type 0 where
  pub modifier : Modifier
  pub there : slice_get c.mods u.which ≡ Some modifier  -- else nothing runs
  pub args : ArgsFormed (record { core = c; locals = take (f.params + f.results) f.locals; text = Code false }) (exprs u.args) (take modifier.params modifier.locals)  -- else a parameter has no value, or one of another type
  pub calm : effects_of u.args ≡ []  -- else a check would stand between two bodies
  pub apart : Calls (body_kinds modifier.body) k → ⊥  -- else the function would be entered again before its own body

abbrev pub UsesFormed : Contract → ℕ → Function → List Use → Type 0
UsesFormed c k f [] = Unit {0}
UsesFormed c k f (u ∷ us) = UseFormed c k f u × UsesFormed c k f us

-- the last statement of a body
abbrev pub EndsInReturn : Stmts → Type 0
EndsInReturn code.Done = ⊥
EndsInReturn (code.Then (code.Numbered n place (code.Return values)) code.Done) = Unit {0}
EndsInReturn (code.Then s ss) = EndsInReturn ss

-- a result that is a path has no default: it comes from the `return` at the end alone
abbrev pub PathsReturned : Function → List LocalInfo → Type 0
PathsReturned f [] = Unit {0}
PathsReturned f (x ∷ xs) = (x.loc ≡ Storage → (x.name ≡ None) × ((f.uses ≡ []) × EndsInReturn f.body)) × PathsReturned f xs

pub record FunctionFormed (c : Contract) (k : ℕ) (f : Function) : Type 0 where
  pub owner : f.owner < length c.owners  -- else its line has no name
  pub few : Few f.locals × (Few f.uses × (Few f.pre × Few f.post))  -- else a number names no local, and a label no annotation
  pub locals : LocalsFormed c f.locals  -- else a local's value is of no kind
  pub signature : f.params + f.results ≤ length f.locals  -- else a parameter or result is no local
  pub outside : f.public ≡ true → NoPaths (take (f.params + f.results) f.locals)  -- else a caller from outside would give a path
  pub paths : PathsReturned f (results_of f)  -- else a call could give a path that was never set
  pub top : IsTrue f.top ↔ ((j : ℕ) (g : Function) → slice_get c.funcs j ≡ Some g → g.name ≡ f.name → g.owner ≤ f.owner)  -- else a line is named for another definition, and a visit would run one that is overridden
  pub uses : UsesFormed c k f f.uses  -- else a modifier would begin without the values of its parameters
  pub pre : NotesFormed (record { core = c; locals = take f.params f.locals; text = Condition }) f.pre  -- else a precondition would see what isn't there yet
  pub post : NotesFormed (record { core = c; locals = take (f.params + f.results) f.locals; text = Postcondition }) f.post  -- else a postcondition would see a local of the body, which is gone
  pub body : BodyFormed (record { core = c; locals = f.locals; text = Code false }) (record { returns = results_of f; is_modifier = false }) false f.body  -- else a statement would have no meaning, or more than one
  pub numbered : IsNumbered f.body  -- else a number names no statement of the body, or two

pub record ModifierFormed (c : Contract) (m : Modifier) : Type 0 where
  pub owner : m.owner < length c.owners  -- else nobody defines it
  pub few : Few m.locals  -- else a number names no local
  pub locals : LocalsFormed c m.locals  -- else a local's value is of no kind
  pub signature : m.params ≤ length m.locals  -- else a parameter is no local
  pub body : BodyFormed (record { core = c; locals = m.locals; text = Code false }) (record { returns = []; is_modifier = true }) false m.body  -- else a statement would have no meaning, or more than one
  pub once : count_by is_rest (body_all m.body) ≡ 1  -- else the body of the function would run twice, or never
  pub numbered : IsNumbered m.body  -- else a number names no statement of the body, or two

abbrev pub EachHasOneEffect : Scope → List Expr → Type 0
EachHasOneEffect s [] = Unit {0}
EachHasOneEffect s (e ∷ es) = HasOneEffect s (e ∷ []) × EachHasOneEffect s es

-- arguments for the constructor of a base, by a contract that is more derived
pub record GivenFormed (c : Contract) (k : Constructor) (g : Given) : Type 0 where
  pub base : Constructor
  pub there : slice_get c.ctors g.base ≡ Some base  -- else nobody takes the arguments
  pub below : g.base < k.owner  -- else arguments would come after they are due
  pub args : ArgsFormed (record { core = c; locals = take k.params k.locals; text = Code true }) (exprs g.args) (take base.params base.locals)  -- else a parameter has no value, or one of another type
  pub ordered : EachHasOneEffect (record { core = c; locals = take k.params k.locals; text = Code true }) g.args  -- else an argument would depend on the order in which its parts are worked out

abbrev pub AllGivenFormed : Contract → Constructor → List Given → Type 0
AllGivenFormed c k [] = Unit {0}
AllGivenFormed c k (g ∷ gs) = GivenFormed c k g × AllGivenFormed c k gs

pub record ConstructorFormed (c : Contract) (at : ℕ) (k : Constructor) : Type 0 where
  pub owner : k.owner ≡ at  -- else bodies would run in another order
  pub few : Few k.locals × Few k.base_args  -- else a number names no local
  pub locals : LocalsFormed c k.locals  -- else a local's value is of no kind
  pub signature : k.params ≤ length k.locals  -- else a parameter is no local
  pub outside : NoPaths (take k.params k.locals)  -- else whoever constructs would give a path
  pub given : AllGivenFormed c k k.base_args  -- else a base would begin without the values of its parameters
  pub body : BodyFormed (record { core = c; locals = k.locals; text = Code true }) (record { returns = []; is_modifier = false }) false k.body  -- else a statement would have no meaning, or more than one
  pub numbered : IsNumbered k.body  -- else a number names no statement of the body, or two
  pub inside : (way : List ℕ) (g : ℕ) (f : Function) → Reaches c (ctor_kinds k) way g → slice_get c.funcs g ≡ Some f → CallsOutside (function_kinds c f) → ⊥  -- else the callee would meet a contract that isn't there yet

-- how often a base is given arguments
abbrev pub times_given : ℕ → List Given → ℕ
times_given base [] = 0
times_given base (g ∷ gs) = count_by (λ b. b == base) (g.base ∷ []) + times_given base gs

abbrev pub times_in_all : ℕ → List Constructor → ℕ
times_in_all base [] = 0
times_in_all base (k ∷ ks) = times_given base k.base_args + times_in_all base ks

-- the condition of every statement about a contract
pub record Formed (c : Contract) : Type 0 where
  pub types : TypesFormed c.types  -- else a value has no range, or a type no default
  pub few : Few c.line × (Few c.vars × (Few c.funcs × (Few c.mods × Few c.invariants)))  -- else a number names nothing, and a label no invariant
  pub owners : length c.owners ≡ length c.line  -- else a contract of the line has no name
  pub line : AllPairs (λ a b. a ≢ b) c.line  -- else a body would run twice
  pub itself : (slice_get c.line (length c.line - 1) ≡ Some c.number) × (slice_get c.owners (length c.owners - 1) ≡ Some c.name)  -- else another contract is judged
  pub ctors_in_line : length c.ctors ≡ length c.line  -- else a body would run never
  pub vars : (k : ℕ) (v : Variable) → slice_get c.vars k ≡ Some v → VariableFormed c v  -- else storage would begin with no value there
  pub vars_in_order : AllPairs (λ v w. v.owner ≤ w.owner) c.vars  -- else initialisers would be set in another order
  pub funcs : (k : ℕ) (f : Function) → slice_get c.funcs k ≡ Some f → FunctionFormed c k f  -- else a visit or a call would have no run
  pub funcs_in_order : AllPairs (λ f g. f.owner ≤ g.owner) c.funcs  -- else the report's lines would stand in another order
  pub one_each : AllPairs (λ f g. (f.name ≡ g.name) → (f.owner ≡ g.owner) → ⊥) c.funcs  -- else two lines would have one name
  pub mods : (k : ℕ) (m : Modifier) → slice_get c.mods k ≡ Some m → ModifierFormed c m  -- else a function that uses it would have no run
  pub ctors : (k : ℕ) (p : Constructor) → slice_get c.ctors k ≡ Some p → ConstructorFormed c k p  -- else construction would have no run
  pub given_once : (k : ℕ) → times_in_all k c.ctors ≤ 1  -- else a parameter would have two values
  pub given : (k : ℕ) (p : Constructor) → slice_get c.ctors k ≡ Some p → 1 ≤ p.params → k + 1 < length c.ctors → times_in_all k c.ctors ≡ 1  -- else a parameter of a base would have none
  pub invariants : NotesFormed (record { core = c; locals = []; text = Invariant }) c.invariants  -- else a state alone wouldn't tell whether it holds
