-- Believed: when a statement and a body are formed. Hold it against Solidity's documentation, "Expressions and Control Structures", and `docs/language.md`.
use Rattle.std.specs.Prelude.{◌≡◌, ◌<◌, ◌^◌, ◌⊎◌, ◌++◌, ℕ, Bool, true, false, List, [], ◌∷◌, Option, Some, None, length, slice_get}
use Rattle.sv_type.specs.declared.info.TypeInfo.TheVariants.{Bool as BoolType, Mapping}
use Rattle.sv_type.specs.TypeParts.{IsFlat}
use Rattle.sv_core.specs.declared.contract.LocalInfo.{LocalInfo}
use Rattle.sv_core.specs.declared.contract.VarKind.TheVariants.{State as StateVariable}
use Rattle.sv_core.specs.declared.expr.Op.{Op}
use Rattle.sv_core.specs.declared.expr.Op.TheVariants.{Add, Sub, Mul, Div, Mod}
use Rattle.sv_core.specs.declared.expr.Loc.{Loc}
use Rattle.sv_core.specs.declared.expr.Loc.TheVariants.{Value, Memory, Storage}
use Rattle.sv_core.specs.declared.expr.OutKind.TheVariants.{Call as CallKind, Typed}
use Rattle.sv_core.specs.PlainCode as code
use Rattle.sv_core.specs.PlainCode.{Expr, Stmt, Act, Stmts, Arms}
use Rattle.sv_core.specs.PlainCore.{Variable, Function}
use Rattle.sv_core.specs.FormedTypes.{IsType}
use Rattle.sv_core.specs.FormedExprs.{Code, Condition, Scope, type_of, place_of, held, results_of, HasOneEffect, reached_through, IsInteger, IsCopied, GivesOne, Goes, Stored, ExprFormed}

-- ---- targets

-- what may be assigned: a local, a state variable, an immutable in a constructor, and what is reached in storage or memory. Not the results of calls, lengths and pushes with a value
abbrev pub IsTarget : Scope → Expr → Type 0
IsTarget s (code.Node place t (code.State k)) = (v : Variable) × ((slice_get s.core.vars k ≡ Some v) × ((t ≡ v.t) × ((v.kind ≡ StateVariable) ⊎ (s.text ≡ Code true))))
IsTarget s (code.Node place t (code.Local k)) = ExprFormed s (code.Node place t (code.Local k))
IsTarget s (code.Node place t (code.Field a k)) = ExprFormed s (code.Node place t (code.Field a k))
IsTarget s (code.Node place t (code.Index a i)) = ExprFormed s (code.Node place t (code.Index a i))
IsTarget s (code.Node place t (code.Push a code.Nothing)) = ExprFormed s (code.Node place t (code.Push a code.Nothing))
IsTarget s e = ⊥

-- what takes a reference, as a local does, and what takes a copy, as a place in storage does
abbrev pub TakesFrom : Scope → Expr → Expr → Type 0
TakesFrom s (code.Node place t (code.Local k)) e = Goes s e t (place_of s (code.Node place t (code.Local k)))
TakesFrom s target e = by_place (place_of s target)
  where
    by_place : Loc → Type 0
    by_place Storage = Stored s e (type_of target)
    by_place loc = Goes s e (type_of target) loc

-- what `delete` sets back: not a mapping, which has no list of its keys, nor a local path, which has no default
abbrev pub IsDeleted : Scope → Expr → Type 0
IsDeleted s (code.Node place t (code.Local k)) = (place_of s (code.Node place t (code.Local k)) ≡ Storage) → ⊥
IsDeleted s e = IsFlat s.core.types (type_of e) × ((key : ℕ) (element : ℕ) → IsType s.core.types (type_of e) (Mapping key element) → ⊥)

abbrev pub IsArithmetic : Op → Type 0
IsArithmetic Add = Unit {0}
IsArithmetic Sub = Unit {0}
IsArithmetic Mul = Unit {0}
IsArithmetic Div = Unit {0}
IsArithmetic Mod = Unit {0}
IsArithmetic _ = ⊥

-- ---- several values

-- a slot takes a result as it stands: no copy has a place there
abbrev pub SlotTakes : Scope → Option ℕ → ℕ → Loc → Type 0
SlotTakes s (Some k) t loc = (local : LocalInfo) × ((slice_get s.locals k ≡ Some local) × ((local.t ≡ t) × (local.loc ≡ loc)))
SlotTakes s None t loc = Unit {0}

abbrev pub SlotsTake : Scope → List (Option ℕ) → List LocalInfo → Type 0
SlotsTake s [] [] = Unit {0}
SlotsTake s (x ∷ xs) (r ∷ rs) = SlotTakes s x r.t r.loc × SlotsTake s xs rs
SlotsTake s xs rs = ⊥

abbrev pub SlotsTakeNew : Scope → List (Option ℕ) → List ℕ → Type 0
SlotsTakeNew s [] [] = Unit {0}
SlotsTakeNew s (x ∷ xs) (t ∷ ts) = SlotTakes s x t (held s.core.types t Memory) × SlotsTakeNew s xs ts
SlotsTakeNew s xs ts = ⊥

-- several values come from a call; that of `call` gives whether it succeeded, and bytes that nothing takes
abbrev pub ManyFormed : Scope → List (Option ℕ) → Expr → Type 0
ManyFormed s slots (code.Node place t (code.Call f args)) = (g : Function) × ((slice_get s.core.funcs f ≡ Some g) × SlotsTake s slots (results_of g))
ManyFormed s slots (code.Node place t (code.Outside Typed target value args results)) = SlotsTakeNew s slots results
ManyFormed s (x ∷ None ∷ []) (code.Node place t (code.Outside CallKind target value args results)) = SlotTakes s x t Value
ManyFormed s slots e = ⊥

-- ---- bodies

-- what a body may hold: the results that it returns, whether a `_` may stand in it
pub record Frame : Type 0 where
  pub returns : List LocalInfo
  pub is_modifier : Bool

abbrev pub ReturnsEach : Scope → List LocalInfo → List Expr → Type 0
ReturnsEach s [] [] = Unit {0}
ReturnsEach s (r ∷ rs) (e ∷ es) = (ExprFormed s e × (Goes s e r.t r.loc × HasOneEffect s (e ∷ []))) × ReturnsEach s rs es
ReturnsEach s rs es = ⊥

-- the same types, held alike
abbrev pub SameResults : List LocalInfo → List LocalInfo → Type 0
SameResults [] [] = Unit {0}
SameResults (x ∷ xs) (y ∷ ys) = ((x.t ≡ y.t) × (x.loc ≡ y.loc)) × SameResults xs ys
SameResults xs ys = ⊥

abbrev pub AllNew : Scope → List LocalInfo → List ℕ → Type 0
AllNew s [] [] = Unit {0}
AllNew s (x ∷ xs) (t ∷ ts) = ((x.t ≡ t) × (x.loc ≡ held s.core.types t Memory)) × AllNew s xs ts
AllNew s xs ts = ⊥

-- the results of a call that are given on as they stand
abbrev pub GivesAll : Scope → List LocalInfo → Expr → Type 0
GivesAll s rs (code.Node place t (code.Call f args)) = (g : Function) × ((slice_get s.core.funcs f ≡ Some g) × SameResults rs (results_of g))
GivesAll s rs (code.Node place t (code.Outside Typed target value args results)) = AllNew s rs results
GivesAll s rs e = ⊥

abbrev pub ReturnFormed : Scope → List LocalInfo → List Expr → Type 0
ReturnFormed s (r ∷ q ∷ rs) (e ∷ []) = (ExprFormed s e × HasOneEffect s (e ∷ [])) × GivesAll s (r ∷ q ∷ rs) e
ReturnFormed s rs es = ReturnsEach s rs es

-- the values of an event or an error
abbrev pub ValuesFormed : Scope → List Expr → Type 0
ValuesFormed s [] = Unit {0}
ValuesFormed s (e ∷ es) = (ExprFormed s e × (GivesOne s.core e × (IsCopied s (type_of e) × HasOneEffect s (e ∷ [])))) × ValuesFormed s es

-- a condition
abbrev pub TestFormed : Scope → Expr → Type 0
TestFormed s e = ExprFormed s e × (GivesOne s.core e × (IsType s.core.types (type_of e) BoolType × HasOneEffect s (e ∷ [])))

-- annotations, which are conditions that are no code
abbrev pub NotesFormed : Scope → List Expr → Type 0
NotesFormed s [] = Unit {0}
NotesFormed s (e ∷ es) = (ExprFormed s e × IsType s.core.types (type_of e) BoolType) × NotesFormed s es

-- the annotations of a loop see what its code sees
abbrev pub in_notes : Scope → Scope
in_notes s = record { core = s.core; locals = s.locals; text = Condition }

abbrev mutual
  -- `turning` says that a loop is around
  pub StmtFormed : Scope → Frame → Bool → Stmt → Type 0
  StmtFormed s frame turning (code.Numbered n place act) = ActFormed s frame turning act

  pub ActFormed : Scope → Frame → Bool → Act → Type 0
  ActFormed s frame turning (code.Set a e) = IsTarget s a × (ExprFormed s e × (TakesFrom s a e × HasOneEffect s (reached_through a ++ e ∷ [])))  -- else nothing holds the value, or it is of another type
  ActFormed s frame turning (code.Update a op e) = (IsTarget s a × (ExprFormed s a × ExprFormed s e))
      × (IsArithmetic op × (IsInteger s (type_of a) × ((type_of e ≡ type_of a) × (GivesOne s.core e × HasOneEffect s (a ∷ e ∷ [])))))  -- else the operator has no meaning on these operands
  ActFormed s frame turning (code.Delete a) = IsTarget s a × (IsDeleted s a × HasOneEffect s (reached_through a))  -- else there is no default to set it back to
  ActFormed s frame turning (code.Do e) = ExprFormed s e × HasOneEffect s (e ∷ [])  -- else what is done would depend on an order that nothing says
  ActFormed s frame turning (code.Many slots e) = ExprFormed s e × (ManyFormed s slots e × HasOneEffect s (e ∷ []))  -- else a local would get none of the results, or one of another type
  ActFormed s frame turning (code.If arms otherwise) = ArmsFormed s frame turning arms × BodyFormed s frame turning otherwise  -- else no branch is the one that runs
  ActFormed s frame turning (code.Loop notes test body update) = (length notes < 2 ^ 32) × (NotesFormed (in_notes s) notes × (TestFormed s test × (BodyFormed s frame true body × BodyFormed s frame true update)))  -- else a label names no invariant, or nothing says whether another turn comes
  ActFormed s frame turning code.Break = turning ≡ true  -- else there is no loop to leave
  ActFormed s frame turning code.Continue = turning ≡ true  -- else there is no loop to go on with
  ActFormed s frame turning (code.Return values) = ReturnFormed s frame.returns values  -- else a result has no value, or one of another type
  ActFormed s frame turning (code.Require e) = TestFormed s e  -- else nothing says whether it reverts
  ActFormed s frame turning (code.Assert e) = TestFormed s e  -- else nothing says whether the check fails
  ActFormed s frame turning (code.Revert values) = ValuesFormed s values  -- else a value of the error is none that can be copied
  ActFormed s frame turning (code.Emit values) = ValuesFormed s values  -- else a value of the event is none that can be copied
  -- a `_` stands in a modifier and in no loop
  ActFormed s frame turning code.Rest = (frame.is_modifier ≡ true) × (turning ≡ false)
  -- only bodies whose modifiers are expanded have a frame
  ActFormed s frame turning (code.Frame body) = ⊥

  pub BodyFormed : Scope → Frame → Bool → Stmts → Type 0
  BodyFormed s frame turning code.Done = Unit {0}
  BodyFormed s frame turning (code.Then x xs) = StmtFormed s frame turning x × BodyFormed s frame turning xs

  pub ArmsFormed : Scope → Frame → Bool → Arms → Type 0
  ArmsFormed s frame turning code.NoArm = Unit {0}
  ArmsFormed s frame turning (code.Arm test body more) = (TestFormed s test × BodyFormed s frame turning body) × ArmsFormed s frame turning more
