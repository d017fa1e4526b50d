-- Believed: what a body may change, found from its text. Hold it against the rule in docs/meaning.md: by name, through pointers, objects of a memory type, by callees, and all state at a call of another account.
use Rattle.std.specs.Prelude.{◌≡◌, ◌⊎◌, ℕ, ◌<◌, ◌≤◌, List, [], ◌∷◌, Option, Some, None, slice_get, slice_index_or}
use Rattle.sv_type.specs.Shapes.{HasShape, shape_of}
use Rattle.sv_type.specs.Memory.{Memory, find}
use Rattle.sv_core.specs.declared.contract.LocalInfo.{LocalInfo}
use Rattle.sv_core.specs.declared.contract.VarKind.TheVariants as variable
use Rattle.sv_core.specs.declared.expr.Loc.{Loc}
use Rattle.sv_core.specs.declared.expr.Loc.TheVariants as loc
use Rattle.sv_core.specs.PlainCode as code
use Rattle.sv_core.specs.PlainCode.{Expr, Act, Stmts, Arms}
use Rattle.sv_core.specs.PlainCore.{Contract, Function, Variable, Use}
use Rattle.sv_sem.specs.States.{State, View, Unset, type_of, or_else}
use Rattle.sv_sem.specs.NamedParts.{loc_of}
use Rattle.sv_sem.specs.TrueValues.{effect_of}
use Rattle.sv_sem.specs.RunParts.{func_at, modifier_at}

-- a variable of the contract, the balance, or the objects of a memory type
pub data Place : Type 0 where
  VarAt : (k : ℕ) → Place
  TheBalance : Place
  ObjectsOf : (t : ℕ) → Place

-- ---- one write

-- where stands what an expression of a reference type names
abbrev mutual
  pub stands_in : Contract → List LocalInfo → Expr → Loc
  stands_in core ls (code.Node place t kind) = kind_stands_in core ls kind

  pub kind_stands_in : Contract → List LocalInfo → code.Kind → Loc
  kind_stands_in core ls (code.Local k) = loc_of (slice_get ls k)
  kind_stands_in core ls (code.State k) = loc.Storage
  kind_stands_in core ls (code.Field a k) = stands_in core ls a
  kind_stands_in core ls (code.Index a i) = stands_in core ls a
  kind_stands_in core ls (code.Cond e a b) = stands_in core ls a
  kind_stands_in core ls (code.Convert a) = stands_in core ls a
  kind_stands_in core ls (code.Copy to a) = to
  kind_stands_in core ls (code.Call f args) = loc_of (slice_get (func_at core f).locals (func_at core f).params)
  kind_stands_in core ls (code.Push a value) = loc.Storage
  kind_stands_in core ls _ = loc.Memory

-- through a pointer to a type: each variable whose type has this one in it
abbrev pub WritesThrough : Contract → ℕ → Place → Type 0
WritesThrough core t q = (k : ℕ) × (v : Variable) × (slice_get core.vars k ≡ Some v) × HasShape t (shape_of core.types v.t) × (q ≡ VarAt k)

-- in storage: a variable by its name, whole or in part, or through a pointer
abbrev mutual
  pub WritesStorage : Contract → Expr → Place → Type 0
  WritesStorage core (code.Node place t kind) q = KindWritesStorage core t kind q

  pub KindWritesStorage : Contract → ℕ → code.Kind → Place → Type 0
  KindWritesStorage core t (code.State k) q = q ≡ VarAt k
  KindWritesStorage core t (code.Field a k) q = WritesStorage core a q
  KindWritesStorage core t (code.Index a i) q = WritesStorage core a q
  KindWritesStorage core t (code.Push a value) q = WritesStorage core a q
  KindWritesStorage core t _ q = WritesThrough core t q

-- a part of something: in memory the objects of its type
abbrev pub WritesPart : Loc → Contract → Expr → Place → Type 0
WritesPart loc.Memory core a q = q ≡ ObjectsOf (type_of a)
WritesPart _ core a q = WritesStorage core a q

-- what an assignment to the target may change, locals aside
abbrev pub WritesTarget : Contract → List LocalInfo → Expr → Place → Type 0
WritesTarget core ls (code.Node place t (code.Local k)) q = ⊥
WritesTarget core ls (code.Node place t (code.Field a k)) q = WritesPart (stands_in core ls a) core a q
WritesTarget core ls (code.Node place t (code.Index a i)) q = WritesPart (stands_in core ls a) core a q
WritesTarget core ls e q = WritesStorage core e q

-- all state and the balance, immutables aside
abbrev pub AnyState : Contract → Place → Type 0
AnyState core q = (q ≡ TheBalance) ⊎ ((k : ℕ) × (v : Variable) × (slice_get core.vars k ≡ Some v) × (v.kind ≡ variable.State) × (q ≡ VarAt k))

-- what the effect of a full expression may change by itself
abbrev pub EffectWrites : Contract → Option Expr → Place → Type 0
EffectWrites core (Some (code.Node place t (code.Outside how to v args ts))) q = AnyState core q
EffectWrites core (Some (code.Node place t (code.Push a value))) q = WritesStorage core a q
EffectWrites core (Some (code.Node place t (code.Pop a))) q = WritesStorage core a q
EffectWrites core _ q = ⊥

-- the function that it calls
abbrev pub EffectCalls : Option Expr → ℕ → Type 0
EffectCalls (Some (code.Node place t (code.Call f args))) g = g ≡ f
EffectCalls _ g = ⊥

-- ---- statements

abbrev pub AnyWrites : Contract → List Expr → Place → Type 0
AnyWrites core [] q = ⊥
AnyWrites core (e ∷ es) q = EffectWrites core (effect_of e) q ⊎ AnyWrites core es q

abbrev mutual
  pub Writes : Contract → List LocalInfo → Act → Place → Type 0
  Writes core ls (code.Set a e) q = WritesTarget core ls a q ⊎ EffectWrites core (or_else (effect_of a) (effect_of e)) q
  Writes core ls (code.Update a op e) q = WritesTarget core ls a q ⊎ EffectWrites core (or_else (effect_of a) (effect_of e)) q
  Writes core ls (code.Delete a) q = WritesTarget core ls a q ⊎ EffectWrites core (effect_of a) q
  Writes core ls (code.Do e) q = EffectWrites core (effect_of e) q
  Writes core ls (code.Many slots e) q = EffectWrites core (effect_of e) q
  Writes core ls (code.If arms otherwise) q = ArmsWrite core ls arms q ⊎ AllWrite core ls otherwise q
  Writes core ls (code.Loop notes test body update) q = EffectWrites core (effect_of test) q ⊎ AllWrite core ls body q ⊎ AllWrite core ls update q
  Writes core ls (code.Return es) q = AnyWrites core es q
  Writes core ls (code.Require e) q = EffectWrites core (effect_of e) q
  Writes core ls (code.Assert e) q = EffectWrites core (effect_of e) q
  Writes core ls (code.Revert es) q = AnyWrites core es q
  Writes core ls (code.Emit es) q = AnyWrites core es q
  Writes core ls (code.Frame body) q = AllWrite core ls body q
  Writes core ls _ q = ⊥

  pub AllWrite : Contract → List LocalInfo → Stmts → Place → Type 0
  AllWrite core ls code.Done q = ⊥
  AllWrite core ls (code.Then (code.Numbered number place act) ss) q = Writes core ls act q ⊎ AllWrite core ls ss q

  pub ArmsWrite : Contract → List LocalInfo → Arms → Place → Type 0
  ArmsWrite core ls code.NoArm q = ⊥
  ArmsWrite core ls (code.Arm test body more) q = EffectWrites core (effect_of test) q ⊎ AllWrite core ls body q ⊎ ArmsWrite core ls more q

abbrev pub AnyCalls : List Expr → ℕ → Type 0
AnyCalls [] g = ⊥
AnyCalls (e ∷ es) g = EffectCalls (effect_of e) g ⊎ AnyCalls es g

abbrev mutual
  pub Calls : Act → ℕ → Type 0
  Calls (code.Set a e) g = EffectCalls (or_else (effect_of a) (effect_of e)) g
  Calls (code.Update a op e) g = EffectCalls (or_else (effect_of a) (effect_of e)) g
  Calls (code.Delete a) g = EffectCalls (effect_of a) g
  Calls (code.Do e) g = EffectCalls (effect_of e) g
  Calls (code.Many slots e) g = EffectCalls (effect_of e) g
  Calls (code.If arms otherwise) g = ArmsCall arms g ⊎ AllCall otherwise g
  Calls (code.Loop notes test body update) g = EffectCalls (effect_of test) g ⊎ AllCall body g ⊎ AllCall update g
  Calls (code.Return es) g = AnyCalls es g
  Calls (code.Require e) g = EffectCalls (effect_of e) g
  Calls (code.Assert e) g = EffectCalls (effect_of e) g
  Calls (code.Revert es) g = AnyCalls es g
  Calls (code.Emit es) g = AnyCalls es g
  Calls (code.Frame body) g = AllCall body g
  Calls _ g = ⊥

  pub AllCall : Stmts → ℕ → Type 0
  AllCall code.Done g = ⊥
  AllCall (code.Then (code.Numbered number place act) ss) g = Calls act g ⊎ AllCall ss g

  pub ArmsCall : Arms → ℕ → Type 0
  ArmsCall code.NoArm g = ⊥
  ArmsCall (code.Arm test body more) g = EffectCalls (effect_of test) g ⊎ AllCall body g ⊎ ArmsCall more g

-- ---- the locals that a body assigns

abbrev pub AssignsTarget : Expr → ℕ → Type 0
AssignsTarget (code.Node place t (code.Local x)) k = k ≡ x
AssignsTarget _ k = ⊥

abbrev pub AssignsSlots : List (Option ℕ) → ℕ → Type 0
AssignsSlots [] k = ⊥
AssignsSlots (Some x ∷ slots) k = (k ≡ x) ⊎ AssignsSlots slots k
AssignsSlots (None ∷ slots) k = AssignsSlots slots k

abbrev mutual
  pub Assigns : Act → ℕ → Type 0
  Assigns (code.Set a e) k = AssignsTarget a k
  Assigns (code.Update a op e) k = AssignsTarget a k
  Assigns (code.Delete a) k = AssignsTarget a k
  Assigns (code.Many slots e) k = AssignsSlots slots k
  Assigns (code.If arms otherwise) k = ArmsAssign arms k ⊎ AllAssign otherwise k
  Assigns (code.Loop notes test body update) k = AllAssign body k ⊎ AllAssign update k
  Assigns (code.Frame body) k = AllAssign body k
  Assigns _ k = ⊥

  pub AllAssign : Stmts → ℕ → Type 0
  AllAssign code.Done k = ⊥
  AllAssign (code.Then (code.Numbered number place act) ss) k = Assigns act k ⊎ AllAssign ss k

  pub ArmsAssign : Arms → ℕ → Type 0
  ArmsAssign code.NoArm k = ⊥
  ArmsAssign (code.Arm test body more) k = AllAssign body k ⊎ ArmsAssign more k

-- ---- functions, with their modifiers

abbrev pub UsesWrite : Contract → List Use → Place → Type 0
UsesWrite core [] q = ⊥
UsesWrite core (u ∷ us) q = AllWrite core (modifier_at core u.which).locals (modifier_at core u.which).body q ⊎ UsesWrite core us q

abbrev pub UsesCall : Contract → List Use → ℕ → Type 0
UsesCall core [] g = ⊥
UsesCall core (u ∷ us) g = AllCall (modifier_at core u.which).body g ⊎ UsesCall core us g

abbrev pub TextWrites : Contract → Function → Place → Type 0
TextWrites core f q = UsesWrite core f.uses q ⊎ AllWrite core f.locals f.body q

abbrev pub TextCalls : Contract → Function → ℕ → Type 0
TextCalls core f g = UsesCall core f.uses g ⊎ AllCall f.body g

-- what a function may change: the least set that has its own writes and what its callees may change
pub data Changes (core : Contract) : ℕ → Place → Type 0 where
  ByItself : (f : ℕ) (q : Place) → TextWrites core (func_at core f) q → Changes core f q
  ByCallee : (f g : ℕ) (q : Place) → TextCalls core (func_at core f) g → Changes core g q → Changes core f q

-- what the turns of a loop may change, its callees included
abbrev pub LoopChanges : Contract → List LocalInfo → Act → Place → Type 0
LoopChanges core ls act q = Writes core ls act q ⊎ ((g : ℕ) × Calls act g × Changes core g q)

-- ---- what stays

-- only these places differ. The count of objects may rise, and what stands from the old count on is any
pub record Keeps (P : Place → Type 0) (c d : View) : Type 0 where
  pub vars : (k : ℕ) → (P (VarAt k) → ⊥) → slice_get c.state.vars k ≡ slice_get d.state.vars k
  pub balance : (P TheBalance → ⊥) → c.state.balance ≡ d.state.balance
  pub count : c.frame.memory.count ≤ d.frame.memory.count
  pub objects : (t r : ℕ) → r < c.frame.memory.count → (P (ObjectsOf t) → ⊥) → find t r c.frame.memory.objects ≡ find t r d.frame.memory.objects

abbrev pub KeepsLocals : (ℕ → Type 0) → View → View → Type 0
KeepsLocals A c d = (k : ℕ) → (A k → ⊥) → slice_index_or c.frame.locals k Unset ≡ slice_index_or d.frame.locals k Unset
