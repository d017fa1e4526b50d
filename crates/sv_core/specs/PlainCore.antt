-- Believed: a resolved contract as plain data, which every later definition speaks of, and how Rust's values are read as such. Hold it against `src/contract.rt`, which has the same parts in the same order.
use Rattle.std.specs.Prelude.{ℕ, Bool, List, Option, option_map, map}
use Rattle.sv_type.specs.declared.info.TypeInfo.{TypeInfo}
use Rattle.sv_core.specs.declared.contract.Core.{Core}
use Rattle.sv_core.specs.declared.contract.VarInfo.{VarInfo}
use Rattle.sv_core.specs.declared.contract.VarKind.{VarKind}
use Rattle.sv_core.specs.declared.contract.FuncInfo.{FuncInfo}
use Rattle.sv_core.specs.declared.contract.CtorInfo.{CtorInfo}
use Rattle.sv_core.specs.declared.contract.BaseArgs.{BaseArgs}
use Rattle.sv_core.specs.declared.contract.ModInfo.{ModInfo}
use Rattle.sv_core.specs.declared.contract.ModUse.{ModUse}
use Rattle.sv_core.specs.declared.contract.LocalInfo.{LocalInfo}
use Rattle.sv_core.specs.PlainCode.{Expr, Stmts, plain_expr, plain_exprs, plain_body}

-- a variable of the contract
pub record Variable : Type 0 where
  pub name : ℕ
  pub owner : ℕ
  pub t : ℕ
  pub kind : VarKind
  pub init : Option Expr

-- the use of a modifier
pub record Use : Type 0 where
  pub which : ℕ
  pub args : List Expr

pub record Function : Type 0 where
  pub name : ℕ
  pub owner : ℕ
  pub public : Bool
  pub payable : Bool
  pub top : Bool
  pub locals : List LocalInfo
  pub params : ℕ
  pub results : ℕ
  pub uses : List Use
  pub pre : List Expr
  pub post : List Expr
  pub body : Stmts

-- arguments for the constructor of a base
pub record Given : Type 0 where
  pub base : ℕ
  pub args : List Expr

pub record Constructor : Type 0 where
  pub owner : ℕ
  pub payable : Bool
  pub locals : List LocalInfo
  pub params : ℕ
  pub base_args : List Given
  pub body : Stmts

pub record Modifier : Type 0 where
  pub name : ℕ
  pub owner : ℕ
  pub locals : List LocalInfo
  pub params : ℕ
  pub body : Stmts

pub record Contract : Type 0 where
  pub name : ℕ
  pub number : ℕ
  pub line : List ℕ
  pub owners : List ℕ
  pub types : List TypeInfo
  pub vars : List Variable
  pub ctors : List Constructor
  pub funcs : List Function
  pub mods : List Modifier
  pub invariants : List Expr

-- ---- how Rust's values are read

abbrev pub plain_var : VarInfo → Variable
plain_var v = record { name = v.name; owner = v.owner; t = v.t; kind = v.kind; init = option_map plain_expr v.init }

abbrev pub plain_use : ModUse → Use
plain_use u = record { which = u.which; args = plain_exprs u.args }

abbrev pub plain_func : FuncInfo → Function
plain_func f = record { name = f.name; owner = f.owner; public = f.public; payable = f.payable; top = f.top; locals = f.locals; params = f.params; results = f.results; uses = map plain_use f.uses; pre = plain_exprs f.pre; post = plain_exprs f.post; body = plain_body f.body }

abbrev pub plain_given : BaseArgs → Given
plain_given g = record { base = g.base; args = plain_exprs g.args }

abbrev pub plain_ctor : CtorInfo → Constructor
plain_ctor k = record { owner = k.owner; payable = k.payable; locals = k.locals; params = k.params; base_args = map plain_given k.base_args; body = plain_body k.body }

abbrev pub plain_mod : ModInfo → Modifier
plain_mod m = record { name = m.name; owner = m.owner; locals = m.locals; params = m.params; body = plain_body m.body }

abbrev pub plain_core : Core → Contract
plain_core c = record { name = c.name; number = c.contract; line = c.line; owners = c.owners; types = c.types; vars = map plain_var c.vars; ctors = map plain_ctor c.ctors; funcs = map plain_func c.funcs; mods = map plain_mod c.mods; invariants = plain_exprs c.invariants }
