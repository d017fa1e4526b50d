-- Believed: expressions and statements as plain data, which every later definition speaks of, and how Rust's values are read as such. Hold it against the types of `src/`, which have the same parts in the same order.
use Rattle.std.specs.Prelude.{ℕ, Bool, List, [], ◌∷◌, Option, Some, None, map}
use Rattle.sv_text.specs.declared.place.Place.{Place}
use Rattle.sv_core.specs.declared.expr.Op.{Op}
use Rattle.sv_core.specs.declared.expr.Loc.{Loc}
use Rattle.sv_core.specs.declared.expr.EnvName.{EnvName}
use Rattle.sv_core.specs.declared.expr.OutKind.{OutKind}
use Rattle.sv_core.specs.declared.expr.CExpr.{CExpr}
use Rattle.sv_core.specs.declared.expr.CKind.{CKind, fold-CKind}
use Rattle.sv_core.specs.declared.expr.CKind.TheOpen.{CKind-F, CExpr-F}
use Rattle.sv_core.specs.declared.expr.CKind.TheFolds.{fold-CExpr}
use Rattle.sv_core.specs.declared.stat.StatKind.TheFolds.{fold-Stat}
use Rattle.sv_core.specs.declared.stat.Stat.{Stat}
use Rattle.sv_core.specs.declared.stat.Arm.{Arm as CodeArm, fold-Arm}
use Rattle.sv_core.specs.declared.stat.StatKind.{StatKind, fold-StatKind}
use Rattle.sv_core.specs.declared.stat.StatKind.TheOpen.{StatKind-F, Arm-F, Stat-F}

mutual
  -- an expression with its place and the number of its type
  pub data Expr : Type 0 where
    Node : (place : Place) (t : ℕ) (kind : Kind) → Expr

  pub data Kind : Type 0 where
    Num : (negative : Bool) (magnitude : ℕ) → Kind
    Truth : (b : Bool) → Kind
    Local : (k : ℕ) → Kind
    State : (k : ℕ) → Kind
    Env : (name : EnvName) → Kind
    Field : (a : Expr) (k : ℕ) → Kind
    Index : (a i : Expr) → Kind
    Length : (a : Expr) → Kind
    Unary : (op : Op) (a : Expr) → Kind
    Binary : (op : Op) (a b : Expr) → Kind
    Cond : (c a b : Expr) → Kind
    Convert : (a : Expr) → Kind
    Limit : (greatest : Bool) → Kind
    Call : (f : ℕ) (args : Exprs) → Kind
    Outside : (how : OutKind) (target : Expr) (value : Maybe) (args : Exprs) (results : List ℕ) → Kind
    Push : (a : Expr) (value : Maybe) → Kind
    Pop : (a : Expr) → Kind
    Make : (fields : Exprs) → Kind
    NewArray : (n : Expr) → Kind
    Copy : (to : Loc) (a : Expr) → Kind
    Old : (a : Expr) → Kind
    Sum : (k : ℕ) → Kind

  -- expressions in order
  pub data Exprs : Type 0 where
    Nil : Exprs
    Cons : (e : Expr) (es : Exprs) → Exprs

  -- an expression or none
  pub data Maybe : Type 0 where
    Nothing : Maybe
    Just : (e : Expr) → Maybe

mutual
  -- a statement with its number and its place
  pub data Stmt : Type 0 where
    Numbered : (no : ℕ) (place : Place) (act : Act) → Stmt

  pub data Act : Type 0 where
    Set : (target value : Expr) → Act
    Update : (target : Expr) (op : Op) (value : Expr) → Act
    Delete : (target : Expr) → Act
    Do : (e : Expr) → Act
    Many : (slots : List (Option ℕ)) (e : Expr) → Act
    If : (arms : Arms) (otherwise : Stmts) → Act
    Loop : (notes : List Expr) (test : Expr) (body update : Stmts) → Act
    Break : Act
    Continue : Act
    Return : (values : List Expr) → Act
    Require : (e : Expr) → Act
    Assert : (e : Expr) → Act
    Revert : (values : List Expr) → Act
    Emit : (values : List Expr) → Act
    Rest : Act
    Frame : (body : Stmts) → Act

  -- statements in order
  pub data Stmts : Type 0 where
    Done : Stmts
    Then : (s : Stmt) (ss : Stmts) → Stmts

  -- conditions in order, each with what it guards
  pub data Arms : Type 0 where
    NoArm : Arms
    Arm : (test : Expr) (body : Stmts) (arms : Arms) → Arms

-- ---- how Rust's values are read

abbrev pub exprs : List Expr → Exprs
exprs [] = Nil
exprs (e ∷ es) = Cons e (exprs es)

abbrev pub maybe : Option Expr → Maybe
maybe None = Nothing
maybe (Some e) = Just e

abbrev pub expr_layer : CExpr-F Kind Expr → Expr
expr_layer x = Node x.place x.t x.kind

abbrev pub kind_layer : CKind-F Kind Expr → Kind
kind_layer (CKind-F.Num negative magnitude) = Num negative magnitude
kind_layer (CKind-F.Truth b) = Truth b
kind_layer (CKind-F.Local k) = Local k
kind_layer (CKind-F.State k) = State k
kind_layer (CKind-F.Env name) = Env name
kind_layer (CKind-F.Field a k) = Field a k
kind_layer (CKind-F.Index a i) = Index a i
kind_layer (CKind-F.Length a) = Length a
kind_layer (CKind-F.Unary op a) = Unary op a
kind_layer (CKind-F.Binary op a b) = Binary op a b
kind_layer (CKind-F.Cond c a b) = Cond c a b
kind_layer (CKind-F.Convert a) = Convert a
kind_layer (CKind-F.Limit greatest) = Limit greatest
kind_layer (CKind-F.Call f args) = Call f (exprs args)
kind_layer (CKind-F.Outside how target value args results) = Outside how target (maybe value) (exprs args) results
kind_layer (CKind-F.Push a value) = Push a (maybe value)
kind_layer (CKind-F.Pop a) = Pop a
kind_layer (CKind-F.Make fields) = Make (exprs fields)
kind_layer (CKind-F.NewArray n) = NewArray n
kind_layer (CKind-F.Copy to a) = Copy to a
kind_layer (CKind-F.Old a) = Old a
kind_layer (CKind-F.Sum k) = Sum k

abbrev pub plain_kind : CKind → Kind
plain_kind = fold-CKind Kind Expr kind_layer expr_layer

abbrev pub plain_expr : CExpr → Expr
plain_expr = fold-CExpr Kind Expr kind_layer expr_layer

abbrev pub stmts : List Stmt → Stmts
stmts [] = Done
stmts (s ∷ ss) = Then s (stmts ss)

-- an arm by itself
pub record OneArm : Type 0 where
  pub test : Expr
  pub body : Stmts

abbrev pub arms : List OneArm → Arms
arms [] = NoArm
arms (a ∷ more) = Arm a.test a.body (arms more)

abbrev pub arm_layer : Arm-F Act OneArm Stmt → OneArm
arm_layer x = record { test = plain_expr x.test; body = stmts x.body }

abbrev pub stat_layer : Stat-F Act OneArm Stmt → Stmt
stat_layer x = Numbered x.no x.place x.kind

abbrev pub act_layer : StatKind-F Act OneArm Stmt → Act
act_layer (StatKind-F.Set target value) = Set (plain_expr target) (plain_expr value)
act_layer (StatKind-F.Update target op value) = Update (plain_expr target) op (plain_expr value)
act_layer (StatKind-F.Delete target) = Delete (plain_expr target)
act_layer (StatKind-F.Do e) = Do (plain_expr e)
act_layer (StatKind-F.Many slots e) = Many slots (plain_expr e)
act_layer (StatKind-F.If list otherwise) = If (arms list) (stmts otherwise)
act_layer (StatKind-F.Loop notes test body update) = Loop (map plain_expr notes) (plain_expr test) (stmts body) (stmts update)
act_layer StatKind-F.Break = Break
act_layer StatKind-F.Continue = Continue
act_layer (StatKind-F.Return values) = Return (map plain_expr values)
act_layer (StatKind-F.Require e) = Require (plain_expr e)
act_layer (StatKind-F.Assert e) = Assert (plain_expr e)
act_layer (StatKind-F.Revert values) = Revert (map plain_expr values)
act_layer (StatKind-F.Emit values) = Emit (map plain_expr values)
act_layer StatKind-F.Rest = Rest
act_layer (StatKind-F.Frame body) = Frame (stmts body)

abbrev pub plain_act : StatKind → Act
plain_act = fold-StatKind Act OneArm Stmt act_layer arm_layer stat_layer

abbrev pub plain_stat : Stat → Stmt
plain_stat = fold-Stat Act OneArm Stmt act_layer arm_layer stat_layer

abbrev pub plain_arm : CodeArm → OneArm
plain_arm = fold-Arm Act OneArm Stmt act_layer arm_layer stat_layer

abbrev pub plain_exprs : List CExpr → List Expr
plain_exprs = map plain_expr

abbrev pub plain_body : List Stat → Stmts
plain_body body = stmts (map plain_stat body)
