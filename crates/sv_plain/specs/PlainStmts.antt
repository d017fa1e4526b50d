-- Believed: statements as plain data; what ends with `;` is plain as it stands. Hold it against `src/stmt.rt` of `sv_ast`.
use Rattle.std.specs.Prelude.{ℕ, List, [], ◌∷◌, Option, Some, None}
use Rattle.sv_text.specs.declared.place.Place.{Place}
use Rattle.sv_ast.specs.declared.note.Note.{Note}
use Rattle.sv_ast.specs.declared.expr.Expr.{Expr as ExprNode}
use Rattle.sv_ast.specs.declared.simple.Simple.{Simple}
use Rattle.sv_ast.specs.declared.simple.Action.{Action}
use Rattle.sv_ast.specs.declared.stmt.ForStart.{ForStart}
use Rattle.sv_ast.specs.declared.stmt.BodyKind.{BodyKind as BodyKindNode}
use Rattle.sv_ast.specs.declared.stmt.StmtKind.{StmtKind as StmtKindNode}
use Rattle.sv_ast.specs.declared.stmt.Block.{Block as BlockNode}
use Rattle.sv_ast.specs.declared.stmt.Body.{Body as BodyNode}
use Rattle.sv_ast.specs.declared.stmt.Else.{Else as ElseNode}
use Rattle.sv_ast.specs.declared.stmt.ElseIf.{ElseIf as ElseIfNode}
use Rattle.sv_ast.specs.declared.stmt.For.{For as ForNode}
use Rattle.sv_ast.specs.declared.stmt.Keyword.{Keyword}
use Rattle.sv_ast.specs.declared.stmt.If.{If as IfNode}
use Rattle.sv_ast.specs.declared.stmt.Stmt.{Stmt as StmtNode}
use Rattle.sv_ast.specs.declared.stmt.While.{While as WhileNode}
use Rattle.sv_ast.specs.declared.stmt.BodyKind.TheOpen.{BodyKind-F, StmtKind-F, Block-F, Body-F, Else-F, ElseIf-F, For-F, If-F, Stmt-F, While-F}
use Rattle.sv_ast.specs.declared.stmt.BodyKind.TheFolds.{fold-BodyKind, fold-StmtKind, fold-Block, fold-Body, fold-Else, fold-ElseIf, fold-For, fold-If, fold-Stmt, fold-While}
use Rattle.sv_plain.specs.declared.spot.Spot.{Spot}
use Rattle.sv_plain.specs.PlainExprs.{Expr}
use Rattle.sv_plain.specs.ExprFolds.{spot, plain_expr}

mutual
  pub data Stmt : Type 0 where
    Stated : (spot : Spot) (kind : StmtForm) → Stmt

  pub data StmtForm : Type 0 where
    InBraces : (block : Block) → StmtForm
    Unchecked : (block : Block) → StmtForm
    Simply : (s : Simple) → StmtForm
    If : (condition : Expr) (body : Body) (more : Branches) (otherwise : Otherwise) → StmtForm
    While : (notes : List Note) (keyword : Keyword) (condition : Expr) (body : Body) → StmtForm
    For : (notes : List Note) (keyword : Keyword) (start : Option ForStart) (condition : Option Expr) (step : Option Action) (body : Body) → StmtForm

  pub data Block : Type 0 where
    Braces : (spot : Spot) (ss : Stmts) → Block

  pub data Stmts : Type 0 where
    NoStmt : Stmts
    MoreStmts : (s : Stmt) (ss : Stmts) → Stmts

  pub data Body : Type 0 where
    Bodily : (spot : Spot) (kind : BodyForm) → Body

  pub data BodyForm : Type 0 where
    OfBlock : (block : Block) → BodyForm
    OfSimple : (s : Simple) → BodyForm

  pub data Branch : Type 0 where
    ElseIf : (at : ℕ) (place : Place) (condition : Expr) (body : Body) → Branch

  pub data Branches : Type 0 where
    NoBranch : Branches
    MoreBranches : (b : Branch) (bs : Branches) → Branches

  pub data Otherwise : Type 0 where
    NoElse : Otherwise
    Else : (at : ℕ) (place : Place) (body : Body) → Otherwise

abbrev pub stmts : List Stmt → Stmts
stmts [] = NoStmt
stmts (s ∷ ss) = MoreStmts s (stmts ss)

abbrev pub branches : List Branch → Branches
branches [] = NoBranch
branches (b ∷ bs) = MoreBranches b (branches bs)

abbrev pub otherwise : Option Otherwise → Otherwise
otherwise None = NoElse
otherwise (Some e) = e

abbrev pub optional_expr : Option ExprNode → Option Expr
optional_expr None = None
optional_expr (Some e) = Some (plain_expr e)

-- ---- each node, from what its parts give

abbrev pub Part : (Type 0 → Type 0 → Type 0 → Type 0 → Type 0 → Type 0 → Type 0 → Type 0 → Type 0 → Type 0 → Type 0) → Type 0
Part F = F BodyForm StmtForm Block Body Otherwise Branch StmtForm StmtForm Stmt StmtForm

abbrev pub body_kind_step : Part BodyKind-F → BodyForm
body_kind_step (BodyKind-F.BodyKind::Block b) = OfBlock b
body_kind_step (BodyKind-F.BodyKind::Simple s) = OfSimple s

abbrev pub stmt_kind_step : Part StmtKind-F → StmtForm
stmt_kind_step (StmtKind-F.StmtKind::Block b) = InBraces b
stmt_kind_step (StmtKind-F.Unchecked b) = Unchecked b
stmt_kind_step (StmtKind-F.StmtKind::Simple s) = Simply s
stmt_kind_step (StmtKind-F.If s) = s
stmt_kind_step (StmtKind-F.While s) = s
stmt_kind_step (StmtKind-F.For s) = s

abbrev pub block_step : Part Block-F → Block
block_step b = Braces (spot b.span b.place) (stmts b.stmts)

abbrev pub body_step : Part Body-F → Body
body_step b = Bodily (spot b.span b.place) b.kind

abbrev pub else_step : Part Else-F → Otherwise
else_step b = Else b.at b.place b.body

abbrev pub else_if_step : Part ElseIf-F → Branch
else_if_step b = ElseIf b.at b.place (plain_expr b.condition) b.body

abbrev pub for_step : Part For-F → StmtForm
for_step s = For s.notes s.keyword s.start (optional_expr s.condition) s.step s.body

abbrev pub if_step : Part If-F → StmtForm
if_step s = If (plain_expr s.condition) s.body (branches s.else_ifs) (otherwise s.otherwise)

abbrev pub stmt_step : Part Stmt-F → Stmt
stmt_step s = Stated (spot s.span s.place) s.kind

abbrev pub while_step : Part While-F → StmtForm
while_step s = While s.notes s.keyword (plain_expr s.condition) s.body

-- ---- the plain data

unfoldable pub plain_body_kind : BodyKindNode → BodyForm
plain_body_kind = fold-BodyKind BodyForm StmtForm Block Body Otherwise Branch StmtForm StmtForm Stmt StmtForm body_kind_step stmt_kind_step block_step body_step else_step else_if_step for_step if_step stmt_step while_step

unfoldable pub plain_stmt_kind : StmtKindNode → StmtForm
plain_stmt_kind = fold-StmtKind BodyForm StmtForm Block Body Otherwise Branch StmtForm StmtForm Stmt StmtForm body_kind_step stmt_kind_step block_step body_step else_step else_if_step for_step if_step stmt_step while_step

unfoldable pub plain_block : BlockNode → Block
plain_block = fold-Block BodyForm StmtForm Block Body Otherwise Branch StmtForm StmtForm Stmt StmtForm body_kind_step stmt_kind_step block_step body_step else_step else_if_step for_step if_step stmt_step while_step

unfoldable pub plain_body : BodyNode → Body
plain_body = fold-Body BodyForm StmtForm Block Body Otherwise Branch StmtForm StmtForm Stmt StmtForm body_kind_step stmt_kind_step block_step body_step else_step else_if_step for_step if_step stmt_step while_step

unfoldable pub plain_else : ElseNode → Otherwise
plain_else = fold-Else BodyForm StmtForm Block Body Otherwise Branch StmtForm StmtForm Stmt StmtForm body_kind_step stmt_kind_step block_step body_step else_step else_if_step for_step if_step stmt_step while_step

unfoldable pub plain_else_if : ElseIfNode → Branch
plain_else_if = fold-ElseIf BodyForm StmtForm Block Body Otherwise Branch StmtForm StmtForm Stmt StmtForm body_kind_step stmt_kind_step block_step body_step else_step else_if_step for_step if_step stmt_step while_step

unfoldable pub plain_for : ForNode → StmtForm
plain_for = fold-For BodyForm StmtForm Block Body Otherwise Branch StmtForm StmtForm Stmt StmtForm body_kind_step stmt_kind_step block_step body_step else_step else_if_step for_step if_step stmt_step while_step

unfoldable pub plain_if : IfNode → StmtForm
plain_if = fold-If BodyForm StmtForm Block Body Otherwise Branch StmtForm StmtForm Stmt StmtForm body_kind_step stmt_kind_step block_step body_step else_step else_if_step for_step if_step stmt_step while_step

unfoldable pub plain_stmt : StmtNode → Stmt
plain_stmt = fold-Stmt BodyForm StmtForm Block Body Otherwise Branch StmtForm StmtForm Stmt StmtForm body_kind_step stmt_kind_step block_step body_step else_step else_if_step for_step if_step stmt_step while_step

unfoldable pub plain_while : WhileNode → StmtForm
plain_while = fold-While BodyForm StmtForm Block Body Otherwise Branch StmtForm StmtForm Stmt StmtForm body_kind_step stmt_kind_step block_step body_step else_step else_if_step for_step if_step stmt_step while_step
