-- The plain data of a statement, from its parts.
use Rattle.std.proofs.Common.{◌≡◌, map, Some, None, sym, ap, ◌∙◌}
use Rattle.sv_ast.specs.declared.simple.Simple.{Simple}
use Rattle.sv_ast.specs.declared.stmt.Block.{Block as BlockNode, out-Block}
use Rattle.sv_ast.specs.declared.stmt.Body.{Body as BodyNode, out-Body}
use Rattle.sv_ast.specs.declared.stmt.Else.{Else as ElseNode, out-Else}
use Rattle.sv_ast.specs.declared.stmt.ElseIf.{ElseIf as ElseIfNode, out-ElseIf}
use Rattle.sv_ast.specs.declared.stmt.For.{For as ForNode, out-For}
use Rattle.sv_ast.specs.declared.stmt.If.{If as IfNode, out-If}
use Rattle.sv_ast.specs.declared.stmt.Stmt.{Stmt as StmtNode, out-Stmt}
use Rattle.sv_ast.specs.declared.stmt.While.{While as WhileNode, out-While}
use Rattle.sv_ast.specs.declared.stmt.BodyKind.TheVariants as body_kinds
use Rattle.sv_ast.specs.declared.stmt.StmtKind.TheVariants as stmt_kinds
use Rattle.sv_ast.specs.declared.stmt.BodyKind.TheOpen.{BodyKind-F, StmtKind-F}
use Rattle.sv_ast.specs.declared.stmt.BodyKind.TheFolds.{fold_out-Block, fold_out-Body, fold_out-Else, fold_out-ElseIf, fold_out-For, fold_out-If, fold_out-Stmt, fold_out-While, fold-roll-BodyKind, fold-roll-StmtKind}
use Rattle.sv_plain.specs.ExprFolds.{spot, plain_expr}
use Rattle.sv_plain.specs.PlainStmts.{Stmt, Stated, StmtForm, InBraces, Unchecked, Simply, If, While, For, Block, Braces, Body, Bodily, BodyForm, OfBlock, OfSimple, Branch, ElseIf, Otherwise, NoElse, Else, stmts, branches, optional_expr, plain_body_kind, plain_stmt_kind, plain_block, plain_body, plain_else, plain_else_if, plain_for, plain_if, plain_stmt, plain_while, body_kind_step, stmt_kind_step, block_step, body_step, else_step, else_if_step, for_step, if_step, stmt_step, while_step}

pub block_at : (b : BlockNode) → plain_block b ≡ Braces (spot (out-Block b).span (out-Block b).place) (stmts (map plain_stmt (out-Block b).stmts))
unfolding plain_block plain_stmt
block_at b = fold_out-Block BodyForm StmtForm Block Body Otherwise Branch StmtForm StmtForm Stmt StmtForm body_kind_step stmt_kind_step block_step body_step else_step else_if_step for_step if_step stmt_step while_step b

pub body_at : (b : BodyNode) → plain_body b ≡ Bodily (spot (out-Body b).span (out-Body b).place) (plain_body_kind (out-Body b).kind)
unfolding plain_body plain_body_kind
body_at b = fold_out-Body BodyForm StmtForm Block Body Otherwise Branch StmtForm StmtForm Stmt StmtForm body_kind_step stmt_kind_step block_step body_step else_step else_if_step for_step if_step stmt_step while_step b

pub else_at : (b : ElseNode) → plain_else b ≡ Else (out-Else b).at (out-Else b).place (plain_body (out-Else b).body)
unfolding plain_else plain_body
else_at b = fold_out-Else BodyForm StmtForm Block Body Otherwise Branch StmtForm StmtForm Stmt StmtForm body_kind_step stmt_kind_step block_step body_step else_step else_if_step for_step if_step stmt_step while_step b

pub else_if_at : (b : ElseIfNode) → plain_else_if b ≡ ElseIf (out-ElseIf b).at (out-ElseIf b).place (plain_expr (out-ElseIf b).condition) (plain_body (out-ElseIf b).body)
unfolding plain_else_if plain_body
else_if_at b = fold_out-ElseIf BodyForm StmtForm Block Body Otherwise Branch StmtForm StmtForm Stmt StmtForm body_kind_step stmt_kind_step block_step body_step else_step else_if_step for_step if_step stmt_step while_step b

pub for_at : (s : ForNode) → plain_for s ≡ For (out-For s).notes (out-For s).keyword (out-For s).start (optional_expr (out-For s).condition) (out-For s).step (plain_body (out-For s).body)
unfolding plain_for plain_body
for_at s = fold_out-For BodyForm StmtForm Block Body Otherwise Branch StmtForm StmtForm Stmt StmtForm body_kind_step stmt_kind_step block_step body_step else_step else_if_step for_step if_step stmt_step while_step s

pub while_at : (s : WhileNode) → plain_while s ≡ While (out-While s).notes (out-While s).keyword (plain_expr (out-While s).condition) (plain_body (out-While s).body)
unfolding plain_while plain_body
while_at s = fold_out-While BodyForm StmtForm Block Body Otherwise Branch StmtForm StmtForm Stmt StmtForm body_kind_step stmt_kind_step block_step body_step else_step else_if_step for_step if_step stmt_step while_step s

pub if_only : (s : IfNode) → (out-If s).otherwise ≡ None → plain_if s ≡ If (plain_expr (out-If s).condition) (plain_body (out-If s).body) (branches (map plain_else_if (out-If s).else_ifs)) NoElse
unfolding plain_if plain_body plain_else_if
if_only s h = fold_out-If BodyForm StmtForm Block Body Otherwise Branch StmtForm StmtForm Stmt StmtForm body_kind_step stmt_kind_step block_step body_step else_step else_if_step for_step if_step stmt_step while_step s ∙ rw h

pub if_else : (s : IfNode) (e : ElseNode) → (out-If s).otherwise ≡ Some e → plain_if s ≡ If (plain_expr (out-If s).condition) (plain_body (out-If s).body) (branches (map plain_else_if (out-If s).else_ifs)) (plain_else e)
unfolding plain_if plain_body plain_else_if plain_else
if_else s e h = fold_out-If BodyForm StmtForm Block Body Otherwise Branch StmtForm StmtForm Stmt StmtForm body_kind_step stmt_kind_step block_step body_step else_step else_if_step for_step if_step stmt_step while_step s ∙ rw h

pub stmt_at : (s : StmtNode) → plain_stmt s ≡ Stated (spot (out-Stmt s).span (out-Stmt s).place) (plain_stmt_kind (out-Stmt s).kind)
unfolding plain_stmt plain_stmt_kind
stmt_at s = fold_out-Stmt BodyForm StmtForm Block Body Otherwise Branch StmtForm StmtForm Stmt StmtForm body_kind_step stmt_kind_step block_step body_step else_step else_if_step for_step if_step stmt_step while_step s

pub body_block : (b : BlockNode) → plain_body_kind (body_kinds.Block b) ≡ OfBlock (plain_block b)
unfolding plain_body_kind plain_block
body_block b = ap plain_body_kind (sym (body_kinds.rolls-Block b)) ∙ fold-roll-BodyKind BodyForm StmtForm Block Body Otherwise Branch StmtForm StmtForm Stmt StmtForm body_kind_step stmt_kind_step block_step body_step else_step else_if_step for_step if_step stmt_step while_step (BodyKind-F.BodyKind::Block b)

pub body_simple : (s : Simple) → plain_body_kind (body_kinds.Simple s) ≡ OfSimple s
unfolding plain_body_kind
body_simple s = ap plain_body_kind (sym (body_kinds.rolls-Simple s)) ∙ fold-roll-BodyKind BodyForm StmtForm Block Body Otherwise Branch StmtForm StmtForm Stmt StmtForm body_kind_step stmt_kind_step block_step body_step else_step else_if_step for_step if_step stmt_step while_step (BodyKind-F.BodyKind::Simple s)

pub stmt_block : (b : BlockNode) → plain_stmt_kind (stmt_kinds.Block b) ≡ InBraces (plain_block b)
unfolding plain_stmt_kind plain_block
stmt_block b = ap plain_stmt_kind (sym (stmt_kinds.rolls-Block b)) ∙ fold-roll-StmtKind BodyForm StmtForm Block Body Otherwise Branch StmtForm StmtForm Stmt StmtForm body_kind_step stmt_kind_step block_step body_step else_step else_if_step for_step if_step stmt_step while_step (StmtKind-F.StmtKind::Block b)

pub stmt_unchecked : (b : BlockNode) → plain_stmt_kind (stmt_kinds.Unchecked b) ≡ Unchecked (plain_block b)
unfolding plain_stmt_kind plain_block
stmt_unchecked b = ap plain_stmt_kind (sym (stmt_kinds.rolls-Unchecked b)) ∙ fold-roll-StmtKind BodyForm StmtForm Block Body Otherwise Branch StmtForm StmtForm Stmt StmtForm body_kind_step stmt_kind_step block_step body_step else_step else_if_step for_step if_step stmt_step while_step (StmtKind-F.Unchecked b)

pub stmt_simple : (s : Simple) → plain_stmt_kind (stmt_kinds.Simple s) ≡ Simply s
unfolding plain_stmt_kind
stmt_simple s = ap plain_stmt_kind (sym (stmt_kinds.rolls-Simple s)) ∙ fold-roll-StmtKind BodyForm StmtForm Block Body Otherwise Branch StmtForm StmtForm Stmt StmtForm body_kind_step stmt_kind_step block_step body_step else_step else_if_step for_step if_step stmt_step while_step (StmtKind-F.StmtKind::Simple s)

pub stmt_if : (s : IfNode) → plain_stmt_kind (stmt_kinds.If s) ≡ plain_if s
unfolding plain_stmt_kind plain_if
stmt_if s = ap plain_stmt_kind (sym (stmt_kinds.rolls-If s)) ∙ fold-roll-StmtKind BodyForm StmtForm Block Body Otherwise Branch StmtForm StmtForm Stmt StmtForm body_kind_step stmt_kind_step block_step body_step else_step else_if_step for_step if_step stmt_step while_step (StmtKind-F.If s)

pub stmt_while : (s : WhileNode) → plain_stmt_kind (stmt_kinds.While s) ≡ plain_while s
unfolding plain_stmt_kind plain_while
stmt_while s = ap plain_stmt_kind (sym (stmt_kinds.rolls-While s)) ∙ fold-roll-StmtKind BodyForm StmtForm Block Body Otherwise Branch StmtForm StmtForm Stmt StmtForm body_kind_step stmt_kind_step block_step body_step else_step else_if_step for_step if_step stmt_step while_step (StmtKind-F.While s)

pub stmt_for : (s : ForNode) → plain_stmt_kind (stmt_kinds.For s) ≡ plain_for s
unfolding plain_stmt_kind plain_for
stmt_for s = ap plain_stmt_kind (sym (stmt_kinds.rolls-For s)) ∙ fold-roll-StmtKind BodyForm StmtForm Block Body Otherwise Branch StmtForm StmtForm Stmt StmtForm body_kind_step stmt_kind_step block_step body_step else_step else_if_step for_step if_step stmt_step while_step (StmtKind-F.For s)

pub ruleset statement_parts = (block_at, body_at, else_at, else_if_at, for_at, while_at, if_only, if_else, stmt_at, body_block, body_simple, stmt_block, stmt_unchecked, stmt_simple, stmt_if, stmt_while, stmt_for)
