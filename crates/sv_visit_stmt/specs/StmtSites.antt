-- Believed: the nodes of a statement, each once; what a part knows is what is declared before it, so the start of a `for` comes before its annotations. Hold it against `src/stmt.rt` of `sv_ast`.
use Rattle.std.specs.Prelude.{List, Option, Some, None, map}
use Rattle.sv_ast.specs.declared.expr.Expr.{Expr as ExprNode}
use Rattle.sv_ast.specs.declared.stmt.Stmt.{Stmt as StmtNode}
use Rattle.sv_ast.specs.declared.stmt.ElseIf.{ElseIf as ElseIfNode}
use Rattle.sv_ast.specs.declared.stmt.Body.{Body as BodyNode}
use Rattle.sv_plain.specs.PlainExprs.{Expr}
use Rattle.sv_plain.specs.PlainStmts.{Stmt, Stated, StmtForm, InBraces, Unchecked, Simply as SimplyForm, If, While, For, Block, Braces, Stmts, NoStmt, MoreStmts, Body, Bodily, BodyForm, OfBlock, OfSimple, Branch, ElseIf, Branches, NoBranch, MoreBranches, Otherwise, NoElse, Else, stmts, branches, plain_stmt, plain_block, plain_else_if, plain_body}
use Rattle.sv_book.specs.Walks.{Walk, Walks, Node, Group, End, Part}
use Rattle.sv_visit.specs.declared.judge.Role.TheVariants as role
use Rattle.sv_visit.specs.Sites.{Site, Stating, Bracing}
use Rattle.sv_visit.specs.ExprSites.{expr_walk}
use Rattle.sv_visit_simple.specs.SimpleSites.{inner_walk, notes_parts, optional_action, start_walk, simple_walk, bare_walk}
use Rattle.sv_visit_stmt.specs.declared.judge.StmtNode.{StmtNode as StmtView}
use Rattle.sv_visit_stmt.specs.declared.judge.StmtNode.TheVariants as node

-- the node that a call of a judge speaks of
abbrev pub stmt_site : StmtView → Site
stmt_site (node.Stmt s) = Stating (plain_stmt s.now)
stmt_site (node.Block b) = Bracing (plain_block b.now)

abbrev pub condition_walk : Option Expr → Walk Site
condition_walk None = Group End
condition_walk (Some e) = expr_walk role.Inner e

-- ---- statements

abbrev mutual
  pub stmt_walk : Stmt → Walk Site
  stmt_walk (Stated at k) = Node (Stating (Stated at k)) (stmt_parts k)

  pub stmt_parts : StmtForm → Walks Site
  stmt_parts (InBraces b) = Part (block_walk b) End
  stmt_parts (Unchecked b) = Part (block_walk b) End
  stmt_parts (SimplyForm s) = Part (simple_walk s) End
  stmt_parts (If e b bs o) = Part (expr_walk role.Inner e) (Part (body_walk b) (Part (Group (branches_parts bs)) (Part (otherwise_walk o) End)))
  stmt_parts (While ns k e b) = Part (Group (notes_parts ns)) (Part (expr_walk role.Inner e) (Part (body_walk b) End))
  stmt_parts (For ns k i e a b) = Part (start_walk i) (Part (Group (notes_parts ns)) (Part (condition_walk e) (Part (optional_action a) (Part (body_walk b) End))))

  pub block_walk : Block → Walk Site
  block_walk (Braces at ss) = Node (Bracing (Braces at ss)) (stmts_parts ss)

  pub stmts_parts : Stmts → Walks Site
  stmts_parts NoStmt = End
  stmts_parts (MoreStmts s ss) = Part (stmt_walk s) (stmts_parts ss)

  pub body_walk : Body → Walk Site
  body_walk (Bodily at k) = body_form_walk k

  pub body_form_walk : BodyForm → Walk Site
  body_form_walk (OfBlock b) = block_walk b
  body_form_walk (OfSimple s) = bare_walk s

  pub branch_walk : Branch → Walk Site
  branch_walk (ElseIf at place e b) = Group (Part (expr_walk role.Inner e) (Part (body_walk b) End))

  pub branches_parts : Branches → Walks Site
  branches_parts NoBranch = End
  branches_parts (MoreBranches b bs) = Part (branch_walk b) (branches_parts bs)

  pub otherwise_walk : Otherwise → Walk Site
  otherwise_walk NoElse = Group End
  otherwise_walk (Else at place b) = body_walk b

-- ---- the same of nodes of the syntax tree

abbrev pub stmt_list : List StmtNode → Walks Site
stmt_list list = stmts_parts (stmts (map plain_stmt list))

abbrev pub branch_list : List ElseIfNode → Walks Site
branch_list list = branches_parts (branches (map plain_else_if list))

abbrev pub guarded_parts : ExprNode → BodyNode → Walks Site
guarded_parts e b = Part (inner_walk e) (Part (body_walk (plain_body b)) End)
