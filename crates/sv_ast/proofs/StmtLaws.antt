-- The tree of a statement that is made of its parts.
use Rattle.std.proofs.Common.{◌≡◌, ℕ, List, map, Option, Some, None, sym, ap, ◌∙◌}
use Rattle.std.specs.Option.{option_map}
use Rattle.sv_text.specs.declared.span.Span.{Span}
use Rattle.sv_text.specs.declared.place.Place.{Place}
use Rattle.sv_grammar.specs.Grammar.{Tree, unit, left, right, node}
use Rattle.sv_grammar.specs.ListTrees.{list_tree}
use Rattle.sv_ast.specs.Trees.{extent, ◌⊗◌, nth, last, optional}
use Rattle.sv_ast.specs.ExprTrees.{expr_tree}
use Rattle.sv_ast.specs.SimpleTrees.{note_tree, action_tree, simple_tree}
use Rattle.sv_ast.specs.declared.expr.Expr.{Expr}
use Rattle.sv_ast.specs.declared.note.Note.{Note}
use Rattle.sv_ast.specs.declared.simple.Action.{Action}
use Rattle.sv_ast.specs.declared.simple.Simple.{Simple}
use Rattle.sv_ast.specs.declared.stmt.ForStart.{ForStart}
use Rattle.sv_ast.specs.declared.stmt.Block.{Block, roll-Block}
use Rattle.sv_ast.specs.declared.stmt.Stmt.{Stmt, roll-Stmt}
use Rattle.sv_ast.specs.declared.stmt.Body.{Body, roll-Body}
use Rattle.sv_ast.specs.declared.stmt.Keyword.{Keyword}
use Rattle.sv_ast.specs.declared.stmt.If.{If, roll-If}
use Rattle.sv_ast.specs.declared.stmt.ElseIf.{ElseIf, roll-ElseIf}
use Rattle.sv_ast.specs.declared.stmt.Else.{Else, roll-Else}
use Rattle.sv_ast.specs.declared.stmt.While.{While, roll-While}
use Rattle.sv_ast.specs.declared.stmt.For.{For, roll-For}
use Rattle.sv_ast.specs.declared.stmt.StmtKind.{StmtKind}
use Rattle.sv_ast.specs.declared.stmt.StmtKind.TheVariants as stmt_kinds
use Rattle.sv_ast.specs.declared.stmt.BodyKind.{BodyKind}
use Rattle.sv_ast.specs.declared.stmt.BodyKind.TheVariants as body_kinds
use Rattle.sv_ast.specs.declared.stmt.BodyKind.TheOpen.{BodyKind-F, StmtKind-F, Block-F, Body-F, Else-F, ElseIf-F, For-F, If-F, Stmt-F, While-F}
use Rattle.sv_ast.specs.declared.stmt.BodyKind.TheFolds.{fold-roll-BodyKind, fold-roll-StmtKind, fold-roll-Block, fold-roll-Body, fold-roll-Else, fold-roll-ElseIf, fold-roll-For, fold-roll-If, fold-roll-Stmt, fold-roll-While}
use Rattle.sv_ast.specs.StmtTrees.{keyword_tree, Of, LastBranch, Branch, branch_extent, branches_tree, for_start_tree, body_kind_step, stmt_kind_step, block_step, body_step, else_step, else_if_step, for_step, if_step, stmt_step, while_step, body_kind_tree, stmt_kind_tree, block_tree, body_tree, else_tree, else_if_tree, for_tree, if_tree, stmt_tree, while_tree}

-- what holds of any steps, of those by which the trees are made
with_steps :
    {R :
    (Of BodyKind-F → Tree) →
    (Of StmtKind-F → Tree) →
    (Of Block-F → Tree) →
    (Of Body-F → Tree) →
    (Of Else-F → LastBranch) →
    (Of ElseIf-F → Branch) →
    (Of For-F → Tree) →
    (Of If-F → Tree) →
    (Of Stmt-F → Tree) →
    (Of While-F → Tree) →
    Type 0} →
    (
    (body_kind_by : Of BodyKind-F → Tree) →
    (stmt_kind_by : Of StmtKind-F → Tree) →
    (block_by : Of Block-F → Tree) →
    (body_by : Of Body-F → Tree) →
    (else_by : Of Else-F → LastBranch) →
    (else_if_by : Of ElseIf-F → Branch) →
    (for_by : Of For-F → Tree) →
    (if_by : Of If-F → Tree) →
    (stmt_by : Of Stmt-F → Tree) →
    (while_by : Of While-F → Tree) →
    R body_kind_by stmt_kind_by block_by body_by else_by else_if_by for_by if_by stmt_by while_by) →
    R body_kind_step stmt_kind_step block_step body_step else_step else_if_step for_step if_step stmt_step while_step
with_steps f = f body_kind_step stmt_kind_step block_step body_step else_step else_if_step for_step if_step stmt_step while_step

pub block_is : (stmts : List Stmt) (span : Span) (place : Place) → block_tree (roll-Block (record { stmts = stmts; span = span; place = place })) ≡ node (extent span place) (unit ⊗ list_tree (map stmt_tree stmts) ⊗ unit)
unfolding block_tree stmt_tree
block_is stmts span place = with_steps (fold-roll-Block Tree Tree Tree Tree LastBranch Branch Tree Tree Tree Tree) (record { stmts = stmts; span = span; place = place })

pub stmt_is : (kind : StmtKind) (span : Span) (place : Place) → stmt_tree (roll-Stmt (record { kind = kind; span = span; place = place })) ≡ node (extent span place) (stmt_kind_tree kind)
unfolding stmt_tree stmt_kind_tree
stmt_is kind span place = with_steps (fold-roll-Stmt Tree Tree Tree Tree LastBranch Branch Tree Tree Tree Tree) (record { kind = kind; span = span; place = place })

pub body_is : (kind : BodyKind) (span : Span) (place : Place) → body_tree (roll-Body (record { kind = kind; span = span; place = place })) ≡ node (extent span place) (body_kind_tree kind)
unfolding body_tree body_kind_tree
body_is kind span place = with_steps (fold-roll-Body Tree Tree Tree Tree LastBranch Branch Tree Tree Tree Tree) (record { kind = kind; span = span; place = place })

pub if_is : (condition : Expr) (body : Body) (else_ifs : List ElseIf) (otherwise : Option Else) (span : Span) (place : Place) → if_tree (roll-If (record { condition = condition; body = body; else_ifs = else_ifs; otherwise = otherwise; span = span; place = place })) ≡ node (extent span place) (unit ⊗ unit ⊗ expr_tree condition ⊗ unit ⊗ body_tree body ⊗ branches_tree span.to (map else_if_tree else_ifs) (option_map else_tree otherwise))
unfolding if_tree body_tree else_if_tree else_tree
if_is condition body else_ifs None span place = with_steps (fold-roll-If Tree Tree Tree Tree LastBranch Branch Tree Tree Tree Tree) (record { condition = condition; body = body; else_ifs = else_ifs; otherwise = None; span = span; place = place })
if_is condition body else_ifs (Some some_otherwise) span place = with_steps (fold-roll-If Tree Tree Tree Tree LastBranch Branch Tree Tree Tree Tree) (record { condition = condition; body = body; else_ifs = else_ifs; otherwise = Some some_otherwise; span = span; place = place })

pub else_if_is : (condition : Expr) (body : Body) (at : ℕ) (place : Place) (to : ℕ) (rest : Tree) → else_if_tree (roll-ElseIf (record { condition = condition; body = body; at = at; place = place })) to rest ≡ node (branch_extent at place to) (unit ⊗ left (unit ⊗ unit ⊗ expr_tree condition ⊗ unit ⊗ body_tree body ⊗ rest))
unfolding else_if_tree body_tree
else_if_is condition body at place to rest = ap (λ f. f to rest) (with_steps (fold-roll-ElseIf Tree Tree Tree Tree LastBranch Branch Tree Tree Tree Tree) (record { condition = condition; body = body; at = at; place = place }))

pub else_is : (body : Body) (at : ℕ) (place : Place) (to : ℕ) → else_tree (roll-Else (record { body = body; at = at; place = place })) to ≡ node (branch_extent at place to) (unit ⊗ right (body_tree body))
unfolding else_tree body_tree
else_is body at place to = ap (λ f. f to) (with_steps (fold-roll-Else Tree Tree Tree Tree LastBranch Branch Tree Tree Tree Tree) (record { body = body; at = at; place = place }))

pub while_is : (notes : List Note) (keyword : Keyword) (condition : Expr) (body : Body) (span : Span) (place : Place) → while_tree (roll-While (record { notes = notes; keyword = keyword; condition = condition; body = body; span = span; place = place })) ≡ node (extent span place) (list_tree (map note_tree notes) ⊗ keyword_tree keyword ⊗ unit ⊗ expr_tree condition ⊗ unit ⊗ body_tree body)
unfolding while_tree body_tree
while_is notes keyword condition body span place = with_steps (fold-roll-While Tree Tree Tree Tree LastBranch Branch Tree Tree Tree Tree) (record { notes = notes; keyword = keyword; condition = condition; body = body; span = span; place = place })

pub for_is : (notes : List Note) (keyword : Keyword) (start : Option ForStart) (condition : Option Expr) (step : Option Action) (body : Body) (span : Span) (place : Place) → for_tree (roll-For (record { notes = notes; keyword = keyword; start = start; condition = condition; step = step; body = body; span = span; place = place })) ≡ node (extent span place) (list_tree (map note_tree notes) ⊗ keyword_tree keyword ⊗ unit ⊗ optional for_start_tree start ⊗ unit ⊗ optional expr_tree condition ⊗ unit ⊗ optional action_tree step ⊗ unit ⊗ body_tree body)
unfolding for_tree body_tree
for_is notes keyword start condition step body span place = with_steps (fold-roll-For Tree Tree Tree Tree LastBranch Branch Tree Tree Tree Tree) (record { notes = notes; keyword = keyword; start = start; condition = condition; step = step; body = body; span = span; place = place })

pub stmt_block_is : (b : Block) → stmt_kind_tree (stmt_kinds.Block b) ≡ nth 0 (block_tree b)
unfolding stmt_kind_tree block_tree
stmt_block_is b = ap stmt_kind_tree (sym (stmt_kinds.rolls-Block b)) ∙ with_steps (fold-roll-StmtKind Tree Tree Tree Tree LastBranch Branch Tree Tree Tree Tree) (StmtKind-F.StmtKind::Block b)

pub stmt_unchecked_is : (b : Block) → stmt_kind_tree (stmt_kinds.Unchecked b) ≡ nth 1 (unit ⊗ block_tree b)
unfolding stmt_kind_tree block_tree
stmt_unchecked_is b = ap stmt_kind_tree (sym (stmt_kinds.rolls-Unchecked b)) ∙ with_steps (fold-roll-StmtKind Tree Tree Tree Tree LastBranch Branch Tree Tree Tree Tree) (StmtKind-F.Unchecked b)

pub stmt_simple_is : (s : Simple) → stmt_kind_tree (stmt_kinds.Simple s) ≡ nth 2 (simple_tree s ⊗ unit)
unfolding stmt_kind_tree
stmt_simple_is s = ap stmt_kind_tree (sym (stmt_kinds.rolls-Simple s)) ∙ with_steps (fold-roll-StmtKind Tree Tree Tree Tree LastBranch Branch Tree Tree Tree Tree) (StmtKind-F.StmtKind::Simple s)

pub stmt_if_is : (s : If) → stmt_kind_tree (stmt_kinds.If s) ≡ nth 3 (if_tree s)
unfolding stmt_kind_tree if_tree
stmt_if_is s = ap stmt_kind_tree (sym (stmt_kinds.rolls-If s)) ∙ with_steps (fold-roll-StmtKind Tree Tree Tree Tree LastBranch Branch Tree Tree Tree Tree) (StmtKind-F.If s)

pub stmt_while_is : (s : While) → stmt_kind_tree (stmt_kinds.While s) ≡ nth 4 (while_tree s)
unfolding stmt_kind_tree while_tree
stmt_while_is s = ap stmt_kind_tree (sym (stmt_kinds.rolls-While s)) ∙ with_steps (fold-roll-StmtKind Tree Tree Tree Tree LastBranch Branch Tree Tree Tree Tree) (StmtKind-F.While s)

pub stmt_for_is : (s : For) → stmt_kind_tree (stmt_kinds.For s) ≡ last 5 (for_tree s)
unfolding stmt_kind_tree for_tree
stmt_for_is s = ap stmt_kind_tree (sym (stmt_kinds.rolls-For s)) ∙ with_steps (fold-roll-StmtKind Tree Tree Tree Tree LastBranch Branch Tree Tree Tree Tree) (StmtKind-F.For s)

pub body_block_is : (b : Block) → body_kind_tree (body_kinds.Block b) ≡ nth 0 (block_tree b)
unfolding body_kind_tree block_tree
body_block_is b = ap body_kind_tree (sym (body_kinds.rolls-Block b)) ∙ with_steps (fold-roll-BodyKind Tree Tree Tree Tree LastBranch Branch Tree Tree Tree Tree) (BodyKind-F.BodyKind::Block b)

pub body_simple_is : (s : Simple) → body_kind_tree (body_kinds.Simple s) ≡ last 1 (simple_tree s ⊗ unit)
unfolding body_kind_tree
body_simple_is s = ap body_kind_tree (sym (body_kinds.rolls-Simple s)) ∙ with_steps (fold-roll-BodyKind Tree Tree Tree Tree LastBranch Branch Tree Tree Tree Tree) (BodyKind-F.BodyKind::Simple s)

pub ruleset tree_laws = (block_is, stmt_is, body_is, if_is, else_if_is, else_is, while_is, for_is, stmt_block_is, stmt_unchecked_is, stmt_simple_is, stmt_if_is, stmt_while_is, stmt_for_is, body_block_is, body_simple_is)
