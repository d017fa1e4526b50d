-- Believed: the trees of statements. Hold it against the types of `src/stmt.rt`, and docs/grammar.md.
use Rattle.std.specs.Prelude.{ℕ, List, [], ◌∷◌, map, Option, Some, None}
use Rattle.sv_text.specs.declared.place.Place.{Place}
use Rattle.sv_grammar.specs.Grammar.{Extent, Tree, unit, left, right, none, some, node}
use Rattle.sv_grammar.specs.ListTrees.{list_tree}
use Rattle.sv_ast.specs.Trees.{extent, ◌⊗◌, nth, last, optional}
use Rattle.sv_ast.specs.ExprTrees.{expr_tree}
use Rattle.sv_ast.specs.SimpleTrees.{note_tree, decl_tree, action_tree, simple_tree}
use Rattle.sv_ast.specs.declared.stmt.ForStart.{ForStart}
use Rattle.sv_ast.specs.declared.stmt.ForStart.TheVariants as for_start
use Rattle.sv_ast.specs.declared.stmt.BodyKind.{BodyKind}
use Rattle.sv_ast.specs.declared.stmt.StmtKind.{StmtKind}
use Rattle.sv_ast.specs.declared.stmt.Block.{Block}
use Rattle.sv_ast.specs.declared.stmt.Body.{Body}
use Rattle.sv_ast.specs.declared.stmt.Else.{Else}
use Rattle.sv_ast.specs.declared.stmt.ElseIf.{ElseIf}
use Rattle.sv_ast.specs.declared.stmt.For.{For}
use Rattle.sv_ast.specs.declared.stmt.If.{If}
use Rattle.sv_ast.specs.declared.stmt.Keyword.{Keyword}
use Rattle.sv_ast.specs.declared.stmt.Stmt.{Stmt}
use Rattle.sv_ast.specs.declared.stmt.While.{While}
use Rattle.sv_ast.specs.declared.stmt.BodyKind.TheOpen.{BodyKind-F, StmtKind-F, Block-F, Body-F, Else-F, ElseIf-F, For-F, If-F, Stmt-F, While-F}
use Rattle.sv_ast.specs.declared.stmt.BodyKind.TheFolds.{fold-BodyKind, fold-StmtKind, fold-Block, fold-Body, fold-Else, fold-ElseIf, fold-For, fold-If, fold-Stmt, fold-While}

-- ---- the branches of an `if`

-- the last branch is a tree where the whole `if` ends, and any other also where that goes on with a tree
abbrev pub LastBranch : Type 0
LastBranch = ℕ → Tree

abbrev pub Branch : Type 0
Branch = ℕ → Tree → Tree

-- from an `else` to the end of the whole `if`
abbrev pub branch_extent : ℕ → Place → ℕ → Extent
branch_extent at place to = record { from = at; to = to; line = place.line; column = place.col }

-- what follows the first body, where the whole `if` ends there
abbrev pub branches_tree : ℕ → List Branch → Option LastBranch → Tree
branches_tree to [] None = none
branches_tree to [] (Some otherwise) = some (otherwise to)
branches_tree to (b ∷ bs) otherwise = some (b to (branches_tree to bs otherwise))

-- ---- each node, from the trees of its parts

-- a node with trees in place of its parts is an `Of Block-F`, an `Of If-F` and so on; branches are as above
abbrev pub Of : (Type 0 → Type 0 → Type 0 → Type 0 → Type 0 → Type 0 → Type 0 → Type 0 → Type 0 → Type 0 → Type 0) → Type 0
Of F = F Tree Tree Tree Tree LastBranch Branch Tree Tree Tree Tree

abbrev pub block_step : Of Block-F → Tree
block_step b = node (extent b.span b.place) (unit ⊗ list_tree b.stmts ⊗ unit)

abbrev pub stmt_step : Of Stmt-F → Tree
stmt_step s = node (extent s.span s.place) s.kind

abbrev pub stmt_kind_step : Of StmtKind-F → Tree
stmt_kind_step (StmtKind-F.StmtKind::Block b) = nth 0 b
stmt_kind_step (StmtKind-F.Unchecked b) = nth 1 (unit ⊗ b)
stmt_kind_step (StmtKind-F.StmtKind::Simple s) = nth 2 (simple_tree s ⊗ unit)
stmt_kind_step (StmtKind-F.If s) = nth 3 s
stmt_kind_step (StmtKind-F.While s) = nth 4 s
stmt_kind_step (StmtKind-F.For s) = last 5 s

abbrev pub body_step : Of Body-F → Tree
body_step b = node (extent b.span b.place) b.kind

abbrev pub body_kind_step : Of BodyKind-F → Tree
body_kind_step (BodyKind-F.BodyKind::Block b) = nth 0 b
body_kind_step (BodyKind-F.BodyKind::Simple s) = last 1 (simple_tree s ⊗ unit)

abbrev pub if_step : Of If-F → Tree
if_step s =
    node (extent s.span s.place)
    (unit ⊗ unit ⊗ expr_tree s.condition ⊗ unit ⊗ s.body ⊗ branches_tree s.span.to s.else_ifs s.otherwise)

abbrev pub else_if_step : Of ElseIf-F → Branch
else_if_step b to rest =
    node (branch_extent b.at b.place to) (unit ⊗ left (unit ⊗ unit ⊗ expr_tree b.condition ⊗ unit ⊗ b.body ⊗ rest))

abbrev pub else_step : Of Else-F → LastBranch
else_step b to = node (branch_extent b.at b.place to) (unit ⊗ right b.body)

-- the word by which a loop begins, where it lies
abbrev pub keyword_tree : Keyword → Tree
keyword_tree k = node (extent k.span k.place) unit

abbrev pub while_step : Of While-F → Tree
while_step s =
    node (extent s.span s.place)
    (list_tree (map note_tree s.notes) ⊗ keyword_tree s.keyword ⊗ unit ⊗ expr_tree s.condition ⊗ unit ⊗ s.body)

abbrev pub for_start_tree : ForStart → Tree
for_start_tree (for_start.Decl d) = nth 0 (decl_tree d)
for_start_tree (for_start.Action a) = last 1 (action_tree a)

abbrev pub for_step : Of For-F → Tree
for_step s =
    node (extent s.span s.place)
    (list_tree (map note_tree s.notes) ⊗ keyword_tree s.keyword ⊗ unit ⊗ optional for_start_tree s.start ⊗ unit
    ⊗ optional expr_tree s.condition ⊗ unit ⊗ optional action_tree s.step ⊗ unit ⊗ s.body)

-- ---- the trees

-- a function of a node by these steps
abbrev By : Type 0 → Type 0 → Type 0
By X Y =
    (Of BodyKind-F → Tree) → (Of StmtKind-F → Tree) → (Of Block-F → Tree) → (Of Body-F → Tree) → (Of Else-F → LastBranch) →
    (Of ElseIf-F → Branch) → (Of For-F → Tree) → (Of If-F → Tree) → (Of Stmt-F → Tree) → (Of While-F → Tree) → X → Y

abbrev by_steps : {X Y : Type 0} → By X Y → X → Y
by_steps f = f body_kind_step stmt_kind_step block_step body_step else_step else_if_step for_step if_step stmt_step while_step

unfoldable pub block_tree : Block → Tree
block_tree = by_steps (fold-Block Tree Tree Tree Tree LastBranch Branch Tree Tree Tree Tree)

unfoldable pub stmt_tree : Stmt → Tree
stmt_tree = by_steps (fold-Stmt Tree Tree Tree Tree LastBranch Branch Tree Tree Tree Tree)

unfoldable pub stmt_kind_tree : StmtKind → Tree
stmt_kind_tree = by_steps (fold-StmtKind Tree Tree Tree Tree LastBranch Branch Tree Tree Tree Tree)

unfoldable pub body_tree : Body → Tree
body_tree = by_steps (fold-Body Tree Tree Tree Tree LastBranch Branch Tree Tree Tree Tree)

unfoldable pub body_kind_tree : BodyKind → Tree
body_kind_tree = by_steps (fold-BodyKind Tree Tree Tree Tree LastBranch Branch Tree Tree Tree Tree)

unfoldable pub if_tree : If → Tree
if_tree = by_steps (fold-If Tree Tree Tree Tree LastBranch Branch Tree Tree Tree Tree)

unfoldable pub else_if_tree : ElseIf → Branch
else_if_tree = by_steps (fold-ElseIf Tree Tree Tree Tree LastBranch Branch Tree Tree Tree Tree)

unfoldable pub else_tree : Else → LastBranch
else_tree = by_steps (fold-Else Tree Tree Tree Tree LastBranch Branch Tree Tree Tree Tree)

unfoldable pub while_tree : While → Tree
while_tree = by_steps (fold-While Tree Tree Tree Tree LastBranch Branch Tree Tree Tree Tree)

unfoldable pub for_tree : For → Tree
for_tree = by_steps (fold-For Tree Tree Tree Tree LastBranch Branch Tree Tree Tree Tree)
