use Rattle.std.proofs.Common.{sym, ◌∙◌, ◌<◌, ap, map, refl, arith}
use Rattle.std.specs.Option.{option_map}
use Rattle.sv_grammar.specs.Grammar.{unit, node}
use Rattle.sv_ast.specs.Trees.{extent, ◌⊗◌}
use Rattle.sv_ast.specs.ExprTrees.{expr_tree}
use Rattle.sv_ast.specs.StmtTrees.{body_tree, branches_tree, else_if_tree, else_tree}
use Rattle.sv_ast.proofs.StmtLaws.{if_is}
use Rattle.sv_read.proofs.Exits.{left_by}
use Rattle.sv_parse_stmt.proofs.IfLemmas.{ends_alike, gives_five, fails_five, fails_five_late}
use Rattle.sv_read.proofs.Moving.{moves}
use Rattle.sv_read.proofs.Nesting.{may_on}
use Rattle.sv_read.proofs.Reading.{gives_side, fails_side}
use Rattle.sv_parse_stmt.proofs.if_stmt.IfParseStatements.parse.Goals as goal

pub read_branches-requires : goal.read_branches-requires
read_branches-requires g c = may_on c.requires c.in_ok-then.ensures.ordered

pub returns : goal.returns
returns g c =
    let p = rw (sym c.in_ok-condition.ensures.holds) at c.in_ok-then.ensures in
    let q = c.in_ok-condition.ensures.reads _ _ _ _ c.read_branches.ensures in
    let moved = moves refl c.in_ok-then.ensures in
    let further = q.ordered in
    let more : c.args.cursor.now.at < c.read_branches.new.cursor.at = omega arith in
    let ends = ends_alike c.args.cursor.now c.read_branches.new.cursor _ _ _ c.extent.ensures c.at-from.ensures.is more (rw c.at-end.ensures.is at c.at-end.ensures.within) in
    gives_side
    (if_is _ _ _ _ _ _ ∙ ap (λ to. node (extent c.extent.result.span c.extent.result.place) (unit ⊗ unit ⊗ expr_tree c.in_ok-condition.condition ⊗ unit ⊗ body_tree c.in_ok-condition.body
    ⊗ branches_tree to (map else_if_tree c.in_ok-condition.branches.else_ifs) (option_map else_tree c.in_ok-condition.branches.otherwise))) ends)
    c.at-from.ensures.is c.extent.ensures (gives_five p q)

pub returns-in_err-then : goal.returns-in_err-then
returns-in_err-then g c = left_by _ _ _ _ _ _ c.from_residual.ensures (fails_side (fails_five c.in_err-then.ensures))

pub returns-in_err-condition : goal.returns-in_err-condition
returns-in_err-condition g c = left_by _ _ _ _ _ _ c.from_residual-in_err-condition.ensures (fails_side (fails_five_late c.in_ok-then.ensures (c.in_err-condition.ensures.reads _ _ _ _ c.read_branches.ensures)))
