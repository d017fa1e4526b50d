-- What the parts of a node are, and how many arguments there are.
use Rattle.std.proofs.Common.{◌≡◌, ℕ, ◌+◌, List, [], ◌∷◌, map, length, refl, arith}
use Rattle.std.proofs.lemmas.Grind.{common_steps}
use Rattle.sv_ast.specs.declared.expr.Expr.{Expr as ExprNode}
use Rattle.sv_ast.specs.declared.post.NamedArg.{NamedArg as NamedArgNode}
use Rattle.sv_plain.specs.PlainExprs.{exprs, named_args}
use Rattle.sv_plain.specs.ExprFolds.{plain_expr, plain_named_arg}
use Rattle.sv_plain.proofs.ExprViews.{parts}
use Rattle.sv_decl.specs.DeclaredParts.{exprs_count, named_count}

pub exprs_counted : (es : List ExprNode) → exprs_count (exprs (map plain_expr es)) ≡ length es
exprs_counted [] = refl
exprs_counted (e ∷ es) =
    let h : exprs_count (exprs (map plain_expr es)) ≡ length es = exprs_counted es in
    omega arith

-- by name, what counts is how many names there are
pub named_counted : (args : List NamedArgNode) → named_count (named_args (map plain_named_arg args)) ≡ length args
named_counted [] = refl
named_counted (a ∷ args) =
    let h : named_count (named_args (map plain_named_arg args)) ≡ length args = named_counted args in
    omega arith

pub ruleset noted = (parts, common_steps, exprs_counted, named_counted)
