use Rattle.std.proofs.Common.{sym, map}
use Rattle.sv_ast.specs.ExprTrees.{suffix_tree}
use Rattle.sv_parse_expr.proofs.PostReading.{gives_new, fails_new, fails_new_late, new_post_is}
use Rattle.sv_read.proofs.Exits.{left_by}
use Rattle.sv_read.proofs.Nesting.{may_on}
use Rattle.sv_read.proofs.Reading.{gives_side, fails_side}
use Rattle.sv_parse_expr.proofs.post.new_post.Goals as goal

pub parse-requires : goal.parse-requires
parse-requires g c = c.requires.may

pub parse-requires-2 : goal.parse-requires-2
parse-requires-2 g c = may_on c.requires.may c.in_ok-front.ensures.ordered

pub returns-in_err-front : goal.returns-in_err-front
returns-in_err-front g c = left_by _ _ _ _ _ _ c.from_residual.ensures (fails_side (fails_new c.requires.sees_new c.in_err-front.ensures))

pub returns-in_err-of : goal.returns-in_err-of
returns-in_err-of g c = left_by _ _ _ _ _ _ c.from_residual-in_err-of.ensures (fails_side (fails_new_late c.in_ok-front.ensures (c.in_err-of.ensures.reads _ _ _ _ c.parse-2.ensures)))

pub returns : goal.returns
returns g c =
    let p = rw (sym c.in_ok-of.ensures.holds) at c.in_ok-front.ensures in
    let q = c.in_ok-of.ensures.reads _ _ _ _ c.parse-2.ensures in
    gives_side (new_post_is c.in_ok-of.of c.in_ok-of.suffixes _ _ _ _) c.at-from.ensures.is c.extent-2.ensures (gives_new (map suffix_tree c.in_ok-of.suffixes) c.at-from.ensures.is c.extent.ensures p q)
