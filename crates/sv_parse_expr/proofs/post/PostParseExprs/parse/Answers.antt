use Rattle.std.proofs.Common.{sym, ◌∙◌, map}
use Rattle.sv_ast.proofs.ExprLaws.{post_is}
use Rattle.sv_ast.specs.ExprTrees.{suffix_tree}
use Rattle.sv_parse_expr.proofs.PostReading.{gives_atom, fails_atom}
use Rattle.sv_read.proofs.Exits.{left_by}
use Rattle.sv_read.proofs.Reading.{gives_side, fails_side}
use Rattle.sv_parse_expr.proofs.post.PostParseExprs.parse.Goals as goal

pub parse-requires : goal.parse-requires
parse-requires g c = c.requires

pub new_post-requires : goal.new_post-requires
new_post-requires g c = record { may = c.requires; sees_new = sym c.sees.ensures ∙ c.if-sees.true }

pub returns-then-sees : goal.returns-then-sees
returns-then-sees g c = c.new_post.ensures

pub returns-in_err-atom : goal.returns-in_err-atom
returns-in_err-atom g c = left_by _ _ _ _ _ _ c.from_residual.ensures (fails_side (fails_atom (sym c.sees.ensures ∙ c.if-sees.false) c.in_err-atom.ensures))

pub returns : goal.returns
returns g c = gives_side (post_is _ _ _ _) c.at-from.ensures.is c.extent.ensures (gives_atom (map suffix_tree c.in_ok-atom.suffixes) c.in_ok-atom.ensures)
