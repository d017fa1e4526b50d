use Rattle.std.proofs.Common.{ℤ, pos, subst}
use Rattle.std.proofs.lemmas.Int.{to_z-of_z}
use mir.Syntax.{w128}
use Rattle.sv_log.specs.LogRows.{row}
use Rattle.sv_form.specs.declared.node.Linear.TheVariants.{Literal}
use Rattle.sv_row.specs.RowParts.{monomials}
use Rattle.sv_form_rows.specs.Questions.{TellsDifference}
use Rattle.sv_term_forms.proofs.Forming.{answers_none, answers_some, row_fits, sides_within}
use Rattle.sv_term_forms.proofs.asking.is_form_of.Goals as goal

pub is_difference-requires-clause-within : goal.is_difference-requires-clause-within
is_difference-requires-clause-within c =
    sides_within c.args.nodes.now c.args.n (Literal (pos 0)) c.requires.0 c.requires.1.sound c.in-Some.sides (c.in-Some.ensures.within c.args.nodes.now c.args.n)

pub returns-in-Some-clause-is : goal.returns-in-Some-clause-is
returns-in-Some-clause-is c =
    answers_some c.args.nodes.now c.args.sign c.args.n c.args.forward (row c.args.constant (monomials c.args.parts.now)) (Literal (pos 0)) c.requires.0 c.in-Some.sides c.is_difference.result
    c.in-Some.ensures.shows
    (subst (λ (k : ℤ). TellsDifference c.args.nodes.now c.in-Some.sides (row k (monomials c.args.parts.now)) c.is_difference.result) (to_z-of_z w128 c.args.constant c.ranges.constant) c.is_difference.ensures.exact)
    (row_fits c.args.constant (monomials c.args.parts.now) c.ranges.constant c.read.ensures)

pub returns-in-None-clause-is : goal.returns-in-None-clause-is
returns-in-None-clause-is c =
    answers_none c.args.nodes.now c.args.sign c.args.n c.args.forward (row c.args.constant (monomials c.args.parts.now)) (Literal (pos 0)) c.requires.0 c.in-None.ensures.shows
