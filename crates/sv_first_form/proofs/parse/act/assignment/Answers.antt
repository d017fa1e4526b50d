use Rattle.std.proofs.Common.{codes}
use Rattle.sv_first_form.proofs.ActParts.{semicolon_is_no_plus, assignment_first, value_precedes}
use Rattle.sv_first_form.proofs.Sequences.{both_first}
use Rattle.sv_first_form.proofs.SumParts.{exact_precedes, variable_precedes}
use Rattle.sv_lex.specs.declared.tok.Tok.TheVariants.{Punct}
use Rattle.sv_first_form.proofs.parse.act.assignment.Goals as goal

pub returns : goal.returns
returns c =
    assignment_first _ (both_first (variable_precedes _ _) c.in_ok-target.ensures (both_first (exact_precedes _ _) c.in_ok-expect.ensures
    (both_first (value_precedes _ Punct (codes ";") semicolon_is_no_plus) c.in_ok-value.ensures c.in_ok-expect-2.ensures)))
