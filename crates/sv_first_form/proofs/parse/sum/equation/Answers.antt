use Rattle.std.proofs.Common.{codes}
use Rattle.sv_first_form.proofs.ActParts.{equals_is_no_plus}
use Rattle.sv_first_form.proofs.Sequences.{both_first}
use Rattle.sv_first_form.proofs.SumParts.{equation_first, exact_precedes, side_precedes}
use Rattle.sv_lex.specs.declared.tok.Tok.TheVariants.{Punct}
use Rattle.sv_first_form.proofs.parse.sum.equation.Goals as goal

pub returns : goal.returns
returns c =
    equation_first _ (both_first (side_precedes _ Punct (codes "==") _ equals_is_no_plus) c.in_ok-left.ensures
    (both_first (exact_precedes _ _) c.in_ok-expect.ensures c.in_ok-right.ensures))
