use Rattle.std.proofs.Common.{codes}
use Rattle.sv_first_form.proofs.ActParts.{bracket_is_no_plus, requirement_first, equation_precedes_both}
use Rattle.sv_first_form.proofs.Sequences.{both_first}
use Rattle.sv_first_form.proofs.SumParts.{exact_precedes}
use Rattle.sv_lex.specs.declared.tok.Tok.TheVariants.{Punct}
use Rattle.sv_first_form.proofs.parse.act.requirement.Goals as goal

pub returns : goal.returns
returns c =
    requirement_first _ (both_first (exact_precedes _ _) c.in_ok-expect.ensures (both_first (exact_precedes _ _) c.in_ok-expect-2.ensures
    (both_first (equation_precedes_both _ Punct (codes ")") _ bracket_is_no_plus) c.in_ok-equation.ensures (both_first (exact_precedes _ _) c.in_ok-expect-3.ensures c.in_ok-expect-4.ensures))))
