use Rattle.std.proofs.Common.{[]}
use Rattle.sv_first_form.proofs.ActParts.{end_is_no_plus, equation_precedes}
use Rattle.sv_first_form.proofs.Sequences.{both_first}
use Rattle.sv_first_form.proofs.SumParts.{exact_precedes}
use Rattle.sv_first_form.proofs.WholeParts.{note_first}
use Rattle.sv_lex.specs.declared.tok.Tok.TheVariants.{End}
use Rattle.sv_first_form.proofs.parse.note.note.Goals as goal

pub returns : goal.returns
returns c =
    note_first _ (both_first (exact_precedes _ _) c.in_ok-expect.ensures (both_first (equation_precedes _ End [] end_is_no_plus) c.in_ok-equation.ensures c.in_ok-expect-2.ensures))
