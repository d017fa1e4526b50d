-- The rules by which a function that reads a part is proved from the parts that it reads.
use Rattle.sv_first_form.proofs.ActParts.{value_precedes, equation_precedes, equation_precedes_both, assignment_first, assignment_fails, requirement_first, requirement_fails}
use Rattle.sv_first_form.proofs.Leaves.{variable_first, variable_unknown, variable_fails, number_first, number_unknown, number_fails}
use Rattle.sv_first_form.proofs.Sequences.{both_first, both_fails, both_fails_late, at_most_first, at_most_fails, at_most_over, fails_memory}
use Rattle.sv_first_form.proofs.SumParts.{exact_precedes, text_precedes, variable_precedes, side_precedes, variable_item_first, variable_item_fails, number_item_first, number_item_fails, further_first, further_fails, side_first, side_fails, side_value_first, side_value_fails, number_value_first, number_value_fails, equation_first, equation_fails}
use Rattle.sv_first_form.proofs.Whole.{functions_precede, body_first, body_fails}
use Rattle.sv_first_form.proofs.WholeParts.{note_first, note_fails, declaration_first, declaration_fails, header_first, header_fails, function_first, function_fails, acts_precede}

pub ruleset reading = (both_first, both_fails, both_fails_late, at_most_first, at_most_fails, at_most_over, fails_memory, exact_precedes, text_precedes, variable_precedes, side_precedes, variable_first, variable_unknown, variable_fails, number_first, number_unknown, number_fails, variable_item_first, variable_item_fails, number_item_first, number_item_fails, further_first, further_fails, side_first, side_fails, side_value_first, side_value_fails, number_value_first, number_value_fails, equation_first, equation_fails)

-- of statements, functions, notes and headers
pub ruleset act_reading = (both_first, both_fails, both_fails_late, at_most_first, at_most_fails, at_most_over, fails_memory, exact_precedes, variable_precedes, value_precedes, equation_precedes_both, assignment_first, assignment_fails, requirement_first, requirement_fails)

pub ruleset function_reading = (both_first, both_fails, both_fails_late, fails_memory, exact_precedes, text_precedes, acts_precede, function_first, function_fails, functions_precede, body_first, body_fails)

pub ruleset note_reading = (both_first, both_fails, both_fails_late, fails_memory, exact_precedes, equation_precedes, note_first, note_fails)

pub ruleset header_reading = (both_first, both_fails, both_fails_late, fails_memory, exact_precedes, text_precedes, declaration_first, declaration_fails, header_first, header_fails)
