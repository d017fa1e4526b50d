use Rattle.std.proofs.Common.{arith}
use Rattle.std.proofs.lemmas.Grind.{common_steps}
use Rattle.sv_plain.proofs.ExprViews.{parts}
use Rattle.sv_form_rules.proofs.nodes.+is_literal.Goals as goal

pub is_literal-requires : goal.is_literal-requires
is_literal-requires t c = grind (arith, common_steps, parts)

pub returns-in-Number : goal.returns-in-Number
returns-in-Number t c = grind (arith, common_steps, parts)

pub returns-in-Hexadecimal : goal.returns-in-Hexadecimal
returns-in-Hexadecimal t c = grind (arith, common_steps, parts)

pub returns-in-Text : goal.returns-in-Text
returns-in-Text t c = grind (arith, common_steps, parts)

pub returns-in-Truth : goal.returns-in-Truth
returns-in-Truth t c = grind (arith, common_steps, parts)

pub returns-in-Paren : goal.returns-in-Paren
returns-in-Paren t c = grind (arith, common_steps, parts)

pub returns-in_default : goal.returns-in_default
returns-in_default t c = grind (arith, common_steps, parts)
