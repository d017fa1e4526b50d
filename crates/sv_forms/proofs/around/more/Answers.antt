use Rattle.std.proofs.Common.{arith, rules}
use Rattle.std.proofs.lemmas.Grind.{common_steps}
use Rattle.sv_forms.proofs.around.more.Goals as goal

pub overflow_add-result : goal.overflow_add-result
overflow_add-result c = first_of (grind (arith, common_steps), search rules)

pub returns-then-n-lt18446744073709551615 : goal.returns-then-n-lt18446744073709551615
returns-then-n-lt18446744073709551615 c = first_of (grind (arith, common_steps), search rules)

pub returns-else-n-lt18446744073709551615 : goal.returns-else-n-lt18446744073709551615
returns-else-n-lt18446744073709551615 c = first_of (grind (arith, common_steps), search rules)
