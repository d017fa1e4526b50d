use Rattle.std.proofs.Common.{arith}
use Rattle.sv_plain.proofs.ExprViews.{parts}
use Rattle.sv_annotation.proofs.openings.is_call.Goals as goal

pub returns-in-Call : goal.returns-in-Call
returns-in-Call c = grind (arith, parts)

pub returns-in-Index : goal.returns-in-Index
returns-in-Index c = grind (arith, parts)

pub returns-in-Member : goal.returns-in-Member
returns-in-Member c = grind (arith, parts)

pub returns-in-Value : goal.returns-in-Value
returns-in-Value c = grind (arith, parts)

pub returns-in-Increment : goal.returns-in-Increment
returns-in-Increment c = grind (arith, parts)

pub returns-in-Decrement : goal.returns-in-Decrement
returns-in-Decrement c = grind (arith, parts)
