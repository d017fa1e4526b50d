use Rattle.std.proofs.Common.{ℕ, ◌+◌, Option, Some, None, List, length}
use Rattle.std.specs.Option.{option_copied}
use Rattle.sv_lex.specs.Collecting.{AddsLinesSoFar}
use Rattle.sv_lex.proofs.lexer.add_lines.Given as goal

-- how much is left
abbrev pub left : Option (List ℕ) → ℕ
left None = 0
left (Some rest) = length rest + 1

abbrev pub invariant-loop-rest : goal.invariant-loop-rest
invariant-loop-rest l = AddsLinesSoFar l.is_starred l.at l.text l.fn.collector l.collector (option_copied l.rest)

abbrev pub decreases-loop-rest : goal.decreases-loop-rest
decreases-loop-rest l = left (option_copied l.rest)
