use Rattle.std.proofs.Common.{map, take}
use Rattle.sv_lex.specs.Lexing.{shown}
use Rattle.sv_lex.specs.NestingFound.{IsShallow}
use Rattle.sv_lex.proofs.nesting.deep.Given as goal

abbrev pub invariant-loop-token : goal.invariant-loop-token
invariant-loop-token l = IsShallow (map shown (take l.token-index l.token-items)) l.open l.in_a_row
