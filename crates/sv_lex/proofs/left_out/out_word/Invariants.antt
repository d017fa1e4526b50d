use Rattle.std.proofs.Common.{map, take}
use Rattle.sv_lex.specs.Lexing.{shown}
use Rattle.sv_lex.specs.Limits.{HasNo, IsOut}
use Rattle.sv_lex.proofs.left_out.out_word.Given as goal

abbrev pub invariant-loop-token : goal.invariant-loop-token
invariant-loop-token l = HasNo IsOut (map shown (take l.token-index l.token-items))
