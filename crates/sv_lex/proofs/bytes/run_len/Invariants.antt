-- The bytes before the index are of the class.
use Rattle.std.proofs.Common.{take}
use Rattle.std.specs.List.{AllPass}
use Rattle.sv_lex.specs.ByteTests.{is_of}
use Rattle.sv_lex.proofs.bytes.run_len.Given as goal

abbrev pub invariant-loop-i : goal.invariant-loop-i
invariant-loop-i l = AllPass (is_of l.class) (take l.i l.text)
