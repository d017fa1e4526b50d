-- How far the digits before the index go.
use Rattle.sv_lex.specs.ByteTests.{is_of}
use Rattle.sv_lex.proofs.NumberLemmas.{ReadsGroup}
use Rattle.sv_lex.proofs.number.group_len.Given as goal

abbrev pub invariant-loop-i : goal.invariant-loop-i
invariant-loop-i l = ReadsGroup (is_of l.digit) l.text l.i l.len
