-- The bytes before the index lead to the state.
use Rattle.std.proofs.Common.{◌≡◌, Some, take, drop}
use Rattle.sv_lex.specs.declared.string.State.TheVariants.{Plain}
use Rattle.sv_lex.proofs.StringLemmas.{runs}
use Rattle.sv_lex.proofs.string.string_end.Given as goal

abbrev pub invariant-loop-i : goal.invariant-loop-i
invariant-loop-i l = runs l.quote (take l.i (drop 1 l.text)) Plain ≡ Some l.state
