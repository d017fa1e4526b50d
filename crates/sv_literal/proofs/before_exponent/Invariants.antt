use Rattle.std.proofs.Common.{◌≡◌, ◌+◌, drop}
use Rattle.sv_literal.specs.Literals.{before_exponent}
use Rattle.sv_literal.proofs.before_exponent.Given as goal

abbrev pub invariant-loop-b : goal.invariant-loop-b
invariant-loop-b l = (l.count ≡ l.b-index) × (l.count + before_exponent (drop l.b-index l.text) ≡ before_exponent l.text)
