use Rattle.std.proofs.Common.{◌≡◌, ◌<◌, ◌^◌, drop}
use Rattle.sv_literal.specs.Literals.{behind}
use Rattle.sv_literal.proofs.digits_value.Given as goal

abbrev pub invariant-loop-b : goal.invariant-loop-b
invariant-loop-b l = (behind l.base l.n (drop l.b-index l.text) ≡ behind l.base 0 l.text) × (l.n < 2 ^ 128)
