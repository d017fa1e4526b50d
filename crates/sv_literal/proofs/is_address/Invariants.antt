use Rattle.std.proofs.Common.{◌≡◌, ◌≤◌, ◌+◌, drop, count_by}
use Rattle.sv_literal.specs.Literals.{is_digit, hexadecimal_digits}
use Rattle.sv_literal.proofs.is_address.Given as goal

abbrev pub invariant-loop-b : goal.invariant-loop-b
invariant-loop-b l = (l.count ≤ l.b-index) × (l.count + count_by is_digit (drop l.b-index l.b-items) ≡ count_by is_digit (hexadecimal_digits l.text))
