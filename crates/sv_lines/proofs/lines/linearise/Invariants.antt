use Rattle.std.proofs.Common.{◌≡◌, length}
use Rattle.sv_lines.specs.Lines.{Orders}
use Rattle.sv_lines.proofs.lines.linearise.Given as goal

abbrev pub invariant-loop-own : goal.invariant-loop-own
invariant-loop-own l = (l.c ≡ l.own-index) × (length l.orders ≡ l.own-index) × Orders l.bases l.orders
