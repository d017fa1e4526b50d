use Rattle.std.proofs.Common.{◌≡◌, ◌++◌, drop, map, reverse}
use Rattle.sv_lines.proofs.lines.all_reversed.Given as goal

abbrev pub invariant-loop-order : goal.invariant-loop-order
invariant-loop-order l = l.out ++ map reverse (drop l.order-index l.orders) ≡ map reverse l.orders
