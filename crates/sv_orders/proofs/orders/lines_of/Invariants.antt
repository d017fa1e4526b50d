use Rattle.std.proofs.Common.{◌≡◌, ◌++◌, drop, map, reverse}
use Rattle.std.specs.Option.{option_map}
use Rattle.sv_orders.proofs.orders.lines_of.Given as goal

abbrev pub invariant-loop-order : goal.invariant-loop-order
invariant-loop-order l = l.out ++ map (option_map reverse) (drop l.order-index l.orders) ≡ map (option_map reverse) l.orders
