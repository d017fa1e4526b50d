use Rattle.std.proofs.Common.{◌≡◌, length, map}
use Rattle.sv_orders.specs.LineTables.{or_empty, AreOrders}
use Rattle.sv_orders.proofs.orders.each_line.Given as goal

abbrev pub invariant-loop-own : goal.invariant-loop-own
invariant-loop-own l = (l.c ≡ l.own-index) × (length l.orders ≡ l.own-index) × (l.known ≡ map or_empty l.orders) × AreOrders l.bases l.orders
