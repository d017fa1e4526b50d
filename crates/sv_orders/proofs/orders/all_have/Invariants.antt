use Rattle.std.proofs.Common.{◌≡◌, drop}
use Rattle.sv_orders.specs.LineTables.{all_have}
use Rattle.sv_orders.proofs.orders.all_have.Given as goal

abbrev pub invariant-loop-b : goal.invariant-loop-b
invariant-loop-b l = all_have l.orders (drop l.b-index l.bases) ≡ all_have l.orders l.bases
