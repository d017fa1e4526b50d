use Rattle.std.proofs.Common.{◌≡◌, ◌++◌, drop}
use Rattle.std.specs.List.{filter_map}
use Rattle.sv_decl.proofs.gather.gather.Given as goal

abbrev pub invariant-loop-node : goal.invariant-loop-node
invariant-loop-node g l = l.rows ++ filter_map g.T.Declares.declared (drop l.node-index l.list) ≡ filter_map g.T.Declares.declared l.list
