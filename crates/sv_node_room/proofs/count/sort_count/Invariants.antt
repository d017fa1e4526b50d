use Rattle.std.proofs.Common.{◌≡◌, drop, map}
use Rattle.sv_cert.specs.PlainNodes.{plain_part}
use Rattle.sv_log_shape.specs.LoggedShapes.{cells_in}
use Rattle.sv_node_room.proofs.count.sort_count.Given as goal

-- none so far
abbrev pub invariant-loop-part : goal.invariant-loop-part
invariant-loop-part l = cells_in (map plain_part l.node.parts) ≡ cells_in (map plain_part (drop l.part-index l.node.parts))
