use Rattle.std.proofs.Common.{◌≡◌, ◌+◌, ◌≤◌, length, drop, map}
use Rattle.sv_log.specs.LogEntries.{terms_among}
use Rattle.sv_cert.specs.PlainNodes.{plain_part}
use Rattle.sv_node_room.proofs.count.term_count.Given as goal

-- those so far
abbrev pub invariant-loop-part : goal.invariant-loop-part
invariant-loop-part l = (length (terms_among (map plain_part l.node.parts)) ≡ l.count + length (terms_among (map plain_part (drop l.part-index l.node.parts))))
    × (l.count ≤ l.part-index)
