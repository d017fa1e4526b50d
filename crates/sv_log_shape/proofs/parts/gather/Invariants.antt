use Rattle.std.proofs.Common.{◌≡◌, ◌++◌, ◌≤◌, drop, map}
use Rattle.std.specs.Prelude.{vec_capacity}
use Rattle.sv_log.specs.LogEntries.{terms_among}
use Rattle.sv_cert.specs.PlainNodes.{plain_part}
use Rattle.sv_log_shape.proofs.parts.gather.Given as goal

-- those so far, and the room
abbrev pub invariant-loop-part : goal.invariant-loop-part
invariant-loop-part l = (terms_among (map plain_part l.parts) ≡ l.list.items ++ terms_among (map plain_part (drop l.part-index l.parts)))
    × (vec_capacity l.fn.list ≤ vec_capacity l.list)
