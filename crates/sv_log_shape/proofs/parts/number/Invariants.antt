use Rattle.std.proofs.Common.{◌≡◌, drop, map}
use Rattle.sv_log.specs.LogEntries.{number_among}
use Rattle.sv_cert.specs.PlainNodes.{plain_part}
use Rattle.sv_log_shape.proofs.parts.number.Given as goal

-- none so far
abbrev pub invariant-loop-part : goal.invariant-loop-part
invariant-loop-part l = number_among (map plain_part l.parts) ≡ number_among (map plain_part (drop l.part-index l.parts))
