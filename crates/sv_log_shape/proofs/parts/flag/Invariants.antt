use Rattle.std.proofs.Common.{◌≡◌, drop, map}
use Rattle.sv_log.specs.LogEntries.{flag_among}
use Rattle.sv_cert.specs.PlainNodes.{plain_part}
use Rattle.sv_log_shape.proofs.parts.flag.Given as goal

-- none so far
abbrev pub invariant-loop-part : goal.invariant-loop-part
invariant-loop-part l = flag_among (map plain_part l.parts) ≡ flag_among (map plain_part (drop l.part-index l.parts))
