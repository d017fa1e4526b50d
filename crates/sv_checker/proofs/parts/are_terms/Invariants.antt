use Rattle.std.proofs.Common.{◌↔◌, ◌<◌, drop, map}
use Rattle.std.specs.List.{All}
use Rattle.sv_log.specs.LogEntries.{terms_among}
use Rattle.sv_cert.specs.PlainNodes.{plain_part}
use Rattle.sv_checker.proofs.parts.are_terms.Given as goal

-- those before are there
abbrev pub invariant-loop-part : goal.invariant-loop-part
invariant-loop-part l = All (λ n. n < l.terms) (terms_among (map plain_part (drop l.part-index l.parts))) ↔ All (λ n. n < l.terms) (terms_among (map plain_part l.parts))
