use Rattle.std.proofs.Common.{map, ap}
use Rattle.sv_cert.specs.PlainNodes.{plain_kind, plain_part}
use Rattle.sv_log_shape.proofs.Logged.{told}
use Rattle.sv_log_shape.proofs.shape.log_shape.Goals as goal

pub returns-in-Some-clause-shape : goal.returns-in-Some-clause-shape
returns-in-Some-clause-shape c =
    told (plain_kind c.args.node.now.kind) (map plain_part c.args.node.now.parts) (map plain_part c.as_slice-parts.result.now) c.flag-flag.result c.number-number.result c.in-Some.sort
    c.sort.new.room.cells c.held.result (ap (map plain_part) c.as_slice-parts.ensures) c.flag-flag.ensures c.number-number.ensures c.in-Some.ensures.sort c.args.node.now.suited c.held.ensures
