use Rattle.std.proofs.Common.{◌∙◌, ap, map}
use Rattle.sv_log.specs.LogEntries.{terms_among}
use Rattle.sv_cert.specs.PlainNodes.{plain_part}
use Rattle.sv_cert.specs.PlainLogs.{plain_node}
use Rattle.sv_new_term.proofs.Offering.{offered_from}
use Rattle.sv_new_term.proofs.entry.offered.Goals as goal

pub returns-in-Some-clause-offer : goal.returns-in-Some-clause-offer
returns-in-Some-clause-offer c =
    offered_from c.args.room.now c.log_shape.new.room (plain_node c.args.node.now) c.in-Some.shape c.as_slice-in-Some.result.now c.in-Some.ensures.grows c.in-Some.ensures.shape
    (c.as_slice-in-Some.ensures.value ∙ (c.gather.ensures.items ∙ ap (λ ps. terms_among (map plain_part ps)) c.as_slice.ensures)) c.offer_node.new.room c.offer_node.result c.offer_node.ensures
