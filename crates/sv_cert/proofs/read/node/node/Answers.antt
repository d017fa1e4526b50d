use Rattle.std.proofs.Common.{refl}
use Rattle.std.proofs.lemmas.Result.{err_from_is_err_and}
use Rattle.sv_cert.specs.PlainNodes.{plain_kind}
use Rattle.sv_cert.specs.PlainLogs.{plain_node}
use Rattle.sv_cert.proofs.Readers.{goes, goes_wrong, made, stops}
use Rattle.sv_cert.proofs.NodeReaders.{parts_read, node_wrong, node_suits}
use Rattle.sv_cert.proofs.read.node.node.Goals as goal

pub returns-in_err-kind : goal.returns-in_err-kind
returns-in_err-kind c =
    let p = err_from_is_err_and c.from_residual.result c.from_residual.ensures.1 in
    rw (p.1, p.2) (stops plain_node _ c.in_err-kind.ensures)

pub returns-in_err-add_parts : goal.returns-in_err-add_parts
returns-in_err-add_parts c =
    let p = err_from_is_err_and c.from_residual-in_err-add_parts.result c.from_residual-in_err-add_parts.ensures.1 in
    rw (p.1, p.2) (goes_wrong plain_node _ _ c.in_ok-kind.ensures (node_wrong (plain_kind c.in_ok-kind.kind) _ _ c.new-parts.result c.add_parts.new.parts _ c.slots.ensures c.in_err-add_parts.ensures))

pub invariant_of-result : goal.invariant_of-result
invariant_of-result c =
    let s = node_suits (plain_kind c.in_ok-kind.kind) _ c.add_parts.new.parts (parts_read (plain_kind c.in_ok-kind.kind) _ _ _ _ _ c.slots.ensures c.new-parts.ensures c.in_ok-add_parts.ensures) in
    record { suited = s.0; short = s.1 }

pub returns : goal.returns
returns c = goes _ c.in_ok-kind.ensures (made _ (parts_read (plain_kind c.in_ok-kind.kind) _ _ _ _ _ c.slots.ensures c.new-parts.ensures c.in_ok-add_parts.ensures) refl)
