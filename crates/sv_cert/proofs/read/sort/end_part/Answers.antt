use Rattle.sv_cert.proofs.SortReaders.{part_ends}
use Rattle.sv_cert.proofs.read.sort.end_part.Goals as goal

pub returns-in_ok-push-3 : goal.returns-in_ok-push-3
returns-in_ok-push-3 c = rw (c.in_ok-push-3.ensures.ok, c.in_ok-push-2.ensures.ok) (part_ends c.args.brackets.now c.args.parts c.args.sort c.args.byte c.if-byte-eq44.true)
