use Rattle.sv_cert.proofs.SortReaders.{array_begins}
use Rattle.sv_cert.proofs.read.sort.begin.Goals as goal

pub returns-in_ok-push : goal.returns-in_ok-push
returns-in_ok-push c = rw c.in_ok-push.ensures.ok (array_begins c.args.brackets.now c.args.byte c.if-byte-eq91.true)
