use Rattle.sv_cert.proofs.SortReaders.{tuple_begins}
use Rattle.sv_cert.proofs.read.sort.begun.Goals as goal

pub returns : goal.returns
returns c = tuple_begins c.args.brackets.now c.push.new.self c.begin.new.brackets c.new-2.result c.args.byte c.begin.result c.if-byte-eq41.false c.in_ok-push.ensures.ok c.new-2.ensures c.begin.ensures
