use Rattle.sv_cert.proofs.SortReaders.{none_ends, array_ends, array_goes_on, tuple_ends}
use Rattle.sv_cert.proofs.read.sort.end.Goals as goal

pub returns-in-None : goal.returns-in-None
returns-in-None c = none_ends c.args.brackets.now c.args.sort c.args.byte c.in-None.ensures.0

pub returns-in_ok-new-in-Some-Array : goal.returns-in_ok-new-in-Some-Array
returns-in_ok-new-in-Some-Array c =
    array_ends c.args.brackets.now c.pop.new.self c.args.sort c.in_ok-new-in-Some-Array.field-0 c.args.byte (rw c.in-Some-Array.field-0-is at c.in-Some-Array.ensures) c.if-byte-eq93.true c.in_ok-new-in-Some-Array.ensures

pub returns-else-byte-eq93 : goal.returns-else-byte-eq93
returns-else-byte-eq93 c = array_goes_on c.args.brackets.now c.pop.new.self c.args.sort c.args.byte (rw c.in-Some-Array.field-0-is at c.in-Some-Array.ensures) c.if-byte-eq93.false

pub returns-in-Some-Tuple : goal.returns-in-Some-Tuple
returns-in-Some-Tuple c =
    tuple_ends c.args.brackets.now c.pop.new.self c.end_part.new.brackets c.in-Some-Tuple.parts c.args.sort c.args.byte c.end_part.result (rw c.in-Some-Tuple.field-0-is at c.in-Some-Tuple.ensures) c.end_part.ensures
