use Rattle.sv_read.proofs.Exits.{left_by}
use Rattle.sv_read.proofs.Reading.{gives_seq, fails_seq, fails_late}
use Rattle.sv_read.proofs.Nesting.{may_first, may_second}
use Rattle.sv_read.proofs.parts.Tuple2Parse.parse.Goals as goal

pub returns-in_err-first : goal.returns-in_err-first
returns-in_err-first g c = left_by _ _ _ _ _ _ c.from_residual.ensures (fails_seq c.in_err-first.ensures)

pub returns-in_err-second : goal.returns-in_err-second
returns-in_err-second g c = left_by _ _ _ _ _ _ c.from_residual-in_err-second.ensures (fails_late c.in_ok-first.ensures c.in_err-second.ensures)

pub returns : goal.returns
returns g c = gives_seq c.in_ok-first.ensures c.in_ok-second.ensures

pub parse-requires : goal.parse-requires
parse-requires g c = may_first _ _ c.requires

pub parse-requires-2 : goal.parse-requires-2
parse-requires-2 g c = may_second _ _ c.requires c.in_ok-first.ensures
