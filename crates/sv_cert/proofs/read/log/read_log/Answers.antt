use Rattle.std.proofs.Common.{subst, arith}
use Rattle.std.specs.Option.{option_copied}
use Rattle.sv_cert.specs.LogSteps.{IsCut}
use Rattle.sv_cert.proofs.LogReaders.{read_begins, read_more, no_entry}
use Rattle.sv_cert.proofs.read.log.read_log.Goals as goal

pub loop-rest-init : goal.loop-rest-init
loop-rest-init c = read_begins c.args.text.now c.args.first c.new-entries.result c.new-entries.ensures

pub loop-rest-preserved : goal.loop-rest-preserved
loop-rest-preserved c =
    read_more c.args.text.now c.args.first c.loop-rest.number c.loop-rest.entries c.push.new.self c.loop-rest.rest.now c.cut.result.0.now c.in-Some.behind.now c.in-Ok.entry c.loop-rest.invariant
    (subst (λ o. IsCut 10 c.loop-rest.rest.now c.cut.result.0.now (option_copied o)) c.in-Some.is c.cut.ensures) c.in-Ok.ensures c.in_ok-push-in-Ok.ensures.ok

pub returns-in-Err-NoEntry : goal.returns-in-Err-NoEntry
returns-in-Err-NoEntry c =
    no_entry c.args.text.now c.args.first c.args.version c.loop-rest.number c.loop-rest.entries c.loop-rest.rest.now c.cut.result.0.now c.in-Some.behind.now (omega arith) c.loop-rest.invariant
    (subst (λ o. IsCut 10 c.loop-rest.rest.now c.cut.result.0.now (option_copied o)) c.in-Some.is c.cut.ensures) (rw c.in-Err-NoEntry.field-0-is at c.in-Err-NoEntry.ensures)
