use Rattle.std.proofs.Common.{ℕ, ◌<◌, List, length, subst}
use Rattle.sv_io.specs.Moved.{IsWritten, IsCutShort}
use Rattle.sv_cli.proofs.HeadlineProof.{nothing_written, all_written, part_written}
use Rattle.sv_cli.proofs.TextLimit.{room_missing}
use Rattle.sv_cli.proofs.top.solsv.Goals as goal

pub returns-clause-complete : goal.returns-clause-complete
returns-clause-complete g c = λ listed sure text told within.
    absurd (room_missing _ _ c.in-Ok.due.0.items text c.in-Ok.due.1 (g.K.Sink.room c.args.sink.now) c.in-Ok.ensures.due told within
    (subst (λ (t : List ℕ). g.K.Sink.room c.args.sink.now < length t) c.deref.ensures.value c.in-Err.ensures.room))

pub returns-then-not-is_empty-clause-headline : goal.returns-then-not-is_empty-clause-headline
returns-then-not-is_empty-clause-headline g c = nothing_written _ _ (g.K.Sink.held c.args.sink.now)

pub returns-in-Err-Fault-clause-headline : goal.returns-in-Err-Fault-clause-headline
returns-in-Err-Fault-clause-headline g c = nothing_written _ _ (g.K.Sink.held c.args.sink.now)

pub returns-in-Err-NoMemory-clause-headline : goal.returns-in-Err-NoMemory-clause-headline
returns-in-Err-NoMemory-clause-headline g c = nothing_written _ _ (g.K.Sink.held c.args.sink.now)

pub returns-in-Ok-put_all-clause-headline : goal.returns-in-Ok-put_all-clause-headline
returns-in-Ok-put_all-clause-headline g c =
    all_written _ _ (g.K.Sink.held c.args.sink.now) (g.K.Sink.held c.put_all.new.sink) c.in-Ok.due.0.items c.in-Ok.due.1 c.in-Ok.ensures.due
    (subst (IsWritten (g.K.Sink.held c.args.sink.now) (g.K.Sink.held c.put_all.new.sink)) c.deref.ensures.value c.in-Ok-put_all.ensures.whole)

pub returns-clause-headline : goal.returns-clause-headline
returns-clause-headline g c =
    part_written _ _ (g.K.Sink.held c.args.sink.now) (g.K.Sink.held c.put_all.new.sink) c.in-Ok.due.0.items c.in-Ok.due.1 c.in-Ok.ensures.due
    (subst (IsCutShort (g.K.Sink.held c.args.sink.now) (g.K.Sink.held c.put_all.new.sink)) c.deref.ensures.value c.in-Err.ensures.cut)
