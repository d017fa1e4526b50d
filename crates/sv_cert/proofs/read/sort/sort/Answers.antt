use Rattle.std.proofs.Common.{refl}
use Rattle.std.proofs.lemmas.Result.{err_from_is_err_and}
use Rattle.sv_cert.proofs.Readers.{not_true}
use Rattle.sv_cert.proofs.SortReaders.{too_long, sort_begins, sort_more, sort_stops, sort_ends, sort_is_open}
use Rattle.sv_cert.proofs.read.sort.sort.Goals as goal

pub returns-then-word-gt10000 : goal.returns-then-word-gt10000
returns-then-word-gt10000 c = too_long c.args.word.now c.if-word-gt10000.true

pub loop-byte-init : goal.loop-byte-init
loop-byte-init c = sort_begins c.args.word.now c.new-brackets.result c.if-word-gt10000.false c.new-brackets.ensures

pub loop-byte-preserved : goal.loop-byte-preserved
loop-byte-preserved c =
    sort_more c.args.word.now c.loop-byte.byte-index _ c.loop-byte.brackets c.step.new.brackets c.loop-byte.reading c.in_ok-reading.reading c.loop-byte.invariant c.loop-byte-test.true refl c.in_ok-reading.ensures

pub returns-in_err-reading : goal.returns-in_err-reading
returns-in_err-reading c =
    let p = err_from_is_err_and c.from_residual.result c.from_residual.ensures.1 in
    rw (p.1, p.2) (sort_stops c.args.word.now c.loop-byte.byte-index _ c.loop-byte.brackets c.step.new.brackets c.loop-byte.reading _ c.loop-byte.invariant c.loop-byte-test.true refl c.in_err-reading.ensures)

pub returns-then-is_empty : goal.returns-then-is_empty
returns-then-is_empty c =
    sort_ends c.args.word.now c.loop-byte.byte-index c.loop-byte.brackets c.loop-byte.reading c.whole.result c.loop-byte.invariant c.loop-byte-test.false (c.is_empty.ensures.0 c.if-is_empty.true) c.whole.ensures

pub returns : goal.returns
returns c = sort_is_open c.args.word.now c.loop-byte.byte-index c.loop-byte.brackets c.loop-byte.reading c.loop-byte.invariant c.loop-byte-test.false (λ e. not_true c.is_empty.result c.if-is_empty.false (c.is_empty.ensures.1 e))
