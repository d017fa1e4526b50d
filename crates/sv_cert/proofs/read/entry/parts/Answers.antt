use Rattle.std.proofs.Common.{arith}
use Rattle.std.proofs.lemmas.Result.{err_from_is_err_and}
use Rattle.sv_cert.proofs.NodeReaders.{row_pushed, row_ends, row_stops, column_stops, row_shorter}
use Rattle.sv_cert.proofs.Readers.{not_true, taken_fits}
use Rattle.sv_cert.proofs.read.entry.parts.Goals as goal

pub returns : goal.returns
returns c = row_ends c.args.words.now c.loop-words.words c.loop-words.parts c.loop-words.invariant (c.is_empty.ensures.0 (grind arith))

pub loop-words-preserved : goal.loop-words-preserved
loop-words-preserved c =
    row_pushed c.args.words.now c.loop-words.words _ _ c.loop-words.parts _ _ c.in_ok-factor.factor c.in_ok-column.column c.loop-words.invariant c.in_ok-factor.ensures c.in_ok-column.ensures
    c.in_ok-push.ensures.ok (taken_fits _ _ _ c.in_ok-factor.ensures)

pub loop-words-smaller : goal.loop-words-smaller
loop-words-smaller c = row_shorter c.loop-words.words _ _ c.in_ok-factor.factor c.in_ok-column.column c.in_ok-factor.ensures c.in_ok-column.ensures

pub returns-in_err-factor : goal.returns-in_err-factor
returns-in_err-factor c =
    let p = err_from_is_err_and c.from_residual.result c.from_residual.ensures.1 in
    rw (p.1, p.2) (row_stops c.args.words.now c.loop-words.words _ c.loop-words.parts _ c.loop-words.invariant (λ e. not_true c.is_empty.result c.loop-words-test.true (c.is_empty.ensures.1 e)) c.in_err-factor.ensures)

pub returns-in_err-column : goal.returns-in_err-column
returns-in_err-column c =
    let p = err_from_is_err_and c.from_residual-in_err-column.result c.from_residual-in_err-column.ensures.1 in
    rw (p.1, p.2) (column_stops c.args.words.now c.loop-words.words _ _ c.loop-words.parts c.in_ok-factor.factor _ c.loop-words.invariant c.in_ok-factor.ensures c.in_err-column.ensures)
