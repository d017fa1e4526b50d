use Rattle.std.proofs.Common.{arith}
use Rattle.std.proofs.lemmas.Result.{err_from_is_err_and}
use Rattle.sv_cert.proofs.Readers.{each_more, each_stops, each_ends, each_shorter, not_true}
use Rattle.sv_cert.proofs.read.words.take_all.Goals as goal

pub returns : goal.returns
returns g c = each_ends g.T.FromWord.reads c.args.words.now c.loop-values.words c.loop-values.values c.loop-values.invariant (c.is_empty.ensures.0 (grind arith))

pub loop-values-preserved : goal.loop-values-preserved
loop-values-preserved g c =
    rw c.in_ok-push.ensures.ok (each_more g.T.FromWord.reads c.args.words.now c.loop-values.words c.take.new.self c.loop-values.values c.in_ok-take.field-0 c.loop-values.invariant c.in_ok-take.ensures)

pub loop-values-smaller : goal.loop-values-smaller
loop-values-smaller g c = each_shorter g.T.FromWord.reads c.loop-values.words c.take.new.self c.in_ok-take.field-0 c.in_ok-take.ensures

pub returns-in_err-take : goal.returns-in_err-take
returns-in_err-take g c =
    let p = err_from_is_err_and c.from_residual.result c.from_residual.ensures.1 in
    rw (p.1, p.2) (each_stops g.T.FromWord.reads c.args.words.now c.loop-values.words c.take.new.self c.loop-values.values _ c.loop-values.invariant (λ e. not_true c.is_empty.result c.loop-values-test.true (c.is_empty.ensures.1 e)) c.in_err-take.ensures)
