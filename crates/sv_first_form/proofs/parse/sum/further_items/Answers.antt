use Rattle.std.proofs.Common.{arith}
use Rattle.std.proofs.lemmas.Bool.{iff_false}
use Rattle.std.proofs.lemmas.Result.{err_from_is_err_and}
use Rattle.sv_first_form.proofs.Repeats.{goes, ends, fails, smaller}
use Rattle.sv_first_form.proofs.Sequences.{at_most_first, at_most_over, at_most_fails}
use Rattle.sv_first_form.proofs.SumParts.{further_goes_on}
use Rattle.sv_first_form.proofs.parse.sum.further_items.Goals as goal

pub returns-in_err-item : goal.returns-in_err-item
returns-in_err-item c =
    let fault = at_most_fails 3 (fails (further_goes_on _) c.items.invariant (λ stops. stops (c.sees.ensures.0 c.items-test.true)) c.in_err-item.ensures) in
    let e = err_from_is_err_and c.from_residual.result c.from_residual.ensures.1 in
    rw (e.1, e.2) fault

pub items-smaller : goal.items-smaller
items-smaller c = smaller (further_goes_on _) c.in_ok-item.ensures

pub items-preserved : goal.items-preserved
items-preserved c =
    rw c.in_ok-push.ensures.ok (goes (further_goes_on _) c.items.invariant (λ stops. stops (c.sees.ensures.0 c.items-test.true)) c.in_ok-item.ensures)

pub returns-then-len-gt3 : goal.returns-then-len-gt3
returns-then-len-gt3 c =
    at_most_over 3 (omega arith) (ends (further_goes_on _) c.items.invariant (iff_false c.sees.ensures c.items-test.false))

pub returns : goal.returns
returns c =
    at_most_first 3 (omega arith) (ends (further_goes_on _) c.items.invariant (iff_false c.sees.ensures c.items-test.false))
