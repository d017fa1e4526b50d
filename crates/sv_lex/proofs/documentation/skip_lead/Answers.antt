use Rattle.std.proofs.Common.{sym, subst}
use Rattle.sv_lex.specs.Annotations.{IsLeadOf}
use Rattle.sv_lex.proofs.NoteLemmas.{lead_of_blanks, lead_of_runs}
use Rattle.sv_lex.proofs.documentation.skip_lead.Goals as goal

pub returns-then-not-is_starred : goal.returns-then-not-is_starred
returns-then-not-is_starred c =
    let run = c.split_run in
    subst (λ starred. IsLeadOf starred c.args.line.now run.result.1.now) (sym c.if-not-is_starred.true)
    (lead_of_blanks c.args.line.now run.result.0.now run.result.1.now run.ensures.spelled run.ensures.run run.ensures.stop)

pub returns : goal.returns
returns c =
    let one = c.split_run in
    let two = c.split_run-2 in
    let three = c.split_run-3 in
    subst (λ starred. IsLeadOf starred c.args.line.now three.result.1.now) (sym c.if-not-is_starred.false)
    (lead_of_runs c.args.line.now one.result.0.now two.result.0.now three.result.0.now one.result.1.now two.result.1.now three.result.1.now
    one.ensures.spelled two.ensures.spelled three.ensures.spelled one.ensures.run two.ensures.run three.ensures.run one.ensures.stop two.ensures.stop three.ensures.stop)
