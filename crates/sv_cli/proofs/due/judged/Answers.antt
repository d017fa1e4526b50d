use Rattle.std.proofs.Common.{length, ap, ◌∙◌}
use Rattle.sv_cli.proofs.DueText.{two_more}
use Rattle.sv_cli.proofs.due.judged.Goals as goal

pub report-requires : goal.report-requires
report-requires c = ap length c.deref.ensures.value ∙ two_more c.args.contract.now c.in_ok-verdicts.verdicts.items c.in_ok-verdicts.ensures
