use Rattle.std.proofs.Common.{refl}
use Rattle.sv_cli.proofs.DueText.{reported}
use Rattle.sv_cli.specs.Due.{IsRefused}
use Rattle.sv_cli.specs.Due.IsDue.{IsError}
use Rattle.sv_cli.proofs.due.due.Goals as goal

pub returns-in-Ok : goal.returns-in-Ok
returns-in-Ok c = reported c.args.text.now c.in-Ok.contract c.judged.result c.in-Ok.ensures c.judged.ensures

pub returns-in_ok-error_line-in-Err-Refused : goal.returns-in_ok-error_line-in-Err-Refused
returns-in_ok-error_line-in-Err-Refused c =
    let refused : IsRefused c.args.text.now c.in-Err-Refused.refusal = rw c.in-Err-Refused.field-0-is at c.in-Err-Refused.ensures in
    IsError c.in-Err-Refused.refusal refused c.in_ok-error_line-in-Err-Refused.ensures refl
