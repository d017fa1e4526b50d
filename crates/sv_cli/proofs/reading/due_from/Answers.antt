use Rattle.std.proofs.Common.{ℕ, List, subst}
use Rattle.sv_cli.specs.Due.{IsDue}
use Rattle.sv_cli.proofs.TextLimit.{due_from_read}
use Rattle.sv_cli.proofs.reading.due_from.Goals as goal

pub returns-in-Ok-clause-due : goal.returns-in-Ok-clause-due
returns-in-Ok-clause-due g c =
    due_from_read _ _ _ _ _ _ c.requires c.in_ok-text.ensures.bytes
    (subst (λ (t : List ℕ). IsDue t c.in-Ok.due.0.items c.in-Ok.due.1) c.deref.ensures.value c.in-Ok.ensures)
