use Rattle.std.proofs.lemmas.Bool.Decides.{Decides-ltb}
use Rattle.sv_lin_cases.proofs.NormalRowTests.{nothing_above, next_above}
use Rattle.sv_lin_cases.proofs.check.is_before.Goals as goal

pub returns-in-None : goal.returns-in-None
returns-in-None c t r = nothing_above c.args.column c.args.parts.now c.in-None.ensures.cases

pub returns-in-Some : goal.returns-in-Some
returns-in-Some c t r = next_above c.args.column c.in-Some.field-0-0.now c.args.parts.now c.in-Some.field-0-1.now c.in-Some.ensures.cases.0 ((Decides-ltb c.args.column c.in-Some.field-0-0.now.1).0 t) r
