use Rattle.std.proofs.Common.{◌∙◌}
use Rattle.sv_cert.proofs.Readers.{sign_is_choice}
use Rattle.sv_cert.proofs.read.numbers.sign.Goals as goal

pub returns : goal.returns
returns c = c.choice.ensures ∙ sign_is_choice c.args.word.now
