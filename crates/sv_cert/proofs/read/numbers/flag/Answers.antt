use Rattle.std.proofs.Common.{◌∙◌}
use Rattle.sv_cert.proofs.Readers.{flag_is_choice}
use Rattle.sv_cert.proofs.read.numbers.flag.Goals as goal

pub returns : goal.returns
returns c = c.choice.ensures ∙ flag_is_choice c.args.word.now
