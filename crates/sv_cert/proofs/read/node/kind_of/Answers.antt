use Rattle.std.proofs.Common.{◌∙◌}
use Rattle.sv_cert.proofs.KindReaders.{kinds_are}
use Rattle.sv_cert.proofs.read.node.kind_of.Goals as goal

pub returns : goal.returns
returns c = c.kind_among.ensures ∙ kinds_are c.args.word.now
