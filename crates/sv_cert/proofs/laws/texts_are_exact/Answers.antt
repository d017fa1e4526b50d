use Rattle.sv_cert.proofs.LineTexts.{texts_are_exact}
use Rattle.sv_cert.proofs.laws.texts_are_exact.Goals as goal

pub returns : goal.returns
returns c = texts_are_exact
