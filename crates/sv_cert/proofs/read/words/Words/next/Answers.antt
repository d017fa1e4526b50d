use Rattle.std.proofs.Common.{◌∙◌, sym, ap}
use Rattle.std.specs.Option.{option_copied}
use Rattle.sv_cert.specs.LogSteps.{words_left}
use Rattle.sv_cert.proofs.Readers.{cut_words}
use Rattle.sv_cert.proofs.read.words.Words.next.Goals as goal

pub returns : goal.returns
returns c =
    sym c.self.view_is ∙ (ap (λ o. words_left (option_copied o)) c.in-Some.is ∙ cut_words c.in-Some.line.now c.cut.result.0.now (option_copied c.cut.result.1) c.cut.ensures)
