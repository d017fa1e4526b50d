use Rattle.std.proofs.Common.{◌∙◌, ◌^◌, lit≤}
use Rattle.sv_cert.proofs.Readers.{small_is, none_is}
use Rattle.sv_cert.proofs.read.words.U16FromWord.from_word.Goals as goal

pub returns-in-Some : goal.returns-in-Some
returns-in-Some c = c.ok.ensures.value ∙ small_is (2 ^ 16) c.args.word.now c.in-Some.n c.try_from.result c.in-Some.ensures c.try_from.ensures

pub returns-in-None : goal.returns-in-None
returns-in-None c = none_is (2 ^ 16) c.args.word.now (lit≤ tt) c.in-None.ensures
