use Rattle.std.proofs.Common.{◌^◌, ◌∙◌, sym}
use Rattle.sv_cert.proofs.Numerals.{numeral_unplain, numeral_no_text}
use Rattle.sv_cert.proofs.Readers.{parsed_is}
use Rattle.sv_cert.proofs.read.numbers.numeral.Goals as goal

pub returns-then-not-starts_plainly : goal.returns-then-not-starts_plainly
returns-then-not-starts_plainly c = sym (numeral_unplain (2 ^ 128) c.args.word.now (sym c.starts_plainly.ensures ∙ c.if-not-starts_plainly.true))

pub returns-in-Ok : goal.returns-in-Ok
returns-in-Ok c =
    c.ok.ensures.value ∙ parsed_is c.args.word.now c.in-Ok.digits.now c.parse.result c.in-Ok.ensures.cases.0 (sym c.starts_plainly.ensures ∙ c.if-not-starts_plainly.false) c.parse.ensures.value.0

pub returns-in-Err : goal.returns-in-Err
returns-in-Err c = sym (numeral_no_text (2 ^ 128) c.args.word.now c.in-Err.ensures.cases.0)
