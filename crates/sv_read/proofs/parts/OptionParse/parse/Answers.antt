use Rattle.std.proofs.Common.{sym, ◌∙◌}
use Rattle.sv_read.proofs.Exits.{left_by}
use Rattle.sv_read.proofs.Reading.{gives_none, gives_some, fails_some}
use Rattle.sv_read.proofs.parts.OptionParse.parse.Goals as goal

pub returns-in_err-parse : goal.returns-in_err-parse
returns-in_err-parse g c = left_by _ _ _ _ _ _ c.from_residual.ensures (fails_some (sym c.begins.ensures ∙ c.if-begins.true) c.in_err-parse.ensures)

pub returns-in_ok-parse : goal.returns-in_ok-parse
returns-in_ok-parse g c = gives_some (sym c.begins.ensures ∙ c.if-begins.true) c.in_ok-parse.ensures

pub returns-else-begins : goal.returns-else-begins
returns-else-begins g c = gives_none (sym c.begins.ensures ∙ c.if-begins.false)

pub parse-requires : goal.parse-requires
parse-requires g c = c.requires
