use Rattle.std.proofs.Common.{sym, ◌∙◌}
use Rattle.sv_read.proofs.Exits.{left_by}
use Rattle.sv_read.proofs.Reading.{gives_left, gives_right, fails_left, fails_right}
use Rattle.sv_read.proofs.Nesting.{may_first}
use Rattle.sv_read.proofs.either.EitherParse.parse.Goals as goal

pub returns-in_err-parse : goal.returns-in_err-parse
returns-in_err-parse g c = left_by _ _ _ _ _ _ c.from_residual.ensures (fails_left (sym c.begins.ensures ∙ c.if-begins.true) c.in_err-parse.ensures)

pub returns-in_ok-parse : goal.returns-in_ok-parse
returns-in_ok-parse g c = gives_left (sym c.begins.ensures ∙ c.if-begins.true) c.in_ok-parse.ensures

pub returns-in_err-parse-2 : goal.returns-in_err-parse-2
returns-in_err-parse-2 g c = left_by _ _ _ _ _ _ c.from_residual-in_err-parse-2.ensures (fails_right (sym c.begins.ensures ∙ c.if-begins.false) c.in_err-parse-2.ensures)

pub returns-in_ok-parse-2 : goal.returns-in_ok-parse-2
returns-in_ok-parse-2 g c = gives_right (sym c.begins.ensures ∙ c.if-begins.false) c.in_ok-parse-2.ensures

pub parse-requires : goal.parse-requires
parse-requires g c = may_first _ _ c.requires
