use Rattle.sv_parse_expr.proofs.SymbolLemmas.{shown_within}
use Rattle.sv_parse_expr.proofs.parse.parse_by.Goals as goal

pub parse_in-requires-clause-shown : goal.parse_in-requires-clause-shown
parse_in-requires-clause-shown g c = rw c.as_slice.ensures (shown_within _ _ _ _ c.in_ok-symbols.ensures.shown c.requires.within)

pub returns-clause-answers : goal.returns-clause-answers
returns-clause-answers g c = c.parse_in.ensures
