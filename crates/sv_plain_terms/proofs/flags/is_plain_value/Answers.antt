use Rattle.sv_term_room.specs.TermRows.{terms_of}
use Rattle.sv_plain_terms.proofs.FlagsBelow.{value_other}
use Rattle.sv_plain_terms.proofs.flags.is_plain_value.Goals as goal

pub returns : goal.returns
returns c = value_other (terms_of c.args.terms.now) c.args.args.now c.is_zero.result c.is_num.result c.if-args-eq0.false c.is_zero.ensures c.if-is_zero.false c.is_num.ensures
