use Rattle.std.proofs.Common.{◌∙◌}
use Rattle.sv_grammar.specs.Grammar.{seq}
use Rattle.sv_read.proofs.Tables.{first_of_two}
use Rattle.sv_read.proofs.parts.Tuple4Begins.begins.Goals as goal

pub returns : goal.returns
returns g c = c.begins.ensures ∙ first_of_two _ g.A.Parse.part (seq g.B.Parse.part (seq g.C.Parse.part g.D.Parse.part)) g.met.A.Begins.filled
