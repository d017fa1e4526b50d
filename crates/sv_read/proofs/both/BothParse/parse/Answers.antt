use Rattle.sv_read.proofs.Exits.{left_by}
use Rattle.sv_read.proofs.both.BothParse.parse.Goals as goal

pub returns-in_err-way : goal.returns-in_err-way
returns-in_err-way g c = left_by _ _ _ _ _ _ c.from_residual.ensures (c.in_err-way.ensures g.K.Classes.classes g.A.Parse.part g.B.Parse.part c.args.cursor.now g.A.Parse.tree g.B.Parse.tree c.parse-first.ensures (rw c.fork-other.ensures at c.parse-second.ensures))

pub returns : goal.returns
returns g c = c.in_ok-way.ensures g.K.Classes.classes g.A.Parse.part g.B.Parse.part c.args.cursor.now g.A.Parse.tree g.B.Parse.tree c.parse-first.ensures (rw c.fork-other.ensures at c.parse-second.ensures)
