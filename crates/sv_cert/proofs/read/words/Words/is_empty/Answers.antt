use Rattle.sv_cert.proofs.Readers.{is_at_end}
use Rattle.sv_cert.proofs.read.words.Words.is_empty.Goals as goal

pub returns : goal.returns
returns c = rw (← c.self.view_is) (is_at_end c.is_none.result c.self.inside.rest c.is_none.ensures)
