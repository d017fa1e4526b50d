use Rattle.sv_book.proofs.Finds.{least_found}
use Rattle.sv_book.proofs.laws.least_is_found.Goals as goal

pub returns : goal.returns
returns g c = least_found g.G.Group.book
