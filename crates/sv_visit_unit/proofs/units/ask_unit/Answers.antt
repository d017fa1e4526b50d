use Rattle.std.proofs.Common.{arith}
use Rattle.std.proofs.lemmas.Grind.{common_steps}
use Rattle.sv_visit_unit.specs.UnitSites.{unit_walk}
use Rattle.sv_visit_unit.proofs.LeastWalked.{least_walked}
use Rattle.sv_visit_unit.proofs.units.ask_unit.Goals as goal

pub returns-clause-least : goal.returns-clause-least
returns-clause-least g c = least_walked g.J.Judge.book c.requires.orders (unit_walk c.args.u.now) _ _ _ c.requires.begins c.walk_unit.ensures

pub returns-clause-walked : goal.returns-clause-walked
returns-clause-walked g c = grind (arith, common_steps)
