use Rattle.std.proofs.Common.{◌≡◌, ◌∙◌, None, sym, subst}
use Rattle.std.proofs.lemmas.List.{at_drop_all}
use Rattle.sv_heirs.specs.Heirs.{IsBreach, IsLeast}
use Rattle.sv_heirs.specs.Sooner.{least_from, line_breach}
use Rattle.sv_heirs.proofs.Breaching.{breach_least}
use Rattle.sv_heirs.proofs.heirs.first_breach.Goals as goal

pub returns : goal.returns
returns c =
    let places = c.args.places.now in
    let lines = c.args.lines.now in
    let found = c.loop-line.found in
    let f = line_breach places lines in
    let e : least_from f None lines ≡ found = sym c.loop-line.invariant ∙ at_drop_all (least_from f found) lines c.loop-line.line-index c.loop-line-test.false in
    subst (IsLeast (IsBreach places lines)) e (breach_least places lines)
