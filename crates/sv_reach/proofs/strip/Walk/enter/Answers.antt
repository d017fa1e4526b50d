use Rattle.std.proofs.Common.{rules, ◌≡◌, ◌+◌, ◌≤◌, length, slice_index_or, slice_set, true, false, Bool, List, [], get_or, sym, subst, arith}
use Rattle.std.proofs.lemmas.Grind.{common_steps}
use Rattle.sv_reach.specs.Strips.{owed}
use Rattle.sv_reach.proofs.Stripping.{owed_less}
use Rattle.sv_reach.proofs.strip.Walk.enter.Goals as goal

pub returns-in_ok-enter_later : goal.returns-in_ok-enter_later
returns-in_ok-enter_later c =
    let g = c.args.graph.now in
    let met = c.args.self.now.met in
    let is : c.is_met.result ≡ get_or met c.args.node true = search rules in
    let not = c.if-not-is_met.true in
    let unmet : get_or met c.args.node true ≡ false = cc in
    let e : c.set.new.self ≡ slice_set met c.args.node true = search rules in
    let pushed : length c.push.new.self ≡ length c.args.self.now.steps + 1 = grind (arith, common_steps) in
    let later : length c.enter_later.new.steps ≡ length c.push.new.self + length (slice_index_or g c.args.node []) = search rules in
    subst (λ (x : List Bool). owed x g + length c.enter_later.new.steps ≤ owed met g + length c.args.self.now.steps) (sym e)
    (omega (arith, owed_less met g c.args.node unmet, pushed, later))
