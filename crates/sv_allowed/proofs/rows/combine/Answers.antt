use Rattle.std.proofs.Common.{◌<◌, ◌≡◌, false, sym, ◌∙◌, subst, length, arith, ap, rules}
use Rattle.sv_force.specs.InForce.{Force}
use Rattle.sv_allowed.specs.EntryJudging.{IsCombination}
use Rattle.sv_allowed.proofs.Deciding.{combine_fault, combine_allowed}
use Rattle.sv_allowed.proofs.rows.combine.Goals as goal

pub returns-then-not-is_combination : goal.returns-then-not-is_combination
returns-then-not-is_combination c =
    let size = c.len-2.ensures in
    let second = c.len-else-first-len.ensures in
    let items = ap (λ (f : Force). length f.items) c.force-force.ensures in
    let low = c.if-first-len.false in
    let other = c.if-second-len.false in
    combine_fault c.args.terms.now c.args.branch.now (sym c.is_closed.ensures ∙ c.if-is_closed.false) c.args.first c.args.second _ (search rules) (omega (arith, size, items, low)) (omega (arith, second, items, other)) (search rules) (search rules)

pub returns : goal.returns
returns c =
    let size = c.len-2.ensures in
    let second = c.len-else-first-len.ensures in
    let items = ap (λ (f : Force). length f.items) c.force-force.ensures in
    let low = c.if-first-len.false in
    let other = c.if-second-len.false in
    combine_allowed c.args.terms.now c.args.branch.now (sym c.is_closed.ensures ∙ c.if-is_closed.false) c.args.first c.args.second _ (search rules) (omega (arith, size, items, low)) (omega (arith, second, items, other)) (search rules) (search rules)
