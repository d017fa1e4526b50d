use Rattle.std.proofs.Common.{◌<◌, ◌≡◌, false, sym, ◌∙◌, subst, length, arith, ap}
use Rattle.sv_force.specs.InForce.{Force}
use Rattle.sv_allowed.specs.EntryJudging.{AreOpposite}
use Rattle.sv_allowed.proofs.Deciding.{clash_fault, clash_allowed}
use Rattle.sv_allowed.proofs.branches.clash.Goals as goal

pub returns-then-not-are_opposite : goal.returns-then-not-are_opposite
returns-then-not-are_opposite c =
    let size = c.len.ensures in
    let second = c.len-else-p-len.ensures in
    let items = ap (λ (f : Force). length f.items) c.force-force.ensures in
    let low = c.if-p-len.false in
    let other = c.if-q-len.false in
    clash_fault c.args.terms.now c.args.branch.now (sym c.is_closed.ensures ∙ c.if-is_closed.false) c.args.p (omega (arith, size, items, low)) c.args.q (omega (arith, second, items, other)) c.is_sound.ensures.apart c.requires
    (λ h. cc (c.if-not-are_opposite.true, c.are_opposite.ensures.1 (subst (λ (f : Force). AreOpposite f.items c.args.p c.args.q) (sym c.force-force.ensures) h)))

pub returns : goal.returns
returns c =
    let size = c.len.ensures in
    let second = c.len-else-p-len.ensures in
    let items = ap (λ (f : Force). length f.items) c.force-force.ensures in
    let low = c.if-p-len.false in
    let other = c.if-q-len.false in
    clash_allowed c.args.terms.now c.args.branch.now (sym c.is_closed.ensures ∙ c.if-is_closed.false) c.args.p (omega (arith, size, items, low)) c.args.q (omega (arith, second, items, other)) c.is_sound.ensures.apart c.requires
    (subst (λ (f : Force). AreOpposite f.items c.args.p c.args.q) c.force-force.ensures (c.are_opposite.ensures.0 c.if-not-are_opposite.false))
