use Rattle.std.proofs.Common.{◌<◌, ◌≡◌, false, sym, ◌∙◌, subst, length, arith, ap}
use Rattle.sv_force.specs.InForce.{Force}
use Rattle.sv_term_room.specs.TermRows.{terms_of}
use Rattle.sv_allowed.specs.EntryJudging.{IsAbsurdAt}
use Rattle.sv_allowed.proofs.Deciding.{close_fault, close_allowed}
use Rattle.sv_allowed.proofs.branches.close.Goals as goal

pub returns-then-not-is_absurd : goal.returns-then-not-is_absurd
returns-then-not-is_absurd c =
    let size = c.len.ensures in
    let first = ap (λ (f : Force). length f.items) c.force.ensures in
    let low = c.if-p-len.false in
    close_fault c.args.terms.now c.args.branch.now (sym c.is_closed.ensures ∙ c.if-is_closed.false) c.args.p (omega (arith, size, first, low))
    (λ h. cc (c.if-not-is_absurd.true, c.is_absurd.ensures.1 (subst (λ (f : Force). IsAbsurdAt (terms_of c.args.terms.now) f.items c.args.p) (sym c.force-2.ensures) h)))

pub returns : goal.returns
returns c =
    let size = c.len.ensures in
    let first = ap (λ (f : Force). length f.items) c.force.ensures in
    let low = c.if-p-len.false in
    close_allowed c.args.terms.now c.args.branch.now (sym c.is_closed.ensures ∙ c.if-is_closed.false) c.args.p (omega (arith, size, first, low))
    (subst (λ (f : Force). IsAbsurdAt (terms_of c.args.terms.now) f.items c.args.p) c.force-2.ensures (c.is_absurd.ensures.0 c.if-not-is_absurd.false))
