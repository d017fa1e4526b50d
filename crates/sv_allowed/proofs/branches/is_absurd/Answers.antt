use Rattle.std.proofs.Common.{◌<◌, length, arith}
use Rattle.sv_term_room.specs.TermRows.{terms_of}
use Rattle.sv_allowed.proofs.Deciding.{held_at, absurd_row, absurd_fact}
use Rattle.sv_allowed.proofs.branches.is_absurd.Goals as goal

pub is_truth-requires : goal.is_truth-requires
is_truth-requires c =
    let low = held_at _ _ c.args.p _ c.requires.over c.in-Some.ensures in
    let size = c.is_sound.ensures.size in
    omega (arith, low, size)

pub returns-in-Some : goal.returns-in-Some
returns-in-Some c =
    let is = absurd_fact (terms_of c.args.terms.now) c.args.force.now.items c.args.p _ _ c.in-Some.ensures in
    let d = c.is_truth.ensures in
    (λ e. is.0 (d.0 e), λ h. d.1 (is.1 h))

pub returns-in-None : goal.returns-in-None
returns-in-None c =
    let a = c.in-None.ensures in
    let is = absurd_row (terms_of c.args.terms.now) c.args.force.now.items c.args.p a.0 a.1 in
    let d = c.is_absurd_row.ensures in
    (λ e. is.0 (d.0 e), λ h. d.1 (is.1 h))
