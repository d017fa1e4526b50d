use Rattle.std.proofs.Common.{◌≡◌, ◌<◌, length, arith}
use Rattle.sv_term_room.specs.TermRows.{terms_of}
use Rattle.sv_allowed.proofs.Deciding.{truth_by}
use Rattle.sv_allowed.proofs.numbers.is_truth.Goals as goal

pub returns : goal.returns
returns c =
    let size = c.is_sound.ensures.size in
    let within = c.requires in
    let low : c.args.n < length (terms_of c.args.terms.now) = omega (arith, size, within) in
    let truth = truth_by c.args.terms.now c.args.n _ _ c.args.value c.is_sound.ensures.fitting low c.node-shape.ensures.tree in
    (λ e. truth.0 (c.is.ensures.0 e), λ e. c.is.ensures.1 (truth.1 e))
