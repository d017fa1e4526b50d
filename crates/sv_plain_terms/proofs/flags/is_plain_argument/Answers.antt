use Rattle.std.proofs.Common.{◌≤◌, false, length, arith}
use Rattle.sv_term_room.specs.TermRows.{terms_of}
use Rattle.sv_plain_terms.proofs.FlagsBelow.{flag_or_flat}
use Rattle.sv_plain_terms.proofs.flags.is_plain_argument.Goals as goal

pub returns : goal.returns
returns c =
    let within = c.requires.argument.0.0 in
    let size = c.is_sound.ensures.size in
    let below : c.args.n ≤ length (terms_of c.args.terms.now) = omega (arith, within, size) in
    flag_or_flat (terms_of c.args.terms.now) c.args.flags.now c.args.n c.args.k c.is_flat.result false c.requires.argument.0.1 c.requires.argument.1 below c.is_flat.ensures c.if-is_flat.false
