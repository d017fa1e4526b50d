use Rattle.std.proofs.Common.{ap, ◌∙◌}
use Rattle.sv_parse_expr.proofs.Answering.{found_answers, fault_answers}
use Rattle.sv_parse_expr.proofs.parse.parse_in.Goals as goal

pub new-cursor-requires : goal.new-cursor-requires
new-cursor-requires g c = record { named = c.requires.shown.0.1; within = c.requires.shown.1 }

pub read-requires : goal.read-requires
read-requires g c = c.requires.callable _

pub returns-in-Ok : goal.returns-in-Ok
returns-in-Ok g c = λ tree a exact by. (
    let same = ap (λ h. h.tokens) c.new-cursor.ensures.given ∙ c.requires.shown.0.0 in
    let p = found_answers c.args.tokens.now exact same (rw c.at.ensures.is at c.at.ensures.within) (by _ _ _ c.in-Ok.ensures) in
    rw c.at.ensures.is (rw (c.new-cursor.ensures.at, c.new-cursor.ensures.given) at p))

pub returns-in-Err : goal.returns-in-Err
returns-in-Err g c = λ tree a exact by. (
    let same = ap (λ h. h.tokens) c.new-cursor.ensures.given ∙ c.requires.shown.0.0 in
    let p = fault_answers tree c.args.tokens.now exact same (by _ _ _ c.in-Err.ensures) in
    rw c.fault_of.ensures (rw (c.new-cursor.ensures.at, c.new-cursor.ensures.given) at p))
