use Rattle.std.proofs.Common.{sym, ◌∙◌, refl, arith}
use Rattle.std.proofs.lemmas.Bool.{false≢true}
use Rattle.sv_first_judge.specs.Points.{known_of}
use Rattle.sv_first_judge.proofs.PointLemmas.{proved_more, first_unproved, all_proved}
use Rattle.sv_first_judge.proofs.judge.Point.verdict.Goals as goal

pub returns-then-not-is_proved : goal.returns-then-not-is_proved
returns-then-not-is_proved c =
    let e = c.index-invariants-i in
    first_unproved (known_of c.args.self.now) c.args.invariants.now c.loop-i.i e.result c.in_ok-row.row (omega arith) e.is c.in_ok-row.ensures c.loop-i.invariant
    (λ h. false≢true (sym c.if-not-is_proved.true ∙ c.is_proved.ensures.1 h))

pub loop-i-preserved : goal.loop-i-preserved
loop-i-preserved c =
    let e = c.index-invariants-i in
    proved_more (known_of c.args.self.now) c.args.invariants.now c.loop-i.i e.result c.in_ok-row.row (omega arith) e.is c.in_ok-row.ensures c.loop-i.invariant
    (c.is_proved.ensures.0 c.if-not-is_proved.false)

pub returns : goal.returns
returns c = (refl, all_proved (known_of c.args.self.now) c.args.invariants.now c.loop-i.i (omega arith) c.loop-i.invariant)
