use Rattle.std.proofs.Common.{rules, sym, ap, ◌∙◌, ◌≡◌}
use Rattle.std.specs.Prelude.{FitsSigned}
use Rattle.std.proofs.lemmas.Int.{to_z-of_z}
use mir.Val.{to_z}
use mir.Syntax.{w128}
use Rattle.sv_lin.proofs.Forces.{same_rows}
use Rattle.sv_lin.proofs.work.is_same.Goals as goal

pub returns-then-a-b : goal.returns-then-a-b
returns-then-a-b c =
    let f : FitsSigned w128 c.args.a.now.constant = search rules in
    let g : FitsSigned w128 c.args.b.now.constant = search rules in
    let e : c.args.a.now.constant ≡ c.args.b.now.constant = sym (to_z-of_z w128 c.args.a.now.constant f) ∙ (ap (to_z w128) c.if-a-b.true ∙ to_z-of_z w128 c.args.b.now.constant g) in
    same_rows c.args.a.now.constant c.args.b.now.constant c.args.a.now.parts c.args.b.now.parts c.as_slice.result.now c.as_slice-then-a-b.result.now c.eq.result e c.as_slice.ensures c.as_slice-then-a-b.ensures c.eq.ensures
