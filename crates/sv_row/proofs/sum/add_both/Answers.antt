use Rattle.std.proofs.Common.{◌++◌, ◌+ℤ◌, ◌*ℤ◌, ap, ap₂, ◌∙◌, refl, rules, subst}
use Rattle.std.specs.Prelude.{FitsSigned}
use Rattle.std.proofs.lemmas.Int.{to_z-of_z}
use mir.Syntax.{w128}
use Rattle.sv_num.specs.Range.{IsI128}
use Rattle.sv_row.specs.RowParts.{monomials}
use Rattle.sv_row.specs.SumSteps.{part}
use Rattle.sv_row.proofs.sum.add_both.Goals as goal

pub returns-in_ok-add_part-in-Some : goal.returns-in_ok-add_part-in-Some
returns-in_ok-add_part-in-Some c =
    let f : FitsSigned w128 c.in-Some.number = search rules in
    let m = to_z-of_z w128 c.args.m c.ranges.m in
    let k = to_z-of_z w128 c.args.k c.ranges.k in
    let n = to_z-of_z w128 c.args.n c.ranges.n in
    let l = to_z-of_z w128 c.args.l c.ranges.l in
    let own = ap₂ (λ x y. x *ℤ y) m k in
    let other = ap₂ (λ x y. x *ℤ y) n l in
    let sum = ap₂ (λ x y. x +ℤ y) own other in
    let x = c.in-Some.ensures.exact.0 refl in (
      (subst IsI128 own x.0, subst IsI128 other x.1, subst IsI128 sum x.2),
      c.in_ok-add_part-in-Some.ensures
          ∙ ap (λ z. monomials c.args.made.now.items ++ part z c.args.x) (to_z-of_z w128 c.in-Some.number f ∙ (c.in-Some.ensures.value ∙ sum)),
    )
