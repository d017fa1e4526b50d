use Rattle.std.proofs.Common.{◌+◌, ◌<◌, length, drop, get_or, pos, ap, ◌∙◌, subst, arith, rules, unsigned_abs}
use Rattle.std.specs.Prelude.{FitsSigned}
use Rattle.std.proofs.lemmas.Int.{to_z-of_z}
use Rattle.std.proofs.lemmas.List.{drop_more, drop_all}
use mir.Syntax.{w128}
use Rattle.sv_log.specs.LogRows.{plain_monomial}
use Rattle.sv_row.specs.RowParts.{monomials}
use Rattle.sv_row.proofs.Divisions.{IsDivisorSoFar, one_more, all_so_far}
use Rattle.sv_row.proofs.division.divisor.Goals as goal

pub loop-k-preserved : goal.loop-k-preserved
loop-k-preserved c =
    let lt : c.loop-k.k-index < length c.args.parts.now = omega arith in
    let f : FitsSigned w128 (get_or c.args.parts.now c.loop-k.k-index (pos 0, 0)).0 = search rules in
    let e = drop_more c.args.parts.now c.loop-k.k-index (pos 0, 0) lt in
    one_more (monomials c.args.parts.now) (monomials (drop (c.loop-k.k-index + 1) c.args.parts.now)) (plain_monomial (get_or c.args.parts.now c.loop-k.k-index (pos 0, 0)))
    c.loop-k.divisor c.unsigned_abs.result c.gcd-divisor.result
    (c.unsigned_abs.ensures.value ∙ ap unsigned_abs (to_z-of_z w128 (get_or c.args.parts.now c.loop-k.k-index (pos 0, 0)).0 f))
    c.gcd-divisor.ensures
    (subst (λ z. IsDivisorSoFar (monomials c.args.parts.now) (monomials z) c.loop-k.divisor) e c.loop-k.invariant)

pub returns : goal.returns
returns c =
    let e = drop_all c.loop-k.k-index c.args.parts.now (omega arith) in
    all_so_far (monomials c.args.parts.now) c.loop-k.divisor (subst (λ z. IsDivisorSoFar (monomials c.args.parts.now) (monomials z) c.loop-k.divisor) e c.loop-k.invariant)
