use Rattle.std.proofs.Common.{◌+◌, ◌<◌, ◌∷◌, [], ◌++◌, length, drop, get_or, pos, sym, ap, ap₂, ◌∙◌, subst, arith, rules}
use Rattle.std.specs.Prelude.{FitsSigned}
use Rattle.std.specs.Int.{int_div_euclid}
use Rattle.std.proofs.lemmas.Int.{to_z-of_z}
use Rattle.std.proofs.lemmas.List.{drop_more, drop_all, map-append}
use mir.Syntax.{w128}
use Rattle.sv_log.specs.LogRows.{plain_monomial, monomial}
use Rattle.sv_row.specs.RowParts.{monomials}
use Rattle.sv_row.proofs.Divisions.{AreQuotients, next_quotient, all_quotients}
use Rattle.sv_row.proofs.division.divided.Goals as goal

pub loop-k-preserved : goal.loop-k-preserved
loop-k-preserved c =
    let lt : c.loop-k.k-index < length c.args.parts.now = omega arith in
    let p = get_or c.args.parts.now c.loop-k.k-index (pos 0, 0) in
    let f : FitsSigned w128 (get_or c.args.parts.now c.loop-k.k-index (pos 0, 0)).0 = search rules in
    let g : FitsSigned w128 c.div_euclid.result = search rules in
    let d = to_z-of_z w128 c.args.divisor c.ranges.divisor in
    let e = drop_more c.args.parts.now c.loop-k.k-index (pos 0, 0) lt in
    let q = c.div_euclid.ensures ∙ ap₂ int_div_euclid (to_z-of_z w128 p.0 f) d in
    let items = ap monomials c.in_ok-push.ensures.items
    ∙ (map-append plain_monomial c.loop-k.quotient.items _
    ∙ ap (λ z. monomials c.loop-k.quotient.items ++ monomial z p.1 ∷ []) (to_z-of_z w128 c.div_euclid.result g)) in
    let before = subst (λ z. AreQuotients z (monomials c.args.parts.now) (monomials (drop c.loop-k.k-index c.args.parts.now)) (monomials c.loop-k.quotient.items)) d c.loop-k.invariant in
    subst (λ z. AreQuotients z (monomials c.args.parts.now) (monomials (drop (c.loop-k.k-index + 1) c.args.parts.now)) (monomials c.push.new.self.items)) (sym d)
    (subst (AreQuotients c.args.divisor (monomials c.args.parts.now) (monomials (drop (c.loop-k.k-index + 1) c.args.parts.now))) (sym items)
    (next_quotient c.args.divisor (monomials c.args.parts.now) (monomials (drop (c.loop-k.k-index + 1) c.args.parts.now)) (monomials c.loop-k.quotient.items) (plain_monomial p) c.div_euclid.result
    c.requires.positive q (subst (λ z. AreQuotients c.args.divisor (monomials c.args.parts.now) (monomials z) (monomials c.loop-k.quotient.items)) e before)))

pub returns : goal.returns
returns c =
    let e = drop_all c.loop-k.k-index c.args.parts.now (omega arith) in
    let d = to_z-of_z w128 c.args.divisor c.ranges.divisor in
    all_quotients c.args.divisor (monomials c.args.parts.now) (monomials c.loop-k.quotient.items)
    (subst (λ z. AreQuotients c.args.divisor (monomials c.args.parts.now) (monomials z) (monomials c.loop-k.quotient.items)) e
    (subst (λ z. AreQuotients z (monomials c.args.parts.now) (monomials (drop c.loop-k.k-index c.args.parts.now)) (monomials c.loop-k.quotient.items)) d c.loop-k.invariant))
