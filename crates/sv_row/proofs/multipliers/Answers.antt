use Rattle.std.proofs.Common.{◌≡◌, ℕ, sym, ap, ◌∙◌, subst, rules, pos, ◌<ℤ◌, ◌*ℤ◌, ◌/◌, ℤ}
use Rattle.std.specs.Prelude.{FitsSigned, unsigned_abs, MatchOption}
use mir.Syntax.{w128}
use mir.Val.{to_z, of_z}
use Rattle.std.proofs.lemmas.Int.{to_z-of_z}
use Rattle.sv_log.specs.LogRows.{Cancels}
use Rattle.sv_row.specs.Multipliers.{ExceedMultipliers}
use Rattle.sv_row.proofs.Least.{AreOpposite, opposite, cancels, first_beyond, second_beyond, divisor_is_positive}
use Rattle.sv_row.proofs.multipliers.Goals as goal

-- the numbers as the code has them
made : (k l : ℤ) (a b : ℕ) → FitsSigned w128 k → FitsSigned w128 l → (k *ℤ l) <ℤ pos 0 → a ≡ unsigned_abs (to_z w128 (of_z w128 k)) → b ≡ unsigned_abs (to_z w128 (of_z w128 l)) → AreOpposite k l a b
made k l a b f g h d e =
    subst (λ z. AreOpposite k l z b) (sym (d ∙ ap unsigned_abs (to_z-of_z w128 k f)))
    (subst (AreOpposite k l (unsigned_abs k)) (sym (e ∙ ap unsigned_abs (to_z-of_z w128 l g))) (opposite k l h))

pub nonzero_div-other : goal.nonzero_div-other
nonzero_div-other c =
    let o = made c.args.k c.args.l c.unsigned_abs-own.result c.unsigned_abs-other.result c.ranges.k c.ranges.l c.requires c.unsigned_abs-own.ensures.value c.unsigned_abs-other.ensures.value in
    divisor_is_positive c.args.k c.args.l c.unsigned_abs-own.result c.unsigned_abs-other.result c.gcd-divisor.result o c.gcd-divisor.ensures

pub nonzero_div-own : goal.nonzero_div-own
nonzero_div-own c =
    let o = made c.args.k c.args.l c.unsigned_abs-own.result c.unsigned_abs-other.result c.ranges.k c.ranges.l c.requires c.unsigned_abs-own.ensures.value c.unsigned_abs-other.ensures.value in
    divisor_is_positive c.args.k c.args.l c.unsigned_abs-own.result c.unsigned_abs-other.result c.gcd-divisor.result o c.gcd-divisor.ensures

pub returns-in_err-first : goal.returns-in_err-first
returns-in_err-first c =
    let o = made c.args.k c.args.l c.unsigned_abs-own.result c.unsigned_abs-other.result c.ranges.k c.ranges.l c.requires c.unsigned_abs-own.ensures.value c.unsigned_abs-other.ensures.value in
    subst (λ r. MatchOption r (ExceedMultipliers c.args.k c.args.l) (λ p. Cancels p.0 p.1 c.args.k c.args.l)) (sym c.from_residual.ensures)
    (first_beyond c.args.k c.args.l c.unsigned_abs-own.result c.unsigned_abs-other.result c.gcd-divisor.result o c.gcd-divisor.ensures c.in_err-first.ensures)

pub returns-in_err-second : goal.returns-in_err-second
returns-in_err-second c =
    let o = made c.args.k c.args.l c.unsigned_abs-own.result c.unsigned_abs-other.result c.ranges.k c.ranges.l c.requires c.unsigned_abs-own.ensures.value c.unsigned_abs-other.ensures.value in
    subst (λ r. MatchOption r (ExceedMultipliers c.args.k c.args.l) (λ p. Cancels p.0 p.1 c.args.k c.args.l)) (sym c.from_residual-in_err-second.ensures)
    (second_beyond c.args.k c.args.l c.unsigned_abs-own.result c.unsigned_abs-other.result c.gcd-divisor.result o c.gcd-divisor.ensures c.in_err-second.ensures)

pub returns : goal.returns
returns c =
    let o = made c.args.k c.args.l c.unsigned_abs-own.result c.unsigned_abs-other.result c.ranges.k c.ranges.l c.requires c.unsigned_abs-own.ensures.value c.unsigned_abs-other.ensures.value in
    let f : FitsSigned w128 c.in_ok-first.first = search rules in
    let g : FitsSigned w128 c.in_ok-second.second = search rules in
    let e = to_z-of_z w128 c.in_ok-first.first f ∙ c.in_ok-first.ensures in
    let d = to_z-of_z w128 c.in_ok-second.second g ∙ c.in_ok-second.ensures in
    subst (λ z. Cancels z (to_z w128 (of_z w128 c.in_ok-second.second)) c.args.k c.args.l) (sym e)
    (subst (λ z. Cancels (pos (c.unsigned_abs-other.result / c.gcd-divisor.result)) z c.args.k c.args.l) (sym d)
    (cancels c.args.k c.args.l c.unsigned_abs-own.result c.unsigned_abs-other.result c.gcd-divisor.result o c.gcd-divisor.ensures))
