use Rattle.std.proofs.Common.{false, refl, rules}
use Rattle.std.specs.Prelude.{FitsSigned}
use Rattle.std.proofs.lemmas.Int.{to_z-of_z}
use mir.Syntax.{w128}
use Rattle.std.specs.Prelude.{◌*ℤ◌, ◌≡◌}
use Rattle.sv_num.specs.Range.{IsI128}
use Rattle.sv_derived.proofs.Cancelling.{refuses, fits_is, signed_decides}
use Rattle.sv_derived.proofs.Dividing.{product_is, beyond}
use Rattle.sv_derived.proofs.divided.is_multiple.Goals as goal

pub returns-in-Some : goal.returns-in-Some
returns-in-Some c =
    let f : FitsSigned w128 c.in-Some.product = search rules in
    product_is c.args.d c.args.k c.args.l _ _ (to_z-of_z w128 c.args.d c.ranges.d) (to_z-of_z w128 c.args.k c.ranges.k) _ c.in-Some.product c.in-Some.ensures.value (signed_decides c.in-Some.product c.args.l f c.ranges.l)

pub returns-in-None : goal.returns-in-None
returns-in-None c =
    refuses (c.args.l ≡ c.args.d *ℤ c.args.k) false refl
    (beyond c.args.d c.args.k c.args.l _ _ (to_z-of_z w128 c.args.d c.ranges.d) (to_z-of_z w128 c.args.k c.ranges.k) IsI128 (fits_is c.args.l c.ranges.l) (λ h. cc (c.in-None.ensures.exact.1 h)))
