use Rattle.std.proofs.Common.{◌≡◌, true, false, sym, subst, pos, ◌<ℤ◌, ◌*ℤ◌}
use Rattle.std.specs.Bool.{Decides}
use Rattle.std.proofs.lemmas.Int.{to_z-of_z}
use lib.Signed.{lt_z}
use mir.Syntax.{w128}
use Rattle.sv_derived.proofs.Cancelling.{opposite_below, opposite_above, not_opposite}
use Rattle.sv_derived.proofs.opposite.are_opposite.Goals as goal

pub returns-then-k-lt0 : goal.returns-then-k-lt0
returns-then-k-lt0 c =
    subst (λ z. Decides (lt_z (pos 0) z) ((c.args.k *ℤ c.args.l) <ℤ pos 0)) (sym (to_z-of_z w128 c.args.l c.ranges.l))
    (opposite_below c.args.k c.args.l (subst (λ z. lt_z z (pos 0) ≡ true) (to_z-of_z w128 c.args.k c.ranges.k) c.if-k-lt0.true))

pub returns-then-k-gt0 : goal.returns-then-k-gt0
returns-then-k-gt0 c =
    subst (λ z. Decides (lt_z z (pos 0)) ((c.args.k *ℤ c.args.l) <ℤ pos 0)) (sym (to_z-of_z w128 c.args.l c.ranges.l))
    (opposite_above c.args.k c.args.l (subst (λ z. lt_z (pos 0) z ≡ true) (to_z-of_z w128 c.args.k c.ranges.k) c.if-k-gt0.true))

pub returns-else-k-gt0 : goal.returns-else-k-gt0
returns-else-k-gt0 c =
    subst (λ z. Decides (lt_z (pos 0) z) ((c.args.k *ℤ c.args.l) <ℤ pos 0)) (sym (to_z-of_z w128 c.args.k c.ranges.k))
    (not_opposite c.args.k c.args.l (subst (λ z. lt_z z (pos 0) ≡ false) (to_z-of_z w128 c.args.k c.ranges.k) c.if-k-lt0.false)
    (subst (λ z. lt_z (pos 0) z ≡ false) (to_z-of_z w128 c.args.k c.ranges.k) c.if-k-gt0.false))
