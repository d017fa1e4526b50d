use Rattle.std.proofs.Common.{refl, rules}
use Rattle.std.specs.Prelude.{FitsSigned}
use Rattle.std.proofs.lemmas.Int.{to_z-of_z}
use Rattle.std.proofs.lemmas.Bool.Decides.{Decides-eqb}
use mir.Syntax.{w128}
use mir.Val.{of_z}
use Rattle.std.proofs.Common.{ap, false}
use Rattle.sv_log.specs.LogRows.{Cancels}
use Rattle.sv_derived.proofs.Cancelling.{not_apart, second_tested, first_refused, beyond, same_signed, signed_decides, refuses}
use Rattle.sv_derived.proofs.opposite.cancel.Goals as goal

pub returns-then-not-are_opposite : goal.returns-then-not-are_opposite
returns-then-not-are_opposite c =
    refuses (Cancels c.args.m c.args.n c.args.k c.args.l) false refl
    (not_apart c.args.m c.args.k c.args.n c.args.l _ _ (to_z-of_z w128 c.args.k c.ranges.k) (to_z-of_z w128 c.args.l c.ranges.l) c.are_opposite.result c.are_opposite.ensures c.if-not-are_opposite.true)

pub multipliers-requires : goal.multipliers-requires
multipliers-requires c = c.are_opposite.ensures.0 c.if-not-are_opposite.false

pub returns-then-m-first : goal.returns-then-m-first
returns-then-m-first c =
    let f : FitsSigned w128 c.in-Some.first = search rules in
    let g : FitsSigned w128 c.in-Some.second = search rules in
    second_tested c.args.m c.args.k c.args.n c.args.l _ _ (to_z-of_z w128 c.args.k c.ranges.k) (to_z-of_z w128 c.args.l c.ranges.l) c.in-Some.first c.in-Some.second _ c.in-Some.ensures
    (same_signed c.args.m c.in-Some.first c.ranges.m f c.if-m-first.true) (signed_decides c.args.n c.in-Some.second c.ranges.n g)

pub returns-else-m-first : goal.returns-else-m-first
returns-else-m-first c =
    let f : FitsSigned w128 c.in-Some.first = search rules in (
      (λ e. absurd (c.if-m-first.false ((Decides-eqb (of_z w128 c.args.m) (of_z w128 c.in-Some.first)).0 e))),
      λ d. absurd (first_refused c.args.m c.args.k c.args.n c.args.l _ _ (to_z-of_z w128 c.args.k c.ranges.k) (to_z-of_z w128 c.args.l c.ranges.l) c.in-Some.first c.in-Some.second c.in-Some.ensures
          (λ e. c.if-m-first.false (ap (of_z w128) e)) d),
    )

pub returns-in-None : goal.returns-in-None
returns-in-None c =
    refuses (Cancels c.args.m c.args.n c.args.k c.args.l) false refl
    (beyond c.args.m c.args.k c.args.n c.args.l _ _ (to_z-of_z w128 c.args.k c.ranges.k) (to_z-of_z w128 c.args.l c.ranges.l) c.ranges.m c.ranges.n c.in-None.ensures)
