use Rattle.std.proofs.Common.{rules, ◌≡◌, subst, sym, Bool, true, not}
use Rattle.std.specs.Prelude.{IsSome, FitsSigned}
use mir.Syntax.{w128}
use Rattle.sv_num.specs.Range.{IsI128}
use Rattle.sv_form.specs.TermWeights.{weight_at}
use Rattle.sv_form_rows.proofs.Answering.{joins_more, read_joined}
use Rattle.sv_form_rows.proofs.joining.all_join.Goals as goal

refused : (s r : Bool) → s ≡ not r → r ≡ true → s ≡ true → ⊥
refused s r e f g = cc (e, f, g)

pub loop-k-preserved : goal.loop-k-preserved
loop-k-preserved c =
    let some : IsSome c.join.result = search rules in
    let f : FitsSigned w128 (weight_at c.args.first.now c.loop-k.k) = search rules in
    let g : FitsSigned w128 (weight_at c.args.second.now c.loop-k.k) = search rules in
    joins_more c.args.how c.args.first.now c.args.second.now c.loop-k.k c.loop-k.invariant (subst IsI128 (read_joined c.args.how _ _ f g) (c.join.ensures.exact.0 some))

pub returns-then-is_none : goal.returns-then-is_none
returns-then-is_none c =
    let f : FitsSigned w128 (weight_at c.args.first.now c.loop-k.k) = search rules in
    let g : FitsSigned w128 (weight_at c.args.second.now c.loop-k.k) = search rules in (
      (λ t. cc t),
      λ h. let some : IsSome c.join.result = c.join.ensures.exact.1 (subst IsI128 (sym (read_joined c.args.how _ _ f g)) (h c.loop-k.k c.loop-k-test.true)) in absurd (refused _ _ c.is_none.ensures c.if-is_none.true some),
    )
