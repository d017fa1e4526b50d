use Rattle.std.proofs.Common.{◌≡◌, ◌+◌, length, subst, sym, arith}
use Rattle.sv_by_rule.specs.ItemFacts.{IsComparing}
use Rattle.sv_by_rule.proofs.Comparing.{compare_same, compare_other, compare_stops, compare_ends, compare_done}
use Rattle.sv_by_rule.proofs.alike.are_differences.Goals as goal
use Rattle.sv_by_rule.proofs.alike.are_differences.Goals.{then-x-y+else-taken-from+else-not-is_equation, else-x-y}

pub returns-then-taken-from : goal.returns-then-taken-from
returns-then-taken-from g c =
    let l = c.loop-i-test.true in
    let s = c.loop-i.invariant.sizes in (
      λ h. cc h,
      λ d. absurd (compare_ends (g.T.TermNumbers.trees c.args.terms.now) c.args.force.now.items c.is_sound.ensures.apart c.args.from.now c.args.xs.now c.args.ys.now c.loop-i.taken c.loop-i.i c.loop-i.invariant l
          (c.requires.first c.loop-i.i 0 l) (c.requires.second c.loop-i.i 0 (omega (arith, l, s))) c.if-x-y.true c.if-taken-from.true d),
    )

pub returns-then-not-is_equation : goal.returns-then-not-is_equation
returns-then-not-is_equation g c =
    let l = c.loop-i-test.true in
    let s = c.loop-i.invariant.sizes in
    let t = c.loop-i.invariant.taken_there in
    let o : c.loop-i.taken ≡ length c.args.from.now → ⊥ = c.if-taken-from.false in (
      λ h. cc h,
      λ d. absurd (compare_stops (g.T.TermNumbers.trees c.args.terms.now) c.args.force.now.items c.is_sound.ensures.apart c.args.from.now c.args.xs.now c.args.ys.now c.loop-i.taken c.loop-i.i c.loop-i.invariant l
          (c.requires.first c.loop-i.i 0 l) (c.requires.second c.loop-i.i 0 (omega (arith, l, s))) c.if-x-y.true (omega (arith, t, o)) (λ e. cc (c.is_equation.ensures.1 e, c.if-not-is_equation.true)) d),
    )

pub loop-i-preserved : goal.loop-i-preserved
loop-i-preserved g c =
    let l = c.loop-i-test.true in
    let s = c.loop-i.invariant.sizes in
    let t = c.loop-i.invariant.taken_there in
    elim c.if-x-y.branch [
      | then-x-y+else-taken-from+else-not-is_equation w ↦
          let o : c.loop-i.taken ≡ length c.args.from.now → ⊥ = w.if-taken-from.false in
          subst (λ k. IsComparing (g.T.TermNumbers.trees c.args.terms.now) c.args.force.now.items c.args.from.now c.args.xs.now c.args.ys.now k (c.loop-i.i + 1)) (sym w.taken-is)
          (compare_other (g.T.TermNumbers.trees c.args.terms.now) c.args.force.now.items c.is_sound.ensures.apart c.args.from.now c.args.xs.now c.args.ys.now c.loop-i.taken c.loop-i.i c.loop-i.invariant l
          (c.requires.first c.loop-i.i 0 l) (c.requires.second c.loop-i.i 0 (omega (arith, l, s))) w.if-x-y.true (omega (arith, t, o)) (w.is_equation.ensures.0 w.if-not-is_equation.false))
      | else-x-y w ↦
          subst (λ k. IsComparing (g.T.TermNumbers.trees c.args.terms.now) c.args.force.now.items c.args.from.now c.args.xs.now c.args.ys.now k (c.loop-i.i + 1)) (sym w.taken-is)
          (compare_same (g.T.TermNumbers.trees c.args.terms.now) c.args.force.now.items c.is_sound.ensures.apart c.args.from.now c.args.xs.now c.args.ys.now c.loop-i.taken c.loop-i.i c.loop-i.invariant l w.if-x-y.false)
    ]

pub returns : goal.returns
returns g c =
    let l = c.loop-i-test.false in
    let u = c.loop-i.auto.i-end in
    compare_done (g.T.TermNumbers.trees c.args.terms.now) c.args.force.now.items c.args.from.now c.args.xs.now c.args.ys.now c.loop-i.taken c.loop-i.i c.loop-i.invariant (omega (arith, l, u))
