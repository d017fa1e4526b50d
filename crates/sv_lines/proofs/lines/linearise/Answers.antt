use Rattle.std.proofs.Common.{rules, ◌≡◌, ◌++◌, ◌∷◌, [], length, map, reverse, Option, Some, None, List, ℕ, sym, ap, subst, arith, ◌∙◌}
use Rattle.std.proofs.Common.{length-append}
use Rattle.sv_lines.specs.Lines.{Ordered, Orders}
use Rattle.sv_lines.proofs.Ordering.{at_place, extended, lines_of, same_length}
use Rattle.sv_lines.proofs.lines.linearise.Goals as goal

pub returns-in-None : goal.returns-in-None
returns-in-None c =
    let h0 : Ordered c.loop-own.orders c.loop-own.c c.own-item.result c.in_ok-order_of.field-0 = search rules in
    let T : Option (List ℕ) → Type 0 = λ z. Ordered c.loop-own.orders c.loop-own.c c.own-item.result z in
    let h : Ordered c.loop-own.orders c.loop-own.c c.own-item.result None = subst T c.in-None.is h0 in (
      c.loop-own.orders,
      c.loop-own.invariant.1 ∙ sym c.loop-own.invariant.0,
      omega (arith, c.loop-own.invariant.0, c.loop-own-test.true),
      c.loop-own.invariant.2,
      at_place c.args.bases.now c.loop-own.orders c.loop-own.c c.loop-own.own-index c.own-item.result None c.loop-own.invariant.1 c.loop-own.invariant.0 c.loop-own-test.true c.own-item.is h,
    )

pub loop-own-preserved : goal.loop-own-preserved
loop-own-preserved c =
    let h0 : Ordered c.loop-own.orders c.loop-own.c c.own-item.result c.in_ok-order_of.field-0 = search rules in
    let T : Option (List ℕ) → Type 0 = λ z. Ordered c.loop-own.orders c.loop-own.c c.own-item.result z in
    let h : Ordered c.loop-own.orders c.loop-own.c c.own-item.result (Some c.in-Some.order) = subst T c.in-Some.is h0 in
    let e : c.push.new.self ≡ c.loop-own.orders ++ c.in-Some.order ∷ [] = search rules in
    let P : List (List ℕ) → Type 0 = λ z. Orders c.args.bases.now z in (
      omega (arith, c.loop-own.invariant.0),
      omega (arith, ap length e, length-append c.loop-own.orders (c.in-Some.order ∷ []), c.loop-own.invariant.1),
      subst P (sym e) (extended c.args.bases.now c.loop-own.orders c.in-Some.order c.loop-own.invariant.2
          (at_place c.args.bases.now c.loop-own.orders c.loop-own.c c.loop-own.own-index c.own-item.result (Some c.in-Some.order) c.loop-own.invariant.1 c.loop-own.invariant.0 c.loop-own-test.true c.own-item.is h)),
    )

pub returns : goal.returns
returns c =
    let e : c.in_ok-all_reversed.field-0 ≡ map reverse c.loop-own.orders = search rules in (
      omega (arith, ap length e, same_length c.loop-own.orders, c.loop-own.invariant.1, c.loop-own-test.false, c.loop-own.auto.own-index-end),
      lines_of c.args.bases.now c.loop-own.orders c.in_ok-all_reversed.field-0 c.loop-own.invariant.2 e,
    )
