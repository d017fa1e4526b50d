use Rattle.std.proofs.Common.{rules, ◌≡◌, ◌++◌, ◌∷◌, [], Option, List, ℕ, length, map, reverse, sym, ap, subst, arith, ◌∙◌, length-append}
use Rattle.std.specs.Option.{option_map}
use Rattle.std.proofs.lemmas.Result.{IfOk-weaker}
use Rattle.std.proofs.lemmas.List.{map-append}
use Rattle.sv_orders.specs.LineTables.{or_empty, OrderedBehind, AreOrders}
use Rattle.sv_orders.proofs.Tables.{one_more, lines_are}
use Rattle.sv_orders.proofs.orders.each_line.Goals as goal

pub loop-own-preserved : goal.loop-own-preserved
loop-own-preserved c =
    let n = c.loop-own.own-index in
    let orders = c.loop-own.orders in
    let own = c.own-item.result in
    let r = c.in_ok-order.order in
    let i = c.loop-own.invariant in
    let h : OrderedBehind orders c.loop-own.c own r = search rules in
    let here : OrderedBehind orders n own r = subst (λ (x : ℕ). OrderedBehind orders x own r) i.0 h in
    let e : c.push-in-loop-own.new.self ≡ orders ++ r ∷ [] = search rules in
    let k : c.push.new.self ≡ c.loop-own.known ++ or_empty r ∷ [] = search rules in (
      omega (arith, i.0),
      omega (arith, ap length e, length-append orders (r ∷ []), i.1),
      k ∙ ap (λ (x : List (List ℕ)). x ++ or_empty r ∷ []) i.2 ∙ sym (map-append or_empty orders (r ∷ [])) ∙ sym (ap (map or_empty) e),
      subst (AreOrders c.args.bases.now) (sym e) (one_more c.args.bases.now orders n own r i.1 c.loop-own-test.true c.own-item.is i.3 here),
    )

pub returns : goal.returns
returns c =
    let n : length c.loop-own.orders ≡ length c.args.bases.now = omega (arith, c.loop-own.invariant.1, c.loop-own-test.false, c.loop-own.auto.own-index-end) in
    IfOk-weaker c.lines_of.result _ _
    (λ (lines : List (Option (List ℕ))) (h : lines ≡ map (option_map reverse) c.loop-own.orders). lines_are c.args.bases.now c.loop-own.orders lines n c.loop-own.invariant.3 h)
    (search rules)
