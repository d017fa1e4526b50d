use Rattle.std.proofs.Common.{rules, ◌≡◌, true, Option, List, ℕ, subst}
use Rattle.std.proofs.lemmas.Result.{IfOk-weaker}
use Rattle.sv_lines.specs.Lines.{Ordered}
use Rattle.sv_orders.specs.LineTables.{all_have}
use Rattle.sv_orders.proofs.Tables.{with_bases}
use Rattle.sv_orders.proofs.orders.order_behind.Goals as goal

pub returns-then-all_have : goal.returns-then-all_have
returns-then-all_have c =
    let orders = c.args.orders.now in
    let own = c.args.own.now in
    let have : all_have orders own ≡ true = search rules in
    IfOk-weaker c.order_of.result _ _
    (λ (r : Option (List ℕ)) (h : Ordered c.args.known.now c.args.c own r). with_bases orders c.args.c own r have (subst (λ x. Ordered x c.args.c own r) c.requires h))
    c.order_of.ensures
