use Rattle.std.proofs.Common.{rules, ◌≡◌, ◌<◌, ◌+◌, ◌++◌, ◌∷◌, [], false, replicate, length, slice_index_or, refl, sym, subst}
use Rattle.sv_reach.specs.declared.reach.Search.{Search}
use Rattle.sv_reach.specs.Searches.{all_entered}
use Rattle.sv_reach.proofs.Searching.{unmet}
use Rattle.sv_reach.proofs.Following.{Follows, at_first, followed_next, at_last, less_left}
use Rattle.sv_reach.proofs.reach.reached.Goals as goal

pub nodes-init : goal.nodes-init
nodes-init c =
    let s : Search = record { met = c.in_ok-unmet.field-0; waiting = c.new.result } in
    let met : s.met ≡ replicate (length c.args.graph.now) false = search rules in
    let none : s.waiting ≡ [] = search rules in
    let e : c.enter_all.new.self ≡ all_entered c.args.starts.now s = search rules in
    subst (Follows c.args.graph.now c.args.starts.now) (sym e) (at_first c.args.graph.now c.args.starts.now s met none)

pub nodes-smaller : goal.nodes-smaller
nodes-smaller c =
    let t : Search = record { met = c.nodes.search.met; waiting = c.pop.new.self } in
    let next = slice_index_or c.args.graph.now c.in-Some.node [] in
    let popped : c.nodes.search.waiting ≡ t.waiting ++ c.in-Some.node ∷ [] = search rules in
    let e : c.enter_all-in-Some.new.self ≡ all_entered next t = search rules in
    subst (λ (u : Search). unmet u.met + length u.waiting < unmet c.nodes.search.met + length c.nodes.search.waiting) (sym e)
    (less_left c.args.graph.now c.nodes.search t c.in-Some.node popped refl next)

pub nodes-preserved : goal.nodes-preserved
nodes-preserved c =
    let t : Search = record { met = c.nodes.search.met; waiting = c.pop.new.self } in
    let popped : c.nodes.search.waiting ≡ t.waiting ++ c.in-Some.node ∷ [] = search rules in
    let e : c.enter_all-in-Some.new.self ≡ all_entered (slice_index_or c.args.graph.now c.in-Some.node []) t = search rules in
    subst (Follows c.args.graph.now c.args.starts.now) (sym e) (followed_next c.args.graph.now c.args.starts.now c.nodes.search t c.in-Some.node popped refl c.nodes.invariant)

pub returns : goal.returns
returns c =
    let none : c.nodes.search.waiting ≡ [] = search rules in
    at_last c.args.graph.now c.args.starts.now c.nodes.search c.nodes.invariant none
