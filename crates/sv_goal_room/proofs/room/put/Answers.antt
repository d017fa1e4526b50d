use Rattle.std.proofs.Common.{List, ℕ, sym, subst, arith}
use Rattle.std.proofs.lemmas.Grind.{common_steps}
use Rattle.sv_term.specs.Banks.{args}
use Rattle.sv_goal_room.specs.GoalFilling.{ArePlaces}
use Rattle.sv_goal_room.proofs.Putting.{next_is_term, sort_number, args_among, new_term, has_room, is_put}
use Rattle.sv_goal_room.proofs.room.put.Goals as goal

pub node_of-node-requires : goal.node_of-node-requires
node_of-node-requires c = next_is_term c.args.bank.now c.args.order.now c.args.numbers.now c.args.id c.args.room.now c.requires

pub arg_numbers-requires : goal.arg_numbers-requires
arg_numbers-requires c = args_among c.args.bank.now c.args.order.now c.args.numbers.now c.args.id c.args.room.now c.requires c.node_of-node.result.now c.node_of-node.ensures.placed c.is_sound.ensures.term_number

pub returns-in_err-args : goal.returns-in_err-args
returns-in_err-args c = grind (arith, common_steps)

pub sort_of-requires : goal.sort_of-requires
sort_of-requires c = next_is_term c.args.bank.now c.args.order.now c.args.numbers.now c.args.id c.args.room.now c.requires

pub offset_bounds-numbers-sort_of : goal.offset_bounds-numbers-sort_of
offset_bounds-numbers-sort_of c =
    let w = (sort_number c.args.bank.now c.args.order.now c.args.numbers.now c.args.id c.args.room.now c.requires c.sort_of.result c.sort_of.ensures.kind).0 in
    grind (arith, common_steps, w)

pub bounds-numbers-sort_of : goal.bounds-numbers-sort_of
bounds-numbers-sort_of c =
    (sort_number c.args.bank.now c.args.order.now c.args.numbers.now c.args.id c.args.room.now c.requires c.sort_of.result c.sort_of.ensures.kind).0

pub push-requires-clause-new : goal.push-requires-clause-new
push-requires-clause-new c =
    new_term c.args.bank.now c.args.order.now c.args.numbers.now c.args.id c.args.room.now c.requires c.node_of-node.result.now c.node_of-node.ensures.placed c.sort_of.result c.sort_of.ensures.kind
    c.deref.result.now (subst (λ (l : List ℕ). ArePlaces c.args.order.now (args c.node_of-node.result.now) l) (sym c.deref.ensures.value) c.in_ok-args.ensures)
    (c.is_sound.ensures.terms c.args.id (next_is_term c.args.bank.now c.args.order.now c.args.numbers.now c.args.id c.args.room.now c.requires)) c.shape_of.result c.shape_of.ensures

pub push-requires-clause-room : goal.push-requires-clause-room
push-requires-clause-room c =
    has_room c.args.bank.now c.args.order.now c.args.numbers.now c.args.id c.args.room.now c.requires c.node_of-node.result.now c.node_of-node.ensures.placed c.sort_of.result c.sort_of.ensures.kind
    c.deref.result.now (subst (λ (l : List ℕ). ArePlaces c.args.order.now (args c.node_of-node.result.now) l) (sym c.deref.ensures.value) c.in_ok-args.ensures)

pub returns : goal.returns
returns c =
    is_put c.args.bank.now c.args.order.now c.args.numbers.now c.args.id c.args.room.now c.requires c.node_of-node.result.now c.node_of-node.ensures.placed c.sort_of.result c.sort_of.ensures.kind
    c.deref.result.now (subst (λ (l : List ℕ). ArePlaces c.args.order.now (args c.node_of-node.result.now) l) (sym c.deref.ensures.value) c.in_ok-args.ensures)
    c.shape_of.result c.shape_of.ensures c.push.new.self c.push.ensures.rows c.push.ensures.terms
