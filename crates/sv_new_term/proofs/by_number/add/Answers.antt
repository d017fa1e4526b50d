use Rattle.std.proofs.Common.{subst, arith}
use Rattle.sv_log_sort.proofs.Growing.{grows_one}
use Rattle.sv_new_term.specs.Offers.{IsAddable}
use Rattle.sv_new_term.proofs.Offering.{tree_kept, new_there, new_of, room_of, longer_there, longer_of}
use Rattle.sv_new_term.proofs.by_number.add.Goals as goal

pub push-requires-clause-new : goal.push-requires-clause-new
push-requires-clause-new c = new_there _ _ _ c.in-There.sort (subst (λ m. IsAddable c.args.room.now c.args.shape c.args.args.now m) c.in-There.is c.requires)

pub push-requires-in-Of-clause-new : goal.push-requires-in-Of-clause-new
push-requires-in-Of-clause-new c =
    new_of _ _ _ _ c.in-Of.cell c.add_sort-sort.result (subst (λ m. IsAddable c.args.room.now c.args.shape c.args.args.now m) c.in-Of.is c.requires) c.add_sort-sort.ensures.kept c.add_sort-sort.ensures.rest
    c.add_sort-sort.ensures.terms c.add_sort-sort.ensures.number

pub push-requires-in-Of-clause-room : goal.push-requires-in-Of-clause-room
push-requires-in-Of-clause-room c =
    let grows = grows_one c.args.room.now c.add_sort-sort.new.self c.in-Of.cell 1 (omega arith) c.add_sort-sort.ensures.kept c.add_sort-sort.ensures.sorts c.add_sort-sort.ensures.rest c.add_sort-sort.ensures.terms in
    room_of c.args.room.now _ _ c.add_sort-sort.ensures.rest grows.size c.requires.room

pub returns-in-There : goal.returns-in-There
returns-in-There c = longer_there _ _ _ _ c.in-There.sort 1 c.push.ensures.rows c.push.ensures.terms

pub returns-in-Of : goal.returns-in-Of
returns-in-Of c =
    let grows = grows_one c.args.room.now c.add_sort-sort.new.self c.in-Of.cell 1 (omega arith) c.add_sort-sort.ensures.kept c.add_sort-sort.ensures.sorts c.add_sort-sort.ensures.rest c.add_sort-sort.ensures.terms in
    let tree = tree_kept c.args.room.now c.add_sort-sort.new.self c.args.shape c.args.args.now c.add_sort-sort.ensures.kept c.add_sort-sort.ensures.terms c.requires.sort_there in
    longer_of c.args.room.now c.add_sort-sort.new.self c.push-in-Of.new.self c.args.shape c.args.args.now 1 0 _ grows tree
    (longer_there _ _ c.args.shape c.args.args.now c.add_sort-sort.result 0 c.push-in-Of.ensures.rows c.push-in-Of.ensures.terms)
