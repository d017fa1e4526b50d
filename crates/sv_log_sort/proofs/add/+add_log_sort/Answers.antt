use Rattle.std.proofs.Common.{◌≡◌, ◌+◌, ◌-◌, arith, map, take, drop, length}
use Rattle.sv_term.specs.Sorts.{TupSort}
use Rattle.sv_cert.specs.PlainNodes.{plain_sort, sorts_from}
use Rattle.sv_cert.specs.declared.sort.LogSort.TheFolds.{the_lemmas}
use Rattle.sv_log_sort.specs.TakenSorts.{cells_of, cells_of_parts}
use Rattle.sv_sort_room.specs.declared.cell.Cell.TheVariants as k
use Rattle.sv_log_sort.proofs.Growing.{grows_one, grows_through, taken_within, pair_parts, one_parts, parts_counted}
use Rattle.sv_log_sort.proofs.add.+add_log_sort.Goals as goal

pub add_log_sort-add_sort-requires-in-Some-clause-parts : goal.add_log_sort-add_sort-requires-in-Some-clause-parts
add_log_sort-add_sort-requires-in-Some-clause-parts t c = taken_within _ _ _ c.in-Some.ensures.sort

pub add_log_sort-returns-in-Bool-clause-grows : goal.add_log_sort-returns-in-Bool-clause-grows
add_log_sort-returns-in-Bool-clause-grows t c = grows_one _ _ k.Bool _ (one_parts (plain_sort c.args.sort.now)) c.add_sort.ensures.kept c.add_sort.ensures.sorts c.add_sort.ensures.rest c.add_sort.ensures.terms

pub add_log_sort-returns-in-Some-clause-grows : goal.add_log_sort-returns-in-Some-clause-grows
add_log_sort-returns-in-Some-clause-grows t c =
    let count : cells_of (plain_sort c.args.sort.now) ≡ 1 + cells_of (plain_sort c.get.result.now) = grind (arith, the_lemmas) in
    (grows_through _ _ _ (cells_of (plain_sort c.get.result.now)) 1 _ (omega (arith, count)) c.add_log_sort.ensures.grows
    (grows_one _ _ (k.Arr c.in-Some.number) 1 (omega arith) c.add_sort-in-Some.ensures.kept c.add_sort-in-Some.ensures.sorts c.add_sort-in-Some.ensures.rest c.add_sort-in-Some.ensures.terms))

pub add_parts-add_parts-requires : goal.add_parts-add_parts-requires
add_parts-add_parts-requires t c =
    let count = parts_counted c.args.parts.now c.first-item.result c.in-len1-up.len_at_least c.first-item.is in
    (omega (arith, count), omega (arith, count, c.requires))

pub add_parts-add_sort-requires-in-Some-add_log_sort-clause-parts : goal.add_parts-add_sort-requires-in-Some-add_log_sort-clause-parts
add_parts-add_sort-requires-in-Some-add_log_sort-clause-parts t c = pair_parts _ _ _ _ _ _ c.add_log_sort.ensures.grows.cells c.in-Some.ensures.sort c.in-Some-add_log_sort.ensures.sort

pub add_parts-returns-in-empty-clause-grows : goal.add_parts-returns-in-empty-clause-grows
add_parts-returns-in-empty-clause-grows t c = grows_one _ _ k.Unit _ (one_parts (TupSort (sorts_from (map plain_sort c.args.parts.now)))) c.add_sort.ensures.kept c.add_sort.ensures.sorts c.add_sort.ensures.rest c.add_sort.ensures.terms

pub add_parts-returns-in-Some-add_log_sort-clause-grows : goal.add_parts-returns-in-Some-add_log_sort-clause-grows
add_parts-returns-in-Some-add_log_sort-clause-grows t c =
    let count = parts_counted c.args.parts.now c.first-item.result c.in-len1-up.len_at_least c.first-item.is in
    let others = 1 + cells_of_parts (sorts_from (map plain_sort (take (length c.args.parts.now - 1) (drop 1 c.args.parts.now)))) in
    let first = cells_of (plain_sort c.first-item.result) in
    grows_through _ _ _ (others + first) 1 _ (omega (arith, count))
    (grows_through _ _ _ others first (others + first) (omega arith) c.add_parts.ensures.grows c.add_log_sort.ensures.grows)
    (grows_one _ _ (k.Tup c.in-Some-add_log_sort.number c.in-Some.rest) 1 (omega arith) c.add_sort-in-Some-add_log_sort.ensures.kept c.add_sort-in-Some-add_log_sort.ensures.sorts
    c.add_sort-in-Some-add_log_sort.ensures.rest c.add_sort-in-Some-add_log_sort.ensures.terms)
