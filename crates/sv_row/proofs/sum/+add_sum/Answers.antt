use Rattle.std.proofs.Common.{arith, rules}
use Rattle.std.specs.Prelude.{FitsSigned}
use Rattle.std.proofs.lemmas.Int.{to_z-of_z}
use mir.Syntax.{w128}
use Rattle.sv_row.specs.RowParts.{monomials}
use Rattle.sv_row.proofs.Calls.{above_nothing, rest_rises, above_lesser, own_stops, own_goes_on, other_stops, other_goes_on, both_stop, both_go_on}
use Rattle.sv_row.proofs.sum.+add_sum.Goals as goal

pub returns-then-branch : goal.returns-then-branch
returns-then-branch t c =
    let im = to_z-of_z w128 c.args.m c.ranges.m in
    let jn = to_z-of_z w128 c.args.n c.ranges.n in
    let f : FitsSigned w128 c.in-None-Some.field-0-0-1.now.0 = search rules in
    other_goes_on c.args.m c.args.n _ _ im jn (monomials c.args.made.now.items) (monomials c.add_other.new.made.items) (monomials c.add_sum.new.made.items)
    c.args.own.now c.args.other.now c.in-None-Some.rest.now c.in-None-Some.field-0-0-1.now _ c.in_ok-add_other-in-None-Some.field-0 c.in-None-Some.ensures'.cases.0 (to_z-of_z w128 c.in-None-Some.field-0-0-1.now.0 f)
    (above_nothing c.in-None-Some.field-0-0-1.now.1 c.args.own.now c.in-None-Some.ensures.cases)
    c.in_ok-add_other-in-None-Some.ensures c.add_sum.result c.if-branch.true c.add_sum.ensures

pub returns-else-branch : goal.returns-else-branch
returns-else-branch t c =
    let im = to_z-of_z w128 c.args.m c.ranges.m in
    let jn = to_z-of_z w128 c.args.n c.ranges.n in
    let f : FitsSigned w128 c.in-None-Some.field-0-0-1.now.0 = search rules in
    other_stops c.args.m c.args.n _ _ im jn (monomials c.args.made.now.items) (monomials c.add_other.new.made.items) (monomials c.add_other.new.made.items)
    c.args.own.now c.args.other.now c.in-None-Some.rest.now c.in-None-Some.field-0-0-1.now _ c.in_ok-add_other-in-None-Some.field-0 c.in-None-Some.ensures'.cases.0 (to_z-of_z w128 c.in-None-Some.field-0-0-1.now.0 f)
    (above_nothing c.in-None-Some.field-0-0-1.now.1 c.args.own.now c.in-None-Some.ensures.cases)
    c.in_ok-add_other-in-None-Some.ensures c.if-branch.false

pub returns-then-branch-2 : goal.returns-then-branch-2
returns-then-branch-2 t c =
    let im = to_z-of_z w128 c.args.m c.ranges.m in
    let jn = to_z-of_z w128 c.args.n c.ranges.n in
    let f : FitsSigned w128 c.in-Some-None.field-0-0-0.now.0 = search rules in
    own_goes_on c.args.m c.args.n _ _ im jn (monomials c.args.made.now.items) (monomials c.add_own.new.made.items) (monomials c.add_sum-then-branch-2.new.made.items)
    c.args.own.now c.in-Some-None.rest.now c.args.other.now c.in-Some-None.field-0-0-0.now _ c.in_ok-add_own-in-Some-None.field-0 c.in-Some-None.ensures.cases.0 (to_z-of_z w128 c.in-Some-None.field-0-0-0.now.0 f)
    (rest_rises c.in-Some-None.field-0-0-0.now c.args.own.now c.in-Some-None.rest.now c.in-Some-None.ensures.cases.0 c.requires.0).0
    (above_nothing c.in-Some-None.field-0-0-0.now.1 c.args.other.now c.in-Some-None.ensures'.cases)
    c.in_ok-add_own-in-Some-None.ensures c.add_sum-then-branch-2.result c.if-branch-2.true c.add_sum-then-branch-2.ensures

pub returns-else-branch-2 : goal.returns-else-branch-2
returns-else-branch-2 t c =
    let im = to_z-of_z w128 c.args.m c.ranges.m in
    let jn = to_z-of_z w128 c.args.n c.ranges.n in
    let f : FitsSigned w128 c.in-Some-None.field-0-0-0.now.0 = search rules in
    own_stops c.args.m c.args.n _ _ im jn (monomials c.args.made.now.items) (monomials c.add_own.new.made.items) (monomials c.add_own.new.made.items)
    c.args.own.now c.in-Some-None.rest.now c.args.other.now c.in-Some-None.field-0-0-0.now _ c.in_ok-add_own-in-Some-None.field-0 c.in-Some-None.ensures.cases.0 (to_z-of_z w128 c.in-Some-None.field-0-0-0.now.0 f)
    (rest_rises c.in-Some-None.field-0-0-0.now c.args.own.now c.in-Some-None.rest.now c.in-Some-None.ensures.cases.0 c.requires.0).0
    (above_nothing c.in-Some-None.field-0-0-0.now.1 c.args.other.now c.in-Some-None.ensures'.cases)
    c.in_ok-add_own-in-Some-None.ensures c.if-branch-2.false

pub returns-then-branch-3 : goal.returns-then-branch-3
returns-then-branch-3 t c =
    let im = to_z-of_z w128 c.args.m c.ranges.m in
    let jn = to_z-of_z w128 c.args.n c.ranges.n in
    let f : FitsSigned w128 c.in-Some-Some.field-0-0-0.now.0 = search rules in
    own_goes_on c.args.m c.args.n _ _ im jn (monomials c.args.made.now.items) (monomials c.add_own-then-x-y.new.made.items) (monomials c.add_sum-then-branch-3.new.made.items)
    c.args.own.now c.in-Some-Some.own_rest.now c.args.other.now c.in-Some-Some.field-0-0-0.now _ c.in_ok-add_own-in-Some-Some.field-0 c.in-Some-Some.ensures.cases.0 (to_z-of_z w128 c.in-Some-Some.field-0-0-0.now.0 f)
    (rest_rises c.in-Some-Some.field-0-0-0.now c.args.own.now c.in-Some-Some.own_rest.now c.in-Some-Some.ensures.cases.0 c.requires.0).0
    (above_lesser c.in-Some-Some.field-0-0-0.now.1 c.in-Some-Some.field-0-0-1.now c.args.other.now c.in-Some-Some.other_rest.now c.in-Some-Some.ensures'.cases.0 c.requires.1 (omega arith))
    c.in_ok-add_own-in-Some-Some.ensures c.add_sum-then-branch-3.result c.if-branch-3.true c.add_sum-then-branch-3.ensures

pub returns-else-branch-3 : goal.returns-else-branch-3
returns-else-branch-3 t c =
    let im = to_z-of_z w128 c.args.m c.ranges.m in
    let jn = to_z-of_z w128 c.args.n c.ranges.n in
    let f : FitsSigned w128 c.in-Some-Some.field-0-0-0.now.0 = search rules in
    own_stops c.args.m c.args.n _ _ im jn (monomials c.args.made.now.items) (monomials c.add_own-then-x-y.new.made.items) (monomials c.add_own-then-x-y.new.made.items)
    c.args.own.now c.in-Some-Some.own_rest.now c.args.other.now c.in-Some-Some.field-0-0-0.now _ c.in_ok-add_own-in-Some-Some.field-0 c.in-Some-Some.ensures.cases.0 (to_z-of_z w128 c.in-Some-Some.field-0-0-0.now.0 f)
    (rest_rises c.in-Some-Some.field-0-0-0.now c.args.own.now c.in-Some-Some.own_rest.now c.in-Some-Some.ensures.cases.0 c.requires.0).0
    (above_lesser c.in-Some-Some.field-0-0-0.now.1 c.in-Some-Some.field-0-0-1.now c.args.other.now c.in-Some-Some.other_rest.now c.in-Some-Some.ensures'.cases.0 c.requires.1 (omega arith))
    c.in_ok-add_own-in-Some-Some.ensures c.if-branch-3.false

pub returns-then-branch-4 : goal.returns-then-branch-4
returns-then-branch-4 t c =
    let im = to_z-of_z w128 c.args.m c.ranges.m in
    let jn = to_z-of_z w128 c.args.n c.ranges.n in
    let f : FitsSigned w128 c.in-Some-Some.field-0-0-1.now.0 = search rules in
    other_goes_on c.args.m c.args.n _ _ im jn (monomials c.args.made.now.items) (monomials c.add_other-then-y-x.new.made.items) (monomials c.add_sum-then-branch-4.new.made.items)
    c.args.own.now c.args.other.now c.in-Some-Some.other_rest.now c.in-Some-Some.field-0-0-1.now _ c.in_ok-add_other-in-Some-Some.field-0 c.in-Some-Some.ensures'.cases.0 (to_z-of_z w128 c.in-Some-Some.field-0-0-1.now.0 f)
    (above_lesser c.in-Some-Some.field-0-0-1.now.1 c.in-Some-Some.field-0-0-0.now c.args.own.now c.in-Some-Some.own_rest.now c.in-Some-Some.ensures.cases.0 c.requires.0 (omega arith))
    c.in_ok-add_other-in-Some-Some.ensures c.add_sum-then-branch-4.result c.if-branch-4.true c.add_sum-then-branch-4.ensures

pub returns-else-branch-4 : goal.returns-else-branch-4
returns-else-branch-4 t c =
    let im = to_z-of_z w128 c.args.m c.ranges.m in
    let jn = to_z-of_z w128 c.args.n c.ranges.n in
    let f : FitsSigned w128 c.in-Some-Some.field-0-0-1.now.0 = search rules in
    other_stops c.args.m c.args.n _ _ im jn (monomials c.args.made.now.items) (monomials c.add_other-then-y-x.new.made.items) (monomials c.add_other-then-y-x.new.made.items)
    c.args.own.now c.args.other.now c.in-Some-Some.other_rest.now c.in-Some-Some.field-0-0-1.now _ c.in_ok-add_other-in-Some-Some.field-0 c.in-Some-Some.ensures'.cases.0 (to_z-of_z w128 c.in-Some-Some.field-0-0-1.now.0 f)
    (above_lesser c.in-Some-Some.field-0-0-1.now.1 c.in-Some-Some.field-0-0-0.now c.args.own.now c.in-Some-Some.own_rest.now c.in-Some-Some.ensures.cases.0 c.requires.0 (omega arith))
    c.in_ok-add_other-in-Some-Some.ensures c.if-branch-4.false

pub returns-then-branch-5 : goal.returns-then-branch-5
returns-then-branch-5 t c =
    let im = to_z-of_z w128 c.args.m c.ranges.m in
    let jn = to_z-of_z w128 c.args.n c.ranges.n in
    let f : FitsSigned w128 c.in-Some-Some.field-0-0-0.now.0 = search rules in
    let g : FitsSigned w128 c.in-Some-Some.field-0-0-1.now.0 = search rules in
    both_go_on c.args.m c.args.n _ _ im jn (monomials c.args.made.now.items) (monomials c.add_both.new.made.items) (monomials c.add_sum-then-branch-5.new.made.items)
    c.args.own.now c.in-Some-Some.own_rest.now c.args.other.now c.in-Some-Some.other_rest.now c.in-Some-Some.field-0-0-0.now c.in-Some-Some.field-0-0-1.now _ _ c.in_ok-add_both-in-Some-Some.field-0 c.in-Some-Some.ensures.cases.0 c.in-Some-Some.ensures'.cases.0 (to_z-of_z w128 c.in-Some-Some.field-0-0-0.now.0 f) (to_z-of_z w128 c.in-Some-Some.field-0-0-1.now.0 g)
    (rest_rises c.in-Some-Some.field-0-0-0.now c.args.own.now c.in-Some-Some.own_rest.now c.in-Some-Some.ensures.cases.0 c.requires.0).0 (omega arith)
    c.in_ok-add_both-in-Some-Some.ensures c.add_sum-then-branch-5.result c.if-branch-5.true c.add_sum-then-branch-5.ensures

pub returns-else-branch-5 : goal.returns-else-branch-5
returns-else-branch-5 t c =
    let im = to_z-of_z w128 c.args.m c.ranges.m in
    let jn = to_z-of_z w128 c.args.n c.ranges.n in
    let f : FitsSigned w128 c.in-Some-Some.field-0-0-0.now.0 = search rules in
    let g : FitsSigned w128 c.in-Some-Some.field-0-0-1.now.0 = search rules in
    both_stop c.args.m c.args.n _ _ im jn (monomials c.args.made.now.items) (monomials c.add_both.new.made.items) (monomials c.add_both.new.made.items)
    c.args.own.now c.in-Some-Some.own_rest.now c.args.other.now c.in-Some-Some.other_rest.now c.in-Some-Some.field-0-0-0.now c.in-Some-Some.field-0-0-1.now _ _ c.in_ok-add_both-in-Some-Some.field-0 c.in-Some-Some.ensures.cases.0 c.in-Some-Some.ensures'.cases.0 (to_z-of_z w128 c.in-Some-Some.field-0-0-0.now.0 f) (to_z-of_z w128 c.in-Some-Some.field-0-0-1.now.0 g)
    (rest_rises c.in-Some-Some.field-0-0-0.now c.args.own.now c.in-Some-Some.own_rest.now c.in-Some-Some.ensures.cases.0 c.requires.0).0 (omega arith)
    c.in_ok-add_both-in-Some-Some.ensures c.if-branch-5.false
