use Rattle.std.proofs.Common.{arith}
use Rattle.std.proofs.lemmas.List.{nil_from_length}
use Rattle.sv_derived.proofs.Heads.{least_first, least_second, least_own, least_other}
use Rattle.sv_derived.proofs.sum.least_column.Goals as goal

pub returns-then-x-y : goal.returns-then-x-y
returns-then-x-y c =
    least_first c.in-Some-Some.field-0-0-0.now c.in-Some-Some.field-0-0-1.now c.args.own.now c.args.other.now c.in-Some-Some.field-0-1-0.now c.in-Some-Some.field-0-1-1.now
    c.in-Some-Some.ensures.cases.0 c.in-Some-Some.ensures'.cases.0 (omega arith)

pub returns-else-x-y : goal.returns-else-x-y
returns-else-x-y c =
    least_second c.in-Some-Some.field-0-0-0.now c.in-Some-Some.field-0-0-1.now c.args.own.now c.args.other.now c.in-Some-Some.field-0-1-0.now c.in-Some-Some.field-0-1-1.now
    c.in-Some-Some.ensures.cases.0 c.in-Some-Some.ensures'.cases.0 (omega arith)

pub returns-in-Some-None : goal.returns-in-Some-None
returns-in-Some-None c =
    least_own c.in-Some-None.field-0-0-0.now c.args.own.now c.args.other.now c.in-Some-None.field-0-1-0.now c.in-Some-None.ensures.cases.0 c.in-Some-None.ensures'.cases

pub returns-in-None-Some : goal.returns-in-None-Some
returns-in-None-Some c =
    least_other c.in-None-Some.field-0-0-1.now c.args.own.now c.args.other.now c.in-None-Some.field-0-1-1.now c.in-None-Some.ensures.cases c.in-None-Some.ensures'.cases.0

pub returns-in-None-None : goal.returns-in-None-None
returns-in-None-None c = (nil_from_length c.args.own.now c.in-None-None.ensures.cases, nil_from_length c.args.other.now c.in-None-None.ensures'.cases)
