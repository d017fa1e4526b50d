use Rattle.std.proofs.Common.{◌≡◌, ◌+ℤ◌, get_or, refl, sym, subst, ◌∙◌, pos, List, FitsSigned, arith, rules}
use Rattle.std.specs.Int.{w128}
use Rattle.std.proofs.lemmas.Int.{ints}
use Rattle.sv_first_judge.specs.declared.row.Column.{Column}
use Rattle.sv_first_judge.proofs.Added.{adds_set, adds_push, size-le-weight}
use Rattle.sv_first_judge.proofs.ColumnLemmas.{found_at, found_nowhere, AreDistinct, AreDistinct-set, AreDistinct-tried}
use Rattle.sv_first_judge.proofs.row.Row.add_column.Goals as goal

pub exact_sum-number-requires : goal.exact_sum-number-requires
exact_sum-number-requires c =
    let row = c.args.self.now in
    let none : Column = record { variable = 0; number = pos 0 } in
    let found = found_at c.args.column.variable row.columns none c.in-Some.at row.distinct (sym c.place_of.ensures ∙ c.in-Some.is) in
    let fits : FitsSigned w128 (get_or row.columns c.in-Some.at none).number = search rules in
    rw c.as_slice.ensures (omega (arith, ints, size-le-weight row c.in-Some.at none found.0))

pub invariant_of-self : goal.invariant_of-self
invariant_of-self c =
    let columns = c.args.self.now.columns in
    let v = c.args.column.variable in
    let place = sym c.place_of.ensures ∙ c.in-Some.is in
    let found = λ (d : Column). found_at v columns d c.in-Some.at c.args.self.now.distinct place in
    let P : List Column → Type 0 = λ cs. AreDistinct cs in
    record { distinct = subst P (sym c.set.ensures) (AreDistinct-set columns c.in-Some.at _ (found c.args.column).0 (λ d. (found d).1) c.args.self.now.distinct) }

pub invariant_of-self-in-None : goal.invariant_of-self-in-None
invariant_of-self-in-None c =
    let row = c.args.self.now in
    let lacks = found_nowhere c.args.column.variable row.columns (sym c.place_of.ensures ∙ c.in-None.is) in
    record { distinct = AreDistinct-tried c.push.result row.columns c.push.new.self c.args.column c.push.ensures.ok c.push.ensures.err lacks row.distinct }

pub returns-in-Some : goal.returns-in-Some
returns-in-Some c =
    let row = c.args.self.now in
    let none : Column = record { variable = 0; number = pos 0 } in
    let found = found_at c.args.column.variable row.columns none c.in-Some.at row.distinct (sym c.place_of.ensures ∙ c.in-Some.is) in
    let fits : FitsSigned w128 (get_or row.columns c.in-Some.at none).number = search rules in
    let more_fits : FitsSigned w128 c.args.column.number = search rules in
    let sum_fits : FitsSigned w128 c.exact_sum-number.result = search rules in
    let sum = rw c.as_slice.ensures at c.exact_sum-number.ensures in
    let number : c.exact_sum-number.result ≡ (get_or row.columns c.in-Some.at none).number +ℤ c.args.column.number = omega (arith, ints) in
    adds_set row _ c.in-Some.at c.args.column _ none refl c.set.ensures found.0 found.1 refl (omega (arith, ints))

pub returns-in_ok-push-in-None : goal.returns-in_ok-push-in-None
returns-in_ok-push-in-None c = adds_push _ _ _ refl c.in_ok-push-in-None.ensures.ok
