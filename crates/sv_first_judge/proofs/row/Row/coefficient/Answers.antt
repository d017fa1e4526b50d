use Rattle.std.proofs.Common.{get_or, arith, sym, ◌∙◌, pos, rules, FitsSigned}
use Rattle.std.specs.Int.{w128}
use Rattle.std.proofs.lemmas.Int.{ints}
use Rattle.sv_first_judge.proofs.ColumnLemmas.{found_at, found_nowhere, coefficient_absent}
use Rattle.sv_first_judge.proofs.row.Row.coefficient.Goals as goal

pub returns-in-Some : goal.returns-in-Some
returns-in-Some c =
    let columns = c.args.self.now.columns in
    let h = found_at c.args.variable columns (record { variable = 0; number = pos 0 }) c.in-Some.at c.args.self.now.distinct (sym c.place_of.ensures ∙ c.in-Some.is) in
    let fits : FitsSigned w128 (get_or columns c.in-Some.at (record { variable = 0; number = pos 0 })).number = search rules in
    rw c.as_slice.ensures (omega (arith, ints))

pub returns-in-None : goal.returns-in-None
returns-in-None c = sym (coefficient_absent c.args.self.now.columns c.args.variable (found_nowhere c.args.variable c.args.self.now.columns (sym c.place_of.ensures ∙ c.in-None.is)))
