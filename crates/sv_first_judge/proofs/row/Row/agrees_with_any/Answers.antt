use Rattle.std.proofs.Common.{rules, tests}
use Rattle.std.proofs.lemmas.Iterator.{cases_from_any, YieldsList-from_slice}
use Rattle.sv_first_judge.specs.Rows.{Agree, form_of}
use Rattle.sv_first_judge.specs.declared.row.Row.{Row}
use Rattle.sv_first_judge.proofs.PointLemmas.{Any-from_search}
use Rattle.sv_first_judge.proofs.row.Row.agrees_with_any.Goals as goal

pub returns : goal.returns
returns c =
    let row = c.args.self.now in
    let rows = c.args.rows.now in
    let P : Row → Type 0 = λ other. Agree (form_of row) (form_of other) in
    let Q : Row → Type 0 = λ other. P other → ⊥ in
    let by_call = cases_from_any _ _ _ P Q c.any.ensures.ran (YieldsList-from_slice rows cc) (λ x q k. search (rules, tests)) (λ x q k. search (rules, tests)) in
    Any-from_search P rows row _ by_call
