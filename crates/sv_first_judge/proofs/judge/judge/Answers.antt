use Rattle.std.proofs.Common.{◌≡◌, ◌<◌, List, [], length, get_or, map, sym, ap, ◌∙◌, subst, arith}
use Rattle.std.specs.Prelude.{All, codes}
use Rattle.sv_first_judge.specs.Judging.{equation_form, known_at_construction, known_at_entry, judged_function}
use Rattle.sv_first_judge.specs.LinearForm.{variable_form}
use Rattle.sv_first_judge.specs.Points.{known_of, known_after_acts}
use Rattle.sv_first_judge.specs.Rows.{form_of}
use Rattle.sv_first_form.specs.declared.contract.Function.{Function}
use Rattle.sv_first_judge.specs.declared.row.Row.{Row}
use Rattle.sv_first_judge.specs.Assignments.{HasSums}
use Rattle.sv_first_form.specs.declared.contract.Equation.{Equation}
use Rattle.sv_first_judge.proofs.ContractLemmas.{sums_of_contract}
use Rattle.sv_first_judge.proofs.PointLemmas.{verdict_at, first_verdict, known_at_end, known_of_gift, verdicts_more, verdicts_all}
use Rattle.sv_first_judge.proofs.judge.judge.Goals as goal

pub loop-function-init : goal.loop-function-init
loop-function-init c =
    let contract = c.args.contract.now in
    let first = verdict_at contract.invariants c.as_slice-invariants.result.now known_at_construction (known_of c.new.result) c.in_ok-verdict.field-0 c.as_slice-invariants.ensures c.new.ensures.known c.in_ok-verdict.ensures in
    first_verdict contract.invariants (record { name = codes "constructor"; end = known_at_construction }) c.new-verdicts.result.items c.push.new.self.items c.in_ok-verdict.field-0 c.new-verdicts.ensures.items (rw c.in_ok-push.was at c.push.ensures.items) first

pub verdict-requires-in-loop-function : goal.verdict-requires-in-loop-function
verdict-requires-in-loop-function c =
    let P : List Equation → Type 0 = λ es. All HasSums es in
    subst P (sym c.as_slice-invariants.ensures) (sums_of_contract c.args.contract.now c.requires)

pub loop-function-preserved : goal.loop-function-preserved
loop-function-preserved c =
    let contract = c.args.contract.now in
    let rows = c.in_ok-rows.rows.items in
    let f = c.function-item.result in
    let v = c.in_ok-verdict-2.field-0 in
    let same : map form_of rows ≡ map (equation_form variable_form) contract.invariants =
    c.in_ok-rows.ensures ∙ ap (map (equation_form variable_form)) c.as_slice-invariants.ensures in
    let end : known_of c.in_ok-end.end ≡ (judged_function contract f).end =
    c.in_ok-end.ensures ∙ ap (λ (hs : List Row). known_after_acts (map form_of hs) c.as_slice.result.now) c.as_slice-hypotheses.ensures.value ∙ known_at_end contract rows same f c.as_slice.result.now c.as_slice.ensures in
    let verdict = verdict_at contract.invariants c.as_slice-invariants.result.now (judged_function contract f).end (known_of c.in_ok-end.end) v c.as_slice-invariants.ensures end c.in_ok-verdict-2.ensures in
    let P : List Function → Type 0 = λ fs. f ≡ get_or fs c.loop-function.function-index f in
    let inside : c.loop-function.function-index < length contract.functions = omega (arith, ap length c.as_slice-function-items.ensures) in
    verdicts_more contract (record { name = codes "constructor"; end = known_at_construction }) c.loop-function.verdicts.items c.push-in-loop-function.new.self.items v (rw c.in_ok-push-2.was at c.push-in-loop-function.ensures.items) c.loop-function.function-index c.loop-function.invariant
    f inside (subst P c.as_slice-function-items.ensures c.function-item.is) verdict

pub verdict-requires-2 : goal.verdict-requires-2
verdict-requires-2 c =
    let P : List Equation → Type 0 = λ es. All HasSums es in
    subst P (sym c.as_slice-invariants.ensures) (sums_of_contract c.args.contract.now c.requires)

pub returns : goal.returns
returns c =
    let contract = c.args.contract.now in
    let rows = c.in_ok-rows.rows.items in
    let v = c.in_ok-verdict-3.field-0 in
    let same : map form_of rows ≡ map (equation_form variable_form) contract.invariants =
    c.in_ok-rows.ensures ∙ ap (map (equation_form variable_form)) c.as_slice-invariants.ensures in
    let end : known_of c.new-gift.result ≡ known_at_entry contract =
    c.new-gift.ensures.known ∙ ap (λ (hs : List Row). known_after_acts (map form_of hs) []) c.as_slice-hypotheses.ensures.value ∙ known_of_gift contract rows same in
    let verdict = verdict_at contract.invariants c.as_slice-invariants.result.now (known_at_entry contract) (known_of c.new-gift.result) v c.as_slice-invariants.ensures end c.in_ok-verdict-3.ensures in
    verdicts_all contract (record { name = codes "constructor"; end = known_at_construction }) c.loop-function.verdicts.items c.push-2.new.self.items v (rw c.in_ok-push-3.was at c.push-2.ensures.items) c.loop-function.function-index c.loop-function.invariant
    (record { name = codes "(gift)"; end = known_at_entry contract }) (omega (arith, ap length c.as_slice-function-items.ensures)) verdict
