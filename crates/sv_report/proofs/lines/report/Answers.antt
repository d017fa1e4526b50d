use Rattle.std.proofs.Common.{◌≡◌, ◌+◌, ◌-◌, ◌++◌, length, List, ℕ, Bool, slice_index_or, codes, get_or, ap, sym, ◌∙◌, arith}
use Rattle.sv_first_judge.specs.Judging.{judged_of}
use Rattle.sv_report.specs.Report.{last_text, line_text, lines_text}
use Rattle.sv_first_form.specs.declared.contract.Function.{Function}
use Rattle.sv_first_judge.specs.declared.verdict.Verdict.TheVariants.{Verified}
use Rattle.sv_report.proofs.ReportLines.{function_line, gift_line, advance}
use Rattle.sv_report.proofs.lines.report.Goals as goal

pub loop-at-preserved : goal.loop-at-preserved
loop-at-preserved c =
    let contract = c.args.contract.now in
    let items : c.as_slice-function-items.result.now ≡ contract.functions = c.as_slice-function-items.ensures in
    let size = ap (λ (fs : List Function). length fs) items in
    let next =
    function_line contract c.args.verdicts.now c.loop-at.at c.function-item.result (Verified 0) (omega arith)
    (c.function-item.is ∙ ap (λ (fs : List Function). get_or fs c.loop-at.at c.function-item.result) items)
    (omega arith) in
    let name : c.bytes-name.result.now ≡ contract.name = c.bytes-name.ensures in
    let function : c.bytes.result.now ≡ c.function-item.result.name = c.bytes.ensures in
    advance _ _ _ _ _ _ c.loop-at.invariant next (c.in_ok-push_line-2.ensures
    ∙ ap (λ (n : List ℕ). c.loop-at.report.items ++ line_text n c.bytes.result.now (slice_index_or c.args.verdicts.now (c.loop-at.at + 1) (Verified 0))) name
    ∙ ap (λ (f : List ℕ). c.loop-at.report.items ++ line_text contract.name f (slice_index_or c.args.verdicts.now (c.loop-at.at + 1) (Verified 0))) function)

pub returns : goal.returns
returns c =
    let contract = c.args.contract.now in
    let items : c.as_slice-function-items.result.now ≡ contract.functions = c.as_slice-function-items.ensures in
    let size = ap (λ (fs : List Function). length fs) items in
    let at_end : c.loop-at.at ≡ length contract.functions = omega arith in
    let last = gift_line contract c.args.verdicts.now c.loop-at.at (Verified 0) at_end (omega arith) in
    let name : c.bytes-name.result.now ≡ contract.name = c.bytes-name.ensures in
    let gift = c.in_ok-push_line-3.ensures
    ∙ ap (λ (n : List ℕ). c.loop-at.report.items ++ line_text n (codes "(gift)") (slice_index_or c.args.verdicts.now (length c.args.verdicts.now - 1) (Verified 0))) name in
    c.in_ok-push_last.ensures
    ∙ ap (λ (r : List ℕ). r ++ last_text c.bytes-name.result.now c.all_verified.result) (gift ∙ ap (λ (r : List ℕ). c.loop-at.report.items ++ r) (sym last) ∙ c.loop-at.invariant)
    ∙ ap (λ (n : List ℕ). lines_text contract.name (judged_of contract) c.args.verdicts.now ++ last_text n c.all_verified.result) name
    ∙ ap (λ (b : Bool). lines_text contract.name (judged_of contract) c.args.verdicts.now ++ last_text contract.name b) c.all_verified.ensures
