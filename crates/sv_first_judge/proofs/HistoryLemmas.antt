-- One step of a run.
use Rattle.std.proofs.Common.{◌≡◌, ◌+◌, ◌-◌, ◌<◌, ◌≤◌, ℕ, zero, suc, List, length, get_or, drop, Some, option_and_then, sym, ap, ◌∙◌, arith}
use Rattle.std.proofs.lemmas.List.{at_drop_more}
use Rattle.sv_first_form.specs.declared.contract.Act.{Act}
use Rattle.sv_first_judge.specs.History.{Values, after_act, run}

-- an act that doesn't revert, for one unit of gas
pub run_more : (acts : List Act) (i gas : ℕ) (act : Act) (values next : Values) → i < length acts → 1 ≤ gas → act ≡ get_or acts i act → Some next ≡ after_act values act
    → run (drop (i + 1) acts) (gas - 1) next ≡ run (drop i acts) gas values
run_more acts i zero act values next inside paid here after = absurd (omega arith)
run_more acts i (suc gas) act values next inside paid here after =
    let later = drop (i + 1) acts in
    let left : suc gas - 1 ≡ gas = omega arith in
    ap (λ (g : ℕ). run later g next) left
    ∙ ap (option_and_then (λ (v : Values). run later gas v)) (after ∙ ap (after_act values) here)
    ∙ sym (at_drop_more (λ (rest : List Act). run rest (suc gas) values) acts i act inside)
