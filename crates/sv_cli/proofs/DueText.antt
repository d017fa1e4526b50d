-- What is due for a text that stands for a contract.
use Rattle.std.proofs.Common.{◌≡◌, ℕ, ◌+◌, List, [], ◌∷◌, length, map, codes, Result, Ok, Err, IfOk, Vec, Global, refl, arith}
use Rattle.std.proofs.lemmas.List.{length-map, length-append}
use Rattle.sv_cli.specs.Due.{IsDue, Means}
use Rattle.sv_cli.specs.Due.IsDue.{IsReported}
use Rattle.sv_report.specs.Report.{Reports}
use Rattle.sv_report.specs.declared.ended.Ended.{Ended}
use Rattle.sv_first_form.specs.declared.contract.Contract.{Contract}
use Rattle.sv_first_form.specs.declared.contract.Equation.{Equation}
use Rattle.sv_first_judge.specs.Judging.{AreVerdicts, Judged, judged_of, judged_function, known_at_entry}
use Rattle.sv_first_judge.specs.declared.verdict.Verdict.{Verdict}
use Rattle.sv_text.specs.declared.no_memory.NoMemory.{NoMemory}

pub reported : (text : List ℕ) (c : Contract) (result : Result (Vec ℕ Global × Ended) NoMemory)
    → Means text c → IfOk result (λ due. Reports c due.0.items due.1) → IfOk result (λ due. IsDue text due.0.items due.1)
reported text c (Ok due) means reports = IsReported c means reports
reported text c (Err e) means reports = tt

-- there are as many verdicts as there are to be
as_many : (invariants : List Equation) (js : List Judged) (vs : List Verdict) → AreVerdicts invariants js vs → length vs ≡ length js
as_many invariants [] [] are = refl
as_many invariants [] (v ∷ vs) are = absurd are
as_many invariants (j ∷ js) [] are = absurd are
as_many invariants (j ∷ js) (v ∷ vs) are = omega (arith, as_many invariants js vs are.1)

pub two_more : (c : Contract) (vs : List Verdict) → AreVerdicts c.invariants (judged_of c) vs → length vs ≡ length c.functions + 2
two_more c vs are =
    let gift : Judged = record { name = codes "(gift)"; end = known_at_entry c } in
    omega (arith, as_many c.invariants (judged_of c) vs are, length-append (map (judged_function c) c.functions) (gift ∷ []), length-map c.functions (judged_function c))
