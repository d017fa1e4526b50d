-- Believed: what the laws `verified_is_safe` and `forms_are_left` say. Hold it against docs/promises.md.
use Rattle.std.specs.Prelude.{◌≡◌, ℕ, ◌<◌, List, All, Some, length, pos, true}
use Rattle.std.specs.List.{list_all}
use Rattle.sv_first_form.specs.FirstForm.{IsAct, IsContract}
use Rattle.sv_first_form.specs.declared.contract.Contract.{Contract}
use Rattle.sv_first_form.specs.declared.contract.Function.{Function}
use Rattle.sv_first_judge.specs.History.{Safe, Values, run}
use Rattle.sv_first_judge.specs.Judging.{AreVerdicts, judged_of, judged_function}
use Rattle.sv_first_judge.specs.Value.{value_at}
use Rattle.sv_first_judge.specs.Verdict.{is_verified}
use Rattle.sv_first_judge.specs.declared.verdict.Verdict.{Verdict}

-- a contract all of whose functions are verified is safe in every history
abbrev pub VerifiedIsSafe : Type 0
VerifiedIsSafe = (c : Contract) (verdicts : List Verdict)
    → IsContract c → AreVerdicts c.invariants (judged_of c) verdicts → list_all is_verified verdicts ≡ true → Safe c

-- where a run of a function doesn't revert, the form of each variable is worth, at the values it began with, the variable's value at the end
abbrev pub FormsAreLeft : Type 0
FormsAreLeft = (c : Contract) (f : Function) (start end : Values) (gas : ℕ)
    → All (IsAct (length c.variables)) f.acts → run f.acts gas start ≡ Some end
    → (v : ℕ) → v < length c.variables → value_at (length c.variables) ((judged_function c f).end.values v) start ≡ pos (end v)
