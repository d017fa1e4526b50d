-- Believed: the report, a line for each that is judged and a last line for the contract. Hold it against docs/report.md.
use Rattle.std.specs.Prelude.{◌≡◌, ℕ, Bool, List, [], ◌∷◌, ◌++◌, codes, if◌then◌else◌}
use Rattle.std.specs.List.{list_all}
use Rattle.sv_report.specs.declared.ended.Ended.{Ended}
use Rattle.sv_report.specs.declared.ended.Ended.TheVariants.{Holds, Unheld}
use Rattle.sv_first_form.specs.declared.contract.Contract.{Contract}
use Rattle.sv_first_judge.specs.Judging.{Judged, judged_of, AreVerdicts}
use Rattle.sv_first_judge.specs.Verdict.{verdict_text, is_verified}
use Rattle.sv_first_judge.specs.declared.verdict.Verdict.{Verdict}

-- the line of one verdict, for a contract and a function of these names
abbrev pub line_text : List ℕ → List ℕ → Verdict → List ℕ
line_text contract function verdict = contract ++ codes "." ++ function ++ codes ": " ++ verdict_text verdict ++ codes "\n"

abbrev pub lines_text : List ℕ → List Judged → List Verdict → List ℕ
lines_text contract (j ∷ js) (v ∷ vs) = line_text contract j.name v ++ lines_text contract js vs
lines_text contract _ _ = []

abbrev pub last_text : List ℕ → Bool → List ℕ
last_text contract holds = contract ++ codes ": " ++ (if holds then codes "holds" else codes "unheld") ++ codes "\n"

-- the report of a contract, where these are its verdicts in order
abbrev pub report_text : Contract → List Verdict → List ℕ
report_text c verdicts = lines_text c.name (judged_of c) verdicts ++ last_text c.name (list_all is_verified verdicts)

-- the bytes are the contract's report, and the program ends so where they are written
pub record Reports (c : Contract) (bytes : List ℕ) (ended : Ended) : Type 0 where
  pub verdicts : List Verdict
  pub judged : AreVerdicts c.invariants (judged_of c) verdicts
  pub text : bytes ≡ report_text c verdicts
  pub ending : ended ≡ (if list_all is_verified verdicts then Holds else Unheld)
