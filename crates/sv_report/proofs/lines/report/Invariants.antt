use Rattle.std.proofs.Common.{◌≡◌, ◌+◌, ◌++◌, drop}
use Rattle.sv_first_judge.specs.Judging.{judged_of}
use Rattle.sv_report.specs.Report.{lines_text}
use Rattle.sv_report.proofs.lines.report.Given as goal

abbrev pub invariant-loop-at : goal.invariant-loop-at
invariant-loop-at l =
    l.report.items ++ lines_text l.contract.name (drop (l.at + 1) (judged_of l.contract)) (drop (l.at + 1) l.verdicts)
    ≡ lines_text l.contract.name (judged_of l.contract) l.verdicts
