-- Believed: the exit status of each way to end. Hold it against docs/report.md.
use Rattle.std.specs.Prelude.{ℕ}
use Rattle.sv_report.specs.declared.ended.Ended.{Ended}
use Rattle.sv_report.specs.declared.ended.Ended.TheVariants.{Holds, Unheld, Refused, Usage, ReadFault, WriteFault, NoMemory}

abbrev pub status_of : Ended → ℕ
status_of Holds = 0
status_of Unheld = 1
status_of Refused = 2
status_of Usage = 3
status_of ReadFault = 4
status_of WriteFault = 5
status_of NoMemory = 6
