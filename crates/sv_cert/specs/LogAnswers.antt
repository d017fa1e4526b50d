-- Believed: what reading a text answers, and that what was written is read. Hold it against the README's table of promises.
use Rattle.std.specs.Prelude.{ℕ, ◌+◌, List, ◌≡◌, Result, Ok, Err}
use Rattle.sv_log.specs.LogEntries.{Entry}
use Rattle.sv_cert.specs.LogText.{text_of, AreEntries, IsFaultyAfter}
use Rattle.sv_cert.specs.PlainLogs.{plain_log}
use Rattle.sv_cert.specs.declared.log.Log.{Log}
use Rattle.sv_cert.specs.declared.log_fault.LogFault.{LogFault}
use Rattle.sv_cert.specs.declared.log_fault.LogFault.TheVariants.{LogSyntax, LogVersion, NoMemory}

-- the log whose text it is; or the first line that is no entry, the lines counted from `first`; or another version than 1, which the line before them states
abbrev pub ReadsLog : List ℕ → ℕ → ℕ → Result Log LogFault → Type 0
ReadsLog text first version (Ok log) = (version ≡ 1) × (text ≡ text_of (plain_log log)) × AreEntries (plain_log log)
ReadsLog text first version (Err (LogSyntax n)) = (version ≡ 1) × (count : ℕ) × (n ≡ first + count) × IsFaultyAfter text count
ReadsLog text first version (Err (LogVersion n)) = (version ≡ 1 → ⊥) × (n + 1 ≡ first)
ReadsLog text first version (Err NoMemory) = Unit {0}

-- these entries are read, or want of memory ends it
abbrev pub IsReadAs : List Entry → Result Log LogFault → Type 0
IsReadAs es (Ok log) = plain_log log ≡ es
IsReadAs es (Err (LogSyntax n)) = ⊥
IsReadAs es (Err (LogVersion n)) = ⊥
IsReadAs es (Err NoMemory) = Unit {0}

-- the text of entries whose numbers are of their types is read as these entries
abbrev pub WrittenIsRead : Type 0
WrittenIsRead = (es : List Entry) (first : ℕ) (result : Result Log LogFault) → AreEntries es → ReadsLog (text_of es) first 1 result → IsReadAs es result
