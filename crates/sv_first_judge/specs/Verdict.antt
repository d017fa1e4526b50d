-- Believed: what a verdict says in a report, and whether it is verified. Hold it against docs/report.md.
use Rattle.std.specs.Prelude.{ℕ, Bool, true, false, List, ◌++◌, codes}
use Rattle.std.specs.Fmt.{decimal}
use Rattle.sv_first_judge.specs.declared.verdict.Verdict.{Verdict}
use Rattle.sv_first_judge.specs.declared.verdict.Verdict.TheVariants.{Verified, Unproved}

abbrev pub verdict_text : Verdict → List ℕ
verdict_text (Verified n) = codes "verified " ++ decimal n
verdict_text (Unproved k) = codes "unproved invariant " ++ decimal k ++ codes " at end"

abbrev pub is_verified : Verdict → Bool
is_verified (Verified n) = true
is_verified (Unproved k) = false
