-- Serves the proof: the parts of which an answer is put together.
use Rattle.std.specs.Prelude.{ℕ, ◌<◌, ◌^◌, List, map, ◌≡◌}
use Rattle.sv_log.specs.LogEntries.{Entry}
use Rattle.sv_cert.specs.PlainLogs.{plain_entry}
use Rattle.sv_lin.specs.Eliminations.{Placed, AreDivided}
use Rattle.sv_lin.specs.EliminationAnswers.{placed_by}
use Rattle.sv_lin.specs.declared.answer.Eliminated.{Eliminated}
use Rattle.sv_lin.specs.declared.answer.Eliminated.TheVariants as a
use Rattle.sv_cert.specs.declared.excess.Excess.TheVariants as e
use Rattle.sv_cert.specs.declared.log.Row.{Row as CodeRow}
use Rattle.sv_lin.specs.declared.work.Work.{Work}
use Rattle.sv_lin.specs.Completeness.{AreComplete}
use Rattle.sv_lin.specs.UnderWay.{given, AreColumns}
use Rattle.sv_lin.specs.Holding.{held, IsOn}
use Rattle.sv_lin.specs.declared.made.Outcome.{Outcome}
use Rattle.sv_lin.specs.declared.made.Outcome.TheVariants as out

abbrev pub IsPointBy : List Entry → List Placed → Eliminated → Type 0
IsPointBy es ps (a.Point fs qs) = (map plain_entry fs ≡ es) × (map placed_by qs ≡ ps)
IsPointBy es ps answer = ⊥

abbrev pub IsValueBy : List Entry → ℕ → List Placed → Eliminated → Type 0
IsValueBy es i ps (a.Excess fs (e.Value j qs)) = (map plain_entry fs ≡ es) × (j ≡ i) × (map placed_by qs ≡ ps)
IsValueBy es i ps answer = ⊥

abbrev pub AreSmall : Outcome → Type 0
AreSmall (out.Exceeds i j) = (i < 2 ^ 32) × (j < 2 ^ 32)
AreSmall outcome = Unit {0}

abbrev pub StopsWith : List Entry → Outcome → Eliminated → Type 0
StopsWith es out.Contradiction (a.Contradiction fs) = map plain_entry fs ≡ es
StopsWith es out.Contradiction answer = ⊥
StopsWith es out.Spent (a.Spent fs) = map plain_entry fs ≡ es
StopsWith es out.Spent answer = ⊥
StopsWith es (out.Exceeds i j) (a.Excess fs (e.Rows k l)) = (map plain_entry fs ≡ es) × (k ≡ i) × (l ≡ j)
StopsWith es (out.Exceeds i j) answer = ⊥
StopsWith es out.On answer = Unit {0}

-- nothing more can be combined, and each row was divided
pub record IsSaturated (rows : List CodeRow) (cs : List ℕ) (work : Work) : Type 0 where
  pub limit : ℕ
  pub way : IsOn rows limit work
  pub columns : AreColumns (given rows) cs
  pub complete : AreComplete (held rows work)
  pub divided : AreDivided (held rows work)
