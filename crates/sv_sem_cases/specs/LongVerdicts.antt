-- Serves the proof: checks that fail at the end of longer modular runs: two pointers to one element, and a lock around a call.
use Rattle.sv_core.specs.declared.label.FuncId.TheVariants as func
use Rattle.sv_sem.specs.ModularRuns.{assert_label, end_label}
use Rattle.sv_sem.specs.MayFail.{MayFail}
use Rattle.sv_sem_cases.specs.Writing.{at}
use Rattle.sv_sem_cases.specs.PointerHistories.{structs}
use Rattle.sv_sem_cases.specs.CallHistories.{locked}

-- both pointers may lead to one element
abbrev pub PointersMayBeOne : Type 0
PointersMayBeOne = MayFail structs (func.Function 1) (assert_label (at 5 9) 70)

-- the lock is forgotten at the call: any state that meets the invariant follows, so more may be owed at the end than there is
abbrev pub LockIsForgotten : Type 0
LockIsForgotten = MayFail locked (func.Function 1) (end_label 7 70 0)
