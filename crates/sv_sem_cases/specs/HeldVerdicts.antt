-- Serves the proof: checks that can't fail: a narrow sum, a loop with its invariant, and a failed `send`.
use Rattle.std.specs.Prelude.{false, [], ◌∷◌}
use Rattle.sv_core.specs.declared.label.Label.{Label}
use Rattle.sv_core.specs.declared.label.FuncId.TheVariants as func
use Rattle.sv_core.specs.declared.expr.Op.TheVariants as op
use Rattle.sv_core.specs.PlainCode as code
use Rattle.sv_core.specs.PlainCode.{Act, Expr}
use Rattle.sv_core.specs.PlainCore.{Contract}
use Rattle.sv_sem.specs.MayFail.{MayFail}
use Rattle.sv_sem_cases.specs.Writing.{uint, types_and, num, local, test, body, external, contract, param}
use Rattle.sv_sem_cases.specs.CallHistories.{sender_of_one}
use Rattle.sv_sem_cases.specs.ContractHistories.{narrow}

-- a run whose sum leaves the type reverts, so none comes to the check with more than 255
abbrev pub NarrowSumHolds : Type 0
NarrowSumHolds = (l : Label) → MayFail narrow (func.Function 0) l → ⊥

-- ---- for (uint256 i = 0; i < n; i++) { r += 1; } with the postcondition r == n, and the invariant r == i && i <= n

abbrev pub loop_note : Expr
loop_note = test op.And (test op.Eq (local uint 1) (local uint 2)) (test op.Le (local uint 2) (local uint 0))

abbrev pub noted_loop : Act
noted_loop =
    code.Loop (loop_note ∷ []) (test op.Lt (local uint 2) (local uint 0)) (body (code.Update (local uint 1) op.Add (num 1) ∷ []))
    (body (code.Update (local uint 2) op.Add (num 1) ∷ []))

abbrev pub counter : Contract
counter =
    contract (types_and []) []
    (record (external 1 false (param uint ∷ param uint ∷ param uint ∷ []) 1
    (code.Set (local uint 2) (num 0)
    ∷ noted_loop
    ∷ []))
    { results = 1; post = test op.Eq (local uint 1) (local uint 0) ∷ [] }
    ∷ [])
    []

-- the invariant holds on entry and after each turn, and gives the postcondition where the loop ends
abbrev pub LoopWithInvariantHolds : Type 0
LoopWithInvariantHolds = (l : Label) → MayFail counter (func.Function 0) l → ⊥

-- where `send` answers false the balance is as before
abbrev pub FailedSendHolds : Type 0
FailedSendHolds = (l : Label) → MayFail sender_of_one (func.Function 0) l → ⊥
