-- Serves the proof: contracts whose functions may fail a check, each with the label, and contracts in which a check can't fail.
use Rattle.std.specs.Prelude.{true, false, [], ◌∷◌}
use Rattle.sv_core.specs.declared.label.Label.{Label}
use Rattle.sv_core.specs.declared.label.FuncId.TheVariants as func
use Rattle.sv_core.specs.declared.expr.Op.TheVariants as op
use Rattle.sv_core.specs.PlainCode as code
use Rattle.sv_core.specs.PlainCode.{Act}
use Rattle.sv_core.specs.PlainCore.{Contract}
use Rattle.sv_sem.specs.ModularRuns.{label_at, assert_label, end_label}
use Rattle.sv_sem.specs.MayFail.{MayFail}
use Rattle.sv_sem_cases.specs.Writing.{bool, uint, at, types_and, node, num, local, var, test, compute, body, external, contract, state_of, param}
use Rattle.sv_sem_cases.specs.BankHistories.{late}
use Rattle.sv_sem_cases.specs.CallHistories.{exact}
use Rattle.sv_sem_cases.specs.ContractHistories.{setter, never_born}

-- ---- address(this).balance == total

-- a gift breaks it, and so does a balance before the construction
abbrev pub GiftBreaks : Type 0
GiftBreaks = MayFail exact func.Gift (end_label 7 70 0)

abbrev pub ConstructionBreaks : Type 0
ConstructionBreaks = MayFail exact func.Constructor (end_label 7 70 0)

-- ---- invariant false, and a constructor that reverts

-- no run of the constructor comes to the check
abbrev pub NeverBornHolds : Type 0
NeverBornHolds = (l : Label) → MayFail never_born func.Constructor l → ⊥

-- no gift starts from a state that meets `false`
abbrev pub NoGiftToTheUnborn : Type 0
NoGiftToTheUnborn = (l : Label) → MayFail never_born func.Gift l → ⊥

-- ---- x <= 10 and set(v) with the precondition v <= 10

-- the precondition isn't assumed where the invariant is checked
abbrev pub PreconditionIsNoLicence : Type 0
PreconditionIsNoLicence = MayFail setter (func.Function 0) (end_label 7 70 0)

-- ---- function f(uint256 x) public { uint256 y = x + 1; assert(y > x); assert(y <= type(uint256).max); }

abbrev pub wide : Contract
wide =
    contract (types_and []) []
    (external 1 false (param uint ∷ param uint ∷ []) 1
    (code.Set (local uint 1) (compute op.Add (local uint 0) (num 1))
    ∷ code.Assert (test op.Gt (local uint 1) (local uint 0))
    ∷ code.Assert (test op.Le (local uint 1) (node uint (code.Limit true)))
    ∷ [])
    ∷ [])
    []

-- the greatest number of a wide type is not known
abbrev pub WideLimitFails : Type 0
WideLimitFails = MayFail wide (func.Function 0) (assert_label (at 3 9) 70)

-- ---- function f(uint256 v) public { g(v); } and g with the precondition v <= 5 and the postcondition x <= 5

abbrev pub inner : Contract
inner =
    contract (types_and []) (state_of uint ∷ [])
    (external 1 false (param uint ∷ []) 1 (code.Do (code.Node (at 3 36) bool (code.Call 1 (code.Cons (local uint 0) code.Nil))) ∷ [])
    ∷ record (external 2 false (param uint ∷ []) 1 (code.Set (var uint 0) (local uint 0) ∷ [])) { public = false; pre = test op.Le (local uint 0) (num 5) ∷ []; post = test op.Le (var uint 0) (num 5) ∷ [] }
    ∷ [])
    []

abbrev pub PreconditionFails : Type 0
PreconditionFails = MayFail inner (func.Function 0) (label_at (at 3 36) 1 2 0)

-- ---- the bank that sends before it subtracts

-- at the call more may be owed than there is
abbrev pub BankFailsAtCall : Type 0
BankFailsAtCall = MayFail late (func.Function 1) (label_at (at 0 0) 3 70 0)

-- ---- for (uint256 i = 0; i < n; i++) { r += 1; } with the postcondition r == n, without an invariant

abbrev pub the_loop : Act
the_loop = code.Loop [] (test op.Lt (local uint 2) (local uint 0)) (body (code.Update (local uint 1) op.Add (num 1) ∷ [])) (body (code.Update (local uint 2) op.Add (num 1) ∷ []))

abbrev pub looper : Contract
looper =
    contract (types_and []) []
    (record (external 1 false (param uint ∷ param uint ∷ param uint ∷ []) 1
    (code.Set (local uint 2) (num 0)
    ∷ the_loop
    ∷ []))
    { results = 1; post = test op.Eq (local uint 1) (local uint 0) ∷ [] }
    ∷ [])
    []

-- the loop forgets i and r
abbrev pub LoopWithoutInvariant : Type 0
LoopWithoutInvariant = MayFail looper (func.Function 0) (end_label 8 70 0)

-- ---- without invariants a gift has no check

abbrev pub NoInvariantNoFailure : Type 0
NoInvariantNoFailure = (l : Label) → MayFail looper func.Gift l → ⊥
