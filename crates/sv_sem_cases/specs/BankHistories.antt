-- Serves the proof: a bank that sends before it subtracts, attacked, and the same where it subtracts before it sends.
use Rattle.std.specs.Prelude.{◌≡◌, true, false, List, [], ◌∷◌}
use Rattle.sv_core.specs.declared.expr.Op.TheVariants as op
use Rattle.sv_core.specs.declared.expr.OutKind.TheVariants as out
use Rattle.sv_core.specs.PlainCode as code
use Rattle.sv_core.specs.PlainCode.{Expr, Act}
use Rattle.sv_core.specs.PlainCore.{Contract, Function}
use Rattle.sv_sem.specs.Adversary.{Event}
use Rattle.sv_sem_cases.specs.Writing.{uint, payable, balances, types_and, node, local, var, element, sender, value, balance, sum_of, test, external, contract, state_of, param, call_of, success, history, seen_in, good, bad, end_of}

-- bal[msg.sender]
abbrev pub own : Expr
own = element uint (var balances 0) sender

abbrev pub enough : Act
enough = code.Require (test op.Ge own (local uint 0))

-- payable(msg.sender).transfer(v)
abbrev pub sends : Act
sends = code.Do (node 0 (code.Outside out.Transfer (node payable (code.Convert sender)) (code.Just (local uint 0)) code.Nil []))

abbrev pub subtracts : Act
subtracts = code.Update own op.Sub (local uint 0)

abbrev pub give : Function
give = external 1 true [] 0 (code.Update own op.Add value ∷ [])

-- the sum of what it owes is at most what it has
abbrev pub covered : Expr
covered = test op.Le (sum_of 0) balance

abbrev pub bank : List Act → Contract
bank acts = contract (types_and []) (state_of balances ∷ []) (give ∷ external 2 false (param uint ∷ []) 1 acts ∷ []) (covered ∷ [])

abbrev pub late : Contract
late = bank (enough ∷ sends ∷ subtracts ∷ [])

abbrev pub early : Contract
early = bank (enough ∷ subtracts ∷ sends ∷ [])

-- 7 and 8 put in 5 each; then 7 takes 5, and takes 5 again while it is paid
abbrev pub attack : List Event
attack =
    call_of 0 7 5 9 [] []
    ∷ call_of 0 8 5 9 [] []
    ∷ call_of 1 7 0 9 (5 ∷ []) (success (call_of 1 7 0 9 (5 ∷ []) (success [] ∷ []) ∷ []) ∷ [])
    ∷ []

-- at both calls more is owed than there is, and at the end of the visit inside. The visit around it then reverts
abbrev pub Attacked : Type 0
Attacked =
    seen_in late (history 0 attack) ≡
    good (0 ∷ []) 0
    ∷ end_of 1 ∷ good (5 ∷ []) 5 ∷ good (5 ∷ []) 5
    ∷ end_of 1 ∷ good (10 ∷ []) 10 ∷ good (10 ∷ []) 10
    ∷ bad (10 ∷ []) 5
    ∷ bad (10 ∷ []) 0 ∷ end_of 2 ∷ bad (5 ∷ []) 0
    ∷ good (10 ∷ []) 10
    ∷ []

-- the visit inside finds nothing to take and reverts
abbrev pub Resists : Type 0
Resists =
    seen_in early (history 0 attack) ≡
    good (0 ∷ []) 0
    ∷ end_of 1 ∷ good (5 ∷ []) 5 ∷ good (5 ∷ []) 5
    ∷ end_of 1 ∷ good (10 ∷ []) 10 ∷ good (10 ∷ []) 10
    ∷ good (5 ∷ []) 5
    ∷ end_of 2 ∷ good (5 ∷ []) 5
    ∷ good (5 ∷ []) 5
    ∷ []
