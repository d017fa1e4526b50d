-- Serves the proof: gas that ends at each statement, replies that fail, don't fit or are missing, a failed `send`, a value to a function that isn't payable, a lock, and forced ether.
use Rattle.std.specs.Prelude.{◌≡◌, ℕ, true, false, List, [], ◌∷◌, ◌++◌, map}
use Rattle.sv_core.specs.declared.expr.Op.TheVariants as op
use Rattle.sv_core.specs.declared.expr.OutKind.TheVariants as out
use Rattle.sv_core.specs.PlainCode as code
use Rattle.sv_core.specs.PlainCode.{Expr}
use Rattle.sv_core.specs.PlainCore.{Contract, Modifier}
use Rattle.sv_sem.specs.Adversary.{Gift, Reply, AReply}
use Rattle.sv_sem_cases.specs.Writing.{Seen, bool, uint, payable, balances, types_and, node, num, local, var, value, balance, test, body, external, contract, state_of, param, call_of, events, numbers, success, failure, history, seen_in, good, bad, end_of}
use Rattle.sv_sem_cases.specs.BankHistories.{enough, sends, subtracts, give, covered, late, early, attack}

-- ---- gas

-- 7 puts in 5 and takes 5, with some gas for that
abbrev pub with_gas : ℕ → List Seen
with_gas gas = seen_in early (history 0 (call_of 0 7 5 9 [] [] ∷ call_of 1 7 0 gas (5 ∷ []) (success [] ∷ []) ∷ []))

abbrev pub put_in : List Seen
put_in = good (0 ∷ []) 0 ∷ end_of 1 ∷ good (5 ∷ []) 5 ∷ good (5 ∷ []) 5 ∷ []

-- a unit is taken before each statement works, and a visit without one reverts
abbrev pub GasEnds : Type 0
GasEnds =
    map with_gas (0 ∷ 1 ∷ 2 ∷ 3 ∷ []) ≡
    (put_in ++ good (5 ∷ []) 5 ∷ [])
    ∷ (put_in ++ good (5 ∷ []) 5 ∷ [])
    ∷ (put_in ++ good (5 ∷ []) 5 ∷ [])
    ∷ (put_in ++ good (0 ∷ []) 0 ∷ end_of 2 ∷ good (0 ∷ []) 0 ∷ good (0 ∷ []) 0 ∷ [])
    ∷ []

-- ---- replies

-- 7 puts in 5 and takes 5, and the call meets this
abbrev pub with_reply : List Reply → List Seen
with_reply rs = seen_in early (history 0 (call_of 0 7 5 9 [] [] ∷ call_of 1 7 0 9 (5 ∷ []) rs ∷ []))

-- what happens during a call that fails is marked, and undone with it; the transfer reverts
abbrev pub FailedReply : Type 0
FailedReply =
    with_reply (failure (call_of 0 8 3 9 [] [] ∷ Gift 4 ∷ []) ∷ []) ≡
    put_in ++ good (0 ∷ []) 0 ∷ end_of 1 ∷ good (3 ∷ []) 3 ∷ good (5 ∷ []) 5 ∷ []

-- results that nobody asked for make a failed call
abbrev pub MisfitReply : Type 0
MisfitReply = with_reply (AReply true (numbers (1 ∷ [])) (events []) ∷ []) ≡ put_in ++ good (0 ∷ []) 0 ∷ good (5 ∷ []) 5 ∷ []

-- and so does a missing reply
abbrev pub MissingReply : Type 0
MissingReply = with_reply [] ≡ put_in ++ good (0 ∷ []) 0 ∷ good (5 ∷ []) 5 ∷ []

-- gifts during a call stay where it succeeds, and are no transactions
abbrev pub GiftInside : Type 0
GiftInside = with_reply (success (Gift 4 ∷ []) ∷ []) ≡ put_in ++ good (0 ∷ []) 0 ∷ end_of 2 ∷ good (0 ∷ []) 4 ∷ good (0 ∷ []) 4 ∷ []

-- a value to a function that isn't payable reverts at once
abbrev pub NotPayable : Type 0
NotPayable = seen_in early (history 0 (call_of 1 7 1 9 (0 ∷ []) [] ∷ [])) ≡ good (0 ∷ []) 0 ∷ good (0 ∷ []) 0 ∷ []

-- arguments that are not of the types, or a function that is not there, make no visit
abbrev pub NoVisit : Type 0
NoVisit = seen_in early (history 0 (call_of 1 7 0 9 [] [] ∷ call_of 5 7 0 9 [] [] ∷ [])) ≡ good (0 ∷ []) 0 ∷ good (0 ∷ []) 0 ∷ good (0 ∷ []) 0 ∷ []

-- ---- function f(address payable a) public { uint256 b = address(this).balance; bool ok = a.send(1); assert(ok || address(this).balance == b); }

abbrev pub sender_of_one : Contract
sender_of_one =
    contract (types_and []) []
    (external 1 false (param payable ∷ param uint ∷ param bool ∷ []) 1
    (code.Set (local uint 1) balance
    ∷ code.Set (local bool 2) (node bool (code.Outside out.Send (local payable 0) (code.Just (num 1)) code.Nil []))
    ∷ code.Assert (test op.Or (local bool 2) (test op.Eq balance (local uint 1)))
    ∷ [])
    ∷ [])
    []

-- a failed `send` gives the balance back; at the call it has fallen
abbrev pub FailedSend : Type 0
FailedSend = seen_in sender_of_one (history 5 (call_of 0 7 0 9 (8 ∷ []) (failure [] ∷ []) ∷ [])) ≡ good [] 5 ∷ good [] 4 ∷ end_of 1 ∷ good [] 5 ∷ good [] 5 ∷ []

abbrev pub SendThatSucceeds : Type 0
SendThatSucceeds = seen_in sender_of_one (history 5 (call_of 0 7 0 9 (8 ∷ []) (success [] ∷ []) ∷ [])) ≡ good [] 5 ∷ good [] 4 ∷ end_of 1 ∷ good [] 4 ∷ good [] 4 ∷ []

-- a call whose value is above the balance fails, and is not made
abbrev pub SendOfTooMuch : Type 0
SendOfTooMuch = seen_in sender_of_one (history 0 (call_of 0 7 0 9 (8 ∷ []) (success [] ∷ []) ∷ [])) ≡ good [] 0 ∷ end_of 1 ∷ good [] 0 ∷ good [] 0 ∷ []

-- ---- bool busy; modifier lock() { require(!busy); busy = true; _; busy = false; }

abbrev pub busy : Expr
busy = var bool 1

abbrev pub lock : Modifier
lock = record { name = 3; owner = 0; locals = []; params = 0; body = body (code.Require (node bool (code.Unary op.Not busy)) ∷ code.Set busy (node bool (code.Truth true)) ∷ code.Rest ∷ code.Set busy (node bool (code.Truth false)) ∷ []) }

abbrev pub locked : Contract
locked =
    record {
      name = 70;
      number = 0;
      line = 0 ∷ [];
      owners = 70 ∷ [];
      types = types_and [];
      vars = state_of balances ∷ state_of bool ∷ [];
      ctors = late.ctors;
      funcs = give ∷ record (external 2 false (param uint ∷ []) 1 (enough ∷ sends ∷ subtracts ∷ [])) { uses = record { which = 0; args = [] } ∷ [] } ∷ [];
      mods = lock ∷ [];
      invariants = test op.Or busy covered ∷ [];
    }

-- the visit inside finds the lock and reverts; the one around it ends
abbrev pub LockHolds : Type 0
LockHolds =
    seen_in locked (history 0 attack) ≡
    good (0 ∷ 0 ∷ []) 0
    ∷ end_of 1 ∷ good (5 ∷ 0 ∷ []) 5 ∷ good (5 ∷ 0 ∷ []) 5
    ∷ end_of 1 ∷ good (10 ∷ 0 ∷ []) 10 ∷ good (10 ∷ 0 ∷ []) 10
    ∷ good (10 ∷ 1 ∷ []) 5
    ∷ end_of 2 ∷ good (5 ∷ 0 ∷ []) 5
    ∷ good (5 ∷ 0 ∷ []) 5
    ∷ []

-- ---- invariant address(this).balance == total; function add() public payable { total += msg.value; }

abbrev pub exact : Contract
exact =
    contract (types_and []) (state_of uint ∷ []) (external 1 true [] 0 (code.Update (var uint 0) op.Add value ∷ []) ∷ [])
    (test op.Eq balance (var uint 0) ∷ [])

-- forced ether breaks it, and no later call mends it
abbrev pub ForcedEther : Type 0
ForcedEther =
    seen_in exact (history 0 (call_of 0 7 2 9 [] [] ∷ Gift 3 ∷ call_of 0 7 2 9 [] [] ∷ [])) ≡
    good (0 ∷ []) 0
    ∷ end_of 1 ∷ good (2 ∷ []) 2 ∷ good (2 ∷ []) 2
    ∷ bad (2 ∷ []) 5
    ∷ end_of 1 ∷ bad (4 ∷ []) 7 ∷ bad (4 ∷ []) 7
    ∷ []

-- so does a balance that was there before the construction
abbrev pub EtherBefore : Type 0
EtherBefore = seen_in exact (history 2 []) ≡ bad (0 ∷ []) 2 ∷ []
