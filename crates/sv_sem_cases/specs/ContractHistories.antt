-- Serves the proof: a diamond with `super`, pre- and postconditions, loops, constructors with bases, modifiers used twice, tokens out of nothing, and a typed call.
use Rattle.std.specs.Prelude.{◌≡◌, ℕ, true, false, List, [], ◌∷◌, Some, pos}
use Rattle.sv_type.specs.declared.info.TypeInfo.TheVariants as info
use Rattle.sv_type.specs.StorageTrees.{Num, Arr, Entry, Empty}
use Rattle.sv_core.specs.declared.contract.VarKind.TheVariants as variable
use Rattle.sv_core.specs.declared.expr.Op.TheVariants as op
use Rattle.sv_core.specs.declared.expr.OutKind.TheVariants as out
use Rattle.sv_core.specs.PlainCode as code
use Rattle.sv_core.specs.PlainCode.{Expr, Act}
use Rattle.sv_core.specs.PlainCore.{Contract, Function}
use Rattle.sv_sem.specs.Adversary.{Reply, AReply}
use Rattle.sv_sem.specs.Histories.{History}
use Rattle.sv_sem_cases.specs.Writing.{AtAnEnd, bool, uint, address, balances, types_and, node, num, local, var, element, sender, sum_of, test, compute, body, external, contract, plain_ctor, state_of, param, in_memory, call_of, events, numbers, history, seen_in, good, bad, end_of}

-- ---- a diamond: A, B is A, C is A, D is B, C. The line is A, C, B, D

abbrev pub sets_one : ℕ → Act
sets_one k = code.Set (var uint k) (num 1)

abbrev pub calls : ℕ → Act
calls f = code.Do (node bool (code.Call f code.Nil))

-- in the order of the line: A.f, C.f, B.f, D.f. `super.f` is the one before it
abbrev pub diamond : Contract
diamond =
    contract (types_and []) (state_of uint ∷ state_of uint ∷ state_of uint ∷ state_of uint ∷ [])
    (record (external 1 false [] 0 (sets_one 0 ∷ [])) { top = false }
    ∷ record (external 3 false [] 0 (sets_one 1 ∷ calls 0 ∷ [])) { top = false; post = test op.Eq (var uint 1) (num 1) ∷ [] }
    ∷ record (external 2 false [] 0 (sets_one 2 ∷ calls 1 ∷ [])) { top = false }
    ∷ record (external 4 false [] 0 (sets_one 3 ∷ calls 2 ∷ [])) { post = test op.Eq (var uint 1) (num 1) ∷ [] }
    ∷ [])
    (test op.Ge (var uint 0) (num 0) ∷ test op.Le (var uint 1) (num 1) ∷ test op.Le (var uint 2) (num 1) ∷ test op.Le (var uint 3) (num 1) ∷ [])

-- each of the four ends, from the inside, and only the most derived may be called from outside
abbrev pub Diamond : Type 0
Diamond =
    seen_in diamond (history 0 (call_of 3 7 0 9 [] [] ∷ call_of 1 7 0 9 [] [] ∷ [])) ≡
    good (0 ∷ 0 ∷ 0 ∷ 0 ∷ []) 0
    ∷ end_of 1 ∷ good (1 ∷ 1 ∷ 1 ∷ 1 ∷ []) 0
    ∷ end_of 3 ∷ good (1 ∷ 1 ∷ 1 ∷ 1 ∷ []) 0
    ∷ end_of 2 ∷ good (1 ∷ 1 ∷ 1 ∷ 1 ∷ []) 0
    ∷ end_of 4 ∷ good (1 ∷ 1 ∷ 1 ∷ 1 ∷ []) 0
    ∷ good (1 ∷ 1 ∷ 1 ∷ 1 ∷ []) 0
    ∷ good (1 ∷ 1 ∷ 1 ∷ 1 ∷ []) 0
    ∷ []

-- ---- invariant x <= 10; precondition v <= 10, postcondition x == v, function set(uint256 v) public { x = v; }

abbrev pub setter : Contract
setter =
    contract (types_and []) (state_of uint ∷ [])
    (record (external 1 false (param uint ∷ []) 1 (code.Set (var uint 0) (local uint 0) ∷ [])) { pre = test op.Le (local uint 0) (num 10) ∷ []; post = test op.Eq (var uint 0) (local uint 0) ∷ [] } ∷ [])
    (test op.Le (var uint 0) (num 10) ∷ [])

-- a precondition that isn't met licenses nothing: the invariant is broken at the end of the function
abbrev pub Precondition : Type 0
Precondition =
    seen_in setter (history 0 (call_of 0 7 0 9 (10 ∷ []) [] ∷ call_of 0 7 0 9 (11 ∷ []) [] ∷ [])) ≡
    good (0 ∷ []) 0
    ∷ end_of 1 ∷ good (10 ∷ []) 0 ∷ good (10 ∷ []) 0
    ∷ AtAnEnd 1 false true [] ∷ bad (11 ∷ []) 0 ∷ bad (11 ∷ []) 0
    ∷ []

-- ---- loops

-- for (uint256 i = 0; i < n; i++) { r += 1; } with or without an invariant, from three turns on with a `break`
abbrev pub counts : List Expr → Function
counts notes =
    record (external 1 false (param uint ∷ param uint ∷ param uint ∷ []) 1
    (code.Set (local uint 2) (num 0)
    ∷ code.Loop notes (test op.Lt (local uint 2) (local uint 0)) (body (code.If (code.Arm (test op.Eq (local uint 2) (num 3)) (body (code.Break ∷ [])) code.NoArm) code.Done ∷ code.Update (local uint 1) op.Add (num 1) ∷ [])) (body (code.Update (local uint 2) op.Add (num 1) ∷ []))
    ∷ []))
    { results = 1; post = test op.Eq (local uint 1) (local uint 0) ∷ [] }

abbrev pub counter : Contract
counter = contract (types_and []) [] (counts [] ∷ []) []

-- two turns take a unit for the declaration, one for the loop, and for each turn one and those of three statements: 10
abbrev pub TwoTurns : Type 0
TwoTurns = seen_in counter (history 0 (call_of 0 7 0 10 (2 ∷ []) [] ∷ [])) ≡ good [] 0 ∷ AtAnEnd 1 true true (pos 2 ∷ []) ∷ good [] 0 ∷ good [] 0 ∷ []

abbrev pub TooLittleGas : Type 0
TooLittleGas = seen_in counter (history 0 (call_of 0 7 0 9 (2 ∷ []) [] ∷ [])) ≡ good [] 0 ∷ good [] 0 ∷ []

-- no turn takes the unit of the loop's statement alone
abbrev pub NoTurn : Type 0
NoTurn = seen_in counter (history 0 (call_of 0 7 0 2 (0 ∷ []) [] ∷ [])) ≡ good [] 0 ∷ AtAnEnd 1 true true (pos 0 ∷ []) ∷ good [] 0 ∷ good [] 0 ∷ []

-- three turns, and one that breaks: 2, three times 4, and one for the turn, the `if` and the `break`
abbrev pub LoopThatBreaks : Type 0
LoopThatBreaks = seen_in counter (history 0 (call_of 0 7 0 17 (9 ∷ []) [] ∷ [])) ≡ good [] 0 ∷ AtAnEnd 1 true false (pos 3 ∷ []) ∷ good [] 0 ∷ good [] 0 ∷ []

abbrev pub BreakWithoutGas : Type 0
BreakWithoutGas = seen_in counter (history 0 (call_of 0 7 0 16 (9 ∷ []) [] ∷ [])) ≡ good [] 0 ∷ good [] 0 ∷ []

-- ---- construction

-- invariant false; a constructor that always reverts
abbrev pub never_born : Contract
never_born = record (contract (types_and []) [] [] (node bool (code.Truth false) ∷ [])) { ctors = record plain_ctor { body = body (code.Revert [] ∷ []) } ∷ [] }

-- the history ends there, and has no mark
abbrev pub NeverBorn : Type 0
NeverBorn = seen_in never_born (history 0 (call_of 0 7 0 9 [] [] ∷ [])) ≡ []

-- uint256 total = 5 in a base that takes what its derived contract gives it, which is half of its own argument
abbrev pub derived : Contract
derived =
    record {
      name = 70;
      number = 0;
      line = 0 ∷ 1 ∷ [];
      owners = 71 ∷ 70 ∷ [];
      types = types_and [];
      vars = record { name = 80; owner = 0; t = uint; kind = variable.State; init = Some (num 5) } ∷ state_of uint ∷ [];
      ctors =
          record { owner = 0; payable = false; locals = param uint ∷ []; params = 1; base_args = []; body = body (code.Update (var uint 0) op.Add (local uint 0) ∷ []) }
          ∷ record { owner = 1; payable = true; locals = param uint ∷ []; params = 1; base_args = record { base = 0; args = compute op.Div (local uint 0) (num 2) ∷ [] } ∷ []; body = body (code.Set (var uint 1) (var uint 0) ∷ []) }
          ∷ [];
      funcs = [];
      mods = [];
      invariants = [];
    }

abbrev pub born_with : ℕ → ℕ → History
born_with value arg = record { this = 100; balance = 2; value = value; sender = 1; time = 5; number = 6; gas = 9; args = numbers (arg ∷ []); list = events [] }

-- arguments, then initialisers, then the bodies from the base on: 5 and 9 / 2; the value is credited
abbrev pub Born : Type 0
Born = seen_in derived (born_with 3 9) ≡ good (9 ∷ 9 ∷ []) 5 ∷ []

-- ---- modifier m() { x = x + 1; _; y = y + x; } used twice

abbrev pub twice : Contract
twice =
    record (contract (types_and []) (state_of uint ∷ state_of uint ∷ []) (record (external 1 false [] 0 (code.Update (var uint 0) op.Mul (num 10) ∷ code.Return [] ∷ [])) { uses = record { which = 0; args = [] } ∷ record { which = 0; args = [] } ∷ [] } ∷ []) [])
    { mods = record { name = 3; owner = 0; locals = []; params = 0; body = body (code.Update (var uint 0) op.Add (num 1) ∷ code.Rest ∷ code.Update (var uint 1) op.Add (var uint 0) ∷ []) } ∷ [] }

-- 1, 2, 20 in the middle, and then 20 twice; the `return` leaves the body alone
abbrev pub ModifierTwice : Type 0
ModifierTwice = seen_in twice (history 0 (call_of 0 7 0 9 [] [] ∷ [])) ≡ good (0 ∷ 0 ∷ []) 0 ∷ end_of 1 ∷ good (20 ∷ 40 ∷ []) 0 ∷ good (20 ∷ 40 ∷ []) 0 ∷ []

-- ---- invariant total == sum(m); both balances are read before they are written

abbrev pub of_account : ℕ → Expr → Expr
of_account k a = element uint (var balances k) a

abbrev pub tokens : Contract
tokens =
    record (contract (types_and []) (state_of uint ∷ state_of balances ∷ [])
    (external 1 false (param address ∷ param uint ∷ param uint ∷ param uint ∷ []) 2
    (code.Set (local uint 2) (of_account 1 sender)
    ∷ code.Set (local uint 3) (of_account 1 (local address 0))
    ∷ code.Set (of_account 1 sender) (compute op.Sub (local uint 2) (local uint 1))
    ∷ code.Set (of_account 1 (local address 0)) (compute op.Add (local uint 3) (local uint 1))
    ∷ [])
    ∷ [])
    (test op.Eq (var uint 0) (sum_of 1) ∷ []))
    { ctors = record plain_ctor { body = body (code.Set (var uint 0) (num 5) ∷ code.Set (of_account 1 sender) (num 5) ∷ []) } ∷ [] }

-- a transfer to another account keeps the sum, one to oneself makes tokens
abbrev pub TokensFromNothing : Type 0
TokensFromNothing =
    seen_in tokens (history 0 (call_of 0 1 0 9 (2 ∷ 1 ∷ []) [] ∷ call_of 0 1 0 9 (1 ∷ 3 ∷ []) [] ∷ [])) ≡
    good (5 ∷ 5 ∷ []) 0
    ∷ end_of 1 ∷ good (5 ∷ 5 ∷ []) 0 ∷ good (5 ∷ 5 ∷ []) 0
    ∷ end_of 1 ∷ bad (5 ∷ 8 ∷ []) 0 ∷ bad (5 ∷ 8 ∷ []) 0
    ∷ []

-- ---- a number that leaves its type: uint8 c = a + b; assert(c <= 255);

abbrev pub narrow : Contract
narrow =
    contract (types_and (info.Uint 8 ∷ [])) []
    (external 1 false (param 5 ∷ param 5 ∷ param 5 ∷ []) 2
    (code.Set (local 5 2) (node 5 (code.Binary op.Add (local 5 0) (local 5 1))) ∷ code.Assert (test op.Le (local 5 2) (num 255)) ∷ [])
    ∷ [])
    []

abbrev pub NarrowSum : Type 0
NarrowSum =
    seen_in narrow (history 0 (call_of 0 7 0 9 (255 ∷ 1 ∷ []) [] ∷ call_of 0 7 0 9 (254 ∷ 1 ∷ []) [] ∷ call_of 0 7 0 9 (256 ∷ 0 ∷ []) [] ∷ [])) ≡
    good [] 0
    ∷ good [] 0
    ∷ end_of 1 ∷ good [] 0 ∷ good [] 0
    ∷ good [] 0
    ∷ []

-- ---- uint256[] memory a = c.f(); x = a[1];

abbrev pub asker : Contract
asker =
    contract (types_and (info.Dynamic 1 ∷ info.Contract 0 ∷ [])) (state_of uint ∷ [])
    (external 1 false (param 6 ∷ in_memory 5 ∷ []) 1
    (code.Set (local 5 1) (node 5 (code.Outside out.Typed (local 6 0) code.Nothing code.Nil (5 ∷ [])))
    ∷ code.Set (var uint 0) (element uint (local 5 1) (num 1))
    ∷ [])
    ∷ [])
    []

abbrev pub answers : ℕ → Reply
answers length = AReply true (Arr (pos length) (Entry (pos 1) (Num (pos 42)) Empty) (Num (pos 0)) ∷ []) (events [])

-- results of a reference type are new objects; the second call answers too short an array
abbrev pub TypedResult : Type 0
TypedResult =
    seen_in asker (history 0 (call_of 0 7 0 9 (8 ∷ []) (answers 2 ∷ []) ∷ call_of 0 7 0 9 (8 ∷ []) (answers 1 ∷ []) ∷ [])) ≡
    good (0 ∷ []) 0
    ∷ good (0 ∷ []) 0 ∷ end_of 1 ∷ good (42 ∷ []) 0 ∷ good (42 ∷ []) 0
    ∷ good (42 ∷ []) 0 ∷ good (42 ∷ []) 0
    ∷ []

-- ---- function g() public returns (uint256, uint256) { return f(); } function f() internal returns (uint256, uint256) { return (3, 4); }

abbrev pub pairs : Contract
pairs =
    contract (types_and []) []
    (record (external 1 false (param uint ∷ param uint ∷ []) 0 (code.Return (node bool (code.Call 1 code.Nil) ∷ []) ∷ [])) { results = 2 }
    ∷ record (external 2 false (param uint ∷ param uint ∷ []) 0 (code.Return (num 3 ∷ num 4 ∷ []) ∷ [])) { public = false; results = 2 }
    ∷ [])
    []

-- all results of the call are returned; the end of an internal function carries no state
abbrev pub SeveralResults : Type 0
SeveralResults =
    seen_in pairs (history 0 (call_of 0 7 0 9 [] [] ∷ [])) ≡
    good [] 0
    ∷ AtAnEnd 2 true true (pos 3 ∷ pos 4 ∷ [])
    ∷ AtAnEnd 1 true true (pos 3 ∷ pos 4 ∷ []) ∷ good [] 0
    ∷ good [] 0
    ∷ []
