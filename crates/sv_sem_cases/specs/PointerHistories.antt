-- Serves the proof: storage pointers that may be one, a pointer whose element was popped, memory objects with two names, and `delete` in memory.
use Rattle.std.specs.Prelude.{◌≡◌, false, [], ◌∷◌}
use Rattle.sv_type.specs.declared.info.TypeInfo.TheVariants as info
use Rattle.sv_core.specs.declared.expr.Op.TheVariants as op
use Rattle.sv_core.specs.declared.expr.Loc.TheVariants as loc
use Rattle.sv_core.specs.PlainCode as code
use Rattle.sv_core.specs.PlainCode.{Expr}
use Rattle.sv_core.specs.PlainCore.{Contract}
use Rattle.sv_sem_cases.specs.Writing.{AssertFailed, uint, types_and, node, num, local, var, element, member, test, compute, external, contract, state_of, param, in_storage, in_memory, call_of, history, seen_in, good, end_of}

-- ---- struct S { uint256 x; } S[] s

abbrev pub structs : Contract
structs =
    contract (types_and (info.Struct (1 ∷ []) ∷ info.Dynamic 5 ∷ [])) (state_of 6 ∷ [])
    (external 1 false [] 0 (code.Do (node 5 (code.Push (var 6 0) code.Nothing)) ∷ [])
    ∷ external 2 false (param uint ∷ param uint ∷ in_storage 5 ∷ in_storage 5 ∷ []) 2
    (code.Set (local 5 2) (element 5 (var 6 0) (local uint 0))
    ∷ code.Set (local 5 3) (element 5 (var 6 0) (local uint 1))
    ∷ code.Set (member uint (local 5 2) 0) (num 1)
    ∷ code.Set (member uint (local 5 3) 0) (num 2)
    ∷ code.Assert (test op.Eq (member uint (local 5 2) 0) (num 1))
    ∷ [])
    ∷ [])
    []

-- both pointers to one element: the assert fails, and the visit reverts
abbrev pub OneElement : Type 0
OneElement =
    seen_in structs (history 0 (call_of 0 7 0 9 [] [] ∷ call_of 1 7 0 9 (0 ∷ 0 ∷ []) [] ∷ [])) ≡
    good (0 ∷ []) 0
    ∷ end_of 1 ∷ good (1 ∷ []) 0 ∷ good (1 ∷ []) 0
    ∷ AssertFailed ∷ good (1 ∷ []) 0
    ∷ []

-- to two elements
abbrev pub TwoElements : Type 0
TwoElements =
    seen_in structs (history 0 (call_of 0 7 0 9 [] [] ∷ call_of 0 7 0 9 [] [] ∷ call_of 1 7 0 9 (0 ∷ 1 ∷ []) [] ∷ [])) ≡
    good (0 ∷ []) 0
    ∷ end_of 1 ∷ good (1 ∷ []) 0 ∷ good (1 ∷ []) 0
    ∷ end_of 1 ∷ good (2 ∷ []) 0 ∷ good (2 ∷ []) 0
    ∷ end_of 2 ∷ good (2 ∷ []) 0 ∷ good (2 ∷ []) 0
    ∷ []

-- an index past the end reverts
abbrev pub NoElement : Type 0
NoElement = seen_in structs (history 0 (call_of 1 7 0 9 (0 ∷ 0 ∷ []) [] ∷ [])) ≡ good (0 ∷ []) 0 ∷ good (0 ∷ []) 0 ∷ []

-- ---- uint256[][] s

abbrev pub last : Expr
last = element 5 (var 6 0) (compute op.Sub (node uint (code.Length (var 6 0))) (num 1))

abbrev pub nested : Contract
nested =
    contract (types_and (info.Dynamic 1 ∷ info.Dynamic 5 ∷ [])) (state_of 6 ∷ [])
    (external 1 false [] 0 (code.Do (node 5 (code.Push (var 6 0) code.Nothing)) ∷ [])
    ∷ external 2 false (in_storage 5 ∷ []) 0
    (code.Set (local 5 0) last
    ∷ code.Do (node 0 (code.Pop (var 6 0)))
    ∷ code.Do (node 0 (code.Push (local 5 0) (code.Just (num 66))))
    ∷ code.Do (node 5 (code.Push (var 6 0) code.Nothing))
    ∷ code.Assert (test op.And (test op.Eq (node uint (code.Length last)) (num 1)) (test op.Eq (element uint last (num 0)) (num 66)))
    ∷ [])
    ∷ [])
    []

-- the pointer writes past the end, and `push()` doesn't clear what was left there
abbrev pub PoppedPointer : Type 0
PoppedPointer =
    seen_in nested (history 0 (call_of 0 7 0 9 [] [] ∷ call_of 1 7 0 9 [] [] ∷ [])) ≡
    good (0 ∷ []) 0
    ∷ end_of 1 ∷ good (1 ∷ []) 0 ∷ good (1 ∷ []) 0
    ∷ end_of 2 ∷ good (1 ∷ []) 0 ∷ good (1 ∷ []) 0
    ∷ []

-- a `pop` on an empty array reverts
abbrev pub PopOfNothing : Type 0
PopOfNothing = seen_in nested (history 0 (call_of 1 7 0 9 [] [] ∷ [])) ≡ good (0 ∷ []) 0 ∷ good (0 ∷ []) 0 ∷ []

-- ---- struct S { uint256 x; } S s

abbrev pub copies : Contract
copies =
    contract (types_and (info.Struct (1 ∷ []) ∷ [])) (state_of 5 ∷ [])
    (external 1 false (in_memory 5 ∷ in_memory 5 ∷ []) 0
    (code.Set (local 5 0) (node 5 (code.Copy loc.Memory (var 5 0)))
    ∷ code.Set (local 5 1) (local 5 0)
    ∷ code.Set (member uint (local 5 1) 0) (compute op.Add (member uint (var 5 0) 0) (num 1))
    ∷ code.Assert (test op.Eq (member uint (local 5 0) 0) (compute op.Add (member uint (var 5 0) 0) (num 1)))
    ∷ code.Set (var 5 0) (node 5 (code.Copy loc.Storage (local 5 0)))
    ∷ [])
    ∷ [])
    []

-- two names for one object in memory; storage gets a copy of it at the end
abbrev pub OneObject : Type 0
OneObject =
    seen_in copies (history 0 (call_of 0 7 0 9 [] [] ∷ call_of 0 7 0 9 [] [] ∷ [])) ≡
    good (0 ∷ []) 0
    ∷ end_of 1 ∷ good (1 ∷ []) 0 ∷ good (1 ∷ []) 0
    ∷ end_of 1 ∷ good (2 ∷ []) 0 ∷ good (2 ∷ []) 0
    ∷ []

-- ---- struct S { uint256 x; } struct T { uint256 y; S s; } and a number that is written

abbrev pub deletes : Contract
deletes =
    contract (types_and (info.Struct (1 ∷ []) ∷ info.Struct (1 ∷ 5 ∷ []) ∷ [])) (state_of uint ∷ [])
    (external 1 false (in_memory 6 ∷ in_memory 5 ∷ []) 0
    (code.Set (local 6 0) (node 6 (code.Make code.Nil))
    ∷ code.Set (local 5 1) (member 5 (local 6 0) 1)
    ∷ code.Set (member uint (local 5 1) 0) (num 5)
    ∷ code.Assert (test op.Eq (member uint (member 5 (local 6 0) 1) 0) (num 5))
    ∷ code.Delete (member 5 (local 6 0) 1)
    ∷ code.Assert (test op.Eq (member uint (member 5 (local 6 0) 1) 0) (num 0))
    ∷ code.Set (var uint 0) (member uint (local 5 1) 0)
    ∷ [])
    ∷ [])
    []

-- `delete` of a field puts a new object there, and the old one stays
abbrev pub DeletedField : Type 0
DeletedField =
    seen_in deletes (history 0 (call_of 0 7 0 9 [] [] ∷ [])) ≡
    good (0 ∷ []) 0 ∷ end_of 1 ∷ good (5 ∷ []) 0 ∷ good (5 ∷ []) 0 ∷ []
