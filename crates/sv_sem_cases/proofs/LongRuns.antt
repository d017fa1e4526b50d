-- Longer runs that fail at their end, with each view on the way.
use Rattle.std.proofs.Common.{◌≡◌, ◌∙◌, zero, suc, Bool, true, false, Some, [], ◌∷◌, inl, inr, pos, refl, sym, ap, true≢false}
use Rattle.sv_type.specs.StorageTrees.{Num, Struct, Arr, Map, End, Field, Empty, Entry, At, Index}
use Rattle.sv_core.specs.declared.contract.VarKind.{VarKind}
use Rattle.sv_core.specs.declared.contract.VarKind.TheVariants as variable
use Rattle.sv_core.specs.PlainCore.{Variable}
use Rattle.sv_sem.specs.States.{Value, Pointer, Path, State, View, root, below, set_local, with_state, with_tree}
use Rattle.sv_sem.specs.NamedParts.{ToLocal, ToPath}
use Rattle.sv_sem.specs.AnnotationTruth.{true_limits}
use Rattle.sv_sem.specs.RunParts.{Done, func_at, entered, into_modifier, at_rest, after_rest}
use Rattle.sv_sem.specs.Histories.{outside_view}
use Rattle.sv_sem.specs.ModularRuns.{assert_label, KeepsImmutables}
use Rattle.sv_sem_cases.specs.Writing.{at, bool, balances, state_of}
use Rattle.sv_sem_cases.specs.PointerHistories.{structs}
use Rattle.sv_sem_cases.specs.CallHistories.{locked}
use Rattle.sv_sem_cases.specs.LongVerdicts.{PointersMayBeOne, LockIsForgotten}
use Rattle.sv_sem_cases.proofs.Verdicts.{are_limits, no_objects}

-- ---- two pointers to one element

abbrev one_struct : State
one_struct = record { vars = Arr (pos 1) Empty (Struct (Field (Num (pos 0)) End)) ∷ []; balance = 0 }

abbrev first : Path
first = below (root 0) (Index (pos 0))

abbrev p0 : View
p0 = entered structs (func_at structs 1) (Value (pos 0) ∷ Value (pos 0) ∷ []) (outside_view one_struct 0 0 0 0 0)

abbrev p1 : View
p1 = set_local 2 (Pointer first) p0

abbrev p2 : View
p2 = set_local 3 (Pointer first) p1

abbrev p3 : View
p3 = with_state (with_tree (below first (At 0)) (Num (pos 1)) p2.state) p2

abbrev p4 : View
p4 = with_state (with_tree (below first (At 0)) (Num (pos 2)) p3.state) p3

pub pointers_may_be_one : PointersMayBeOne
pointers_may_be_one = (
  true_limits structs,
  are_limits structs,
  (
    func_at structs 1,
    refl,
    (
      outside_view one_struct 0 0 0 0 0,
      Value (pos 0) ∷ Value (pos 0) ∷ [],
      ((refl, tt, (refl, tt), refl), tt),
      no_objects structs,
      (refl, (refl, tt)),
      tt,
      inl (inr (
        assert_label (at 5 9) 70,
        inl (
          p1,
          (Pointer first, ToLocal 2, p1, (Pointer (root 0), pos 0, refl, refl, refl), refl, refl, refl),
          inl (
            p2,
            (Pointer first, ToLocal 3, p2, (Pointer (root 0), pos 0, refl, refl, refl), refl, refl, refl),
            inl (
              p3,
              (Value (pos 1), ToPath (below first (At 0)), p3, refl, (Pointer first, refl, refl), refl, refl),
              inl (
                p4,
                (Value (pos 2), ToPath (below first (At 0)), p4, refl, (Pointer first, refl, refl), refl, refl),
                inr (tt, (pos 0, (pos 2, (Pointer first, refl, refl), (pos 1, refl, refl)), refl)),
              ),
            ),
          ),
        ),
        refl,
      )),
    ),
  ),
)

-- ---- a lock around a call

abbrev before : State
before = record { vars = Map (Entry (pos 0) (Num (pos 5)) Empty) (Num (pos 0)) ∷ Num (pos 0) ∷ []; balance = 5 }

-- what may follow the call: more is owed, and the lock is set
abbrev during : State
during = record { vars = Map (Entry (pos 0) (Num (pos 9)) Empty) (Num (pos 0)) ∷ Num (pos 1) ∷ []; balance = 0 }

abbrev l0 : View
l0 = entered locked (func_at locked 1) (Value (pos 5) ∷ []) (outside_view before 0 0 0 0 0)

-- in the modifier, before and after the lock is set
abbrev l1 : View
l1 = into_modifier [] l0

abbrev l2 : View
l2 = with_state (with_tree (root 1) (Num (pos 1)) l1.state) l1

-- in the function's body, before the call, after it, and after the subtraction
abbrev l3 : View
l3 = at_rest l2

abbrev l4 : View
l4 = with_state during l3

abbrev own : Path
own = below (root 0) (Index (pos 0))

abbrev l5 : View
l5 = with_state (with_tree own (Num (pos 4)) l4.state) l4

-- back in the modifier, and after the lock is taken away
abbrev l6 : View
l6 = after_rest [] l5

abbrev l7 : View
l7 = with_state (with_tree (root 1) (Num (pos 0)) l6.state) l6

abbrev is_immutable : VarKind → Bool
is_immutable variable.State = false
is_immutable variable.Immutable = true

is_state : (A : Type 0) (w v : Variable) → w.kind ≡ variable.State → Some w ≡ Some v → v.kind ≡ variable.Immutable → A
is_state A w v state found immutable =
    let same : w ≡ v = cc in
    absurd (true≢false (sym (ap is_immutable (sym state ∙ ap (λ x. x.kind) same ∙ immutable))))

no_immutables : KeepsImmutables locked l3.state during
no_immutables zero v found immutable = is_state _ (state_of balances) v refl found immutable
no_immutables (suc zero) v found immutable = is_state _ (state_of bool) v refl found immutable
no_immutables (suc (suc k)) v found immutable = refl

pub lock_is_forgotten : LockIsForgotten
lock_is_forgotten = (
  true_limits locked,
  are_limits locked,
  (
    func_at locked 1,
    refl,
    (
      outside_view before 0 0 0 0 0,
      Value (pos 5) ∷ [],
      (((refl, tt), refl, refl), (refl, tt)),
      no_objects locked,
      (refl, tt),
      (refl, tt),
      inr (
        at_rest l7,
        (
          [],
          refl,
          inl (
            Done,
            l7,
            inl (
              l1,
              (pos 1, (pos 0, refl, refl), refl),
              inl (
                l2,
                (Value (pos 1), ToPath (root 1), l2, refl, refl, refl, refl),
                inl (
                  l6,
                  inl (
                    Done,
                    l5,
                    inl (
                      Done,
                      l5,
                      inl (
                        l3,
                        (pos 1, (pos 5, (Pointer (root 0), pos 0, refl, refl, refl), (pos 5, refl, refl)), refl),
                        inl (
                          l4,
                          (
                            Value (pos 0),
                            pos 5,
                            [],
                            (Value (pos 0), refl, refl),
                            refl,
                            refl,
                            inr (refl, inl ((refl, tt), inr (during, (((refl, tt), refl, refl), (refl, tt)), no_immutables, (refl, tt), (Value (pos 0), refl, refl)))),
                          ),
                          inl (l5, (ToPath own, pos 9, pos 5, pos 4, l5, (Pointer (root 0), pos 0, refl, refl, refl), (Pointer (root 0), pos 0, refl, refl, refl), refl, refl, refl, refl), refl),
                        ),
                      ),
                      refl,
                    ),
                    refl,
                  ),
                  inl (l7, (Value (pos 0), ToPath (root 1), l7, refl, refl, refl, refl), refl),
                ),
              ),
            ),
            refl,
          ),
        ),
        inl (0, refl, refl),
      ),
    ),
  ),
)
