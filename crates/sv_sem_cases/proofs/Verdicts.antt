-- Runs that fail, and why none does.
use Rattle.std.proofs.Common.{ℕ, zero, suc, ◌≡◌, inl, inr, Bool, true, false, List, [], ◌∷◌, Some, None, pos, refl, true≢false, neg_ℤ, arith}
use Rattle.std.specs.Prelude.{int_le, ◌-◌, ◌^◌, slice_index_or}
use Rattle.sv_type.specs.Shapes.{Kind, Unsigned, Signed, Truth, Account, Member, least, greatest, has_least, has_greatest}
use Rattle.sv_type.specs.StorageTrees.{Tree, Num, Map, Entry, Empty}
use Rattle.sv_type.specs.Memory.{empty_memory}
use Rattle.sv_core.specs.PlainCore.{Contract}
use Rattle.sv_sem.specs.States.{Value, Pointer, Unset, State, View, Choose, kind_of, set_local, with_state, with_tree, root}
use Rattle.sv_sem.specs.NamedParts.{ToLocal, ToPath}
use Rattle.sv_sem.specs.TrueValues.{limit}
use Rattle.sv_sem.specs.AnnotationTruth.{Limits, true_limits}
use Rattle.sv_sem.specs.RunParts.{Done, func_at, in_function, entered}
use Rattle.sv_sem.specs.Effects.{same_view}
use Rattle.sv_sem.specs.Histories.{Prepared, outside_view, default_state, in_ctor, ctor_view, own_ctor, prepared_own}
use Rattle.sv_sem.specs.FreeValues.{IsLimit, AreLimits}
use Rattle.sv_sem.specs.WellTyped.{WellMemory, WellView}
use Rattle.sv_sem.specs.Changes.{Assigns}
use Rattle.sv_sem.specs.ModularRuns.{Verdict, EndsIn, Fails, Finishes, Forgets, RunsAll, NoRest, assert_label, label_at}
use Rattle.sv_sem.specs.MayFail.{RunsBodies, credited}
use Rattle.sv_sem_cases.specs.Writing.{at}
use Rattle.sv_sem_cases.specs.BankHistories.{late}
use Rattle.sv_sem_cases.specs.CallHistories.{exact}
use Rattle.sv_sem_cases.specs.ContractHistories.{setter, never_born}
use Rattle.sv_sem_cases.specs.Verdicts.{GiftBreaks, ConstructionBreaks, NeverBornHolds, NoGiftToTheUnborn, PreconditionIsNoLicence, wide, WideLimitFails, inner, PreconditionFails, looper, LoopWithoutInvariant, the_loop, NoInvariantNoFailure, BankFailsAtCall}

-- ---- what all runs start with

le_zero : (n : ℕ) → int_le (pos 0) (pos n) ≡ true
le_zero n = grind arith

neg_le : (n : ℕ) → int_le (neg_ℤ (pos n)) (pos 0) ≡ true
neg_le zero = refl
neg_le (suc n) = refl

greatest_above : (kind : Kind) → int_le (pos 0) (greatest kind) ≡ true
greatest_above (Unsigned bits) = le_zero (2 ^ bits - 1)
greatest_above (Signed bits) = le_zero (2 ^ (bits - 1) - 1)
greatest_above Truth = refl
greatest_above Account = le_zero (2 ^ 160 - 1)
greatest_above (Member members) = refl

least_below : (kind : Kind) → int_le (least kind) (pos 0) ≡ true
least_below (Unsigned bits) = refl
least_below (Signed bits) = neg_le (2 ^ (bits - 1))
least_below Truth = refl
least_below Account = refl
least_below (Member members) = refl

either : (b : Bool) (A B : Type 0) → A → B → Choose b A B
either true A B a c = a
either false A B a c = c

is_limit : (kind : Kind) (b : Bool) → IsLimit kind b (limit kind b)
is_limit kind true = either (has_greatest kind) (limit kind true ≡ limit kind true) (int_le (pos 0) (limit kind true) ≡ true) refl (greatest_above kind)
is_limit kind false = either (has_least kind) (limit kind false ≡ limit kind false) (int_le (limit kind false) (pos 0) ≡ true) refl (least_below kind)

pub are_limits : (core : Contract) → AreLimits core (true_limits core)
are_limits core = λ t b. is_limit (kind_of core t) b

nothing : (A : Type 0) (o : Tree) → None ≡ Some o → A
nothing A o e = absurd (let bad : None ≡ Some o = e in cc)

pub no_objects : (core : Contract) → WellMemory core empty_memory
no_objects core = record { below = λ t r o e. nothing _ o e; fit = λ t r o e. nothing _ o e }

abbrev start : Contract → ℕ → View
start core balance = outside_view (default_state core balance) 0 0 0 0 0

-- ---- forced ether

pub gift_breaks : GiftBreaks
gift_breaks = (true_limits exact, are_limits exact, (default_state exact 0, 0, 1, (refl, tt), (refl, tt), (0, refl, refl)))

pub construction_breaks : ConstructionBreaks
construction_breaks = (
  true_limits exact,
  are_limits exact,
  (
    start exact 1,
    [],
    refl,
    no_objects exact,
    tt,
    inr (start exact 1, (start exact 1, (start exact 1, refl, refl), inl (start exact 1, inl (Done, start exact 1, refl, refl), refl)), (0, refl, refl)),
  ),
)

-- ---- a constructor that reverts

finishes_not : (R : Verdict → Type 0) (back : View → View) (o : Verdict) → ((v : Verdict) → R v → ⊥) → Finishes back R o → ⊥
finishes_not R back o n f = elim f [ inl x ↦ n _ x.2 | inr y ↦ n _ y.1 ]

abbrev RunsOfBody : Limits → List Prepared → View → Verdict → Type 0
RunsOfBody l ps c v = RunsAll l (in_ctor never_born (own_ctor never_born)) NoRest (own_ctor never_born).body (ctor_view never_born (own_ctor never_born) ps c) v

no_run : (l : Limits) (ps : List Prepared) (c : View) (v : Verdict) → RunsOfBody l ps c v → ⊥
no_run l ps c v r = elim r [ inl y ↦ y.1 | inr y ↦ y.1 ]

no_bodies : (l : Limits) (ps : List Prepared) (c : View) (o : Verdict) → RunsBodies l never_born never_born.ctors ps c o → ⊥
no_bodies l ps c o b =
    elim b [
      | inl x ↦ finishes_not (RunsOfBody l ps c) same_view (EndsIn Done x.0) (no_run l ps c) x.1
      | inr x ↦ finishes_not (RunsOfBody l ps c) same_view (Fails x.0) (no_run l ps c) x.1
    ]

pub never_born_holds : NeverBornHolds
never_born_holds lab (l, allowed, (c, hs, s, m, args, fails)) =
    elim fails [
      | inl r ↦ no_bodies l (prepared_own never_born hs (credited false c)) r.0 (Fails lab) r.2
      | inr r ↦ no_bodies l (prepared_own never_born hs (credited false c)) r.1.0 (EndsIn Done r.0) r.1.2
    ]

no_false : (A : Type 0) → Some false ≡ Some true → A
no_false A e = absurd (true≢false (let f : true ≡ false = cc in f))

pub no_gift_to_the_unborn : NoGiftToTheUnborn
no_gift_to_the_unborn lab (l, allowed, (s, this, n, well, hold, fails)) = no_false ⊥ hold.0

pub no_invariant_no_failure : NoInvariantNoFailure
no_invariant_no_failure lab (l, allowed, (s, this, n, well, hold, fails)) = fails.1

-- ---- a precondition licenses nothing

abbrev set_entry : View
set_entry = entered setter (func_at setter 0) (Value (pos 11) ∷ []) (start setter 0)

abbrev set_end : View
set_end = with_state (with_tree (root 0) (Num (pos 11)) set_entry.state) set_entry

pub precondition_is_no_licence : PreconditionIsNoLicence
precondition_is_no_licence = (
  true_limits setter,
  are_limits setter,
  (
    func_at setter 0,
    refl,
    (
      start setter 0,
      Value (pos 11) ∷ [],
      (refl, tt),
      no_objects setter,
      (refl, tt),
      (refl, tt),
      inr (set_end, inl (Done, set_end, inl (set_end, (Value (pos 11), ToPath (root 0), set_end, refl, refl, refl, refl), refl), refl), inl (0, refl, refl)),
    ),
  ),
)

-- ---- the greatest number of a wide type

abbrev low_limits : Limits
low_limits (suc zero) true = pos 0
low_limits t b = true_limits wide t b

low_are_limits : AreLimits wide low_limits
low_are_limits zero b = is_limit (kind_of wide 0) b
low_are_limits (suc zero) true = refl
low_are_limits (suc zero) false = is_limit (kind_of wide 1) false
low_are_limits (suc (suc t)) b = is_limit (kind_of wide (suc (suc t))) b

abbrev wide_entry : View
wide_entry = entered wide (func_at wide 0) (Value (pos 0) ∷ []) (start wide 0)

abbrev wide_set : View
wide_set = set_local 1 (Value (pos 1)) wide_entry

pub wide_limit_fails : WideLimitFails
wide_limit_fails = (
  low_limits,
  low_are_limits,
  (
    func_at wide 0,
    refl,
    (
      start wide 0,
      Value (pos 0) ∷ [],
      tt,
      no_objects wide,
      (refl, tt),
      tt,
      inl (inr (
        assert_label (at 3 9) 70,
        inl (
          wide_set,
          (Value (pos 1), ToLocal 1, wide_set, (pos 0, refl, (pos 1, refl, refl)), refl, refl, refl),
          inl (
            wide_set,
            (pos 1, (pos 1, refl, (pos 0, refl, refl)), refl),
            inr (tt, (pos 0, (pos 1, refl, (pos 0, refl, refl)), refl)),
          ),
        ),
        refl,
      )),
    ),
  ),
)

-- ---- a precondition of a function that is called

pub precondition_fails : PreconditionFails
precondition_fails = (
  true_limits inner,
  are_limits inner,
  (
    func_at inner 0,
    refl,
    (
      start inner 0,
      Value (pos 6) ∷ [],
      (refl, tt),
      no_objects inner,
      (refl, tt),
      tt,
      inl (inr (
        label_at (at 3 36) 1 2 0,
        inr (tt, (Value (pos 6) ∷ [], (Value (pos 6), [], refl, refl, refl), inr (0, refl, refl))),
        refl,
      )),
    ),
  ),
)

-- ---- the bank

abbrev owing : State
owing = record { vars = Map (Entry (pos 0) (Num (pos 5)) Empty) (Num (pos 0)) ∷ []; balance = 5 }

abbrev bank_start : View
bank_start = outside_view owing 0 0 0 0 0

abbrev bank_entry : View
bank_entry = entered late (func_at late 1) (Value (pos 5) ∷ []) bank_start

pub bank_fails_at_call : BankFailsAtCall
bank_fails_at_call = (
  true_limits late,
  are_limits late,
  (
    func_at late 1,
    refl,
    (
      bank_start,
      Value (pos 5) ∷ [],
      (((refl, tt), refl, refl), tt),
      no_objects late,
      (refl, tt),
      (refl, tt),
      inl (inr (
        label_at (at 0 0) 3 70 0,
        inl (
          bank_entry,
          (pos 1, (pos 5, (Pointer (root 0), pos 0, refl, refl, refl), (pos 5, refl, refl)), refl),
          inr (tt, (Value (pos 0), pos 5, [], (Value (pos 0), refl, refl), refl, refl, inr (refl, inr (0, refl, refl)))),
        ),
        refl,
      )),
    ),
  ),
)

-- ---- the loop without an invariant

abbrev loop_entry : View
loop_entry = entered looper (func_at looper 0) (Value (pos 1) ∷ []) (start looper 0)

abbrev loop_set : View
loop_set = set_local 2 (Value (pos 0)) loop_entry

abbrev loop_end : View
loop_end = set_local 2 (Value (pos 1)) loop_entry

loop_locals : (k : ℕ) → (Assigns the_loop k → ⊥) → slice_index_or loop_set.frame.locals k Unset ≡ slice_index_or loop_end.frame.locals k Unset
loop_locals zero n = refl
loop_locals (suc zero) n = refl
loop_locals (suc (suc zero)) n = absurd (n (inr (inl refl)))
loop_locals (suc (suc (suc k))) n = refl

forgets : Forgets looper (in_function looper (func_at looper 0)) the_loop loop_set loop_end
forgets =
    record {
      keeps = record { vars = λ k n. refl; balance = λ n. refl; count = omega arith; objects = λ t r h n. refl };
      locals = loop_locals;
      around = refl;
      sender = refl;
      value = refl;
      time = refl;
      number = refl;
      this = refl;
    }

loop_well : WellView looper (func_at looper 0).locals loop_end
loop_well = record { state = tt; memory = no_objects looper; locals = (refl, (refl, (refl, tt))) }

pub loop_without_invariant : LoopWithoutInvariant
loop_without_invariant = (
  true_limits looper,
  are_limits looper,
  (
    func_at looper 0,
    refl,
    (
      start looper 0,
      Value (pos 1) ∷ [],
      tt,
      no_objects looper,
      (refl, tt),
      tt,
      inr (
        loop_end,
        inl (
          Done,
          loop_end,
          inl (
            loop_set,
            (Value (pos 0), ToLocal 2, loop_set, refl, refl, refl, refl),
            inl (loop_end, inl (tt, (loop_end, forgets, loop_well, tt, (pos 0, (pos 1, refl, (pos 1, refl, refl)), refl))), refl),
          ),
          refl,
        ),
        inr (tt, tt, (0, refl, refl)),
      ),
    ),
  ),
)
