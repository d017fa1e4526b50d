-- Why some checks can't fail: each run is taken apart, and what it passed on the way contradicts the failure.
use Rattle.std.proofs.Common.{◌≡◌, ◌∙◌, inl, inr, ℕ, zero, suc, Bool, true, false, not, ◌&&◌, if◌then◌else◌, Option, Some, None, List, [], ◌∷◌, ℤ, pos, ◌+ℤ◌, int_le, int_lt, slice_index_or, slice_set, refl, sym, ap, subst, true≢false, arith}
use Rattle.std.specs.Ordering.{int_eq}
use Rattle.sv_type.specs.Shapes.{Unsigned, is_well_typed}
use Rattle.sv_core.specs.declared.label.Label.{Label}
use Rattle.sv_core.specs.declared.expr.Op.TheVariants as op
use Rattle.sv_core.specs.declared.expr.OutKind.TheVariants as out
use Rattle.sv_core.specs.PlainCode as code
use Rattle.sv_core.specs.PlainCode.{Expr, Stmts}
use Rattle.sv_sem.specs.States.{Held, Value, Pointer, Unset, State, View, Choose, set_local, local_at, with_state, with_some}
use Rattle.sv_sem.specs.NamedParts.{Target, ToLocal, assign}
use Rattle.sv_sem.specs.Operators.{is_zero, of_bool, binary}
use Rattle.sv_sem.specs.TrueValues.{a_value, a_number}
use Rattle.sv_sem.specs.AnnotationTruth.{Limits, FirstFalse, holds, truth, joined_exactly, at_view, at_end}
use Rattle.sv_sem.specs.RunParts.{End, Done, Broke, Continued, Returned, Setting, func_at, entered, in_function}
use Rattle.sv_sem.specs.FreeValues.{FreeValue, FreeTarget, FreeJoined, known}
use Rattle.sv_sem.specs.WellTyped.{Both, WellLocal, WellArguments}
use Rattle.sv_sem.specs.Changes.{Assigns}
use Rattle.sv_sem.specs.ModularRuns.{Verdict, EndsIn, Fails, IsStop, Checked, AfterTurn, Turns, Runs, RunsAll, NoRest, assert_label, label_at}
use Rattle.sv_sem.specs.MayFail.{FunctionFails}
use Rattle.sv_sem_cases.specs.Writing.{at, node, bool, uint, payable, num, local, test, body, balance}
use Rattle.sv_sem_cases.specs.CallHistories.{sender_of_one}
use Rattle.sv_sem_cases.specs.ContractHistories.{narrow}
use Rattle.sv_sem_cases.specs.HeldVerdicts.{NarrowSumHolds, loop_note, noted_loop, counter, LoopWithInvariantHolds, FailedSendHolds}

-- ---- what equations say

done_is_no_failure : (A : Type 0) (k : Label) (c : View) → Fails k ≡ EndsIn Done c → A
done_is_no_failure A k c e = absurd (let bad : Fails k ≡ EndsIn Done c = e in cc)

end_is : (c d : View) → EndsIn Done c ≡ EndsIn Done d → c ≡ d
end_is c d e = cc

held_is : (h g : Held) → Some h ≡ Some g → h ≡ g
held_is h g e = cc

view_is : (c d : View) → Some c ≡ Some d → c ≡ d
view_is c d e = cc

number_is : (x y : ℤ) → Value x ≡ Value y → x ≡ y
number_is x y e = cc

value_is : (x y : ℤ) → Some (Value x) ≡ Some (Value y) → x ≡ y
value_is x y e = cc

-- a number that passed the test of its range
passed : (b : Bool) (z : ℤ) (h : Held) → a_value (if b then Some z else None) ≡ Some h → (b ≡ true) × (Value z ≡ h)
passed true z h e = (refl, held_is (Value z) h e)
passed false z h e = absurd (let bad : None ≡ Some h = e in cc)

both_true : (a b : Bool) → (a && b) ≡ true → (a ≡ true) × (b ≡ true)
both_true true b e = (refl, e)
both_true false b e = absurd (true≢false (sym e))

-- ---- the narrow sum

abbrev narrow_view : ℤ → ℤ → View → View
narrow_view x y c = entered narrow (func_at narrow 0) (Value x ∷ Value y ∷ []) c

-- a sum of the type is at most its greatest number
at_most : (z : ℤ) → is_well_typed (Unsigned 8) z ≡ true → int_le z (pos 255) ≡ true
at_most z e = (both_true (int_le (pos 0) z) (int_le z (pos 255)) e).1

-- the test of the check is 1
test_is : (s t : ℤ) (y : ℤ) → int_le s (pos 255) ≡ true → a_value (Some (pos 255)) ≡ Some (Value y) → a_value (Some (of_bool (int_le s y))) ≡ Some (Value t) → t ≡ pos 1
test_is s t y le fy ft =
    sym (value_is (of_bool (int_le s y)) t ft) ∙ ap (λ v. of_bool (int_le s v)) (sym (value_is (pos 255) y fy)) ∙ ap of_bool le

narrow_run : (l : Limits) (k : Label) (x y : ℤ) (c : View) → RunsAll l (in_function narrow (func_at narrow 0)) NoRest (func_at narrow 0).body (narrow_view x y c) (Fails k) → ⊥
narrow_run l k x y c (inr (stop, (h, to, m, sum, target, stored, ended))) = done_is_no_failure ⊥ k m ended
narrow_run l k x y c (inl (m, (h, to, n, (a, first, (b, second, sum)), target, stored, ended), inl (d, run, last))) = done_is_no_failure ⊥ k d last
narrow_run l k x y c (inl (m, (h, to, n, (a, first, (b, second, sum)), target, stored, ended), inr (stop, (t, (s, held, (v, limit, tests)), ends)))) =
    let fits : (is_well_typed (Unsigned 8) (a +ℤ b) ≡ true) × (Value (a +ℤ b) ≡ h) = passed (is_well_typed (Unsigned 8) (a +ℤ b)) (a +ℤ b) h sum in
    let set : set_local 2 h (narrow_view x y c) ≡ m =
    view_is (set_local 2 h (narrow_view x y c)) n (subst (λ w. assign narrow (func_at narrow 0).locals 5 w h (narrow_view x y c) ≡ Some n) target stored) ∙ sym (end_is m n ended) in
    let is_sum : s ≡ a +ℤ b = number_is s (a +ℤ b) (held ∙ ap (local_at 2) (sym set) ∙ sym (fits.1)) in
    let one : t ≡ pos 1 = test_is s t v (subst (λ w. int_le w (pos 255) ≡ true) (sym is_sum) (at_most (a +ℤ b) fits.0)) limit tests in
    done_is_no_failure ⊥ k m (subst (λ w. Choose (not (is_zero w)) (Fails k ≡ EndsIn Done m) (Fails k ≡ Fails (assert_label (at 2 9) 70))) one ends)

narrow_fails : (l : Limits) (lab : Label) (x y : ℤ) (c : View) → FunctionFails l narrow (func_at narrow 0) (narrow_view x y c) lab → ⊥
narrow_fails l lab x y c (inl (inl (how, d, run, e))) = done_is_no_failure ⊥ lab d e
narrow_fails l lab x y c (inl (inr (k, run, e))) = narrow_run l k x y c run
narrow_fails l lab x y c (inr (end, run, inl (k, none, e))) = absurd none
narrow_fails l lab x y c (inr (end, run, inr (before, pre, (k, none, e)))) = absurd none

narrow_entry : (l : Limits) (lab : Label) (c : View) (hs : List Held) → WellArguments narrow (func_at narrow 0).locals (func_at narrow 0).params hs → FunctionFails l narrow (func_at narrow 0) (entered narrow (func_at narrow 0) hs c) lab → ⊥
narrow_entry l lab c [] w fails = w
narrow_entry l lab c (Pointer p ∷ hs) w fails = w.0
narrow_entry l lab c (Unset ∷ hs) w fails = w.0
narrow_entry l lab c (Value x ∷ []) w fails = w.1
narrow_entry l lab c (Value x ∷ Pointer p ∷ hs) w fails = w.1.0
narrow_entry l lab c (Value x ∷ Unset ∷ hs) w fails = w.1.0
narrow_entry l lab c (Value x ∷ Value y ∷ h ∷ hs) w fails = w.1.1
narrow_entry l lab c (Value x ∷ Value y ∷ []) w fails = narrow_fails l lab x y c fails

pub narrow_sum_holds : NarrowSumHolds
narrow_sum_holds lab (l, allowed, (f, found, (c, hs, state, memory, args, starts, fails))) =
    let same : f ≡ func_at narrow 0 = (let s : Some (func_at narrow 0) ≡ Some f = found in cc) in
    narrow_entry l lab c hs (subst (λ g. WellArguments narrow g.locals g.params hs) same args) (subst (λ g. FunctionFails l narrow g (entered narrow g hs c) lab) same fails)

-- ---- the loop with its invariant

abbrev counting : Setting
counting = in_function counter (func_at counter 0)

abbrev counter_view : ℤ → View → View
counter_view n c = entered counter (func_at counter 0) (Value n ∷ []) c

-- before the first turn
abbrev at_zero : ℤ → View → View
at_zero n c = set_local 2 (Value (pos 0)) (counter_view n c)

zero_is : (l : Limits) (n : ℤ) (c m : View) → Runs l counting NoRest (at 1 9) (code.Set (local uint 2) (num 0)) (counter_view n c) (EndsIn Done m) → at_zero n c ≡ m
zero_is l n c m (h, to, w, number, target, stored, ended) =
    ap (λ g. set_local 2 g (counter_view n c)) (held_is (Value (pos 0)) h number)
    ∙ view_is (set_local 2 h (counter_view n c)) w (subst (λ t. assign counter counting.locals 1 t h (counter_view n c) ≡ Some w) target stored)
    ∙ sym (end_is m w ended)

sum_is : (b : Bool) (z w : ℤ) → (if b then Some z else None) ≡ Some w → z ≡ w
sum_is true z w e = cc
sum_is false z w e = absurd (let bad : None ≡ Some w = e in cc)

-- one is added to a local
abbrev Adds : Limits → ℕ → View → Verdict → Type 0
Adds l k d o = Runs l counting NoRest (at 1 9) (code.Update (local uint k) op.Add (num 1)) d o

abbrev Stores : ℕ → View → Type 0
Stores k d = (h : Held) → assign counter counting.locals 1 (ToLocal k) h d ≡ Some (set_local k h d)

added : (l : Limits) (k : ℕ) (a : ℤ) (d m : View) → Stores k d → local_at k d ≡ Value a → Adds l k d (EndsIn Done m) → set_local k (Value (a +ℤ pos 1)) d ≡ m
added l k a d m stores held (to, x, y, z, w, target, first, second, sum, stored, ended) =
    let x_is : x ≡ a = number_is x a (first ∙ held) in
    let y_is : pos 1 ≡ y = value_is (pos 1) y second in
    let z_is : x +ℤ y ≡ z = sum_is (is_well_typed (Unsigned 256) (x +ℤ y)) (x +ℤ y) z sum in
    let value : a +ℤ pos 1 ≡ z = (ap (λ v. v +ℤ pos 1) (sym x_is) ∙ ap (λ v. x +ℤ v) y_is ∙ z_is) in
    ap (λ v. set_local k (Value v) d) value
    ∙ view_is (set_local k (Value z) d) w (sym (stores (Value z)) ∙ subst (λ t. assign counter counting.locals 1 t (Value z) d ≡ Some w) target stored)
    ∙ sym (end_is m w ended)

how_is : (how : End) (c d : View) → EndsIn how c ≡ EndsIn Done d → how ≡ Done
how_is how c d e = cc

abbrev AddsAll : Limits → ℕ → View → Verdict → Type 0
AddsAll l k d o = RunsAll l counting NoRest (body (code.Update (local uint k) op.Add (num 1) ∷ [])) d o

all_added : (l : Limits) (k : ℕ) (a : ℤ) (d m : View) → Stores k d → local_at k d ≡ Value a → AddsAll l k d (EndsIn Done m) → set_local k (Value (a +ℤ pos 1)) d ≡ m
all_added l k a d m stores held (inl (w, run, last)) = added l k a d w stores held run ∙ sym (end_is m w last)
all_added l k a d m stores held (inr (stop, run)) = absurd stop

add_fails : (A : Type 0) (l : Limits) (k : ℕ) (d : View) (lab : Label) → AddsAll l k d (Fails lab) → A
add_fails A l k d lab (inl (w, run, last)) = done_is_no_failure A lab w last
add_fails A l k d lab (inr (stop, (to, x, y, z, w, target, first, second, sum, stored, ended))) = done_is_no_failure A lab w ended

add_ends : (l : Limits) (k : ℕ) (d m : View) (how : End) → AddsAll l k d (EndsIn how m) → how ≡ Done
add_ends l k d m how (inl (w, run, last)) = how_is how m w last
add_ends l k d m how (inr (stop, (to, x, y, z, w, target, first, second, sum, stored, ended))) = how_is how m w ended

-- ---- what the invariant says

-- of the answers of its two halves
abbrev halves : Bool → Bool → Option Bool
halves p q = truth (a_number (joined_exactly op.And (of_bool p) (Some (of_bool q))))

both_halves : (p q : Bool) → halves p q ≡ Some true → (p ≡ true) × (q ≡ true)
both_halves true true e = (refl, refl)
both_halves true false e = absurd (true≢false (let bad : Some false ≡ Some true = e in let f : true ≡ false = cc in f))
both_halves false q e = absurd (true≢false (let bad : Some false ≡ Some true = e in let f : true ≡ false = cc in f))

abbrev NoteIs : Limits → View → Option Bool → Type 0
NoteIs l d o = holds l counter (at_view d) loop_note ≡ o

-- three numbers in three locals
pub record Holding (d : View) (a b i : ℤ) : Type 0 where
  pub bound : local_at 0 d ≡ Value a
  pub result : local_at 1 d ≡ Value b
  pub index : local_at 2 d ≡ Value i

abbrev note_of : Held → Held → Held → Option Bool
note_of a b i =
    truth (a_number (with_some (a_number (with_some (a_number (Some b)) (λ x. joined_exactly op.Eq x (a_number (Some i)))))
    (λ x. joined_exactly op.And x (a_number (with_some (a_number (Some i)) (λ y. joined_exactly op.Le y (a_number (Some a))))))))

note_is : (l : Limits) (d : View) (a b i : ℤ) → Holding d a b i → NoteIs l d (halves (int_eq b i) (int_le i a))
note_is l d a b i h =
    ap (λ x. note_of x (local_at 1 d) (local_at 2 d)) h.bound
    ∙ ap (λ x. note_of (Value a) x (local_at 2 d)) h.result
    ∙ ap (λ x. note_of (Value a) (Value b) x) h.index

same_number : (x y : ℤ) → int_eq x y ≡ true → x ≡ y
same_number x y e = grind arith

equals_itself : (x : ℤ) → int_eq x x ≡ true
equals_itself x = grind arith

next_at_most : (i a : ℤ) → int_lt i a ≡ true → int_le (i +ℤ pos 1) a ≡ true
next_at_most i a h = grind arith

end_of_count : (i a : ℤ) → int_lt i a ≡ false → int_le i a ≡ true → i ≡ a
end_of_count i a h g = grind arith

-- ---- a turn keeps the invariant

abbrev fields : ℤ → ℤ → ℤ → List Held
fields a b i = Value a ∷ Value b ∷ Value i ∷ []

three_locals : (hs : List Held) → Both (WellLocal counter) counting.locals hs → (a : ℤ) × (b : ℤ) × (i : ℤ) × (hs ≡ fields a b i)
three_locals [] w = absurd w
three_locals (Pointer p ∷ hs) w = absurd w.0
three_locals (Unset ∷ hs) w = absurd w.0
three_locals (Value a ∷ []) w = absurd w.1
three_locals (Value a ∷ Pointer p ∷ hs) w = absurd w.1.0
three_locals (Value a ∷ Unset ∷ hs) w = absurd w.1.0
three_locals (Value a ∷ Value b ∷ []) w = absurd w.1.1
three_locals (Value a ∷ Value b ∷ Pointer p ∷ hs) w = absurd w.1.1.0
three_locals (Value a ∷ Value b ∷ Unset ∷ hs) w = absurd w.1.1.0
three_locals (Value a ∷ Value b ∷ Value i ∷ h ∷ hs) w = absurd w.1.1.1
three_locals (Value a ∷ Value b ∷ Value i ∷ []) w = (a, b, i, refl)

holding : (d : View) (a b i : ℤ) → d.frame.locals ≡ fields a b i → Holding d a b i
holding d a b i e = record { bound = ap (λ hs. slice_index_or hs 0 Unset) e; result = ap (λ hs. slice_index_or hs 1 Unset) e; index = ap (λ hs. slice_index_or hs 2 Unset) e }

-- after a turn from d, where the index is below the bound
turned : (l : Limits) (a b i : ℤ) (d m u : View) → d.frame.locals ≡ fields a b i → int_eq b i ≡ true → int_lt i a ≡ true
    → AddsAll l 1 d (EndsIn Done m) → AddsAll l 2 m (EndsIn Done u) → NoteIs l u (Some true)
turned l a b i d m u locals same below first second =
    let one : set_local 1 (Value (b +ℤ pos 1)) d ≡ m = all_added l 1 b d m (λ h. refl) (ap (λ hs. slice_index_or hs 1 Unset) locals) first in
    let m_locals : m.frame.locals ≡ fields a (b +ℤ pos 1) i = ap (λ v. v.frame.locals) (sym one) ∙ ap (λ hs. slice_set hs 1 (Value (b +ℤ pos 1))) locals in
    let two : set_local 2 (Value (i +ℤ pos 1)) m ≡ u = all_added l 2 i m u (λ h. refl) (ap (λ hs. slice_index_or hs 2 Unset) m_locals) second in
    let u_locals : u.frame.locals ≡ fields a (b +ℤ pos 1) (i +ℤ pos 1) = ap (λ v. v.frame.locals) (sym two) ∙ ap (λ hs. slice_set hs 2 (Value (i +ℤ pos 1))) m_locals in
    let equal : int_eq (b +ℤ pos 1) (i +ℤ pos 1) ≡ true = ap (λ x. int_eq (x +ℤ pos 1) (i +ℤ pos 1)) (same_number b i same) ∙ equals_itself (i +ℤ pos 1) in
    note_is l u a (b +ℤ pos 1) (i +ℤ pos 1) (holding u a (b +ℤ pos 1) (i +ℤ pos 1) u_locals)
    ∙ ap (λ p. halves p (int_le (i +ℤ pos 1) a)) equal ∙ ap (halves true) (next_at_most i a below)

true_not_false : (A : Type 0) (o : Option Bool) → o ≡ Some true → o ≡ Some false → A
true_not_false A o t f = absurd (true≢false (let s : Some true ≡ Some false = sym t ∙ f in let g : true ≡ false = cc in g))

-- no check of one note fails where the note is true
one_note : (A : Type 0) (l : Limits) (d : View) (k : ℕ) → NoteIs l d (Some true) → FirstFalse l counter (at_view d) (loop_note ∷ []) k → A
one_note A l d zero true_one false_one = true_not_false A (holds l counter (at_view d) loop_note) true_one false_one
one_note A l d (suc k) true_one (first, none) = absurd none

abbrev AfterLoop : Limits → View → Verdict → Type 0
AfterLoop l = AfterTurn (AddsAll l 2) (λ u. Checked (label_at (at 2 9) 6 70) l counter (at_view u) (loop_note ∷ []) ⊥)

-- what follows the body of a turn has no end
no_after : (l : Limits) (a b i : ℤ) (d m : View) (o : Verdict) → d.frame.locals ≡ fields a b i → int_eq b i ≡ true → int_lt i a ≡ true → AddsAll l 1 d (EndsIn Done m) → AfterLoop l m o → ⊥
no_after l a b i d m o locals same below first (inl (u, second, inl (all, none))) = none
no_after l a b i d m o locals same below first (inl (u, second, inr (k, wrong, e))) = one_note ⊥ l u k (turned l a b i d m u locals same below first second) wrong
no_after l a b i d m o locals same below first (inr (k, second, e)) = add_fails ⊥ l 2 m k second

no_turn : (l : Limits) (a b i : ℤ) (d : View) (o : Verdict) → d.frame.locals ≡ fields a b i → int_eq b i ≡ true → int_lt i a ≡ true → Turns (AddsAll l 1) (AfterLoop l) d o → ⊥
no_turn l a b i d o locals same below (inl (m, first, after)) = no_after l a b i d m o locals same below first after
no_turn l a b i d o locals same below (inr (inl (m, first, after))) = absurd (let bad : Continued ≡ Done = add_ends l 1 d m Continued first in cc)
no_turn l a b i d o locals same below (inr (inr (inl (m, first, e)))) = absurd (let bad : Broke ≡ Done = add_ends l 1 d m Broke first in cc)
no_turn l a b i d o locals same below (inr (inr (inr (inl (m, first, e))))) = absurd (let bad : Returned ≡ Done = add_ends l 1 d m Returned first in cc)
no_turn l a b i d o locals same below (inr (inr (inr (inr (k, first, e))))) = add_fails ⊥ l 1 d k first

-- ---- the loop

-- the loop ends where the index has reached the bound, and nowhere else
pub record Reached (a b i : ℤ) (d : View) (o : Verdict) : Type 0 where
  pub locals : d.frame.locals ≡ fields a b i
  pub same : b ≡ i
  pub end : i ≡ a
  pub ends : o ≡ EndsIn Done d

zero_not_suc : (n : ℕ) → zero ≡ suc n → ⊥
zero_not_suc n e = absurd (let bad : zero ≡ suc n = e in cc)

not_assigned : Assigns noted_loop 0 → ⊥
not_assigned (inl (inl e)) = absurd (zero_not_suc zero e)
not_assigned (inl (inr none)) = none
not_assigned (inr (inl e)) = absurd (zero_not_suc (suc zero) e)
not_assigned (inr (inr none)) = none

abbrev LoopRuns : Limits → View → Verdict → Type 0
LoopRuns l m o = Runs l counting NoRest (at 2 9) noted_loop m o

below_or_not : (l : Limits) (a b i : ℤ) (d : View) (o : Verdict) (t : ℤ) (p : Bool) → d.frame.locals ≡ fields a b i → int_eq b i ≡ true → int_le i a ≡ true
    → int_lt i a ≡ p → t ≡ of_bool p → Choose (not (is_zero t)) (Turns (AddsAll l 1) (AfterLoop l) d o) (o ≡ EndsIn Done d) → Reached a b i d o
below_or_not l a b i d o t true locals same most test is turns =
    absurd (no_turn l a b i d o locals same test (subst (λ v. Choose (not (is_zero v)) (Turns (AddsAll l 1) (AfterLoop l) d o) (o ≡ EndsIn Done d)) is turns))
below_or_not l a b i d o t false locals same most test is turns =
    record { locals = locals; same = same_number b i same; end = end_of_count i a test most; ends = subst (λ v. Choose (not (is_zero v)) (Turns (AddsAll l 1) (AfterLoop l) d o) (o ≡ EndsIn Done d)) is turns }

loop_is : (l : Limits) (n : ℤ) (c : View) (o : Verdict) → int_le (pos 0) n ≡ true → LoopRuns l (at_zero n c) o → (a : ℤ) × (b : ℤ) × (i : ℤ) × (d : View) × (a ≡ n) × Reached a b i d o
loop_is l n c o least (inr (k, wrong, e)) = one_note _ l (at_zero n c) k (note_is l (at_zero n c) n (pos 0) (pos 0) (record { bound = refl; result = refl; index = refl }) ∙ ap (halves true) least) wrong
loop_is l n c o least (inl (before, (d, forgets, well, (note, more), (t, (x, at_index, (y, at_bound, tests)), turns)))) =
    let h : (a : ℤ) × (b : ℤ) × (i : ℤ) × (d.frame.locals ≡ fields a b i) = three_locals d.frame.locals well.locals in
    let a : ℤ = h.0 in
    let b : ℤ = h.1 in
    let i : ℤ = h.2 in
    let locals : d.frame.locals ≡ fields a b i = h.3 in
    let parts : (int_eq b i ≡ true) × (int_le i a ≡ true) = both_halves (int_eq b i) (int_le i a) (sym (note_is l d a b i (holding d a b i locals)) ∙ note) in
    let x_is : x ≡ i = number_is x i (at_index ∙ ap (λ hs. slice_index_or hs 2 Unset) locals) in
    let y_is : y ≡ a = number_is y a (at_bound ∙ ap (λ hs. slice_index_or hs 0 Unset) locals) in
    let t_is : t ≡ of_bool (int_lt i a) = sym (value_is (of_bool (int_lt x y)) t tests) ∙ ap (λ v. of_bool (int_lt v y)) x_is ∙ ap (λ v. of_bool (int_lt i v)) y_is in
    let kept : Value n ≡ Value a = forgets.locals 0 not_assigned ∙ ap (λ hs. slice_index_or hs 0 Unset) locals in
    (a, b, i, d, number_is a n (sym kept), below_or_not l a b i d o t (int_lt i a) locals parts.0 parts.1 refl t_is turns)

-- ---- the whole function

-- a run of the body ends with the loop
body_is : (l : Limits) (n : ℤ) (c : View) (o : Verdict) → int_le (pos 0) n ≡ true → RunsAll l counting NoRest (func_at counter 0).body (counter_view n c) o
    → (a : ℤ) × (b : ℤ) × (i : ℤ) × (d : View) × (a ≡ n) × Reached a b i d o
body_is l n c o least (inl (m, first, inl (w, run, last))) =
    let r : (a : ℤ) × (b : ℤ) × (i : ℤ) × (d : View) × (a ≡ n) × Reached a b i d (EndsIn Done w) = loop_is l n c (EndsIn Done w) least (subst (λ v. LoopRuns l v (EndsIn Done w)) (sym (zero_is l n c m first)) run) in
    (r.0, r.1, r.2, r.3, r.4, record { locals = r.5.locals; same = r.5.same; end = r.5.end; ends = last ∙ r.5.ends })
body_is l n c o least (inl (m, first, inr (stop, run))) = loop_is l n c o least (subst (λ v. LoopRuns l v o) (sym (zero_is l n c m first)) run)
body_is l n c o least (inr (stop, (h, to, w, number, target, stored, ended))) = absurd (subst IsStop ended stop)

post_holds : (l : Limits) (n : ℤ) (c d : View) (a b i : ℤ) → a ≡ n → d.frame.locals ≡ fields a b i → b ≡ i → i ≡ a
    → holds l counter (at_end 1 (counter_view n c) d) (test op.Eq (local uint 1) (local uint 0)) ≡ Some true
post_holds l n c d a b i a_is locals b_is i_is =
    ap (λ hs. truth (a_number (with_some (a_number (Some (slice_index_or hs 1 Unset))) (λ x. joined_exactly op.Eq x (Some n))))) locals
    ∙ ap (λ x. truth (Some (of_bool (int_eq x n)))) (b_is ∙ i_is ∙ a_is) ∙ ap (λ p. truth (Some (of_bool p))) (equals_itself n)

counter_fails : (l : Limits) (lab : Label) (n : ℤ) (c : View) → int_le (pos 0) n ≡ true → FunctionFails l counter (func_at counter 0) (counter_view n c) lab → ⊥
counter_fails l lab n c least (inl (inl (how, d, run, e))) = done_is_no_failure ⊥ lab d e
counter_fails l lab n c least (inl (inr (k, run, e))) = let r = body_is l n c (Fails k) least run in done_is_no_failure ⊥ k r.3 r.5.ends
counter_fails l lab n c least (inr (end, run, inl (k, none, e))) = none
counter_fails l lab n c least (inr (end, inr (k, run, failed), inr (before, pre, wrong))) = absurd (let bad : EndsIn Done end ≡ Fails k = failed in cc)
counter_fails l lab n c least (inr (end, inl (how, d, run, ended), inr (before, pre, (suc k, (first, none), e)))) = none
counter_fails l lab n c least (inr (end, inl (how, d, run, ended), inr (before, pre, (zero, wrong, e)))) =
    let r = body_is l n c (EndsIn how d) least run in
    let v : d ≡ r.3 = (let s : EndsIn how d ≡ EndsIn Done r.3 = r.5.ends in cc) in
    let w : end ≡ r.3 = end_is end d ended ∙ v in
    true_not_false ⊥ (holds l counter (at_end 1 (counter_view n c) end) (test op.Eq (local uint 1) (local uint 0)))
    (ap (λ u. holds l counter (at_end 1 (counter_view n c) u) (test op.Eq (local uint 1) (local uint 0))) w ∙ post_holds l n c r.3 r.0 r.1 r.2 r.4 r.5.locals r.5.same r.5.end)
    wrong

counter_entry : (l : Limits) (lab : Label) (c : View) (hs : List Held) → WellArguments counter (func_at counter 0).locals (func_at counter 0).params hs → FunctionFails l counter (func_at counter 0) (entered counter (func_at counter 0) hs c) lab → ⊥
counter_entry l lab c [] w fails = w
counter_entry l lab c (Pointer p ∷ hs) w fails = w.0
counter_entry l lab c (Unset ∷ hs) w fails = w.0
counter_entry l lab c (Value n ∷ h ∷ hs) w fails = w.1
counter_entry l lab c (Value n ∷ []) w fails = counter_fails l lab n c (both_true (int_le (pos 0) n) true w.0).0 fails

pub loop_with_invariant_holds : LoopWithInvariantHolds
loop_with_invariant_holds lab (l, allowed, (f, found, (c, hs, state, memory, args, starts, fails))) =
    let same : f ≡ func_at counter 0 = (let s : Some (func_at counter 0) ≡ Some f = found in cc) in
    counter_entry l lab c hs (subst (λ g. WellArguments counter g.locals g.params hs) same args) (subst (λ g. FunctionFails l counter g (entered counter g hs c) lab) same fails)

-- ---- the failed send

abbrev sending : Setting
sending = in_function sender_of_one (func_at sender_of_one 0)

abbrev sender_view : ℤ → View → View
sender_view a c = entered sender_of_one (func_at sender_of_one 0) (Value a ∷ []) c

-- the balance is kept in the local b
abbrev noted_balance : ℤ → View → View
noted_balance a c = set_local 1 (Value (pos c.state.balance)) (sender_view a c)

balance_is : (l : Limits) (a : ℤ) (c m : View) → Runs l sending NoRest (at 1 9) (code.Set (local uint 1) balance) (sender_view a c) (EndsIn Done m) → noted_balance a c ≡ m
balance_is l a c m (h, to, w, number, target, stored, ended) =
    ap (λ g. set_local 1 g (sender_view a c)) (sym number)
    ∙ view_is (set_local 1 h (sender_view a c)) w (subst (λ t. assign sender_of_one sending.locals 1 t h (sender_view a c) ≡ Some w) target stored)
    ∙ sym (end_is m w ended)

-- what the answer of `send` is, and the state after it: 0 in the state before, or 1 in any
pub data Answered (a : ℤ) (c d : View) : Type 0 where
  not_sent : d ≡ set_local 2 (Value (pos 0)) (noted_balance a c) → Answered a c d
  sent : (s : State) → d ≡ set_local 2 (Value (pos 1)) (with_state s (noted_balance a c)) → Answered a c d

abbrev sends : Expr
sends = node bool (code.Outside out.Send (local payable 0) (code.Just (num 1)) code.Nil [])

abbrev Keeps : Limits → Verdict → List Held → View → Type 0
Keeps l o rs d =
    (x : Held) × (to : Target) × (w : View) × FreeValue l sender_of_one d rs sends x × FreeTarget l sender_of_one d rs (local bool 2) to
    × (assign sender_of_one sending.locals bool to x d ≡ Some w) × (o ≡ EndsIn Done w)

kept_is : (l : Limits) (o : Verdict) (g : ℤ) (d : View) → Keeps l o (Value g ∷ []) d → (w : View) × (o ≡ EndsIn Done w) × (w ≡ set_local 2 (Value g) d)
kept_is l o g d (x, to, w, value, target, stored, ended) =
    (w, ended, sym (view_is (set_local 2 x d) w (subst (λ t. assign sender_of_one sending.locals bool t x d ≡ Some w) target stored)) ∙ ap (λ h. set_local 2 h d) value)

abbrev SendRuns : Limits → View → Verdict → Type 0
SendRuns l m o = Runs l sending NoRest (at 2 9) (code.Set (local bool 2) sends) m o

send_is : (l : Limits) (a : ℤ) (c : View) (o : Verdict) → SendRuns l (noted_balance a c) o → (w : View) × (o ≡ EndsIn Done w) × Answered a c w
send_is l a c o (account, amount, hs, to, much, args, inl (more, go)) =
    let k = kept_is l o (pos 0) (noted_balance a c) go in (k.0, k.1, not_sent k.2)
send_is l a c o (account, amount, hs, to, much, args, inr (less, inl (none, inl go))) =
    let k = kept_is l o (pos 0) (noted_balance a c) go in (k.0, k.1, not_sent k.2)
send_is l a c o (account, amount, hs, to, much, args, inr (less, inl (none, inr (s, well, keeps, hold, go)))) =
    let k = kept_is l o (pos 1) (with_state s (noted_balance a c)) go in (k.0, k.1, sent s k.2)
send_is l a c o (account, amount, hs, to, much, args, inr (less, inr (k, wrong, e))) = absurd wrong

abbrev same_balance : Expr
same_balance = test op.Eq balance (local uint 1)

abbrev AssertRuns : Limits → View → Verdict → Type 0
AssertRuns l w o = Runs l sending NoRest (at 3 9) (code.Assert (test op.Or (local bool 2) same_balance)) w o

abbrev Joined : Limits → View → ℤ → ℤ → Type 0
Joined l w x t = FreeJoined (known sender_of_one bool) op.Or x (FreeValue l sender_of_one w [] same_balance) (Value t)

-- a test that is 1 passes
passes : (k : Label) (w : View) (t : ℤ) → t ≡ pos 1 → Choose (not (is_zero t)) (Fails k ≡ EndsIn Done w) (Fails k ≡ Fails (assert_label (at 3 9) 70)) → ⊥
passes k w t one ends = done_is_no_failure ⊥ k w (subst (λ v. Choose (not (is_zero v)) (Fails k ≡ EndsIn Done w) (Fails k ≡ Fails (assert_label (at 3 9) 70))) one ends)

sent_passes : (l : Limits) (k : Label) (s : State) (v : View) → AssertRuns l (set_local 2 (Value (pos 1)) v) (Fails k) → slice_index_or (slice_set v.frame.locals 2 (Value (pos 1))) 2 Unset ≡ Value (pos 1) → ⊥
sent_passes l k s v (t, (x, x_is, joined), ends) third =
    let one : Value t ≡ Value (pos 1) = subst (λ y. Joined l (set_local 2 (Value (pos 1)) v) y t) (number_is x (pos 1) (x_is ∙ third)) joined in
    passes k (set_local 2 (Value (pos 1)) v) t (number_is t (pos 1) one) ends

balances_agree : (l : Limits) (k : Label) (a : ℤ) (c : View) (t y : ℤ) → FreeValue l sender_of_one (set_local 2 (Value (pos 0)) (noted_balance a c)) [] same_balance (Value y)
    → a_value (binary (known sender_of_one bool) op.Or (pos 0) y) ≡ Some (Value t)
    → Choose (not (is_zero t)) (Fails k ≡ EndsIn Done (set_local 2 (Value (pos 0)) (noted_balance a c))) (Fails k ≡ Fails (assert_label (at 3 9) 70)) → ⊥
balances_agree l k a c t y (p, p_is, (q, q_is, equal)) test ends =
    let same : p ≡ q = number_is p q (p_is ∙ sym q_is) in
    let y_is : y ≡ pos 1 = sym (value_is (of_bool (int_eq p q)) y equal) ∙ ap (λ v. of_bool (int_eq v q)) same ∙ ap of_bool (equals_itself q) in
    let t_is : t ≡ pos 1 = sym (value_is (of_bool (not (is_zero y))) t test) ∙ ap (λ v. of_bool (not (is_zero v))) y_is in
    passes k (set_local 2 (Value (pos 0)) (noted_balance a c)) t t_is ends

not_sent_passes : (l : Limits) (k : Label) (a : ℤ) (c : View) → AssertRuns l (set_local 2 (Value (pos 0)) (noted_balance a c)) (Fails k) → ⊥
not_sent_passes l k a c (t, (x, x_is, joined), ends) =
    let w : View = set_local 2 (Value (pos 0)) (noted_balance a c) in
    let second : (y : ℤ) × FreeValue l sender_of_one w [] same_balance (Value y) × (a_value (binary (known sender_of_one bool) op.Or (pos 0) y) ≡ Some (Value t)) =
    subst (λ y. Joined l w y t) (number_is x (pos 0) x_is) joined in
    balances_agree l k a c t second.0 second.1 second.2 ends

answered_passes : (l : Limits) (k : Label) (a : ℤ) (c w : View) → Answered a c w → AssertRuns l w (Fails k) → ⊥
answered_passes l k a c w (not_sent e) run = not_sent_passes l k a c (subst (λ v. AssertRuns l v (Fails k)) e run)
answered_passes l k a c w (sent s e) run = sent_passes l k s (with_state s (noted_balance a c)) (subst (λ v. AssertRuns l v (Fails k)) e run) refl

abbrev behind : Stmts → Stmts
behind code.Done = code.Done
behind (code.Then first more) = more

behind_send : (l : Limits) (k : Label) (a : ℤ) (c : View) → RunsAll l sending NoRest (behind (func_at sender_of_one 0).body) (noted_balance a c) (Fails k) → ⊥
behind_send l k a c (inl (w, send, inl (v, run, last))) = done_is_no_failure ⊥ k v last
behind_send l k a c (inl (w, send, inr (stop, run))) =
    let s = send_is l a c (EndsIn Done w) send in
    answered_passes l k a c s.0 s.2 (subst (λ v. AssertRuns l v (Fails k)) (end_is w s.0 s.1) run)
behind_send l k a c (inr (stop, send)) = let s = send_is l a c (Fails k) send in done_is_no_failure ⊥ k s.0 s.1

send_run : (l : Limits) (k : Label) (a : ℤ) (c : View) → RunsAll l sending NoRest (func_at sender_of_one 0).body (sender_view a c) (Fails k) → ⊥
send_run l k a c (inl (m, first, rest)) =
    behind_send l k a c (subst (λ v. RunsAll l sending NoRest (behind (func_at sender_of_one 0).body) v (Fails k)) (sym (balance_is l a c m first)) rest)
send_run l k a c (inr (stop, (h, to, w, number, target, stored, ended))) = done_is_no_failure ⊥ k w ended

send_fails : (l : Limits) (lab : Label) (a : ℤ) (c : View) → FunctionFails l sender_of_one (func_at sender_of_one 0) (sender_view a c) lab → ⊥
send_fails l lab a c (inl (inl (how, d, run, e))) = done_is_no_failure ⊥ lab d e
send_fails l lab a c (inl (inr (k, run, e))) = send_run l k a c run
send_fails l lab a c (inr (end, run, inl (k, none, e))) = none
send_fails l lab a c (inr (end, run, inr (before, pre, (k, none, e)))) = none

send_entry : (l : Limits) (lab : Label) (c : View) (hs : List Held) → WellArguments sender_of_one (func_at sender_of_one 0).locals (func_at sender_of_one 0).params hs
    → FunctionFails l sender_of_one (func_at sender_of_one 0) (entered sender_of_one (func_at sender_of_one 0) hs c) lab → ⊥
send_entry l lab c [] w fails = w
send_entry l lab c (Pointer p ∷ hs) w fails = w.0
send_entry l lab c (Unset ∷ hs) w fails = w.0
send_entry l lab c (Value a ∷ h ∷ hs) w fails = w.1
send_entry l lab c (Value a ∷ []) w fails = send_fails l lab a c fails

pub failed_send_holds : FailedSendHolds
failed_send_holds lab (l, allowed, (f, found, (c, hs, state, memory, args, starts, fails))) =
    let same : f ≡ func_at sender_of_one 0 = (let s : Some (func_at sender_of_one 0) ≡ Some f = found in cc) in
    send_entry l lab c hs (subst (λ g. WellArguments sender_of_one g.locals g.params hs) same args) (subst (λ g. FunctionFails l sender_of_one g (entered sender_of_one g hs c) lab) same fails)
