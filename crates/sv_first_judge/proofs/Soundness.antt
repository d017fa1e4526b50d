-- A contract all of whose functions are verified is safe: the forms of the judge are what a run without revert leaves.
use Rattle.std.proofs.Common.{◌≡◌, ◌==◌, ℕ, zero, suc, ◌<◌, ◌⊎◌, inl, inr, ◌&&◌, Bool, true, false, nat_lt, if◌then◌else◌, pos, ◌-ℤ◌, neg_ℤ, List, [], ◌∷◌, ◌++◌, All, fold, length, map, slice_get, Option, Some, None, option_and_then, refl, sym, ap, subst, ◌∙◌, arith}
use Rattle.std.specs.List.{list_all}
use Rattle.std.proofs.lemmas.Int.{ints}
use Rattle.std.proofs.lemmas.Bool.{eqb-true}
use Rattle.std.proofs.lemmas.List.Elements.{All-nil, All-cons, All-head, All-tail, All-push, All-append}
use Rattle.std.proofs.lemmas.Option.{get_or_from_slice_get, slice_get_within}
use Rattle.sv_first_form.specs.FirstForm.{IsItem, IsSide, IsValue, IsEquation, IsAct, IsFunction, IsContract}
use Rattle.sv_first_form.specs.declared.contract.Act.{Act}
use Rattle.sv_first_form.specs.declared.contract.Act.TheVariants.{Assign, Require}
use Rattle.sv_first_form.specs.declared.contract.Contract.{Contract}
use Rattle.sv_first_form.specs.declared.contract.Equation.{Equation}
use Rattle.sv_first_form.specs.declared.contract.Function.{Function}
use Rattle.sv_first_form.specs.declared.contract.Item.{Item}
use Rattle.sv_first_form.specs.declared.contract.Item.TheVariants.{Variable, Number}
use Rattle.sv_first_judge.proofs.ValueLemmas.{value_at-plus, value_at-minus, value_at-negation, value_at-number, value_at-same, value_at-variable}
use Rattle.sv_first_judge.specs.History.{Values, State, item_value, sum_value, IsTrueIn, range, after_act, run, run_of, Event, after_call, after_event, marks_after, History, constructed, Safe}
use Rattle.sv_first_judge.specs.History.Event.{Call, Gift}
use Rattle.sv_first_judge.specs.Judging.{item_form, sum_form, equation_form, Known, known_after, known_at_construction, known_at_entry, Judged, judged_function, judged_of, IsProved, AreVerdicts}
use Rattle.sv_first_judge.specs.LinearForm.{LinearForm, IsSame, number_form, variable_form, negation}
use Rattle.sv_first_judge.specs.Value.{value_at}
use Rattle.sv_first_judge.specs.Verdict.{is_verified}
use Rattle.sv_first_judge.specs.declared.verdict.Verdict.{Verdict}
use Rattle.sv_first_judge.specs.declared.verdict.Verdict.TheVariants.{Verified, Unproved}

-- what is known agrees with the values now, where the function began with the values at the start
pub record Agrees (n : ℕ) (start : Values) (k : Known) (now : Values) : Type 0 where
  pub values : (v : ℕ) → v < n → value_at n (k.values v) start ≡ pos (now v)
  pub hypotheses : All (λ (h : LinearForm). value_at n h start ≡ pos 0) k.hypotheses

item_agrees : (n : ℕ) (start : Values) (k : Known) (now : Values) (item : Item)
    → Agrees n start k now → IsItem n item → value_at n (item_form k.values item) start ≡ pos (item_value now item)
item_agrees n start k now (Variable v) agrees is = agrees.values v is
item_agrees n start k now (Number m) agrees is = value_at-number n m start

sum_agrees : (n : ℕ) (start : Values) (k : Known) (now : Values) (sum : List Item)
    → Agrees n start k now → All (IsItem n) sum → value_at n (sum_form k.values sum) start ≡ pos (sum_value now sum)
sum_agrees n start k now [] agrees are = value_at-number n 0 start
sum_agrees n start k now (item ∷ items) agrees are =
    value_at-plus n (item_form k.values item) (sum_form k.values items) start
    ∙ omega (arith, ints, item_agrees n start k now item agrees (All-head (IsItem n) item items are), sum_agrees n start k now items agrees (All-tail (IsItem n) item items are))

side_items : (n : ℕ) (sum : List Item) → IsSide n sum → All (IsItem n) sum
side_items n [] is = absurd is
side_items n (Variable v ∷ items) is = All-cons (IsItem n) (Variable v) items is.0 is.1
side_items n (Number m ∷ items) is = absurd is

value_items : (n : ℕ) (sum : List Item) → IsValue n sum → All (IsItem n) sum
value_items n sum (inl side) = side_items n sum side
value_items n sum (inr alone) =
    subst (All (IsItem n)) (sym alone.1) (All-cons (IsItem n) (Number alone.0) [] alone.2 (All-nil (IsItem n)))

-- an equation's form is worth its left side less its right
equation_agrees : (n : ℕ) (start : Values) (k : Known) (now : Values) (e : Equation)
    → Agrees n start k now → IsEquation n e
    → value_at n (equation_form k.values e) start ≡ pos (sum_value now e.left) -ℤ pos (sum_value now e.right)
equation_agrees n start k now e agrees is =
    value_at-minus n (sum_form k.values e.left) (sum_form k.values e.right) start
    ∙ omega (arith, ints, sum_agrees n start k now e.left agrees (side_items n e.left is.0), sum_agrees n start k now e.right agrees (side_items n e.right is.1))

zero_from_true : (n : ℕ) (start : Values) (k : Known) (now : Values) (e : Equation)
    → Agrees n start k now → IsEquation n e → IsTrueIn now e → value_at n (equation_form k.values e) start ≡ pos 0
zero_from_true n start k now e agrees is true_in =
    equation_agrees n start k now e agrees is ∙ omega (arith, ints, true_in)

true_from_zero : (n : ℕ) (start : Values) (k : Known) (now : Values) (e : Equation)
    → Agrees n start k now → IsEquation n e → value_at n (equation_form k.values e) start ≡ pos 0 → IsTrueIn now e
true_from_zero n start k now e agrees is nothing = omega (arith, ints, equation_agrees n start k now e agrees is, nothing)

-- after an assignment
assigned : (n : ℕ) (start : Values) (k : Known) (now : Values) (v : ℕ) (sum : List Item)
    → Agrees n start k now → All (IsItem n) sum
    → Agrees n start (known_after k (Assign v sum)) (λ (w : ℕ). if w == v then sum_value now sum else now w)
assigned n start k now v sum agrees are = record {
  values = λ (w : ℕ) (lt : w < n). by_test w lt (w == v);
  hypotheses = agrees.hypotheses;
}
  where
    by_test : (w : ℕ) → w < n → (b : Bool) → value_at n (if b then sum_form k.values sum else k.values w) start ≡ pos (if b then sum_value now sum else now w)
    by_test w lt true = sum_agrees n start k now sum agrees are
    by_test w lt false = agrees.values w lt

-- where a test lets a value through, what holds of that value holds of the result
passed : (b : Bool) (made next : Values) (P : Values → Type 0) → (if b then Some made else None) ≡ Some next → (b ≡ true → P made) → P next
passed true made next P e holds = let same : made ≡ next = cc in subst P same (holds refl)
passed false made next P e holds = cc

-- an act that doesn't revert
act_agrees : (n : ℕ) (start : Values) (k : Known) (now next : Values) (act : Act)
    → Agrees n start k now → IsAct n act → after_act now act ≡ Some next → Agrees n start (known_after k act) next
act_agrees n start k now next (Assign v sum) agrees is ran =
    passed (nat_lt (sum_value now sum) range) (λ (w : ℕ). if w == v then sum_value now sum else now w) next (Agrees n start (known_after k (Assign v sum))) ran
    (λ fits. assigned n start k now v sum agrees (value_items n sum is.1))
act_agrees n start k now next (Require e) agrees is ran =
    passed (nat_lt (sum_value now e.left) range && (sum_value now e.left == sum_value now e.right)) now next (Agrees n start (known_after k (Require e))) ran
    (λ test. record {
      values = agrees.values;
      hypotheses =
          All-push (λ (h : LinearForm). value_at n h start ≡ pos 0) k.hypotheses (equation_form k.values e) agrees.hypotheses
          (zero_from_true n start k now e agrees is (eqb-true _ _ (second (nat_lt (sum_value now e.left) range) (sum_value now e.left == sum_value now e.right) test)));
    })
  where
    second : (a b : Bool) → (a && b) ≡ true → b ≡ true
    second true b h = h
    second false b h = cc

-- a run that doesn't revert
run_agrees : (n : ℕ) (start : Values) (k : Known) (now end : Values) (acts : List Act) (gas : ℕ)
    → Agrees n start k now → All (IsAct n) acts → run acts gas now ≡ Some end → Agrees n start (fold known_after k acts) end
run_agrees n start k now end [] gas agrees are ran = let same : now ≡ end = cc in subst (Agrees n start k) same agrees
run_agrees n start k now end (act ∷ acts) zero agrees are ran = cc
run_agrees n start k now end (act ∷ acts) (suc gas) agrees are ran =
    by_act (after_act now act) refl ran
    (λ (next : Values) (is : after_act now act ≡ Some next) (e : run acts gas next ≡ Some end).
    run_agrees n start (known_after k act) next end acts gas (act_agrees n start k now next act agrees (All-head (IsAct n) act acts are) is) (All-tail (IsAct n) act acts are) e)
  where
    by_act : (next : Option Values) → after_act now act ≡ next → option_and_then (λ (v : Values). run acts gas v) next ≡ Some end
        → ((v : Values) → after_act now act ≡ Some v → run acts gas v ≡ Some end → Agrees n start (fold known_after (known_after k act) acts) end)
        → Agrees n start (fold known_after (known_after k act) acts) end
    by_act None is e rest = cc
    by_act (Some next) is e rest = rest next is e

-- an invariant that is proved is true
proved_is_true : (n : ℕ) (start : Values) (k : Known) (now : Values) (e : Equation)
    → Agrees n start k now → IsEquation n e → IsProved k e → IsTrueIn now e
proved_is_true n start k now e agrees is (inl nothing) =
    true_from_zero n start k now e agrees is (value_at-same n (equation_form k.values e) (number_form 0) start nothing ∙ value_at-number n 0 start)
proved_is_true n start k now e agrees is (inr some) =
    let h = some.1 in
    let zero_there : value_at n h start ≡ pos 0 =
    subst (λ (f : LinearForm). value_at n f start ≡ pos 0) some.3 (agrees.hypotheses some.0 h some.2) in
    true_from_zero n start k now e agrees is (by_form h zero_there some.4)
  where
    by_form : (h : LinearForm) → value_at n h start ≡ pos 0 → IsSame (equation_form k.values e) h ⊎ IsSame (equation_form k.values e) (negation h)
        → value_at n (equation_form k.values e) start ≡ pos 0
    by_form h nothing (inl same) = value_at-same n (equation_form k.values e) h start same ∙ nothing
    by_form h nothing (inr opposite) =
        value_at-same n (equation_form k.values e) (negation h) start opposite ∙ value_at-negation n h start ∙ ap neg_ℤ nothing

-- the hypotheses at entry are worth nothing, where the invariants are true
hypotheses_at_entry : (n : ℕ) (start : Values) (invariants : List Equation) → All (IsEquation n) invariants → All (IsTrueIn start) invariants
    → All (λ (h : LinearForm). value_at n h start ≡ pos 0) (map (equation_form variable_form) invariants)
hypotheses_at_entry n start [] are hold = All-nil (λ (h : LinearForm). value_at n h start ≡ pos 0)
hypotheses_at_entry n start (e ∷ es) are hold =
    let bare : Known = record { values = variable_form; hypotheses = [] } in
    let agrees : Agrees n start bare start = record {
      values = λ (v : ℕ) (lt : v < n). value_at-variable n v start lt;
      hypotheses = All-nil (λ (h : LinearForm). value_at n h start ≡ pos 0);
    } in
    All-cons (λ (h : LinearForm). value_at n h start ≡ pos 0) (equation_form variable_form e) (map (equation_form variable_form) es)
    (zero_from_true n start bare start e agrees (All-head (IsEquation n) e es are) (All-head (IsTrueIn start) e es hold))
    (hypotheses_at_entry n start es (All-tail (IsEquation n) e es are) (All-tail (IsTrueIn start) e es hold))

-- where a function begins, and after construction
entry_agrees : (c : Contract) (start : Values) → IsContract c → All (IsTrueIn start) c.invariants → Agrees (length c.variables) start (known_at_entry c) start
entry_agrees c start is hold = record {
  values = λ (v : ℕ) (lt : v < length c.variables). value_at-variable (length c.variables) v start lt;
  hypotheses = hypotheses_at_entry (length c.variables) start c.invariants is.invariants hold;
}

construction_agrees : (n : ℕ) → Agrees n (λ _. 0) known_at_construction (λ _. 0)
construction_agrees n = record {
  values = λ (v : ℕ) (lt : v < n). value_at-number n 0 (λ _. 0);
  hypotheses = All-nil (λ (h : LinearForm). value_at n h (λ _. 0) ≡ pos 0);
}

-- all invariants are true where all are proved
all_true : (n : ℕ) (start : Values) (k : Known) (now : Values) (invariants : List Equation)
    → Agrees n start k now → All (IsEquation n) invariants → All (IsProved k) invariants → All (IsTrueIn now) invariants
all_true n start k now [] agrees are proved = All-nil (IsTrueIn now)
all_true n start k now (e ∷ es) agrees are proved =
    All-cons (IsTrueIn now) e es
    (proved_is_true n start k now e agrees (All-head (IsEquation n) e es are) (All-head (IsProved k) e es proved))
    (all_true n start k now es agrees (All-tail (IsEquation n) e es are) (All-tail (IsProved k) e es proved))

-- the invariants are true in a state
abbrev Holds : Contract → State → Type 0
Holds c s = All (IsTrueIn s.values) c.invariants

-- where all verdicts are verified, every invariant is proved at the end of all that is judged
proved_each : (invariants : List Equation) (js : List Judged) (vs : List Verdict)
    → AreVerdicts invariants js vs → list_all is_verified vs ≡ true → All (λ (j : Judged). All (IsProved j.end) invariants) js
proved_each invariants [] vs are verified = All-nil (λ (j : Judged). All (IsProved j.end) invariants)
proved_each invariants (j ∷ js) [] are verified = absurd are
proved_each invariants (j ∷ js) (Verified n ∷ vs) are verified =
    All-cons (λ (i : Judged). All (IsProved i.end) invariants) j js are.0.1 (proved_each invariants js vs are.1 verified)
proved_each invariants (j ∷ js) (Unproved n ∷ vs) are verified = cc

-- every function of the contract keeps the invariants
pub record KeepsAll (c : Contract) : Type 0 where
  pub construction : All (IsTrueIn (λ _. 0)) c.invariants
  pub functions : All (λ (f : Function). (start end : Values) (gas : ℕ) → All (IsTrueIn start) c.invariants → run f.acts gas start ≡ Some end → All (IsTrueIn end) c.invariants) c.functions

function_keeps : (c : Contract) (f : Function) → IsContract c → All (IsAct (length c.variables)) f.acts → All (IsProved (judged_function c f).end) c.invariants
    → (start end : Values) (gas : ℕ) → All (IsTrueIn start) c.invariants → run f.acts gas start ≡ Some end → All (IsTrueIn end) c.invariants
function_keeps c f is are proved start end gas hold ran =
    all_true (length c.variables) start (fold known_after (known_at_entry c) f.acts) end c.invariants
    (run_agrees (length c.variables) start (known_at_entry c) start end f.acts gas (entry_agrees c start is hold) are ran)
    is.invariants proved

functions_keep : (c : Contract) (fs : List Function) (last : Judged) → IsContract c → All (IsFunction (length c.variables)) fs
    → All (λ (j : Judged). All (IsProved j.end) c.invariants) (map (judged_function c) fs ++ last ∷ [])
    → All (λ (f : Function). (start end : Values) (gas : ℕ) → All (IsTrueIn start) c.invariants → run f.acts gas start ≡ Some end → All (IsTrueIn end) c.invariants) fs
functions_keep c [] last is are proved =
    All-nil (λ (f : Function). (start end : Values) (gas : ℕ) → All (IsTrueIn start) c.invariants → run f.acts gas start ≡ Some end → All (IsTrueIn end) c.invariants)
functions_keep c (f ∷ fs) last is are proved =
    All-cons (λ (f : Function). (start end : Values) (gas : ℕ) → All (IsTrueIn start) c.invariants → run f.acts gas start ≡ Some end → All (IsTrueIn end) c.invariants) f fs
    (function_keeps c f is (All-head (IsFunction (length c.variables)) f fs are).0
    (All-head (λ (j : Judged). All (IsProved j.end) c.invariants) (judged_function c f) (map (judged_function c) fs ++ last ∷ []) proved))
    (functions_keep c fs last is (All-tail (IsFunction (length c.variables)) f fs are)
    (All-tail (λ (j : Judged). All (IsProved j.end) c.invariants) (judged_function c f) (map (judged_function c) fs ++ last ∷ []) proved))

keeps_all : (c : Contract) (vs : List Verdict) → IsContract c → AreVerdicts c.invariants (judged_of c) vs → list_all is_verified vs ≡ true → KeepsAll c
keeps_all c vs is are verified =
    let each = proved_each c.invariants (judged_of c) vs are verified in
    record {
      construction =
          all_true (length c.variables) (λ _. 0) known_at_construction (λ _. 0) c.invariants (construction_agrees (length c.variables)) is.invariants
          (each 0 (record { name = []; end = known_at_construction }) (omega arith));
      functions = functions_keep c c.functions _ is is.functions (All-tail (λ (j : Judged). All (IsProved j.end) c.invariants) _ _ each);
    }

-- an event that finds the invariants true leaves them true, and makes good marks
event_keeps : (c : Contract) (s : State) (event : Event) → KeepsAll c → Holds c s
    → All (Holds c) (after_event c s event).marks × Holds c (after_event c s event).state
event_keeps c s (Call function gas) keeps hold = by_function (slice_get c.functions function) refl
  where
    after : (ran : Option Values) → ((end : Values) → ran ≡ Some end → All (IsTrueIn end) c.invariants)
        → All (Holds c) (after_call s ran).marks × Holds c (after_call s ran).state
    after None good = (All-cons (Holds c) s [] hold (All-nil (Holds c)), hold)
    after (Some end) good =
        let there : State = record { values = end; balance = s.balance } in
        (All-cons (Holds c) there (there ∷ []) (good end refl) (All-cons (Holds c) there [] (good end refl) (All-nil (Holds c))), good end refl)

    by_function : (found : Option Function) → slice_get c.functions function ≡ found
        → All (Holds c) (after_call s (run_of found gas s.values)).marks × Holds c (after_call s (run_of found gas s.values)).state
    by_function None is = after None (λ end e. cc)
    by_function (Some f) is =
        after (run f.acts gas s.values) (λ (end : Values) (ran : run f.acts gas s.values ≡ Some end).
        subst (λ (g : Function). (start end : Values) (gas : ℕ) → All (IsTrueIn start) c.invariants → run g.acts gas start ≡ Some end → All (IsTrueIn end) c.invariants)
        (get_or_from_slice_get c.functions function f f is)
        (keeps.functions function f (slice_get_within c.functions function f is)) s.values end gas hold ran)
event_keeps c s (Gift amount) keeps hold = (All-cons (Holds c) _ [] hold (All-nil (Holds c)), hold)

marks_keep : (c : Contract) (s : State) (events : List Event) → KeepsAll c → Holds c s → All (Holds c) (marks_after c s events)
marks_keep c s [] keeps hold = All-nil (Holds c)
marks_keep c s (event ∷ events) keeps hold =
    let kept = event_keeps c s event keeps hold in
    All-append (Holds c) (after_event c s event).marks (marks_after c (after_event c s event).state events) kept.0
    (marks_keep c (after_event c s event).state events keeps kept.1)

-- a contract all of whose functions are verified is safe
pub verified_is_safe : (c : Contract) (vs : List Verdict) → IsContract c → AreVerdicts c.invariants (judged_of c) vs → list_all is_verified vs ≡ true → Safe c
verified_is_safe c vs is are verified = λ (h : History).
    let keeps = keeps_all c vs is are verified in
    let first : Holds c (constructed h) = keeps.construction in
    All-cons (Holds c) (constructed h) (constructed h ∷ marks_after c (constructed h) h.events) first
    (All-cons (Holds c) (constructed h) (marks_after c (constructed h) h.events) first (marks_keep c (constructed h) h.events keeps first))

-- the forms after acts depend on the forms before them alone
same_values : (k l : Known) (acts : List Act) → k.values ≡ l.values → (fold known_after k acts).values ≡ (fold known_after l acts).values
same_values k l [] same = same
same_values k l (Assign v sum ∷ acts) same =
    same_values (known_after k (Assign v sum)) (known_after l (Assign v sum)) acts
    (ap (λ (values : ℕ → LinearForm). λ (w : ℕ). if w == v then sum_form values sum else values w) same)
same_values k l (Require e ∷ acts) same = same_values (known_after k (Require e)) (known_after l (Require e)) acts same

-- the forms are what a run without revert leaves
pub forms_are_left : (c : Contract) (f : Function) (start end : Values) (gas : ℕ)
    → All (IsAct (length c.variables)) f.acts → run f.acts gas start ≡ Some end
    → (v : ℕ) → v < length c.variables → value_at (length c.variables) ((judged_function c f).end.values v) start ≡ pos (end v)
forms_are_left c f start end gas are ran v lt =
    let bare : Known = record { values = variable_form; hypotheses = [] } in
    let begins : Agrees (length c.variables) start bare start = record {
      values = λ (w : ℕ) (less : w < length c.variables). value_at-variable (length c.variables) w start less;
      hypotheses = All-nil (λ (h : LinearForm). value_at (length c.variables) h start ≡ pos 0);
    } in
    let agrees = run_agrees (length c.variables) start bare start end f.acts gas begins are ran in
    ap (λ (values : ℕ → LinearForm). value_at (length c.variables) (values v) start) (same_values (known_at_entry c) bare f.acts refl)
    ∙ agrees.values v lt
