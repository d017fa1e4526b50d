-- Serves the proof: the test whether the rule of a number gives a fact from premises. That it says exactly what the table says is a law.
use Rattle.std.specs.Prelude.{ℕ, zero, suc, Bool, true, false, cond, ◌&&◌, nat_eq, ◌≡◌, ◌↔◌, List, [], ◌∷◌}
use Rattle.sv_term.specs.Sorts.{Sort, BoolSort, same_bool}
use Rattle.sv_term.specs.Terms.{Shape, LitNode, WrapNode, ConstNode, TupNode, GetNode, Term, App, Terms, Truth, same_term, term_at}
use Rattle.sv_term.specs.Models.{Model}
use Rattle.sv_term.specs.FactRules.{Fact, Says, AreTrueIn, IsTrueIn, are_facts, is_fact, Instance, number_of, premises_of, conclusion_of, asks, IsByRule, AndLeft, AndRight, NoOrLeft, NoOrRight, NotHolds, NotFails, OrElseRight, OrElseLeft, NoAndRight, NoAndLeft, IteThen, IteElse, NoIteThen, NoIteElse, EqRight, EqLeft, UnequalRight, UnequalLeft, Itself, Turned, Through, Alike, Chosen, Passed, ReadBack, ReadEqual, ReadOther, ReadConst, ReadWithin, ReadAbove, PartIs, ReadBelow, AtLeast, AtMost, WrapsNot, QuotientLow, QuotientHigh, QuotientHighNegative, QuotientLowNegative, RemainderIs, ProductOfHigh, ProductOfLow, ProductHighLow, ProductLowHigh, SumOfStore, SumOfNone, SumAtLeast, SumOverOne, SumOverTwo, Strict, Between}

abbrev pub sign_of : Fact → Bool
sign_of (Says sign t) = sign

abbrev pub term_of : Fact → Term
term_of (Says sign t) = t

abbrev pub same_fact : Fact → Fact → Bool
same_fact (Says a t) (Says b u) = same_bool a b && same_term t u

abbrev pub same_facts : List Fact → List Fact → Bool
same_facts [] [] = true
same_facts (f ∷ fs) (g ∷ gs) = same_fact f g && same_facts fs gs
same_facts _ _ = false

-- ---- parts of terms and facts, with something for what isn't there

abbrev pub shape_of : Term → Shape
shape_of (App x ts) = x

abbrev pub args_of : Term → Terms
args_of (App x ts) = ts

abbrev pub arg : ℕ → Term → Term
arg k t = term_at k (args_of t)

abbrev pub fact_at : ℕ → List Fact → Fact
fact_at k [] = Says true (Truth false)
fact_at zero (f ∷ fs) = f
fact_at (suc k) (f ∷ fs) = fact_at k fs

abbrev pub claim : ℕ → List Fact → Term
claim k ps = term_of (fact_at k ps)

abbrev pub shape_sort : Shape → Sort
shape_sort (ConstNode s) = s
shape_sort (TupNode s) = s
shape_sort _ = BoolSort

abbrev pub shape_number : Shape → ℕ
shape_number (LitNode g m) = m
shape_number (WrapNode g n) = n
shape_number _ = 0

abbrev pub shape_index : Shape → ℕ
shape_index (GetNode k) = k
shape_index _ = 0

abbrev pub shape_sign : Shape → Bool
shape_sign (WrapNode g n) = g
shape_sign _ = false

abbrev pub sort_in : Term → Sort
sort_in t = shape_sort (shape_of t)

abbrev pub number_in : Term → ℕ
number_in t = shape_number (shape_of t)

abbrev pub index_in : Term → ℕ
index_in t = shape_index (shape_of t)

abbrev pub sign_in : Term → Bool
sign_in t = shape_sign (shape_of t)

-- the one instance that may have this number, these premises and this conclusion
abbrev pub candidate : ℕ → List Fact → Fact → Instance
candidate r ps c =
    cond (nat_eq r 1) (AndLeft (arg 0 (claim 0 ps)) (arg 1 (claim 0 ps))) (
    cond (nat_eq r 2) (AndRight (arg 0 (claim 0 ps)) (arg 1 (claim 0 ps))) (
    cond (nat_eq r 3) (NoOrLeft (arg 0 (claim 0 ps)) (arg 1 (claim 0 ps))) (
    cond (nat_eq r 4) (NoOrRight (arg 0 (claim 0 ps)) (arg 1 (claim 0 ps))) (
    cond (nat_eq r 5) (NotHolds (arg 0 (claim 0 ps))) (
    cond (nat_eq r 6) (NotFails (arg 0 (claim 0 ps))) (
    cond (nat_eq r 7) (OrElseRight (arg 0 (claim 0 ps)) (arg 1 (claim 0 ps))) (
    cond (nat_eq r 8) (OrElseLeft (arg 0 (claim 0 ps)) (arg 1 (claim 0 ps))) (
    cond (nat_eq r 9) (NoAndRight (arg 0 (claim 0 ps)) (arg 1 (claim 0 ps))) (
    cond (nat_eq r 10) (NoAndLeft (arg 0 (claim 0 ps)) (arg 1 (claim 0 ps))) (
    cond (nat_eq r 11) (IteThen (arg 0 (claim 0 ps)) (arg 1 (claim 0 ps)) (arg 2 (claim 0 ps))) (
    cond (nat_eq r 12) (IteElse (arg 0 (claim 0 ps)) (arg 1 (claim 0 ps)) (arg 2 (claim 0 ps))) (
    cond (nat_eq r 13) (NoIteThen (arg 0 (claim 0 ps)) (arg 1 (claim 0 ps)) (arg 2 (claim 0 ps))) (
    cond (nat_eq r 14) (NoIteElse (arg 0 (claim 0 ps)) (arg 1 (claim 0 ps)) (arg 2 (claim 0 ps))) (
    cond (nat_eq r 15) (EqRight (sign_of (fact_at 1 ps)) (arg 0 (claim 0 ps)) (arg 1 (claim 0 ps))) (
    cond (nat_eq r 16) (EqLeft (sign_of (fact_at 1 ps)) (arg 0 (claim 0 ps)) (arg 1 (claim 0 ps))) (
    cond (nat_eq r 17) (UnequalRight (sign_of (fact_at 1 ps)) (arg 0 (claim 0 ps)) (arg 1 (claim 0 ps))) (
    cond (nat_eq r 18) (UnequalLeft (sign_of (fact_at 1 ps)) (arg 0 (claim 0 ps)) (arg 1 (claim 0 ps))) (
    cond (nat_eq r 20) (Itself (arg 0 (term_of c))) (
    cond (nat_eq r 21) (Turned (arg 0 (claim 0 ps)) (arg 1 (claim 0 ps))) (
    cond (nat_eq r 22) (Through (arg 0 (claim 0 ps)) (arg 1 (claim 0 ps)) (arg 1 (term_of c))) (
    cond (nat_eq r 23) (Alike (shape_of (arg 0 (term_of c))) (args_of (arg 0 (term_of c))) (args_of (arg 1 (term_of c)))) (
    cond (nat_eq r 24) (Chosen (arg 0 (arg 0 (term_of c))) (arg 1 (arg 0 (term_of c))) (arg 2 (arg 0 (term_of c)))) (
    cond (nat_eq r 25) (Passed (arg 0 (arg 0 (term_of c))) (arg 1 (arg 0 (term_of c))) (arg 2 (arg 0 (term_of c)))) (
    cond (nat_eq r 30) (ReadBack (arg 0 (arg 0 (arg 0 (term_of c)))) (arg 1 (arg 0 (arg 0 (term_of c)))) (arg 2 (arg 0 (arg 0 (term_of c))))) (
    cond (nat_eq r 31) (ReadEqual (arg 0 (arg 0 (arg 0 (term_of c)))) (arg 1 (arg 0 (arg 0 (term_of c)))) (arg 1 (arg 0 (term_of c))) (arg 2 (arg 0 (arg 0 (term_of c))))) (
    cond (nat_eq r 32) (ReadOther (arg 0 (arg 0 (arg 0 (term_of c)))) (arg 1 (arg 0 (arg 0 (term_of c)))) (arg 1 (arg 0 (term_of c))) (arg 2 (arg 0 (arg 0 (term_of c))))) (
    cond (nat_eq r 33) (ReadConst (sort_in (arg 0 (arg 0 (term_of c)))) (arg 0 (arg 0 (arg 0 (term_of c)))) (arg 1 (arg 0 (term_of c)))) (
    cond (nat_eq r 34) (ReadWithin (arg 0 (arg 0 (arg 0 (term_of c)))) (arg 1 (arg 0 (arg 0 (term_of c)))) (arg 2 (arg 0 (arg 0 (term_of c)))) (arg 1 (arg 0 (term_of c)))) (
    cond (nat_eq r 35) (ReadAbove (arg 0 (arg 0 (arg 0 (term_of c)))) (arg 1 (arg 0 (arg 0 (term_of c)))) (arg 2 (arg 0 (arg 0 (term_of c)))) (arg 1 (arg 0 (term_of c)))) (
    cond (nat_eq r 36) (PartIs (index_in (arg 0 (term_of c))) (sort_in (arg 0 (arg 0 (term_of c)))) (args_of (arg 0 (arg 0 (term_of c))))) (
    cond (nat_eq r 37) (ReadBelow (arg 0 (arg 0 (arg 0 (term_of c)))) (arg 1 (arg 0 (arg 0 (term_of c)))) (arg 2 (arg 0 (arg 0 (term_of c)))) (arg 1 (arg 0 (term_of c)))) (
    cond (nat_eq r 40) (AtLeast (arg 1 (term_of c))) (
    cond (nat_eq r 41) (AtMost (arg 0 (term_of c))) (
    cond (nat_eq r 42) (WrapsNot (sign_in (arg 0 (term_of c))) (number_in (arg 0 (term_of c))) (arg 0 (arg 0 (term_of c)))) (
    cond (nat_eq r 43) (QuotientLow (arg 1 (term_of c)) (number_in (arg 0 (arg 0 (term_of c))))) (
    cond (nat_eq r 44) (QuotientHigh (arg 0 (term_of c)) (number_in (arg 0 (arg 0 (arg 1 (term_of c)))))) (
    cond (nat_eq r 45) (QuotientHighNegative (arg 0 (term_of c)) (number_in (arg 0 (arg 1 (term_of c))))) (
    cond (nat_eq r 46) (QuotientLowNegative (arg 1 (term_of c)) (number_in (arg 0 (arg 0 (arg 0 (term_of c)))))) (
    cond (nat_eq r 47) (RemainderIs (arg 0 (arg 0 (term_of c))) (number_in (arg 1 (arg 0 (term_of c))))) (
    cond (nat_eq r 48) (ProductOfHigh (arg 0 (arg 1 (term_of c))) (arg 1 (arg 1 (term_of c)))) (
    cond (nat_eq r 49) (ProductOfLow (arg 0 (arg 1 (term_of c))) (arg 1 (arg 1 (term_of c)))) (
    cond (nat_eq r 50) (ProductHighLow (arg 0 (arg 0 (term_of c))) (arg 1 (arg 0 (term_of c)))) (
    cond (nat_eq r 51) (ProductLowHigh (arg 0 (arg 0 (term_of c))) (arg 1 (arg 0 (term_of c)))) (
    cond (nat_eq r 52) (SumOfStore (arg 0 (arg 0 (arg 0 (term_of c)))) (arg 1 (arg 0 (arg 0 (term_of c)))) (arg 2 (arg 0 (arg 0 (term_of c))))) (
    cond (nat_eq r 53) (SumOfNone (sort_in (arg 0 (arg 0 (term_of c))))) (
    cond (nat_eq r 54) (SumAtLeast (arg 0 (arg 1 (term_of c)))) (
    cond (nat_eq r 55) (SumOverOne (arg 0 (arg 0 (term_of c))) (arg 1 (arg 0 (term_of c)))) (
    cond (nat_eq r 56) (SumOverTwo (arg 0 (arg 0 (arg 0 (term_of c)))) (arg 1 (arg 0 (arg 0 (term_of c)))) (arg 1 (arg 1 (arg 0 (term_of c))))) (
    cond (nat_eq r 60) (Strict (arg 0 (claim 1 ps)) (arg 1 (claim 1 ps))) (
    cond (nat_eq r 61) (Between (arg 0 (claim 0 ps)) (arg 1 (claim 0 ps))) (
    Itself (Truth false))))))))))))))))))))))))))))))))))))))))))))))))))))

abbrev pub is_instance_of : Instance → ℕ → List Fact → Fact → Bool
is_instance_of i r ps c = nat_eq (number_of i) r && (same_facts (premises_of i) ps && (same_fact (conclusion_of i) c && asks i))

abbrev pub is_by_rule : ℕ → List Fact → Fact → Bool
is_by_rule r ps c = is_instance_of (candidate r ps c) r ps c

-- the test is true exactly where the rule of that number gives the fact
abbrev pub TestIsExact : Type 0
TestIsExact = (r : ℕ) (ps : List Fact) (c : Fact) → (is_by_rule r ps c ≡ true) ↔ IsByRule r ps c

-- what a rule gives from true premises is true
abbrev pub RulesAreTrue : Type 0
RulesAreTrue = (m : Model) (r : ℕ) (ps : List Fact) (c : Fact) → IsByRule r ps c → are_facts ps ≡ true → is_fact c ≡ true → AreTrueIn m ps → IsTrueIn m c
