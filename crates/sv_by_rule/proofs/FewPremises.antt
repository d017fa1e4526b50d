-- But for congruence, a rule has at most three premises.
use Rattle.std.proofs.Common.{◌≤◌, Bool, true, false, cond, [], ◌≡◌, length, refl, arith}
use Rattle.sv_term.specs.Sorts.{Any, Low, Bits, Sort, NumSort, BoolSort, ArrSort, TupSort, element, parts, sort_at, same_sort}
use Rattle.sv_term.specs.Terms.{Term, sort_of, term_at}
use Rattle.sv_term.specs.FactRules.{Instance, number_of, premises_of, range_facts, in_range, AndLeft, AndRight, NoOrLeft, NoOrRight, NotHolds, NotFails, OrElseRight, OrElseLeft, NoAndRight, NoAndLeft, IteThen, IteElse, NoIteThen, NoIteElse, EqRight, EqLeft, UnequalRight, UnequalLeft, Itself, Turned, Through, Alike, Chosen, Passed, ReadBack, ReadEqual, ReadOther, ReadConst, ReadWithin, ReadAbove, PartIs, ReadBelow, AtLeast, AtMost, WrapsNot, QuotientLow, QuotientHigh, QuotientHighNegative, QuotientLowNegative, RemainderIs, ProductOfHigh, ProductOfLow, ProductHighLow, ProductLowHigh, SumOfStore, SumOfNone, SumAtLeast, SumOverOne, SumOverTwo, Strict, Between}

two_at_most : (s : Sort) (v : Term) → length (range_facts s v) ≤ 2
two_at_most (NumSort Any) v = omega arith
two_at_most (NumSort Low) v = omega arith
two_at_most (NumSort (Bits g n)) v = omega arith
two_at_most BoolSort v = omega arith
two_at_most (ArrSort s) v = omega arith
two_at_most (TupSort ss) v = omega arith

few_facts : (s : Sort) (v : Term) → length (in_range s v) ≤ 2
few_facts s v = go (same_sort s (sort_of v))
  where
    go : (b : Bool) → length (cond b [] (range_facts s v)) ≤ 2
    go true = omega arith
    go false = two_at_most s v

pub few_premises : (i : Instance) → (number_of i ≡ 23 → ⊥) → length (premises_of i) ≤ 3
few_premises (AndLeft p q) other = omega arith
few_premises (AndRight p q) other = omega arith
few_premises (NoOrLeft p q) other = omega arith
few_premises (NoOrRight p q) other = omega arith
few_premises (NotHolds p) other = omega arith
few_premises (NotFails p) other = omega arith
few_premises (OrElseRight p q) other = omega arith
few_premises (OrElseLeft p q) other = omega arith
few_premises (NoAndRight p q) other = omega arith
few_premises (NoAndLeft p q) other = omega arith
few_premises (IteThen c p q) other = omega arith
few_premises (IteElse c p q) other = omega arith
few_premises (NoIteThen c p q) other = omega arith
few_premises (NoIteElse c p q) other = omega arith
few_premises (EqRight sign p q) other = omega arith
few_premises (EqLeft sign p q) other = omega arith
few_premises (UnequalRight sign p q) other = omega arith
few_premises (UnequalLeft sign p q) other = omega arith
few_premises (Itself a) other = omega arith
few_premises (Turned a b) other = omega arith
few_premises (Through a b c) other = omega arith
few_premises (Chosen c a b) other = omega arith
few_premises (Passed c a b) other = omega arith
few_premises (ReadBack a i v) other = let l = few_facts (element (sort_of a)) (v) in omega (arith, l)
few_premises (ReadEqual a i j v) other = let l = few_facts (element (sort_of a)) (v) in omega (arith, l)
few_premises (ReadOther a i j v) other = omega arith
few_premises (ReadConst s v j) other = let l = few_facts (element s) (v) in omega (arith, l)
few_premises (ReadWithin n a b j) other = omega arith
few_premises (ReadAbove n a b j) other = omega arith
few_premises (PartIs k s ts) other = let l = few_facts (sort_at k (parts s)) (term_at k ts) in omega (arith, l)
few_premises (ReadBelow n a b j) other = omega arith
few_premises (AtLeast t) other = omega arith
few_premises (AtMost t) other = omega arith
few_premises (WrapsNot g n a) other = let l = few_facts (NumSort (Bits g n)) (a) in omega (arith, l)
few_premises (QuotientLow a d) other = omega arith
few_premises (QuotientHigh a d) other = omega arith
few_premises (QuotientHighNegative a d) other = omega arith
few_premises (QuotientLowNegative a d) other = omega arith
few_premises (RemainderIs a d) other = omega arith
few_premises (ProductOfHigh a b) other = omega arith
few_premises (ProductOfLow a b) other = omega arith
few_premises (ProductHighLow a b) other = omega arith
few_premises (ProductLowHigh a b) other = omega arith
few_premises (SumOfStore a i v) other = let l = few_facts (element (sort_of a)) (v) in omega (arith, l)
few_premises (SumOfNone s) other = omega arith
few_premises (SumAtLeast a) other = omega arith
few_premises (SumOverOne a i) other = omega arith
few_premises (SumOverTwo a i j) other = omega arith
few_premises (Strict a b) other = omega arith
few_premises (Between a b) other = omega arith
few_premises (Alike x ts us) other = absurd (other refl)
