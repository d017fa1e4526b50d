-- What follows by the pattern of a rule follows by the rule.
use Rattle.std.proofs.Common.{ℕ, Bool, not, List, [], ◌∷◌, ◌≡◌, refl, ap}
use Rattle.sv_term.specs.Sorts.{Bits, NumSort, element, parts, sort_at}
use Rattle.sv_term.specs.Terms.{Term, Wrap, Sel, Sto, Const, Tup, Get, term_at, sort_of}
use Rattle.sv_term.specs.FactRules.{Fact, Says, in_range, premises_of, conclusion_of, IsByRule, AndLeft, AndRight, NoOrLeft, NoOrRight, NotHolds, NotFails, OrElseRight, OrElseLeft, NoAndRight, NoAndLeft, IteThen, IteElse, NoIteThen, NoIteElse, EqRight, EqLeft, UnequalRight, UnequalLeft, Itself, Turned, Through, Chosen, Passed, ReadBack, ReadEqual, ReadOther, ReadConst, ReadWithin, ReadAbove, PartIs, ReadBelow, AtLeast, AtMost, WrapsNot, QuotientLow, QuotientHigh, QuotientHighNegative, QuotientLowNegative, RemainderIs, ProductOfHigh, ProductOfLow, ProductHighLow, ProductLowHigh, SumOfStore, SumOfNone, SumAtLeast, SumOverOne, SumOverTwo, Strict, Between}
use Rattle.sv_pattern.specs.Patterns.{Follows}
use Rattle.sv_pattern.specs.declared.step.Step.{Step}
use Rattle.sv_by_rule.specs.RuleRows as w
use Rattle.sv_by_rule.proofs.RuleParts.{not_not, ranged, leb_decides}

abbrev pub IsRow : ℕ → List Step → Type 0
IsRow r steps = (sign : Bool) (fs : List Fact) (t : Term) → Follows steps sign fs (t ∷ []) → IsByRule r fs (Says sign t)

and_left : IsRow 1 w.and_left
and_left sign fs t f =
    let premises : premises_of (AndLeft f.1.3.0 f.1.3.1) ≡ fs = cc (f.0, f.1.2, f.1.3.2, f.1.3.3.2, f.1.3.3.3, f.1.3.3.4, f.1.3.3.5) in
    let conclusion : conclusion_of (AndLeft f.1.3.0 f.1.3.1) ≡ Says sign t = cc (f.0, f.1.2, f.1.3.2, f.1.3.3.2, f.1.3.3.3, f.1.3.3.4, f.1.3.3.5) in
    (AndLeft f.1.3.0 f.1.3.1, refl, premises, conclusion, refl)

and_right : IsRow 2 w.and_right
and_right sign fs t f =
    let premises : premises_of (AndRight f.1.3.0 f.1.3.1) ≡ fs = cc (f.0, f.1.2, f.1.3.2, f.1.3.3.2, f.1.3.3.3, f.1.3.3.4, f.1.3.3.5) in
    let conclusion : conclusion_of (AndRight f.1.3.0 f.1.3.1) ≡ Says sign t = cc (f.0, f.1.2, f.1.3.2, f.1.3.3.2, f.1.3.3.3, f.1.3.3.4, f.1.3.3.5) in
    (AndRight f.1.3.0 f.1.3.1, refl, premises, conclusion, refl)

no_or_left : IsRow 3 w.no_or_left
no_or_left sign fs t f =
    let premises : premises_of (NoOrLeft f.1.3.0 f.1.3.1) ≡ fs = cc (f.0, f.1.2, f.1.3.2, f.1.3.3.2, f.1.3.3.3, f.1.3.3.4, f.1.3.3.5) in
    let conclusion : conclusion_of (NoOrLeft f.1.3.0 f.1.3.1) ≡ Says sign t = cc (f.0, f.1.2, f.1.3.2, f.1.3.3.2, f.1.3.3.3, f.1.3.3.4, f.1.3.3.5) in
    (NoOrLeft f.1.3.0 f.1.3.1, refl, premises, conclusion, refl)

no_or_right : IsRow 4 w.no_or_right
no_or_right sign fs t f =
    let premises : premises_of (NoOrRight f.1.3.0 f.1.3.1) ≡ fs = cc (f.0, f.1.2, f.1.3.2, f.1.3.3.2, f.1.3.3.3, f.1.3.3.4, f.1.3.3.5) in
    let conclusion : conclusion_of (NoOrRight f.1.3.0 f.1.3.1) ≡ Says sign t = cc (f.0, f.1.2, f.1.3.2, f.1.3.3.2, f.1.3.3.3, f.1.3.3.4, f.1.3.3.5) in
    (NoOrRight f.1.3.0 f.1.3.1, refl, premises, conclusion, refl)

not_holds : IsRow 5 w.not_holds
not_holds sign fs t f =
    let premises : premises_of (NotHolds f.1.3.0) ≡ fs = cc (f.0, f.1.2, f.1.3.1, f.1.3.2.2, f.1.3.2.3, f.1.3.2.4, f.1.3.2.5) in
    let conclusion : conclusion_of (NotHolds f.1.3.0) ≡ Says sign t = cc (f.0, f.1.2, f.1.3.1, f.1.3.2.2, f.1.3.2.3, f.1.3.2.4, f.1.3.2.5) in
    (NotHolds f.1.3.0, refl, premises, conclusion, refl)

not_fails : IsRow 6 w.not_fails
not_fails sign fs t f =
    let premises : premises_of (NotFails f.1.3.0) ≡ fs = cc (f.0, f.1.2, f.1.3.1, f.1.3.2.2, f.1.3.2.3, f.1.3.2.4, f.1.3.2.5) in
    let conclusion : conclusion_of (NotFails f.1.3.0) ≡ Says sign t = cc (f.0, f.1.2, f.1.3.1, f.1.3.2.2, f.1.3.2.3, f.1.3.2.4, f.1.3.2.5) in
    (NotFails f.1.3.0, refl, premises, conclusion, refl)

or_else_right : IsRow 7 w.or_else_right
or_else_right sign fs t f =
    let premises : premises_of (OrElseRight f.1.3.0 f.1.3.3.1) ≡ fs = cc (f.0, f.1.2, f.1.3.2, f.1.3.3.2, f.1.3.3.3.2, f.1.3.3.3.3, f.1.3.3.3.4, f.1.3.3.3.5.2, f.1.3.3.3.5.3, f.1.3.3.3.5.4, f.1.3.3.3.5.5) in
    let conclusion : conclusion_of (OrElseRight f.1.3.0 f.1.3.3.1) ≡ Says sign t = cc (f.0, f.1.2, f.1.3.2, f.1.3.3.2, f.1.3.3.3.2, f.1.3.3.3.3, f.1.3.3.3.4, f.1.3.3.3.5.2, f.1.3.3.3.5.3, f.1.3.3.3.5.4, f.1.3.3.3.5.5) in
    (OrElseRight f.1.3.0 f.1.3.3.1, refl, premises, conclusion, refl)

or_else_left : IsRow 8 w.or_else_left
or_else_left sign fs t f =
    let premises : premises_of (OrElseLeft f.1.3.3.0 f.1.3.0) ≡ fs = cc (f.0, f.1.2, f.1.3.2, f.1.3.3.2, f.1.3.3.3.2, f.1.3.3.3.3, f.1.3.3.3.4, f.1.3.3.3.5.2, f.1.3.3.3.5.3, f.1.3.3.3.5.4, f.1.3.3.3.5.5) in
    let conclusion : conclusion_of (OrElseLeft f.1.3.3.0 f.1.3.0) ≡ Says sign t = cc (f.0, f.1.2, f.1.3.2, f.1.3.3.2, f.1.3.3.3.2, f.1.3.3.3.3, f.1.3.3.3.4, f.1.3.3.3.5.2, f.1.3.3.3.5.3, f.1.3.3.3.5.4, f.1.3.3.3.5.5) in
    (OrElseLeft f.1.3.3.0 f.1.3.0, refl, premises, conclusion, refl)

no_and_right : IsRow 9 w.no_and_right
no_and_right sign fs t f =
    let premises : premises_of (NoAndRight f.1.3.0 f.1.3.3.1) ≡ fs = cc (f.0, f.1.2, f.1.3.2, f.1.3.3.2, f.1.3.3.3.2, f.1.3.3.3.3, f.1.3.3.3.4, f.1.3.3.3.5.2, f.1.3.3.3.5.3, f.1.3.3.3.5.4, f.1.3.3.3.5.5) in
    let conclusion : conclusion_of (NoAndRight f.1.3.0 f.1.3.3.1) ≡ Says sign t = cc (f.0, f.1.2, f.1.3.2, f.1.3.3.2, f.1.3.3.3.2, f.1.3.3.3.3, f.1.3.3.3.4, f.1.3.3.3.5.2, f.1.3.3.3.5.3, f.1.3.3.3.5.4, f.1.3.3.3.5.5) in
    (NoAndRight f.1.3.0 f.1.3.3.1, refl, premises, conclusion, refl)

no_and_left : IsRow 10 w.no_and_left
no_and_left sign fs t f =
    let premises : premises_of (NoAndLeft f.1.3.3.0 f.1.3.0) ≡ fs = cc (f.0, f.1.2, f.1.3.2, f.1.3.3.2, f.1.3.3.3.2, f.1.3.3.3.3, f.1.3.3.3.4, f.1.3.3.3.5.2, f.1.3.3.3.5.3, f.1.3.3.3.5.4, f.1.3.3.3.5.5) in
    let conclusion : conclusion_of (NoAndLeft f.1.3.3.0 f.1.3.0) ≡ Says sign t = cc (f.0, f.1.2, f.1.3.2, f.1.3.3.2, f.1.3.3.3.2, f.1.3.3.3.3, f.1.3.3.3.4, f.1.3.3.3.5.2, f.1.3.3.3.5.3, f.1.3.3.3.5.4, f.1.3.3.3.5.5) in
    (NoAndLeft f.1.3.3.0 f.1.3.0, refl, premises, conclusion, refl)

ite_then : IsRow 11 w.ite_then
ite_then sign fs t f =
    let premises : premises_of (IteThen f.1.3.0 f.1.3.3.1 f.1.3.3.2) ≡ fs = cc (f.0, f.1.2, f.1.3.2, f.1.3.3.3, f.1.3.3.4.2, f.1.3.3.4.3, f.1.3.3.4.4, f.1.3.3.4.5.2, f.1.3.3.4.5.3, f.1.3.3.4.5.4, f.1.3.3.4.5.5) in
    let conclusion : conclusion_of (IteThen f.1.3.0 f.1.3.3.1 f.1.3.3.2) ≡ Says sign t = cc (f.0, f.1.2, f.1.3.2, f.1.3.3.3, f.1.3.3.4.2, f.1.3.3.4.3, f.1.3.3.4.4, f.1.3.3.4.5.2, f.1.3.3.4.5.3, f.1.3.3.4.5.4, f.1.3.3.4.5.5) in
    (IteThen f.1.3.0 f.1.3.3.1 f.1.3.3.2, refl, premises, conclusion, refl)

ite_else : IsRow 12 w.ite_else
ite_else sign fs t f =
    let premises : premises_of (IteElse f.1.3.0 f.1.3.3.1 f.1.3.3.2) ≡ fs = cc (f.0, f.1.2, f.1.3.2, f.1.3.3.3, f.1.3.3.4.2, f.1.3.3.4.3, f.1.3.3.4.4, f.1.3.3.4.5.2, f.1.3.3.4.5.3, f.1.3.3.4.5.4, f.1.3.3.4.5.5) in
    let conclusion : conclusion_of (IteElse f.1.3.0 f.1.3.3.1 f.1.3.3.2) ≡ Says sign t = cc (f.0, f.1.2, f.1.3.2, f.1.3.3.3, f.1.3.3.4.2, f.1.3.3.4.3, f.1.3.3.4.4, f.1.3.3.4.5.2, f.1.3.3.4.5.3, f.1.3.3.4.5.4, f.1.3.3.4.5.5) in
    (IteElse f.1.3.0 f.1.3.3.1 f.1.3.3.2, refl, premises, conclusion, refl)

no_ite_then : IsRow 13 w.no_ite_then
no_ite_then sign fs t f =
    let premises : premises_of (NoIteThen f.1.3.0 f.1.3.3.1 f.1.3.3.2) ≡ fs = cc (f.0, f.1.2, f.1.3.2, f.1.3.3.3, f.1.3.3.4.2, f.1.3.3.4.3, f.1.3.3.4.4, f.1.3.3.4.5.2, f.1.3.3.4.5.3, f.1.3.3.4.5.4, f.1.3.3.4.5.5) in
    let conclusion : conclusion_of (NoIteThen f.1.3.0 f.1.3.3.1 f.1.3.3.2) ≡ Says sign t = cc (f.0, f.1.2, f.1.3.2, f.1.3.3.3, f.1.3.3.4.2, f.1.3.3.4.3, f.1.3.3.4.4, f.1.3.3.4.5.2, f.1.3.3.4.5.3, f.1.3.3.4.5.4, f.1.3.3.4.5.5) in
    (NoIteThen f.1.3.0 f.1.3.3.1 f.1.3.3.2, refl, premises, conclusion, refl)

no_ite_else : IsRow 14 w.no_ite_else
no_ite_else sign fs t f =
    let premises : premises_of (NoIteElse f.1.3.0 f.1.3.3.1 f.1.3.3.2) ≡ fs = cc (f.0, f.1.2, f.1.3.2, f.1.3.3.3, f.1.3.3.4.2, f.1.3.3.4.3, f.1.3.3.4.4, f.1.3.3.4.5.2, f.1.3.3.4.5.3, f.1.3.3.4.5.4, f.1.3.3.4.5.5) in
    let conclusion : conclusion_of (NoIteElse f.1.3.0 f.1.3.3.1 f.1.3.3.2) ≡ Says sign t = cc (f.0, f.1.2, f.1.3.2, f.1.3.3.3, f.1.3.3.4.2, f.1.3.3.4.3, f.1.3.3.4.4, f.1.3.3.4.5.2, f.1.3.3.4.5.3, f.1.3.3.4.5.4, f.1.3.3.4.5.5) in
    (NoIteElse f.1.3.0 f.1.3.3.1 f.1.3.3.2, refl, premises, conclusion, refl)

eq_right : IsRow 15 w.eq_right
eq_right sign fs t f =
    let premises : premises_of (EqRight sign f.3.0 f.3.3.1) ≡ fs = cc (f.2, f.3.2, f.3.3.2, f.3.3.3.2, f.3.3.3.3, f.3.3.3.4, f.3.3.3.5.2, f.3.3.3.5.3, f.3.3.3.5.4, f.3.3.3.5.5) in
    let conclusion : conclusion_of (EqRight sign f.3.0 f.3.3.1) ≡ Says sign t = cc (f.2, f.3.2, f.3.3.2, f.3.3.3.2, f.3.3.3.3, f.3.3.3.4, f.3.3.3.5.2, f.3.3.3.5.3, f.3.3.3.5.4, f.3.3.3.5.5) in
    (EqRight sign f.3.0 f.3.3.1, refl, premises, conclusion, refl)

eq_left : IsRow 16 w.eq_left
eq_left sign fs t f =
    let premises : premises_of (EqLeft sign f.3.3.0 f.3.0) ≡ fs = cc (f.2, f.3.2, f.3.3.2, f.3.3.3.2, f.3.3.3.3, f.3.3.3.4, f.3.3.3.5.2, f.3.3.3.5.3, f.3.3.3.5.4, f.3.3.3.5.5) in
    let conclusion : conclusion_of (EqLeft sign f.3.3.0 f.3.0) ≡ Says sign t = cc (f.2, f.3.2, f.3.3.2, f.3.3.3.2, f.3.3.3.3, f.3.3.3.4, f.3.3.3.5.2, f.3.3.3.5.3, f.3.3.3.5.4, f.3.3.3.5.5) in
    (EqLeft sign f.3.3.0 f.3.0, refl, premises, conclusion, refl)

unequal_right : IsRow 17 w.unequal_right
unequal_right sign fs t f =
    let premises : premises_of (UnequalRight (not sign) f.3.0 f.3.3.1) ≡ fs = cc (f.2, f.3.2, f.3.3.2, f.3.3.3.2, f.3.3.3.3, f.3.3.3.4, f.3.3.3.5.2, f.3.3.3.5.3, f.3.3.3.5.4, f.3.3.3.5.5) in
    let conclusion : conclusion_of (UnequalRight (not sign) f.3.0 f.3.3.1) ≡ Says sign t = cc (not_not sign, f.2, f.3.2, f.3.3.2, f.3.3.3.2, f.3.3.3.3, f.3.3.3.4, f.3.3.3.5.2, f.3.3.3.5.3, f.3.3.3.5.4, f.3.3.3.5.5) in
    (UnequalRight (not sign) f.3.0 f.3.3.1, refl, premises, conclusion, refl)

unequal_left : IsRow 18 w.unequal_left
unequal_left sign fs t f =
    let premises : premises_of (UnequalLeft (not sign) f.3.3.0 f.3.0) ≡ fs = cc (f.2, f.3.2, f.3.3.2, f.3.3.3.2, f.3.3.3.3, f.3.3.3.4, f.3.3.3.5.2, f.3.3.3.5.3, f.3.3.3.5.4, f.3.3.3.5.5) in
    let conclusion : conclusion_of (UnequalLeft (not sign) f.3.3.0 f.3.0) ≡ Says sign t = cc (not_not sign, f.2, f.3.2, f.3.3.2, f.3.3.3.2, f.3.3.3.3, f.3.3.3.4, f.3.3.3.5.2, f.3.3.3.5.3, f.3.3.3.5.4, f.3.3.3.5.5) in
    (UnequalLeft (not sign) f.3.3.0 f.3.0, refl, premises, conclusion, refl)

itself : IsRow 20 w.itself
itself sign fs t f =
    let premises : premises_of (Itself f.1.0) ≡ fs = cc (f.0, f.1.2, f.1.3.2, f.1.3.3, f.1.3.4, f.1.3.5) in
    let conclusion : conclusion_of (Itself f.1.0) ≡ Says sign t = cc (f.0, f.1.2, f.1.3.2, f.1.3.3, f.1.3.4, f.1.3.5) in
    (Itself f.1.0, refl, premises, conclusion, refl)

turned : IsRow 21 w.turned
turned sign fs t f =
    let premises : premises_of (Turned f.1.3.0 f.1.3.1) ≡ fs = cc (f.0, f.1.2, f.1.3.2, f.1.3.3.2, f.1.3.3.3.2, f.1.3.3.3.3, f.1.3.3.3.4, f.1.3.3.3.5.2, f.1.3.3.3.5.3, f.1.3.3.3.5.4, f.1.3.3.3.5.5) in
    let conclusion : conclusion_of (Turned f.1.3.0 f.1.3.1) ≡ Says sign t = cc (f.0, f.1.2, f.1.3.2, f.1.3.3.2, f.1.3.3.3.2, f.1.3.3.3.3, f.1.3.3.3.4, f.1.3.3.3.5.2, f.1.3.3.3.5.3, f.1.3.3.3.5.4, f.1.3.3.3.5.5) in
    (Turned f.1.3.0 f.1.3.1, refl, premises, conclusion, refl)

through : IsRow 22 w.through
through sign fs t f =
    let premises : premises_of (Through f.1.3.3.0 f.1.3.3.1 f.1.3.3.3.1) ≡ fs = cc (f.0, f.1.2, f.1.3.2, f.1.3.3.2, f.1.3.3.3.2, f.1.3.3.3.3.2, f.1.3.3.3.3.3.2, f.1.3.3.3.3.3.3, f.1.3.3.3.3.3.4, f.1.3.3.3.3.3.5.2, f.1.3.3.3.3.3.5.3, f.1.3.3.3.3.3.5.4, f.1.3.3.3.3.3.5.5.2, f.1.3.3.3.3.3.5.5.3, f.1.3.3.3.3.3.5.5.4, f.1.3.3.3.3.3.5.5.5) in
    let conclusion : conclusion_of (Through f.1.3.3.0 f.1.3.3.1 f.1.3.3.3.1) ≡ Says sign t = cc (f.0, f.1.2, f.1.3.2, f.1.3.3.2, f.1.3.3.3.2, f.1.3.3.3.3.2, f.1.3.3.3.3.3.2, f.1.3.3.3.3.3.3, f.1.3.3.3.3.3.4, f.1.3.3.3.3.3.5.2, f.1.3.3.3.3.3.5.3, f.1.3.3.3.3.3.5.4, f.1.3.3.3.3.3.5.5.2, f.1.3.3.3.3.3.5.5.3, f.1.3.3.3.3.3.5.5.4, f.1.3.3.3.3.3.5.5.5) in
    (Through f.1.3.3.0 f.1.3.3.1 f.1.3.3.3.1, refl, premises, conclusion, refl)

chosen : IsRow 24 w.chosen
chosen sign fs t f =
    let premises : premises_of (Chosen f.1.0 f.1.3.1 f.1.3.3.2) ≡ fs = cc (f.0, f.1.2, f.1.3.2, f.1.3.3.3, f.1.3.3.4.2, f.1.3.3.4.3, f.1.3.3.4.4, f.1.3.3.4.5.2, f.1.3.3.4.5.3, f.1.3.3.4.5.4, f.1.3.3.4.5.5) in
    let conclusion : conclusion_of (Chosen f.1.0 f.1.3.1 f.1.3.3.2) ≡ Says sign t = cc (f.0, f.1.2, f.1.3.2, f.1.3.3.3, f.1.3.3.4.2, f.1.3.3.4.3, f.1.3.3.4.4, f.1.3.3.4.5.2, f.1.3.3.4.5.3, f.1.3.3.4.5.4, f.1.3.3.4.5.5) in
    (Chosen f.1.0 f.1.3.1 f.1.3.3.2, refl, premises, conclusion, refl)

passed : IsRow 25 w.passed
passed sign fs t f =
    let premises : premises_of (Passed f.1.0 f.1.3.3.1 f.1.3.1) ≡ fs = cc (f.0, f.1.2, f.1.3.2, f.1.3.3.3, f.1.3.3.4.2, f.1.3.3.4.3, f.1.3.3.4.4, f.1.3.3.4.5.2, f.1.3.3.4.5.3, f.1.3.3.4.5.4, f.1.3.3.4.5.5) in
    let conclusion : conclusion_of (Passed f.1.0 f.1.3.3.1 f.1.3.1) ≡ Says sign t = cc (f.0, f.1.2, f.1.3.2, f.1.3.3.3, f.1.3.3.4.2, f.1.3.3.4.3, f.1.3.3.4.4, f.1.3.3.4.5.2, f.1.3.3.4.5.3, f.1.3.3.4.5.4, f.1.3.3.4.5.5) in
    (Passed f.1.0 f.1.3.3.1 f.1.3.1, refl, premises, conclusion, refl)

read_back : IsRow 30 w.read_back
read_back sign fs t f =
    let place : f.1.3.3.4.5.5.0 ≡ Sel (Sto f.1.3.3.0 f.1.3.1 f.1.1) f.1.3.1 = cc (f.0, f.1.2, f.1.3.2, f.1.3.3.3, f.1.3.3.4.2, f.1.3.3.4.3, f.1.3.3.4.4, f.1.3.3.4.5.2, f.1.3.3.4.5.3, f.1.3.3.4.5.4, f.1.3.3.4.5.5.3, f.1.3.3.4.5.5.4, f.1.3.3.4.5.5.6) in
    let value : f.1.3.3.4.5.5.1 ≡ f.1.1 = cc (f.0, f.1.2, f.1.3.2, f.1.3.3.3, f.1.3.3.4.2, f.1.3.3.4.3, f.1.3.3.4.4, f.1.3.3.4.5.2, f.1.3.3.4.5.3, f.1.3.3.4.5.4, f.1.3.3.4.5.5.3, f.1.3.3.4.5.5.4, f.1.3.3.4.5.5.6) in
    let facts : in_range (element (sort_of f.1.3.3.0)) f.1.1 ≡ fs = ranged _ _ _ _ fs f.1.3.3.4.5.5.2 (ap sort_of place) value f.1.3.3.4.5.5.5 f.1.3.3.4.5.5.6 in
    let premises : premises_of (ReadBack f.1.3.3.0 f.1.3.1 f.1.1) ≡ fs = facts in
    let conclusion : conclusion_of (ReadBack f.1.3.3.0 f.1.3.1 f.1.1) ≡ Says sign t = cc (f.0, f.1.2, f.1.3.2, f.1.3.3.3, f.1.3.3.4.2, f.1.3.3.4.3, f.1.3.3.4.4, f.1.3.3.4.5.2, f.1.3.3.4.5.3, f.1.3.3.4.5.4, f.1.3.3.4.5.5.3, f.1.3.3.4.5.5.4, f.1.3.3.4.5.5.6) in
    (ReadBack f.1.3.3.0 f.1.3.1 f.1.1, refl, premises, conclusion, refl)

read_equal : IsRow 31 w.read_equal
read_equal sign fs t f =
    let place : f.1.3.3.3.3.4.5.5.5.0 ≡ Sel (Sto f.1.3.3.3.3.0 f.1.3.0 f.1.3.3.1) f.1.3.1 = cc (f.0, f.1.2, f.1.3.2, f.1.3.3.2, f.1.3.3.3.2, f.1.3.3.3.3.3, f.1.3.3.3.3.4.2, f.1.3.3.3.3.4.3, f.1.3.3.3.3.4.4, f.1.3.3.3.3.4.5.2, f.1.3.3.3.3.4.5.3, f.1.3.3.3.3.4.5.4, f.1.3.3.3.3.4.5.5.2, f.1.3.3.3.3.4.5.5.3, f.1.3.3.3.3.4.5.5.4, f.1.3.3.3.3.4.5.5.5.3, f.1.3.3.3.3.4.5.5.5.4, f.1.3.3.3.3.4.5.5.5.6) in
    let value : f.1.3.3.3.3.4.5.5.5.1 ≡ f.1.3.3.1 = cc (f.0, f.1.2, f.1.3.2, f.1.3.3.2, f.1.3.3.3.2, f.1.3.3.3.3.3, f.1.3.3.3.3.4.2, f.1.3.3.3.3.4.3, f.1.3.3.3.3.4.4, f.1.3.3.3.3.4.5.2, f.1.3.3.3.3.4.5.3, f.1.3.3.3.3.4.5.4, f.1.3.3.3.3.4.5.5.2, f.1.3.3.3.3.4.5.5.3, f.1.3.3.3.3.4.5.5.4, f.1.3.3.3.3.4.5.5.5.3, f.1.3.3.3.3.4.5.5.5.4, f.1.3.3.3.3.4.5.5.5.6) in
    let facts : in_range (element (sort_of f.1.3.3.3.3.0)) f.1.3.3.1 ≡ f.1.1 = ranged _ _ _ _ f.1.1 f.1.3.3.3.3.4.5.5.5.2 (ap sort_of place) value f.1.3.3.3.3.4.5.5.5.5 f.1.3.3.3.3.4.5.5.5.6 in
    let premises : premises_of (ReadEqual f.1.3.3.3.3.0 f.1.3.0 f.1.3.1 f.1.3.3.1) ≡ fs = cc (facts, f.0, f.1.2, f.1.3.2, f.1.3.3.2, f.1.3.3.3.2, f.1.3.3.3.3.3, f.1.3.3.3.3.4.2, f.1.3.3.3.3.4.3, f.1.3.3.3.3.4.4, f.1.3.3.3.3.4.5.2, f.1.3.3.3.3.4.5.3, f.1.3.3.3.3.4.5.4, f.1.3.3.3.3.4.5.5.2, f.1.3.3.3.3.4.5.5.3, f.1.3.3.3.3.4.5.5.4, f.1.3.3.3.3.4.5.5.5.3, f.1.3.3.3.3.4.5.5.5.4, f.1.3.3.3.3.4.5.5.5.6) in
    let conclusion : conclusion_of (ReadEqual f.1.3.3.3.3.0 f.1.3.0 f.1.3.1 f.1.3.3.1) ≡ Says sign t = cc (f.0, f.1.2, f.1.3.2, f.1.3.3.2, f.1.3.3.3.2, f.1.3.3.3.3.3, f.1.3.3.3.3.4.2, f.1.3.3.3.3.4.3, f.1.3.3.3.3.4.4, f.1.3.3.3.3.4.5.2, f.1.3.3.3.3.4.5.3, f.1.3.3.3.3.4.5.4, f.1.3.3.3.3.4.5.5.2, f.1.3.3.3.3.4.5.5.3, f.1.3.3.3.3.4.5.5.4, f.1.3.3.3.3.4.5.5.5.3, f.1.3.3.3.3.4.5.5.5.4, f.1.3.3.3.3.4.5.5.5.6) in
    (ReadEqual f.1.3.3.3.3.0 f.1.3.0 f.1.3.1 f.1.3.3.1, refl, premises, conclusion, refl)

read_other : IsRow 32 w.read_other
read_other sign fs t f =
    let premises : premises_of (ReadOther f.1.3.3.3.3.0 f.1.3.0 f.1.3.1 f.1.3.3.3.3.2) ≡ fs = cc (f.0, f.1.2, f.1.3.2, f.1.3.3.2, f.1.3.3.3.2, f.1.3.3.3.3.3, f.1.3.3.3.3.4.2, f.1.3.3.3.3.4.3.2, f.1.3.3.3.3.4.3.3, f.1.3.3.3.3.4.3.4, f.1.3.3.3.3.4.3.5.2, f.1.3.3.3.3.4.3.5.3, f.1.3.3.3.3.4.3.5.4, f.1.3.3.3.3.4.3.5.5.2, f.1.3.3.3.3.4.3.5.5.3, f.1.3.3.3.3.4.3.5.5.4, f.1.3.3.3.3.4.3.5.5.5.2, f.1.3.3.3.3.4.3.5.5.5.3, f.1.3.3.3.3.4.3.5.5.5.4, f.1.3.3.3.3.4.3.5.5.5.5) in
    let conclusion : conclusion_of (ReadOther f.1.3.3.3.3.0 f.1.3.0 f.1.3.1 f.1.3.3.3.3.2) ≡ Says sign t = cc (f.0, f.1.2, f.1.3.2, f.1.3.3.2, f.1.3.3.3.2, f.1.3.3.3.3.3, f.1.3.3.3.3.4.2, f.1.3.3.3.3.4.3.2, f.1.3.3.3.3.4.3.3, f.1.3.3.3.3.4.3.4, f.1.3.3.3.3.4.3.5.2, f.1.3.3.3.3.4.3.5.3, f.1.3.3.3.3.4.3.5.4, f.1.3.3.3.3.4.3.5.5.2, f.1.3.3.3.3.4.3.5.5.3, f.1.3.3.3.3.4.3.5.5.4, f.1.3.3.3.3.4.3.5.5.5.2, f.1.3.3.3.3.4.3.5.5.5.3, f.1.3.3.3.3.4.3.5.5.5.4, f.1.3.3.3.3.4.3.5.5.5.5) in
    (ReadOther f.1.3.3.3.3.0 f.1.3.0 f.1.3.1 f.1.3.3.3.3.2, refl, premises, conclusion, refl)

read_const : IsRow 33 w.read_const
read_const sign fs t f =
    let place : f.1.3.3.5.0 ≡ Sel (Const f.1.3.3.4.0 f.1.1) f.1.3.1 = cc (f.0, f.1.2, f.1.3.2, f.1.3.3.2, f.1.3.3.3, f.1.3.3.4.1, f.1.3.3.5.3, f.1.3.3.5.4, f.1.3.3.5.6) in
    let value : f.1.3.3.5.1 ≡ f.1.1 = cc (f.0, f.1.2, f.1.3.2, f.1.3.3.2, f.1.3.3.3, f.1.3.3.4.1, f.1.3.3.5.3, f.1.3.3.5.4, f.1.3.3.5.6) in
    let facts : in_range (element f.1.3.3.4.0) f.1.1 ≡ fs = ranged _ _ _ _ fs f.1.3.3.5.2 (ap sort_of place) value f.1.3.3.5.5 f.1.3.3.5.6 in
    let premises : premises_of (ReadConst f.1.3.3.4.0 f.1.1 f.1.3.1) ≡ fs = facts in
    let conclusion : conclusion_of (ReadConst f.1.3.3.4.0 f.1.1 f.1.3.1) ≡ Says sign t = cc (f.0, f.1.2, f.1.3.2, f.1.3.3.2, f.1.3.3.3, f.1.3.3.4.1, f.1.3.3.5.3, f.1.3.3.5.4, f.1.3.3.5.6) in
    (ReadConst f.1.3.3.4.0 f.1.1 f.1.3.1, refl, premises, conclusion, refl)

read_within : IsRow 34 w.read_within
read_within sign fs t f =
    let premises : premises_of (ReadWithin f.1.3.3.0 f.1.3.3.3.3.3.5.3.3.1 f.1.3.3.3.3.3.5.3.3.2 f.1.3.3.1) ≡ fs = cc (f.0, f.1.2, f.1.3.2, f.1.3.3.2, f.1.3.3.3.2, f.1.3.3.3.3.1, f.1.3.3.3.3.2, f.1.3.3.3.3.3.2, f.1.3.3.3.3.3.3, f.1.3.3.3.3.3.4, f.1.3.3.3.3.3.5.2, f.1.3.3.3.3.3.5.3.2, f.1.3.3.3.3.3.5.3.3.3, f.1.3.3.3.3.3.5.3.3.4.2, f.1.3.3.3.3.3.5.3.3.4.3.2, f.1.3.3.3.3.3.5.3.3.4.3.3, f.1.3.3.3.3.3.5.3.3.4.3.4, f.1.3.3.3.3.3.5.3.3.4.3.5.2, f.1.3.3.3.3.3.5.3.3.4.3.5.3, f.1.3.3.3.3.3.5.3.3.4.3.5.4, f.1.3.3.3.3.3.5.3.3.4.3.5.5.2, f.1.3.3.3.3.3.5.3.3.4.3.5.5.3, f.1.3.3.3.3.3.5.3.3.4.3.5.5.4, f.1.3.3.3.3.3.5.3.3.4.3.5.5.5.2, f.1.3.3.3.3.3.5.3.3.4.3.5.5.5.3, f.1.3.3.3.3.3.5.3.3.4.3.5.5.5.4, f.1.3.3.3.3.3.5.3.3.4.3.5.5.5.5) in
    let conclusion : conclusion_of (ReadWithin f.1.3.3.0 f.1.3.3.3.3.3.5.3.3.1 f.1.3.3.3.3.3.5.3.3.2 f.1.3.3.1) ≡ Says sign t = cc (f.0, f.1.2, f.1.3.2, f.1.3.3.2, f.1.3.3.3.2, f.1.3.3.3.3.1, f.1.3.3.3.3.2, f.1.3.3.3.3.3.2, f.1.3.3.3.3.3.3, f.1.3.3.3.3.3.4, f.1.3.3.3.3.3.5.2, f.1.3.3.3.3.3.5.3.2, f.1.3.3.3.3.3.5.3.3.3, f.1.3.3.3.3.3.5.3.3.4.2, f.1.3.3.3.3.3.5.3.3.4.3.2, f.1.3.3.3.3.3.5.3.3.4.3.3, f.1.3.3.3.3.3.5.3.3.4.3.4, f.1.3.3.3.3.3.5.3.3.4.3.5.2, f.1.3.3.3.3.3.5.3.3.4.3.5.3, f.1.3.3.3.3.3.5.3.3.4.3.5.4, f.1.3.3.3.3.3.5.3.3.4.3.5.5.2, f.1.3.3.3.3.3.5.3.3.4.3.5.5.3, f.1.3.3.3.3.3.5.3.3.4.3.5.5.4, f.1.3.3.3.3.3.5.3.3.4.3.5.5.5.2, f.1.3.3.3.3.3.5.3.3.4.3.5.5.5.3, f.1.3.3.3.3.3.5.3.3.4.3.5.5.5.4, f.1.3.3.3.3.3.5.3.3.4.3.5.5.5.5) in
    (ReadWithin f.1.3.3.0 f.1.3.3.3.3.3.5.3.3.1 f.1.3.3.3.3.3.5.3.3.2 f.1.3.3.1, refl, premises, conclusion, refl)

read_above : IsRow 35 w.read_above
read_above sign fs t f =
    let premises : premises_of (ReadAbove f.1.3.0 f.1.3.3.3.3.1 f.1.3.3.3.3.2 f.1.3.1) ≡ fs = cc (f.0, f.1.2, f.1.3.2, f.1.3.3.2, f.1.3.3.3.2, f.1.3.3.3.3.3, f.1.3.3.3.3.4.2, f.1.3.3.3.3.4.3.2, f.1.3.3.3.3.4.3.3, f.1.3.3.3.3.4.3.4, f.1.3.3.3.3.4.3.5.2, f.1.3.3.3.3.4.3.5.3, f.1.3.3.3.3.4.3.5.4, f.1.3.3.3.3.4.3.5.5.2, f.1.3.3.3.3.4.3.5.5.3, f.1.3.3.3.3.4.3.5.5.4, f.1.3.3.3.3.4.3.5.5.5.2, f.1.3.3.3.3.4.3.5.5.5.3, f.1.3.3.3.3.4.3.5.5.5.4, f.1.3.3.3.3.4.3.5.5.5.5) in
    let conclusion : conclusion_of (ReadAbove f.1.3.0 f.1.3.3.3.3.1 f.1.3.3.3.3.2 f.1.3.1) ≡ Says sign t = cc (f.0, f.1.2, f.1.3.2, f.1.3.3.2, f.1.3.3.3.2, f.1.3.3.3.3.3, f.1.3.3.3.3.4.2, f.1.3.3.3.3.4.3.2, f.1.3.3.3.3.4.3.3, f.1.3.3.3.3.4.3.4, f.1.3.3.3.3.4.3.5.2, f.1.3.3.3.3.4.3.5.3, f.1.3.3.3.3.4.3.5.4, f.1.3.3.3.3.4.3.5.5.2, f.1.3.3.3.3.4.3.5.5.3, f.1.3.3.3.3.4.3.5.5.4, f.1.3.3.3.3.4.3.5.5.5.2, f.1.3.3.3.3.4.3.5.5.5.3, f.1.3.3.3.3.4.3.5.5.5.4, f.1.3.3.3.3.4.3.5.5.5.5) in
    (ReadAbove f.1.3.0 f.1.3.3.3.3.1 f.1.3.3.3.3.2 f.1.3.1, refl, premises, conclusion, refl)

part_is : IsRow 36 w.part_is
part_is sign fs t f =
    let place : f.1.3.5.0 ≡ Get f.1.3.4.0 (Tup f.1.3.4.1 f.1.3.4.2) = cc (f.0, f.1.2, f.1.3.2, f.1.3.3, f.1.3.4.3, f.1.3.4.4, f.1.3.5.3, f.1.3.5.4, f.1.3.5.6) in
    let value : f.1.3.5.1 ≡ term_at f.1.3.4.0 f.1.3.4.2 = cc (f.0, f.1.2, f.1.3.2, f.1.3.3, f.1.3.4.3, f.1.3.4.4, f.1.3.5.3, f.1.3.5.4, f.1.3.5.6) in
    let facts : in_range (sort_at f.1.3.4.0 (parts f.1.3.4.1)) (term_at f.1.3.4.0 f.1.3.4.2) ≡ fs = ranged _ _ _ _ fs f.1.3.5.2 (ap sort_of place) value f.1.3.5.5 f.1.3.5.6 in
    let premises : premises_of (PartIs f.1.3.4.0 f.1.3.4.1 f.1.3.4.2) ≡ fs = facts in
    let conclusion : conclusion_of (PartIs f.1.3.4.0 f.1.3.4.1 f.1.3.4.2) ≡ Says sign t = cc (f.0, f.1.2, f.1.3.2, f.1.3.3, f.1.3.4.3, f.1.3.4.4, f.1.3.5.3, f.1.3.5.4, f.1.3.5.6) in
    (PartIs f.1.3.4.0 f.1.3.4.1 f.1.3.4.2, refl, premises, conclusion, refl)

read_below : IsRow 37 w.read_below
read_below sign fs t f =
    let premises : premises_of (ReadBelow f.1.3.3.3.3.3.0 f.1.3.3.3.3.3.1 f.1.3.3.3.3.3.2 f.1.3.1) ≡ fs = cc (f.0, f.1.2, f.1.3.2, f.1.3.3.1, f.1.3.3.2, f.1.3.3.3.2, f.1.3.3.3.3.2, f.1.3.3.3.3.3.3, f.1.3.3.3.3.3.4.2, f.1.3.3.3.3.3.4.3.2, f.1.3.3.3.3.3.4.3.3, f.1.3.3.3.3.3.4.3.4, f.1.3.3.3.3.3.4.3.5.2, f.1.3.3.3.3.3.4.3.5.3, f.1.3.3.3.3.3.4.3.5.4, f.1.3.3.3.3.3.4.3.5.5.2, f.1.3.3.3.3.3.4.3.5.5.3, f.1.3.3.3.3.3.4.3.5.5.4, f.1.3.3.3.3.3.4.3.5.5.5) in
    let conclusion : conclusion_of (ReadBelow f.1.3.3.3.3.3.0 f.1.3.3.3.3.3.1 f.1.3.3.3.3.3.2 f.1.3.1) ≡ Says sign t = cc (f.0, f.1.2, f.1.3.2, f.1.3.3.1, f.1.3.3.2, f.1.3.3.3.2, f.1.3.3.3.3.2, f.1.3.3.3.3.3.3, f.1.3.3.3.3.3.4.2, f.1.3.3.3.3.3.4.3.2, f.1.3.3.3.3.3.4.3.3, f.1.3.3.3.3.3.4.3.4, f.1.3.3.3.3.3.4.3.5.2, f.1.3.3.3.3.3.4.3.5.3, f.1.3.3.3.3.3.4.3.5.4, f.1.3.3.3.3.3.4.3.5.5.2, f.1.3.3.3.3.3.4.3.5.5.3, f.1.3.3.3.3.3.4.3.5.5.4, f.1.3.3.3.3.3.4.3.5.5.5) in
    (ReadBelow f.1.3.3.3.3.3.0 f.1.3.3.3.3.3.1 f.1.3.3.3.3.3.2 f.1.3.1, refl, premises, conclusion, refl)

at_least : IsRow 40 w.at_least
at_least sign fs t f =
    let premises : premises_of (AtLeast f.1.3.1) ≡ fs = cc (f.0, f.1.2, f.1.3.2, f.1.3.3, f.1.3.4.1, f.1.3.5) in
    let conclusion : conclusion_of (AtLeast f.1.3.1) ≡ Says sign t = cc (f.0, f.1.2, f.1.3.2, f.1.3.3, f.1.3.4.1, f.1.3.5) in
    (AtLeast f.1.3.1, refl, premises, conclusion, f.1.3.4.0)

at_most : IsRow 41 w.at_most
at_most sign fs t f =
    let premises : premises_of (AtMost f.1.3.1) ≡ fs = cc (f.0, f.1.2, f.1.3.2, f.1.3.3, f.1.3.4.1, f.1.3.5) in
    let conclusion : conclusion_of (AtMost f.1.3.1) ≡ Says sign t = cc (f.0, f.1.2, f.1.3.2, f.1.3.3, f.1.3.4.1, f.1.3.5) in
    (AtMost f.1.3.1, refl, premises, conclusion, f.1.3.4.0)

wraps_not : IsRow 42 w.wraps_not
wraps_not sign fs t f =
    let place : f.1.3.5.0 ≡ Wrap f.1.3.4.0 f.1.3.4.1 f.1.1 = cc (f.0, f.1.2, f.1.3.2, f.1.3.3, f.1.3.4.2, f.1.3.5.3, f.1.3.5.4, f.1.3.5.6) in
    let value : f.1.3.5.1 ≡ f.1.1 = cc (f.0, f.1.2, f.1.3.2, f.1.3.3, f.1.3.4.2, f.1.3.5.3, f.1.3.5.4, f.1.3.5.6) in
    let facts : in_range (NumSort (Bits f.1.3.4.0 f.1.3.4.1)) f.1.1 ≡ fs = ranged _ _ _ _ fs f.1.3.5.2 (ap sort_of place) value f.1.3.5.5 f.1.3.5.6 in
    let premises : premises_of (WrapsNot f.1.3.4.0 f.1.3.4.1 f.1.1) ≡ fs = facts in
    let conclusion : conclusion_of (WrapsNot f.1.3.4.0 f.1.3.4.1 f.1.1) ≡ Says sign t = cc (f.0, f.1.2, f.1.3.2, f.1.3.3, f.1.3.4.2, f.1.3.5.3, f.1.3.5.4, f.1.3.5.6) in
    (WrapsNot f.1.3.4.0 f.1.3.4.1 f.1.1, refl, premises, conclusion, refl)

quotient_low : IsRow 43 w.quotient_low
quotient_low sign fs t f =
    let premises : premises_of (QuotientLow f.1.3.1 f.1.3.3.3.3.5.3.2.0) ≡ fs = cc (f.0, f.1.2, f.1.3.2, f.1.3.3.1, f.1.3.3.2, f.1.3.3.3.2, f.1.3.3.3.3.2, f.1.3.3.3.3.3, f.1.3.3.3.3.4, f.1.3.3.3.3.5.2, f.1.3.3.3.3.5.3.1, f.1.3.3.3.3.5.3.2.1, f.1.3.3.3.3.5.3.3.2, f.1.3.3.3.3.5.3.3.3.2, f.1.3.3.3.3.5.3.3.3.3, f.1.3.3.3.3.5.3.3.3.4, f.1.3.3.3.3.5.3.3.3.5.2, f.1.3.3.3.3.5.3.3.3.5.3, f.1.3.3.3.3.5.3.3.3.5.4, f.1.3.3.3.3.5.3.3.3.5.5) in
    let conclusion : conclusion_of (QuotientLow f.1.3.1 f.1.3.3.3.3.5.3.2.0) ≡ Says sign t = cc (f.0, f.1.2, f.1.3.2, f.1.3.3.1, f.1.3.3.2, f.1.3.3.3.2, f.1.3.3.3.3.2, f.1.3.3.3.3.3, f.1.3.3.3.3.4, f.1.3.3.3.3.5.2, f.1.3.3.3.3.5.3.1, f.1.3.3.3.3.5.3.2.1, f.1.3.3.3.3.5.3.3.2, f.1.3.3.3.3.5.3.3.3.2, f.1.3.3.3.3.5.3.3.3.3, f.1.3.3.3.3.5.3.3.3.4, f.1.3.3.3.3.5.3.3.3.5.2, f.1.3.3.3.3.5.3.3.3.5.3, f.1.3.3.3.3.5.3.3.3.5.4, f.1.3.3.3.3.5.3.3.3.5.5) in
    (QuotientLow f.1.3.1 f.1.3.3.3.3.5.3.2.0, refl, premises, conclusion, (leb_decides 1 f.1.3.3.3.3.5.3.2.0).1 f.1.3.3.3.3.5.3.2.2)

quotient_high : IsRow 44 w.quotient_high
quotient_high sign fs t f =
    let premises : premises_of (QuotientHigh f.1.3.1 f.1.3.3.3.3.5.3.3.3.5.5.4.0) ≡ fs = cc (f.0, f.1.2, f.1.3.2, f.1.3.3.1, f.1.3.3.2, f.1.3.3.3.2, f.1.3.3.3.3.2, f.1.3.3.3.3.3, f.1.3.3.3.3.4, f.1.3.3.3.3.5.2, f.1.3.3.3.3.5.3.2, f.1.3.3.3.3.5.3.3.2, f.1.3.3.3.3.5.3.3.3.2, f.1.3.3.3.3.5.3.3.3.3, f.1.3.3.3.3.5.3.3.3.4, f.1.3.3.3.3.5.3.3.3.5.2, f.1.3.3.3.3.5.3.3.3.5.3, f.1.3.3.3.3.5.3.3.3.5.4, f.1.3.3.3.3.5.3.3.3.5.5.2, f.1.3.3.3.3.5.3.3.3.5.5.3, f.1.3.3.3.3.5.3.3.3.5.5.4.1, f.1.3.3.3.3.5.3.3.3.5.5.4.3, f.1.3.3.3.3.5.3.3.3.5.5.5) in
    let conclusion : conclusion_of (QuotientHigh f.1.3.1 f.1.3.3.3.3.5.3.3.3.5.5.4.0) ≡ Says sign t = cc (f.0, f.1.2, f.1.3.2, f.1.3.3.1, f.1.3.3.2, f.1.3.3.3.2, f.1.3.3.3.3.2, f.1.3.3.3.3.3, f.1.3.3.3.3.4, f.1.3.3.3.3.5.2, f.1.3.3.3.3.5.3.2, f.1.3.3.3.3.5.3.3.2, f.1.3.3.3.3.5.3.3.3.2, f.1.3.3.3.3.5.3.3.3.3, f.1.3.3.3.3.5.3.3.3.4, f.1.3.3.3.3.5.3.3.3.5.2, f.1.3.3.3.3.5.3.3.3.5.3, f.1.3.3.3.3.5.3.3.3.5.4, f.1.3.3.3.3.5.3.3.3.5.5.2, f.1.3.3.3.3.5.3.3.3.5.5.3, f.1.3.3.3.3.5.3.3.3.5.5.4.1, f.1.3.3.3.3.5.3.3.3.5.5.4.3, f.1.3.3.3.3.5.3.3.3.5.5.5) in
    (QuotientHigh f.1.3.1 f.1.3.3.3.3.5.3.3.3.5.5.4.0, refl, premises, conclusion, (leb_decides 1 f.1.3.3.3.3.5.3.3.3.5.5.4.0).1 f.1.3.3.3.3.5.3.3.3.5.5.4.2)

quotient_high_negative : IsRow 45 w.quotient_high_negative
quotient_high_negative sign fs t f =
    let premises : premises_of (QuotientHighNegative f.1.3.1 f.1.3.3.3.3.5.3.2.0) ≡ fs = cc (f.0, f.1.2, f.1.3.2, f.1.3.3.1, f.1.3.3.2, f.1.3.3.3.2, f.1.3.3.3.3.2, f.1.3.3.3.3.3, f.1.3.3.3.3.4, f.1.3.3.3.3.5.2, f.1.3.3.3.3.5.3.1, f.1.3.3.3.3.5.3.2.1, f.1.3.3.3.3.5.3.3.2, f.1.3.3.3.3.5.3.3.3.2, f.1.3.3.3.3.5.3.3.3.3, f.1.3.3.3.3.5.3.3.3.4, f.1.3.3.3.3.5.3.3.3.5.2, f.1.3.3.3.3.5.3.3.3.5.3, f.1.3.3.3.3.5.3.3.3.5.4, f.1.3.3.3.3.5.3.3.3.5.5) in
    let conclusion : conclusion_of (QuotientHighNegative f.1.3.1 f.1.3.3.3.3.5.3.2.0) ≡ Says sign t = cc (f.0, f.1.2, f.1.3.2, f.1.3.3.1, f.1.3.3.2, f.1.3.3.3.2, f.1.3.3.3.3.2, f.1.3.3.3.3.3, f.1.3.3.3.3.4, f.1.3.3.3.3.5.2, f.1.3.3.3.3.5.3.1, f.1.3.3.3.3.5.3.2.1, f.1.3.3.3.3.5.3.3.2, f.1.3.3.3.3.5.3.3.3.2, f.1.3.3.3.3.5.3.3.3.3, f.1.3.3.3.3.5.3.3.3.4, f.1.3.3.3.3.5.3.3.3.5.2, f.1.3.3.3.3.5.3.3.3.5.3, f.1.3.3.3.3.5.3.3.3.5.4, f.1.3.3.3.3.5.3.3.3.5.5) in
    (QuotientHighNegative f.1.3.1 f.1.3.3.3.3.5.3.2.0, refl, premises, conclusion, (leb_decides 1 f.1.3.3.3.3.5.3.2.0).1 f.1.3.3.3.3.5.3.2.2)

quotient_low_negative : IsRow 46 w.quotient_low_negative
quotient_low_negative sign fs t f =
    let premises : premises_of (QuotientLowNegative f.1.3.1 f.1.3.3.3.3.5.3.3.3.5.5.4.0) ≡ fs = cc (f.0, f.1.2, f.1.3.2, f.1.3.3.1, f.1.3.3.2, f.1.3.3.3.2, f.1.3.3.3.3.2, f.1.3.3.3.3.3, f.1.3.3.3.3.4, f.1.3.3.3.3.5.2, f.1.3.3.3.3.5.3.2, f.1.3.3.3.3.5.3.3.2, f.1.3.3.3.3.5.3.3.3.2, f.1.3.3.3.3.5.3.3.3.3, f.1.3.3.3.3.5.3.3.3.4, f.1.3.3.3.3.5.3.3.3.5.2, f.1.3.3.3.3.5.3.3.3.5.3, f.1.3.3.3.3.5.3.3.3.5.4, f.1.3.3.3.3.5.3.3.3.5.5.2, f.1.3.3.3.3.5.3.3.3.5.5.3, f.1.3.3.3.3.5.3.3.3.5.5.4.1, f.1.3.3.3.3.5.3.3.3.5.5.4.3, f.1.3.3.3.3.5.3.3.3.5.5.5) in
    let conclusion : conclusion_of (QuotientLowNegative f.1.3.1 f.1.3.3.3.3.5.3.3.3.5.5.4.0) ≡ Says sign t = cc (f.0, f.1.2, f.1.3.2, f.1.3.3.1, f.1.3.3.2, f.1.3.3.3.2, f.1.3.3.3.3.2, f.1.3.3.3.3.3, f.1.3.3.3.3.4, f.1.3.3.3.3.5.2, f.1.3.3.3.3.5.3.2, f.1.3.3.3.3.5.3.3.2, f.1.3.3.3.3.5.3.3.3.2, f.1.3.3.3.3.5.3.3.3.3, f.1.3.3.3.3.5.3.3.3.4, f.1.3.3.3.3.5.3.3.3.5.2, f.1.3.3.3.3.5.3.3.3.5.3, f.1.3.3.3.3.5.3.3.3.5.4, f.1.3.3.3.3.5.3.3.3.5.5.2, f.1.3.3.3.3.5.3.3.3.5.5.3, f.1.3.3.3.3.5.3.3.3.5.5.4.1, f.1.3.3.3.3.5.3.3.3.5.5.4.3, f.1.3.3.3.3.5.3.3.3.5.5.5) in
    (QuotientLowNegative f.1.3.1 f.1.3.3.3.3.5.3.3.3.5.5.4.0, refl, premises, conclusion, (leb_decides 1 f.1.3.3.3.3.5.3.3.3.5.5.4.0).1 f.1.3.3.3.3.5.3.3.3.5.5.4.2)

remainder_is : IsRow 47 w.remainder_is
remainder_is sign fs t f =
    let premises : premises_of (RemainderIs f.1.3.0 f.1.3.3.2.0) ≡ fs = cc (f.0, f.1.2, f.1.3.2, f.1.3.3.1, f.1.3.3.2.1, f.1.3.3.3.2, f.1.3.3.3.3.2, f.1.3.3.3.3.3, f.1.3.3.3.3.4, f.1.3.3.3.3.5.2, f.1.3.3.3.3.5.3.2, f.1.3.3.3.3.5.3.3, f.1.3.3.3.3.5.3.4, f.1.3.3.3.3.5.3.5.2, f.1.3.3.3.3.5.3.5.3.2, f.1.3.3.3.3.5.3.5.3.3, f.1.3.3.3.3.5.3.5.3.4, f.1.3.3.3.3.5.3.5.3.5.2, f.1.3.3.3.3.5.3.5.3.5.3, f.1.3.3.3.3.5.3.5.3.5.4, f.1.3.3.3.3.5.3.5.3.5.5) in
    let conclusion : conclusion_of (RemainderIs f.1.3.0 f.1.3.3.2.0) ≡ Says sign t = cc (f.0, f.1.2, f.1.3.2, f.1.3.3.1, f.1.3.3.2.1, f.1.3.3.3.2, f.1.3.3.3.3.2, f.1.3.3.3.3.3, f.1.3.3.3.3.4, f.1.3.3.3.3.5.2, f.1.3.3.3.3.5.3.2, f.1.3.3.3.3.5.3.3, f.1.3.3.3.3.5.3.4, f.1.3.3.3.3.5.3.5.2, f.1.3.3.3.3.5.3.5.3.2, f.1.3.3.3.3.5.3.5.3.3, f.1.3.3.3.3.5.3.5.3.4, f.1.3.3.3.3.5.3.5.3.5.2, f.1.3.3.3.3.5.3.5.3.5.3, f.1.3.3.3.3.5.3.5.3.5.4, f.1.3.3.3.3.5.3.5.3.5.5) in
    (RemainderIs f.1.3.0 f.1.3.3.2.0, refl, premises, conclusion, (leb_decides 1 f.1.3.3.2.0).1 f.1.3.3.2.2)

product_of_high : IsRow 48 w.product_of_high
product_of_high sign fs t f =
    let premises : premises_of (ProductOfHigh f.1.3.3.1 f.1.3.3.3.3.1) ≡ fs = cc (f.0, f.1.2, f.1.3.2, f.1.3.3.2, f.1.3.3.3.1, f.1.3.3.3.2, f.1.3.3.3.3.2, f.1.3.3.3.3.3.1, f.1.3.3.3.3.3.2, f.1.3.3.3.3.3.3.2, f.1.3.3.3.3.3.3.3.1, f.1.3.3.3.3.3.3.3.2, f.1.3.3.3.3.3.3.3.3.2, f.1.3.3.3.3.3.3.3.3.3.2, f.1.3.3.3.3.3.3.3.3.3.3, f.1.3.3.3.3.3.3.3.3.3.4, f.1.3.3.3.3.3.3.3.3.3.5.2, f.1.3.3.3.3.3.3.3.3.3.5.3, f.1.3.3.3.3.3.3.3.3.3.5.4, f.1.3.3.3.3.3.3.3.3.3.5.5) in
    let conclusion : conclusion_of (ProductOfHigh f.1.3.3.1 f.1.3.3.3.3.1) ≡ Says sign t = cc (f.0, f.1.2, f.1.3.2, f.1.3.3.2, f.1.3.3.3.1, f.1.3.3.3.2, f.1.3.3.3.3.2, f.1.3.3.3.3.3.1, f.1.3.3.3.3.3.2, f.1.3.3.3.3.3.3.2, f.1.3.3.3.3.3.3.3.1, f.1.3.3.3.3.3.3.3.2, f.1.3.3.3.3.3.3.3.3.2, f.1.3.3.3.3.3.3.3.3.3.2, f.1.3.3.3.3.3.3.3.3.3.3, f.1.3.3.3.3.3.3.3.3.3.4, f.1.3.3.3.3.3.3.3.3.3.5.2, f.1.3.3.3.3.3.3.3.3.3.5.3, f.1.3.3.3.3.3.3.3.3.3.5.4, f.1.3.3.3.3.3.3.3.3.3.5.5) in
    (ProductOfHigh f.1.3.3.1 f.1.3.3.3.3.1, refl, premises, conclusion, refl)

product_of_low : IsRow 49 w.product_of_low
product_of_low sign fs t f =
    let premises : premises_of (ProductOfLow f.1.3.3.0 f.1.3.3.3.3.0) ≡ fs = cc (f.0, f.1.2, f.1.3.2, f.1.3.3.2, f.1.3.3.3.1, f.1.3.3.3.2, f.1.3.3.3.3.2, f.1.3.3.3.3.3.1, f.1.3.3.3.3.3.2, f.1.3.3.3.3.3.3.2, f.1.3.3.3.3.3.3.3.1, f.1.3.3.3.3.3.3.3.2, f.1.3.3.3.3.3.3.3.3.2, f.1.3.3.3.3.3.3.3.3.3.2, f.1.3.3.3.3.3.3.3.3.3.3, f.1.3.3.3.3.3.3.3.3.3.4, f.1.3.3.3.3.3.3.3.3.3.5.2, f.1.3.3.3.3.3.3.3.3.3.5.3, f.1.3.3.3.3.3.3.3.3.3.5.4, f.1.3.3.3.3.3.3.3.3.3.5.5) in
    let conclusion : conclusion_of (ProductOfLow f.1.3.3.0 f.1.3.3.3.3.0) ≡ Says sign t = cc (f.0, f.1.2, f.1.3.2, f.1.3.3.2, f.1.3.3.3.1, f.1.3.3.3.2, f.1.3.3.3.3.2, f.1.3.3.3.3.3.1, f.1.3.3.3.3.3.2, f.1.3.3.3.3.3.3.2, f.1.3.3.3.3.3.3.3.1, f.1.3.3.3.3.3.3.3.2, f.1.3.3.3.3.3.3.3.3.2, f.1.3.3.3.3.3.3.3.3.3.2, f.1.3.3.3.3.3.3.3.3.3.3, f.1.3.3.3.3.3.3.3.3.3.4, f.1.3.3.3.3.3.3.3.3.3.5.2, f.1.3.3.3.3.3.3.3.3.3.5.3, f.1.3.3.3.3.3.3.3.3.3.5.4, f.1.3.3.3.3.3.3.3.3.3.5.5) in
    (ProductOfLow f.1.3.3.0 f.1.3.3.3.3.0, refl, premises, conclusion, refl)

product_high_low : IsRow 50 w.product_high_low
product_high_low sign fs t f =
    let premises : premises_of (ProductHighLow f.1.3.3.1 f.1.3.3.3.3.0) ≡ fs = cc (f.0, f.1.2, f.1.3.2, f.1.3.3.2, f.1.3.3.3.1, f.1.3.3.3.2, f.1.3.3.3.3.2, f.1.3.3.3.3.3.1, f.1.3.3.3.3.3.2, f.1.3.3.3.3.3.3.2, f.1.3.3.3.3.3.3.3.1, f.1.3.3.3.3.3.3.3.2, f.1.3.3.3.3.3.3.3.3.2, f.1.3.3.3.3.3.3.3.3.3.2, f.1.3.3.3.3.3.3.3.3.3.3, f.1.3.3.3.3.3.3.3.3.3.4, f.1.3.3.3.3.3.3.3.3.3.5.2, f.1.3.3.3.3.3.3.3.3.3.5.3, f.1.3.3.3.3.3.3.3.3.3.5.4, f.1.3.3.3.3.3.3.3.3.3.5.5) in
    let conclusion : conclusion_of (ProductHighLow f.1.3.3.1 f.1.3.3.3.3.0) ≡ Says sign t = cc (f.0, f.1.2, f.1.3.2, f.1.3.3.2, f.1.3.3.3.1, f.1.3.3.3.2, f.1.3.3.3.3.2, f.1.3.3.3.3.3.1, f.1.3.3.3.3.3.2, f.1.3.3.3.3.3.3.2, f.1.3.3.3.3.3.3.3.1, f.1.3.3.3.3.3.3.3.2, f.1.3.3.3.3.3.3.3.3.2, f.1.3.3.3.3.3.3.3.3.3.2, f.1.3.3.3.3.3.3.3.3.3.3, f.1.3.3.3.3.3.3.3.3.3.4, f.1.3.3.3.3.3.3.3.3.3.5.2, f.1.3.3.3.3.3.3.3.3.3.5.3, f.1.3.3.3.3.3.3.3.3.3.5.4, f.1.3.3.3.3.3.3.3.3.3.5.5) in
    (ProductHighLow f.1.3.3.1 f.1.3.3.3.3.0, refl, premises, conclusion, refl)

product_low_high : IsRow 51 w.product_low_high
product_low_high sign fs t f =
    let premises : premises_of (ProductLowHigh f.1.3.3.0 f.1.3.3.3.3.1) ≡ fs = cc (f.0, f.1.2, f.1.3.2, f.1.3.3.2, f.1.3.3.3.1, f.1.3.3.3.2, f.1.3.3.3.3.2, f.1.3.3.3.3.3.1, f.1.3.3.3.3.3.2, f.1.3.3.3.3.3.3.2, f.1.3.3.3.3.3.3.3.1, f.1.3.3.3.3.3.3.3.2, f.1.3.3.3.3.3.3.3.3.2, f.1.3.3.3.3.3.3.3.3.3.2, f.1.3.3.3.3.3.3.3.3.3.3, f.1.3.3.3.3.3.3.3.3.3.4, f.1.3.3.3.3.3.3.3.3.3.5.2, f.1.3.3.3.3.3.3.3.3.3.5.3, f.1.3.3.3.3.3.3.3.3.3.5.4, f.1.3.3.3.3.3.3.3.3.3.5.5) in
    let conclusion : conclusion_of (ProductLowHigh f.1.3.3.0 f.1.3.3.3.3.1) ≡ Says sign t = cc (f.0, f.1.2, f.1.3.2, f.1.3.3.2, f.1.3.3.3.1, f.1.3.3.3.2, f.1.3.3.3.3.2, f.1.3.3.3.3.3.1, f.1.3.3.3.3.3.2, f.1.3.3.3.3.3.3.2, f.1.3.3.3.3.3.3.3.1, f.1.3.3.3.3.3.3.3.2, f.1.3.3.3.3.3.3.3.3.2, f.1.3.3.3.3.3.3.3.3.3.2, f.1.3.3.3.3.3.3.3.3.3.3, f.1.3.3.3.3.3.3.3.3.3.4, f.1.3.3.3.3.3.3.3.3.3.5.2, f.1.3.3.3.3.3.3.3.3.3.5.3, f.1.3.3.3.3.3.3.3.3.3.5.4, f.1.3.3.3.3.3.3.3.3.3.5.5) in
    (ProductLowHigh f.1.3.3.0 f.1.3.3.3.3.1, refl, premises, conclusion, refl)

sum_of_store : IsRow 52 w.sum_of_store
sum_of_store sign fs t f =
    let place : f.1.3.2.4.3.2.5.3.5.3.5.5.3.0 ≡ Sel f.1.3.2.4.3.2.5.3.5.3.5.5.0 f.1.3.2.1 = cc (f.0, f.1.2, f.1.3.1, f.1.3.2.3, f.1.3.2.4.2, f.1.3.2.4.3.1, f.1.3.2.4.3.2.2, f.1.3.2.4.3.2.3, f.1.3.2.4.3.2.4, f.1.3.2.4.3.2.5.2, f.1.3.2.4.3.2.5.3.2, f.1.3.2.4.3.2.5.3.3, f.1.3.2.4.3.2.5.3.4, f.1.3.2.4.3.2.5.3.5.2, f.1.3.2.4.3.2.5.3.5.3.2, f.1.3.2.4.3.2.5.3.5.3.3, f.1.3.2.4.3.2.5.3.5.3.4, f.1.3.2.4.3.2.5.3.5.3.5.2, f.1.3.2.4.3.2.5.3.5.3.5.3, f.1.3.2.4.3.2.5.3.5.3.5.4, f.1.3.2.4.3.2.5.3.5.3.5.5.1, f.1.3.2.4.3.2.5.3.5.3.5.5.3.3, f.1.3.2.4.3.2.5.3.5.3.5.5.3.4, f.1.3.2.4.3.2.5.3.5.3.5.5.3.6) in
    let value : f.1.3.2.4.3.2.5.3.5.3.5.5.3.1 ≡ f.1.3.2.2 = cc (f.0, f.1.2, f.1.3.1, f.1.3.2.3, f.1.3.2.4.2, f.1.3.2.4.3.1, f.1.3.2.4.3.2.2, f.1.3.2.4.3.2.3, f.1.3.2.4.3.2.4, f.1.3.2.4.3.2.5.2, f.1.3.2.4.3.2.5.3.2, f.1.3.2.4.3.2.5.3.3, f.1.3.2.4.3.2.5.3.4, f.1.3.2.4.3.2.5.3.5.2, f.1.3.2.4.3.2.5.3.5.3.2, f.1.3.2.4.3.2.5.3.5.3.3, f.1.3.2.4.3.2.5.3.5.3.4, f.1.3.2.4.3.2.5.3.5.3.5.2, f.1.3.2.4.3.2.5.3.5.3.5.3, f.1.3.2.4.3.2.5.3.5.3.5.4, f.1.3.2.4.3.2.5.3.5.3.5.5.1, f.1.3.2.4.3.2.5.3.5.3.5.5.3.3, f.1.3.2.4.3.2.5.3.5.3.5.5.3.4, f.1.3.2.4.3.2.5.3.5.3.5.5.3.6) in
    let facts : in_range (element (sort_of f.1.3.2.4.3.2.5.3.5.3.5.5.0)) f.1.3.2.2 ≡ fs = ranged _ _ _ _ fs f.1.3.2.4.3.2.5.3.5.3.5.5.3.2 (ap sort_of place) value f.1.3.2.4.3.2.5.3.5.3.5.5.3.5 f.1.3.2.4.3.2.5.3.5.3.5.5.3.6 in
    let premises : premises_of (SumOfStore f.1.3.2.4.3.2.5.3.5.3.5.5.0 f.1.3.2.1 f.1.3.2.2) ≡ fs = facts in
    let conclusion : conclusion_of (SumOfStore f.1.3.2.4.3.2.5.3.5.3.5.5.0 f.1.3.2.1 f.1.3.2.2) ≡ Says sign t = cc (f.0, f.1.2, f.1.3.1, f.1.3.2.3, f.1.3.2.4.2, f.1.3.2.4.3.1, f.1.3.2.4.3.2.2, f.1.3.2.4.3.2.3, f.1.3.2.4.3.2.4, f.1.3.2.4.3.2.5.2, f.1.3.2.4.3.2.5.3.2, f.1.3.2.4.3.2.5.3.3, f.1.3.2.4.3.2.5.3.4, f.1.3.2.4.3.2.5.3.5.2, f.1.3.2.4.3.2.5.3.5.3.2, f.1.3.2.4.3.2.5.3.5.3.3, f.1.3.2.4.3.2.5.3.5.3.4, f.1.3.2.4.3.2.5.3.5.3.5.2, f.1.3.2.4.3.2.5.3.5.3.5.3, f.1.3.2.4.3.2.5.3.5.3.5.4, f.1.3.2.4.3.2.5.3.5.3.5.5.1, f.1.3.2.4.3.2.5.3.5.3.5.5.3.3, f.1.3.2.4.3.2.5.3.5.3.5.5.3.4, f.1.3.2.4.3.2.5.3.5.3.5.5.3.6) in
    (SumOfStore f.1.3.2.4.3.2.5.3.5.3.5.5.0 f.1.3.2.1 f.1.3.2.2, refl, premises, conclusion, f.1.3.2.4.3.2.5.3.5.3.5.5.2)

sum_of_none : IsRow 53 w.sum_of_none
sum_of_none sign fs t f =
    let premises : premises_of (SumOfNone f.1.3.2.4.0) ≡ fs = cc (f.0, f.1.2, f.1.3.1, f.1.3.2.2, f.1.3.2.3, f.1.3.2.4.1, f.1.3.2.5.1, f.1.3.2.5.2, f.1.3.2.5.3) in
    let conclusion : conclusion_of (SumOfNone f.1.3.2.4.0) ≡ Says sign t = cc (f.0, f.1.2, f.1.3.1, f.1.3.2.2, f.1.3.2.3, f.1.3.2.4.1, f.1.3.2.5.1, f.1.3.2.5.2, f.1.3.2.5.3) in
    (SumOfNone f.1.3.2.4.0, refl, premises, conclusion, refl)

sum_at_least : IsRow 54 w.sum_at_least
sum_at_least sign fs t f =
    let premises : premises_of (SumAtLeast f.1.3.3.2.0) ≡ fs = cc (f.0, f.1.2, f.1.3.1, f.1.3.2, f.1.3.3.1, f.1.3.3.2.1, f.1.3.3.2.3) in
    let conclusion : conclusion_of (SumAtLeast f.1.3.3.2.0) ≡ Says sign t = cc (f.0, f.1.2, f.1.3.1, f.1.3.2, f.1.3.3.1, f.1.3.3.2.1, f.1.3.3.2.3) in
    (SumAtLeast f.1.3.3.2.0, refl, premises, conclusion, f.1.3.3.2.2)

sum_over_one : IsRow 55 w.sum_over_one
sum_over_one sign fs t f =
    let premises : premises_of (SumOverOne f.1.3.3.2.5.0 f.1.3.1) ≡ fs = cc (f.0, f.1.2, f.1.3.2, f.1.3.3.1, f.1.3.3.2.2, f.1.3.3.2.3, f.1.3.3.2.4, f.1.3.3.2.5.1, f.1.3.3.2.5.3) in
    let conclusion : conclusion_of (SumOverOne f.1.3.3.2.5.0 f.1.3.1) ≡ Says sign t = cc (f.0, f.1.2, f.1.3.2, f.1.3.3.1, f.1.3.3.2.2, f.1.3.3.2.3, f.1.3.3.2.4, f.1.3.3.2.5.1, f.1.3.3.2.5.3) in
    (SumOverOne f.1.3.3.2.5.0 f.1.3.1, refl, premises, conclusion, f.1.3.3.2.5.2)

sum_over_two : IsRow 56 w.sum_over_two
sum_over_two sign fs t f =
    let premises : premises_of (SumOverTwo f.1.3.3.3.3.3.3.2.5.5.5.5.0 f.1.3.0 f.1.3.1) ≡ fs = cc (f.0, f.1.2, f.1.3.2, f.1.3.3.2, f.1.3.3.3.2, f.1.3.3.3.3.2, f.1.3.3.3.3.3.2, f.1.3.3.3.3.3.3.1, f.1.3.3.3.3.3.3.2.2, f.1.3.3.3.3.3.3.2.3, f.1.3.3.3.3.3.3.2.4, f.1.3.3.3.3.3.3.2.5.2, f.1.3.3.3.3.3.3.2.5.3, f.1.3.3.3.3.3.3.2.5.4, f.1.3.3.3.3.3.3.2.5.5.2, f.1.3.3.3.3.3.3.2.5.5.3, f.1.3.3.3.3.3.3.2.5.5.4, f.1.3.3.3.3.3.3.2.5.5.5.2, f.1.3.3.3.3.3.3.2.5.5.5.3, f.1.3.3.3.3.3.3.2.5.5.5.4, f.1.3.3.3.3.3.3.2.5.5.5.5.1, f.1.3.3.3.3.3.3.2.5.5.5.5.3) in
    let conclusion : conclusion_of (SumOverTwo f.1.3.3.3.3.3.3.2.5.5.5.5.0 f.1.3.0 f.1.3.1) ≡ Says sign t = cc (f.0, f.1.2, f.1.3.2, f.1.3.3.2, f.1.3.3.3.2, f.1.3.3.3.3.2, f.1.3.3.3.3.3.2, f.1.3.3.3.3.3.3.1, f.1.3.3.3.3.3.3.2.2, f.1.3.3.3.3.3.3.2.3, f.1.3.3.3.3.3.3.2.4, f.1.3.3.3.3.3.3.2.5.2, f.1.3.3.3.3.3.3.2.5.3, f.1.3.3.3.3.3.3.2.5.4, f.1.3.3.3.3.3.3.2.5.5.2, f.1.3.3.3.3.3.3.2.5.5.3, f.1.3.3.3.3.3.3.2.5.5.4, f.1.3.3.3.3.3.3.2.5.5.5.2, f.1.3.3.3.3.3.3.2.5.5.5.3, f.1.3.3.3.3.3.3.2.5.5.5.4, f.1.3.3.3.3.3.3.2.5.5.5.5.1, f.1.3.3.3.3.3.3.2.5.5.5.5.3) in
    (SumOverTwo f.1.3.3.3.3.3.3.2.5.5.5.5.0 f.1.3.0 f.1.3.1, refl, premises, conclusion, f.1.3.3.3.3.3.3.2.5.5.5.5.2)

strict : IsRow 60 w.strict
strict sign fs t f =
    let premises : premises_of (Strict f.1.3.3.0 f.1.3.3.1) ≡ fs = cc (f.0, f.1.2, f.1.3.2, f.1.3.3.2, f.1.3.3.3.2, f.1.3.3.3.3.2, f.1.3.3.3.3.3.2, f.1.3.3.3.3.3.3, f.1.3.3.3.3.3.4, f.1.3.3.3.3.3.5.2, f.1.3.3.3.3.3.5.3, f.1.3.3.3.3.3.5.4, f.1.3.3.3.3.3.5.5.2, f.1.3.3.3.3.3.5.5.3, f.1.3.3.3.3.3.5.5.4, f.1.3.3.3.3.3.5.5.5.2, f.1.3.3.3.3.3.5.5.5.3, f.1.3.3.3.3.3.5.5.5.4, f.1.3.3.3.3.3.5.5.5.5) in
    let conclusion : conclusion_of (Strict f.1.3.3.0 f.1.3.3.1) ≡ Says sign t = cc (f.0, f.1.2, f.1.3.2, f.1.3.3.2, f.1.3.3.3.2, f.1.3.3.3.3.2, f.1.3.3.3.3.3.2, f.1.3.3.3.3.3.3, f.1.3.3.3.3.3.4, f.1.3.3.3.3.3.5.2, f.1.3.3.3.3.3.5.3, f.1.3.3.3.3.3.5.4, f.1.3.3.3.3.3.5.5.2, f.1.3.3.3.3.3.5.5.3, f.1.3.3.3.3.3.5.5.4, f.1.3.3.3.3.3.5.5.5.2, f.1.3.3.3.3.3.5.5.5.3, f.1.3.3.3.3.3.5.5.5.4, f.1.3.3.3.3.3.5.5.5.5) in
    (Strict f.1.3.3.0 f.1.3.3.1, refl, premises, conclusion, refl)

between : IsRow 61 w.between
between sign fs t f =
    let premises : premises_of (Between f.1.3.3.0 f.1.3.3.1) ≡ fs = cc (f.0, f.1.2, f.1.3.2, f.1.3.3.2, f.1.3.3.3.2, f.1.3.3.3.3.2, f.1.3.3.3.3.3.2, f.1.3.3.3.3.3.3, f.1.3.3.3.3.3.4, f.1.3.3.3.3.3.5.2, f.1.3.3.3.3.3.5.3, f.1.3.3.3.3.3.5.4, f.1.3.3.3.3.3.5.5.2, f.1.3.3.3.3.3.5.5.3, f.1.3.3.3.3.3.5.5.4, f.1.3.3.3.3.3.5.5.5.2, f.1.3.3.3.3.3.5.5.5.3, f.1.3.3.3.3.3.5.5.5.4, f.1.3.3.3.3.3.5.5.5.5) in
    let conclusion : conclusion_of (Between f.1.3.3.0 f.1.3.3.1) ≡ Says sign t = cc (f.0, f.1.2, f.1.3.2, f.1.3.3.2, f.1.3.3.3.2, f.1.3.3.3.3.2, f.1.3.3.3.3.3.2, f.1.3.3.3.3.3.3, f.1.3.3.3.3.3.4, f.1.3.3.3.3.3.5.2, f.1.3.3.3.3.3.5.3, f.1.3.3.3.3.3.5.4, f.1.3.3.3.3.3.5.5.2, f.1.3.3.3.3.3.5.5.3, f.1.3.3.3.3.3.5.5.4, f.1.3.3.3.3.3.5.5.5.2, f.1.3.3.3.3.3.5.5.5.3, f.1.3.3.3.3.3.5.5.5.4, f.1.3.3.3.3.3.5.5.5.5) in
    (Between f.1.3.3.0 f.1.3.3.1, refl, premises, conclusion, refl)

-- each row of a list is of its rule
abbrev pub AreRows : List (ℕ × List Step) → Type 0
AreRows [] = Unit {0}
AreRows (row ∷ more) = IsRow row.0 row.1 × AreRows more

pub all_rows : AreRows w.rows
all_rows = (and_left, (and_right, (no_or_left, (no_or_right, (not_holds, (not_fails, (or_else_right, (or_else_left, (no_and_right, (no_and_left, (ite_then, (ite_else, (no_ite_then, (no_ite_else, (eq_right, (eq_left, (unequal_right, (unequal_left, (itself, (turned, (through, (chosen, (passed, (read_back, (read_equal, (read_other, (read_const, (read_within, (read_above, (part_is, (read_below, (at_least, (at_most, (wraps_not, (quotient_low, (quotient_high, (quotient_high_negative, (quotient_low_negative, (remainder_is, (product_of_high, (product_of_low, (product_high_low, (product_low_high, (sum_of_store, (sum_of_none, (sum_at_least, (sum_over_one, (sum_over_two, (strict, (between, tt))))))))))))))))))))))))))))))))))))))))))))))))))
