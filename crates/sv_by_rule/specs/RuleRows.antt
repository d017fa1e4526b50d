-- Serves the proof: the rules as patterns. That they say what the table of rules says is a law.
use Rattle.std.specs.Prelude.{ℕ, true, false, cond, nat_eq, List, [], ◌∷◌, ◌≡◌, ◌↔◌}
use Rattle.sv_term.specs.FactRules.{Fact, IsByRule}
use Rattle.sv_pattern.specs.Patterns.{IsByPattern}
use Rattle.sv_pattern.specs.declared.numbers.Name.TheVariants as n
use Rattle.sv_pattern.specs.declared.step.Sign.TheVariants.{Plus, Minus, Same, Other}
use Rattle.sv_pattern.specs.declared.step.Property.TheVariants.{IsZero, IsDivisor, IsPlain, IsSummable}
use Rattle.sv_pattern.specs.declared.step.Relation.TheVariants.{IsSame, IsOneLess, IsLeast, IsGreatest, IsConst, IsWrap, IsPart}
use Rattle.sv_pattern.specs.declared.step.Step.{Step}
use Rattle.sv_pattern.specs.declared.step.Step.TheVariants.{Concludes, Premise, One, Two, Three, Is, Are, InRange}

abbrev pub and_left : List Step
and_left = Concludes true ∷ Premise Plus ∷ Two 1 n.And ∷ Are IsSame 0 2 ∷ []

abbrev pub and_right : List Step
and_right = Concludes true ∷ Premise Plus ∷ Two 1 n.And ∷ Are IsSame 0 3 ∷ []

abbrev pub no_or_left : List Step
no_or_left = Concludes false ∷ Premise Minus ∷ Two 1 n.Or ∷ Are IsSame 0 2 ∷ []

abbrev pub no_or_right : List Step
no_or_right = Concludes false ∷ Premise Minus ∷ Two 1 n.Or ∷ Are IsSame 0 3 ∷ []

abbrev pub not_holds : List Step
not_holds = Concludes false ∷ Premise Plus ∷ One 1 n.Not ∷ Are IsSame 0 2 ∷ []

abbrev pub not_fails : List Step
not_fails = Concludes true ∷ Premise Minus ∷ One 1 n.Not ∷ Are IsSame 0 2 ∷ []

abbrev pub or_else_right : List Step
or_else_right = Concludes true ∷ Premise Plus ∷ Premise Minus ∷ Two 1 n.Or ∷ Are IsSame 2 3 ∷ Are IsSame 0 4 ∷ []

abbrev pub or_else_left : List Step
or_else_left = Concludes true ∷ Premise Plus ∷ Premise Minus ∷ Two 1 n.Or ∷ Are IsSame 2 4 ∷ Are IsSame 0 3 ∷ []

abbrev pub no_and_right : List Step
no_and_right = Concludes false ∷ Premise Minus ∷ Premise Plus ∷ Two 1 n.And ∷ Are IsSame 2 3 ∷ Are IsSame 0 4 ∷ []

abbrev pub no_and_left : List Step
no_and_left = Concludes false ∷ Premise Minus ∷ Premise Plus ∷ Two 1 n.And ∷ Are IsSame 2 4 ∷ Are IsSame 0 3 ∷ []

abbrev pub ite_then : List Step
ite_then = Concludes true ∷ Premise Plus ∷ Premise Plus ∷ Three 1 n.Ite ∷ Are IsSame 2 3 ∷ Are IsSame 0 4 ∷ []

abbrev pub ite_else : List Step
ite_else = Concludes true ∷ Premise Plus ∷ Premise Minus ∷ Three 1 n.Ite ∷ Are IsSame 2 3 ∷ Are IsSame 0 5 ∷ []

abbrev pub no_ite_then : List Step
no_ite_then = Concludes false ∷ Premise Minus ∷ Premise Plus ∷ Three 1 n.Ite ∷ Are IsSame 2 3 ∷ Are IsSame 0 4 ∷ []

abbrev pub no_ite_else : List Step
no_ite_else = Concludes false ∷ Premise Minus ∷ Premise Minus ∷ Three 1 n.Ite ∷ Are IsSame 2 3 ∷ Are IsSame 0 5 ∷ []

abbrev pub eq_right : List Step
eq_right = Premise Plus ∷ Premise Same ∷ Two 1 n.Eq ∷ Are IsSame 2 3 ∷ Are IsSame 0 4 ∷ []

abbrev pub eq_left : List Step
eq_left = Premise Plus ∷ Premise Same ∷ Two 1 n.Eq ∷ Are IsSame 2 4 ∷ Are IsSame 0 3 ∷ []

abbrev pub unequal_right : List Step
unequal_right = Premise Minus ∷ Premise Other ∷ Two 1 n.Eq ∷ Are IsSame 2 3 ∷ Are IsSame 0 4 ∷ []

abbrev pub unequal_left : List Step
unequal_left = Premise Minus ∷ Premise Other ∷ Two 1 n.Eq ∷ Are IsSame 2 4 ∷ Are IsSame 0 3 ∷ []

abbrev pub itself : List Step
itself = Concludes true ∷ Two 0 n.Eq ∷ Are IsSame 1 2 ∷ []

abbrev pub turned : List Step
turned = Concludes true ∷ Premise Plus ∷ Two 1 n.Eq ∷ Two 0 n.Eq ∷ Are IsSame 4 3 ∷ Are IsSame 5 2 ∷ []

abbrev pub through : List Step
through = Concludes true ∷ Premise Plus ∷ Premise Plus ∷ Two 1 n.Eq ∷ Two 2 n.Eq ∷ Two 0 n.Eq ∷ Are IsSame 5 4 ∷ Are IsSame 7 3 ∷ Are IsSame 8 6 ∷ []

abbrev pub chosen : List Step
chosen = Concludes true ∷ Premise Plus ∷ Two 0 n.Eq ∷ Three 2 n.Ite ∷ Are IsSame 1 4 ∷ Are IsSame 3 5 ∷ []

abbrev pub passed : List Step
passed = Concludes true ∷ Premise Minus ∷ Two 0 n.Eq ∷ Three 2 n.Ite ∷ Are IsSame 1 4 ∷ Are IsSame 3 6 ∷ []

abbrev pub read_back : List Step
read_back = Concludes true ∷ Two 0 n.Eq ∷ Two 1 n.Sel ∷ Three 3 n.Sto ∷ Are IsSame 4 6 ∷ Are IsSame 2 7 ∷ InRange 1 2 ∷ []

abbrev pub read_equal : List Step
read_equal = Concludes true ∷ Premise Plus ∷ Two 1 n.Eq ∷ Two 0 n.Eq ∷ Two 4 n.Sel ∷ Three 6 n.Sto ∷ Are IsSame 9 2 ∷ Are IsSame 7 3 ∷ Are IsSame 5 10 ∷ InRange 4 5 ∷ []

abbrev pub read_other : List Step
read_other = Concludes true ∷ Premise Minus ∷ Two 1 n.Eq ∷ Two 0 n.Eq ∷ Two 4 n.Sel ∷ Three 6 n.Sto ∷ Two 5 n.Sel ∷ Are IsSame 9 2 ∷ Are IsSame 7 3 ∷ Are IsSame 11 8 ∷ Are IsSame 12 3 ∷ []

abbrev pub read_const : List Step
read_const = Concludes true ∷ Two 0 n.Eq ∷ Two 1 n.Sel ∷ Are IsConst 3 2 ∷ InRange 1 2 ∷ []

abbrev pub read_within : List Step
read_within = Concludes true ∷ Premise Minus ∷ Premise Plus ∷ Two 1 n.Le ∷ Two 2 n.Le ∷ Is IsZero 5 ∷ Are IsSame 6 4 ∷ Two 0 n.Eq ∷ Two 7 n.Sel ∷ Three 9 n.Mix ∷ Two 8 n.Sel ∷ Are IsSame 11 3 ∷ Are IsSame 10 4 ∷ Are IsSame 14 12 ∷ Are IsSame 15 4 ∷ []

abbrev pub read_above : List Step
read_above = Concludes true ∷ Premise Plus ∷ Two 1 n.Le ∷ Two 0 n.Eq ∷ Two 4 n.Sel ∷ Three 6 n.Mix ∷ Two 5 n.Sel ∷ Are IsSame 8 2 ∷ Are IsSame 7 3 ∷ Are IsSame 11 10 ∷ Are IsSame 12 3 ∷ []

abbrev pub part_is : List Step
part_is = Concludes true ∷ Two 0 n.Eq ∷ Are IsPart 1 2 ∷ InRange 1 2 ∷ []

abbrev pub read_below : List Step
read_below = Concludes true ∷ Premise Minus ∷ Two 1 n.Le ∷ Is IsZero 2 ∷ Two 0 n.Eq ∷ Two 4 n.Sel ∷ Three 6 n.Mix ∷ Two 5 n.Sel ∷ Are IsSame 7 3 ∷ Are IsSame 11 10 ∷ Are IsSame 12 3 ∷ []

abbrev pub at_least : List Step
at_least = Concludes true ∷ Two 0 n.Le ∷ Are IsLeast 1 2 ∷ []

abbrev pub at_most : List Step
at_most = Concludes true ∷ Two 0 n.Le ∷ Are IsGreatest 2 1 ∷ []

abbrev pub wraps_not : List Step
wraps_not = Concludes true ∷ Two 0 n.Eq ∷ Are IsWrap 1 2 ∷ InRange 1 2 ∷ []

abbrev pub quotient_low : List Step
quotient_low = Concludes true ∷ Premise Plus ∷ Two 1 n.Le ∷ Is IsZero 2 ∷ Two 0 n.Le ∷ Are IsSame 5 3 ∷ Two 4 n.Mul ∷ Is IsDivisor 6 ∷ Two 7 n.Div ∷ Are IsSame 8 3 ∷ Are IsSame 9 6 ∷ []

abbrev pub quotient_high : List Step
quotient_high = Concludes true ∷ Premise Plus ∷ Two 1 n.Le ∷ Is IsZero 2 ∷ Two 0 n.Le ∷ Are IsSame 4 3 ∷ Two 5 n.Add ∷ Two 6 n.Mul ∷ Two 9 n.Div ∷ Are IsSame 10 3 ∷ Are IsSame 11 8 ∷ Are IsOneLess 7 8 ∷ []

abbrev pub quotient_high_negative : List Step
quotient_high_negative = Concludes true ∷ Premise Minus ∷ Two 1 n.Le ∷ Is IsZero 2 ∷ Two 0 n.Le ∷ Are IsSame 4 3 ∷ Two 5 n.Mul ∷ Is IsDivisor 6 ∷ Two 7 n.Div ∷ Are IsSame 8 3 ∷ Are IsSame 9 6 ∷ []

abbrev pub quotient_low_negative : List Step
quotient_low_negative = Concludes true ∷ Premise Minus ∷ Two 1 n.Le ∷ Is IsZero 2 ∷ Two 0 n.Le ∷ Are IsSame 5 3 ∷ Two 4 n.Sub ∷ Two 6 n.Mul ∷ Two 9 n.Div ∷ Are IsSame 10 3 ∷ Are IsSame 11 8 ∷ Are IsOneLess 7 8 ∷ []

abbrev pub remainder_is : List Step
remainder_is = Concludes true ∷ Two 0 n.Eq ∷ Two 1 n.Mod ∷ Is IsDivisor 4 ∷ Two 2 n.Sub ∷ Are IsSame 5 3 ∷ Two 6 n.Mul ∷ Are IsSame 7 4 ∷ Two 8 n.Div ∷ Are IsSame 9 3 ∷ Are IsSame 10 4 ∷ []

abbrev pub product_of_high : List Step
product_of_high = Concludes true ∷ Premise Plus ∷ Premise Plus ∷ Two 1 n.Le ∷ Is IsZero 3 ∷ Two 2 n.Le ∷ Is IsZero 5 ∷ Two 0 n.Le ∷ Is IsZero 7 ∷ Two 8 n.Mul ∷ Are IsSame 9 4 ∷ Are IsSame 10 6 ∷ []

abbrev pub product_of_low : List Step
product_of_low = Concludes true ∷ Premise Plus ∷ Premise Plus ∷ Two 1 n.Le ∷ Is IsZero 4 ∷ Two 2 n.Le ∷ Is IsZero 6 ∷ Two 0 n.Le ∷ Is IsZero 7 ∷ Two 8 n.Mul ∷ Are IsSame 9 3 ∷ Are IsSame 10 5 ∷ []

abbrev pub product_high_low : List Step
product_high_low = Concludes true ∷ Premise Plus ∷ Premise Plus ∷ Two 1 n.Le ∷ Is IsZero 3 ∷ Two 2 n.Le ∷ Is IsZero 6 ∷ Two 0 n.Le ∷ Is IsZero 8 ∷ Two 7 n.Mul ∷ Are IsSame 9 4 ∷ Are IsSame 10 5 ∷ []

abbrev pub product_low_high : List Step
product_low_high = Concludes true ∷ Premise Plus ∷ Premise Plus ∷ Two 1 n.Le ∷ Is IsZero 4 ∷ Two 2 n.Le ∷ Is IsZero 5 ∷ Two 0 n.Le ∷ Is IsZero 8 ∷ Two 7 n.Mul ∷ Are IsSame 9 3 ∷ Are IsSame 10 6 ∷ []

abbrev pub sum_of_store : List Step
sum_of_store = Concludes true ∷ Two 0 n.Eq ∷ One 1 n.Sum ∷ Three 3 n.Sto ∷ Two 2 n.Add ∷ One 7 n.Sum ∷ Are IsSame 9 4 ∷ Two 8 n.Sub ∷ Are IsSame 10 6 ∷ Two 11 n.Sel ∷ Are IsSame 12 4 ∷ Are IsSame 13 5 ∷ Is IsPlain 4 ∷ InRange 11 6 ∷ []

abbrev pub sum_of_none : List Step
sum_of_none = Concludes true ∷ Two 0 n.Eq ∷ One 1 n.Sum ∷ Are IsConst 3 2 ∷ Is IsZero 2 ∷ []

abbrev pub sum_at_least : List Step
sum_at_least = Concludes true ∷ Two 0 n.Le ∷ Is IsZero 1 ∷ One 2 n.Sum ∷ Is IsSummable 3 ∷ []

abbrev pub sum_over_one : List Step
sum_over_one = Concludes true ∷ Two 0 n.Le ∷ Two 1 n.Sel ∷ One 2 n.Sum ∷ Are IsSame 5 3 ∷ Is IsSummable 3 ∷ []

abbrev pub sum_over_two : List Step
sum_over_two = Concludes true ∷ Premise Minus ∷ Two 1 n.Eq ∷ Two 0 n.Le ∷ Two 4 n.Add ∷ Two 6 n.Sel ∷ Two 7 n.Sel ∷ One 5 n.Sum ∷ Are IsSame 9 2 ∷ Are IsSame 11 3 ∷ Are IsSame 10 8 ∷ Are IsSame 12 8 ∷ Is IsSummable 8 ∷ []

abbrev pub strict : List Step
strict = Concludes false ∷ Premise Minus ∷ Premise Plus ∷ Two 1 n.Eq ∷ Two 2 n.Le ∷ Two 0 n.Le ∷ Are IsSame 5 3 ∷ Are IsSame 6 4 ∷ Are IsSame 7 4 ∷ Are IsSame 8 3 ∷ []

abbrev pub between : List Step
between = Concludes true ∷ Premise Plus ∷ Premise Plus ∷ Two 1 n.Le ∷ Two 2 n.Le ∷ Two 0 n.Eq ∷ Are IsSame 5 4 ∷ Are IsSame 6 3 ∷ Are IsSame 7 3 ∷ Are IsSame 8 4 ∷ []

-- nothing follows by it
abbrev pub nothing : List Step
nothing = Concludes true ∷ Concludes false ∷ []

-- each rule's number with its pattern; congruence, whose number is 23, has none
abbrev pub rows : List (ℕ × List Step)
rows =
    (1, and_left) ∷
    (2, and_right) ∷
    (3, no_or_left) ∷
    (4, no_or_right) ∷
    (5, not_holds) ∷
    (6, not_fails) ∷
    (7, or_else_right) ∷
    (8, or_else_left) ∷
    (9, no_and_right) ∷
    (10, no_and_left) ∷
    (11, ite_then) ∷
    (12, ite_else) ∷
    (13, no_ite_then) ∷
    (14, no_ite_else) ∷
    (15, eq_right) ∷
    (16, eq_left) ∷
    (17, unequal_right) ∷
    (18, unequal_left) ∷
    (20, itself) ∷
    (21, turned) ∷
    (22, through) ∷
    (24, chosen) ∷
    (25, passed) ∷
    (30, read_back) ∷
    (31, read_equal) ∷
    (32, read_other) ∷
    (33, read_const) ∷
    (34, read_within) ∷
    (35, read_above) ∷
    (36, part_is) ∷
    (37, read_below) ∷
    (40, at_least) ∷
    (41, at_most) ∷
    (42, wraps_not) ∷
    (43, quotient_low) ∷
    (44, quotient_high) ∷
    (45, quotient_high_negative) ∷
    (46, quotient_low_negative) ∷
    (47, remainder_is) ∷
    (48, product_of_high) ∷
    (49, product_of_low) ∷
    (50, product_high_low) ∷
    (51, product_low_high) ∷
    (52, sum_of_store) ∷
    (53, sum_of_none) ∷
    (54, sum_at_least) ∷
    (55, sum_over_one) ∷
    (56, sum_over_two) ∷
    (60, strict) ∷
    (61, between) ∷
    []

abbrev pub looked_up : ℕ → List (ℕ × List Step) → List Step
looked_up r [] = nothing
looked_up r (row ∷ more) = cond (nat_eq r row.0) row.1 (looked_up r more)

abbrev pub steps_of : ℕ → List Step
steps_of r = looked_up r rows

-- but for congruence, the pattern of a rule is the rule
abbrev pub PatternsAreRules : Type 0
PatternsAreRules = (r : ℕ) → (r ≡ 23 → ⊥) → (fs : List Fact) (c : Fact) → IsByPattern (steps_of r) fs c ↔ IsByRule r fs c
