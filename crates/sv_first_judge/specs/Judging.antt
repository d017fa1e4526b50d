-- Believed: how a function is judged: the forms of the variables at its end, its hypotheses, and its verdict. Hold it against docs/language.md on verdicts.
use Rattle.std.specs.Prelude.{◌≡◌, ◌==◌, ℕ, ◌+◌, ◌⊎◌, List, [], ◌∷◌, ◌++◌, All, Any, fold, length, map, codes, if◌then◌else◌}
use Rattle.sv_first_form.specs.declared.contract.Act.{Act}
use Rattle.sv_first_form.specs.declared.contract.Act.TheVariants.{Assign, Require}
use Rattle.sv_first_form.specs.declared.contract.Contract.{Contract}
use Rattle.sv_first_form.specs.declared.contract.Equation.{Equation}
use Rattle.sv_first_form.specs.declared.contract.Function.{Function}
use Rattle.sv_first_form.specs.declared.contract.Item.{Item}
use Rattle.sv_first_form.specs.declared.contract.Item.TheVariants.{Variable, Number}
use Rattle.sv_first_judge.specs.LinearForm.{LinearForm, IsSame, IsZero, number_form, variable_form, plus, minus, negation}
use Rattle.sv_first_judge.specs.declared.verdict.Verdict.{Verdict}
use Rattle.sv_first_judge.specs.declared.verdict.Verdict.TheVariants.{Verified, Unproved}

-- the form of an item and of a sum, where each variable has a form
abbrev pub item_form : (ℕ → LinearForm) → Item → LinearForm
item_form values (Variable v) = values v
item_form values (Number n) = number_form n

abbrev pub sum_form : (ℕ → LinearForm) → List Item → LinearForm
sum_form values [] = number_form 0
sum_form values (item ∷ items) = plus (item_form values item) (sum_form values items)

-- an equation as the form that is zero where it is true: the left side less the right
abbrev pub equation_form : (ℕ → LinearForm) → Equation → LinearForm
equation_form values e = minus (sum_form values e.left) (sum_form values e.right)

-- what is known at a point of a function: the form of each variable, and the forms that are zero there
pub record Known : Type 0 where
  pub values : ℕ → LinearForm
  pub hypotheses : List LinearForm

-- an assignment changes the form of its variable; a `require` is known after it
abbrev pub known_after : Known → Act → Known
known_after k (Assign v sum) =
    record { values = λ w. if w == v then sum_form k.values sum else k.values w; hypotheses = k.hypotheses }
known_after k (Require e) =
    record { values = k.values; hypotheses = k.hypotheses ++ equation_form k.values e ∷ [] }

-- the constructor starts from zeros, with no hypothesis
abbrev pub known_at_construction : Known
known_at_construction = record { values = λ _. number_form 0; hypotheses = [] }

-- a function starts from any values that meet the invariants
abbrev pub known_at_entry : Contract → Known
known_at_entry c = record { values = variable_form; hypotheses = map (equation_form variable_form) c.invariants }

-- what is judged, with its name in the report and what is known at its end
pub record Judged : Type 0 where
  pub name : List ℕ
  pub end : Known

abbrev pub judged_function : Contract → Function → Judged
judged_function c f = record { name = f.name; end = fold known_after (known_at_entry c) f.acts }

-- the constructor, the functions in order of the text, and ether that arrives by force, which changes no variable
abbrev pub judged_of : Contract → List Judged
judged_of c =
    record { name = codes "constructor"; end = known_at_construction } ∷ map (judged_function c) c.functions
    ++ record { name = codes "(gift)"; end = known_at_entry c } ∷ []

-- an equation is proved where its form is zero, or is that of a hypothesis or its negation
abbrev pub IsProved : Known → Equation → Type 0
IsProved k e =
    let form = equation_form k.values e in
    IsZero form ⊎ Any (λ hypothesis. IsSame form hypothesis ⊎ IsSame form (negation hypothesis)) k.hypotheses

-- the invariant of this number, counted from 1, is the first that isn't proved
pub record IsFirstUnproved (invariants : List Equation) (k : Known) (number : ℕ) : Type 0 where
  pub before : List Equation
  pub invariant : Equation
  pub after : List Equation
  pub place : invariants ≡ before ++ invariant ∷ after
  pub counted : number ≡ length before + 1
  pub proved : All (IsProved k) before
  pub unproved : IsProved k invariant → ⊥

-- verified with the number of invariants where each is proved, else unproved at the first that isn't
abbrev pub IsVerdict : List Equation → Known → Verdict → Type 0
IsVerdict invariants k (Verified n) = (n ≡ length invariants) × All (IsProved k) invariants
IsVerdict invariants k (Unproved n) = IsFirstUnproved invariants k n

-- one verdict for each that is judged, in order
abbrev pub AreVerdicts : List Equation → List Judged → List Verdict → Type 0
AreVerdicts invariants [] [] = Unit {0}
AreVerdicts invariants (j ∷ js) (v ∷ vs) = IsVerdict invariants j.end v × AreVerdicts invariants js vs
AreVerdicts invariants _ _ = ⊥
