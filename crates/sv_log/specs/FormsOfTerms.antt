-- Believed: the linear forms of terms and of facts. Hold it against the README's paragraph on linear forms.
use Rattle.std.specs.Prelude.{ℕ, zero, suc, Bool, true, false, cond, not, ◌||◌, List, [], ◌∷◌, ◌≡◌, ℤ, pos, neg_ℤ, Option, None, Some, MatchBool}
use Rattle.std.specs.List.{Contains}
use Rattle.sv_term.specs.Sorts.{is_num, sort_at}
use Rattle.sv_term.specs.Terms.{Shape, LitNode, AddNode, SubNode, MulNode, LeNode, EqNode, Term, App, Terms, End, More, sorts_of, same_term, term_at}
use Rattle.sv_term.specs.FactRules.{Fact, Says}
use Rattle.sv_log.specs.LogEntries.{Row}
use Rattle.sv_log.specs.LogRows.{monomial, row, sum_of, multiple, difference, FitsRow}

abbrev pub is_lit : Term → Bool
is_lit (App (LitNode g m) ts) = true
is_lit t = false

abbrev pub lit_value : Term → ℤ
lit_value (App (LitNode g m) ts) = cond g (neg_ℤ (pos m)) (pos m)
lit_value t = pos 0

-- a term of numbers is a column, but for literals, sums, differences and products with a literal
abbrev pub is_column : Shape → Terms → Bool
is_column (LitNode g m) ts = false
is_column AddNode ts = false
is_column SubNode ts = false
is_column MulNode ts = not (is_lit (term_at 0 ts) || is_lit (term_at 1 ts))
is_column x ts = true

-- the number of a term
abbrev pub number_of : List Term → Term → ℕ
number_of [] t = 0
number_of (u ∷ us) t = cond (same_term u t) 0 (suc (number_of us t))

-- ---- the form of a term

abbrev pub form_at : ℕ → List Row → Row
form_at k [] = row (pos 0) []
form_at zero (f ∷ fs) = f
form_at (suc k) (f ∷ fs) = form_at k fs

-- the form of a node, from those of its arguments; c is its column
abbrev pub node_form : Row → Shape → Terms → List Row → Row
node_form c (LitNode g m) ts fs = row (lit_value (App (LitNode g m) ts)) []
node_form c AddNode ts fs = sum_of (form_at 0 fs) (form_at 1 fs)
node_form c SubNode ts fs = difference (form_at 0 fs) (form_at 1 fs)
node_form c MulNode ts fs =
    cond (is_lit (term_at 0 ts)) (multiple (lit_value (term_at 0 ts)) (form_at 1 fs))
    (cond (is_lit (term_at 1 ts)) (multiple (lit_value (term_at 1 ts)) (form_at 0 fs)) c)
node_form c x ts fs = c

abbrev mutual
  pub form : List Term → Term → Row
  form terms (App x ts) = node_form (row (pos 0) (monomial (pos 1) (number_of terms (App x ts)) ∷ [])) x ts (forms terms ts)

  pub forms : List Term → Terms → List Row
  forms terms End = []
  forms terms (More t ts) = form terms t ∷ forms terms ts

-- the forms of the term and of all terms on the way down to literals and columns have numbers in range, and the columns are there
abbrev mutual
  pub IsWorkedOut : List Term → Term → Type 0
  IsWorkedOut terms (App x ts) = FitsRow (form terms (App x ts)) × MatchBool (is_column x ts) (Contains terms (App x ts)) (AreWorkedOut terms ts)

  pub AreWorkedOut : List Term → Terms → Type 0
  AreWorkedOut terms End = Unit {0}
  AreWorkedOut terms (More t ts) = IsWorkedOut terms t × AreWorkedOut terms ts

-- ---- the form of a fact

-- `a <= b` is `a - b <= 0`, `a > b` is `b - a + 1 <= 0`, and `a = b` is `a - b <= 0`, and the other way round `b - a <= 0`
abbrev pub form_of_fact : List Term → Fact → Bool → Option Row
form_of_fact terms (Says true (App LeNode ts)) true = Some (difference (form_at 0 (forms terms ts)) (form_at 1 (forms terms ts)))
form_of_fact terms (Says false (App LeNode ts)) true =
    Some (sum_of (row (pos 1) []) (difference (form_at 1 (forms terms ts)) (form_at 0 (forms terms ts))))
form_of_fact terms (Says true (App EqNode ts)) forward =
    cond (is_num (sort_at 0 (sorts_of ts)))
    (cond forward
    (Some (difference (form_at 0 (forms terms ts)) (form_at 1 (forms terms ts))))
    (Some (difference (form_at 1 (forms terms ts)) (form_at 0 (forms terms ts)))))
    None
form_of_fact terms f forward = None

abbrev pub sides_of : Fact → Terms
sides_of (Says sign (App x ts)) = ts

-- r is the linear form of the fact
pub record IsFormOf (terms : List Term) (f : Fact) (forward : Bool) (r : Row) : Type 0 where
  pub is : form_of_fact terms f forward ≡ Some r
  pub sides : AreWorkedOut terms (sides_of f)
  pub fits : FitsRow r
