-- Believed: what is told of a next term, and what a call that takes it in makes of the nodes. Hold it against the README's table of what is told of a term.
use Rattle.std.specs.Prelude.{ℕ, ◌<◌, true, List, [], ◌∷◌, ◌++◌, length, ◌≡◌}
use Rattle.std.specs.List.{AllByRecursion, Contains}
use Rattle.sv_term.specs.Sorts.{is_num}
use Rattle.sv_term.specs.Terms.{Shape, Term, App, Lit, Add, Sub, Mul, Le, Eq, fits, sort_of}
use Rattle.sv_log.specs.Logs.{nth_term, nth_terms}
use Rattle.sv_form.specs.declared.node.Linear.{Linear}
use Rattle.sv_form_rows.specs.TermForms.{is_own_column, IsPlain, AreFormsOf}
use Rattle.sv_term_forms.specs.declared.form_node.FormNode.{FormNode}
use Rattle.sv_term_forms.specs.declared.form_node.FormNode.TheVariants.{Literal, Sum, Difference, Product, AtMost, Equal, Other}

-- what it says of the term t after the terms ts; any other term is neither a literal nor a comparison, and stands for itself in forms
abbrev pub IsNodeOf : List Term → Term → FormNode → Type 0
IsNodeOf ts t (Literal negative number) = t ≡ Lit negative number
IsNodeOf ts t (Sum a b) = t ≡ Add (nth_term ts a) (nth_term ts b)
IsNodeOf ts t (Difference a b) = t ≡ Sub (nth_term ts a) (nth_term ts b)
IsNodeOf ts t (Product a b) = t ≡ Mul (nth_term ts a) (nth_term ts b)
IsNodeOf ts t (AtMost a b) = t ≡ Le (nth_term ts a) (nth_term ts b)
IsNodeOf ts t (Equal a b) = (t ≡ Eq (nth_term ts a) (nth_term ts b)) × (is_num (sort_of (nth_term ts a)) ≡ true)
IsNodeOf ts t Other = IsPlain t × (is_own_column t ≡ true)

-- the terms that it names are among the first n
abbrev pub IsNamedBelow : ℕ → FormNode → Type 0
IsNamedBelow n (Sum a b) = (a < n) × (b < n)
IsNamedBelow n (Difference a b) = (a < n) × (b < n)
IsNamedBelow n (Product a b) = (a < n) × (b < n)
IsNamedBelow n (AtMost a b) = (a < n) × (b < n)
IsNamedBelow n (Equal a b) = (a < n) × (b < n)
IsNamedBelow n node = Unit {0}

-- one node is behind the old ones
abbrev pub IsOneLonger : List Linear → List Linear → Type 0
IsOneLonger old new = (l : Linear) × (new ≡ old ++ l ∷ [])

-- where the old nodes are those of some terms, and t is a new term of which the node tells, the new nodes are those of the terms with t behind
abbrev pub TakesIn : List Linear → FormNode → List Linear → Type 0
TakesIn old node new = (ts : List Term) (t : Term) → AreFormsOf ts old → IsNodeOf ts t node → (Contains ts t → ⊥) → AreFormsOf (ts ++ t ∷ []) new

-- of every fitting term over the terms of a list some node tells
abbrev pub EachIsTold : Type 0
EachIsTold = (ts : List Term) (x : Shape) (ns : List ℕ) → AllByRecursion (λ n. n < length ts) ns → fits (App x (nth_terms ts ns)) ≡ true
    → (node : FormNode) × IsNamedBelow (length ts) node × IsNodeOf ts (App x (nth_terms ts ns)) node
