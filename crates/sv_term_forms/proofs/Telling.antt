-- Of every fitting term some node tells.
use Rattle.std.proofs.Common.{ℕ, ◌<◌, Bool, true, false, List, [], ◌∷◌, length, ◌≡◌, refl}
use Rattle.std.specs.List.{AllByRecursion}
use Rattle.sv_term.specs.Sorts.{Sort, is_num}
use Rattle.sv_term.specs.Terms.{Shape, LitNode, AddNode, SubNode, MulNode, LeNode, EqNode, Term, App, both_num, of_none, of_two, fits_node, sort_of, sorts_of}
use Rattle.sv_term.specs.Sorts.{matches}
use Rattle.sv_term.proofs.Same.{both_true}
use Rattle.sv_log.specs.Logs.{nth_term, nth_terms}
use Rattle.sv_term_forms.specs.declared.form_node.FormNode.{FormNode}
use Rattle.sv_term_forms.specs.declared.form_node.FormNode.TheVariants.{Literal, Sum, Difference, Product, AtMost, Equal, Other}
use Rattle.sv_term_forms.specs.NextTerms.{IsNodeOf, IsNamedBelow, EachIsTold}

module _ (ts : List Term) where
  abbrev AreThere : List ℕ → Type 0
  AreThere ns = AllByRecursion (λ n. n < length ts) ns

  abbrev IsTold : Shape → List ℕ → Type 0
  IsTold x ns = (node : FormNode) × IsNamedBelow (length ts) node × IsNodeOf ts (App x (nth_terms ts ns)) node

  no_arguments : (x : Shape) (ns : List ℕ) → of_none true (sorts_of (nth_terms ts ns)) ≡ true → IsTold x [] → IsTold x ns
  no_arguments x [] e t = t
  no_arguments x (n ∷ ns) e t = cc e

  two_arguments : (x : Shape) (f : Sort → Sort → Bool) (ns : List ℕ) → AreThere ns → of_two f (sorts_of (nth_terms ts ns)) ≡ true
      → ((i j : ℕ) → (i < length ts) × (j < length ts) → IsTold x (i ∷ j ∷ [])) → IsTold x ns
  two_arguments x f [] a e t = cc e
  two_arguments x f (i ∷ []) a e t = cc e
  two_arguments x f (i ∷ j ∷ []) a e t = t i j (a.0, a.1.0)
  two_arguments x f (i ∷ j ∷ k ∷ ns) a e t = cc e

  equation : (i j : ℕ) → (i < length ts) × (j < length ts) → (b : Bool) → is_num (sort_of (nth_term ts i)) ≡ b → IsTold EqNode (i ∷ j ∷ [])
  equation i j h true e = (Equal i j, h, (refl, e))
  equation i j h false e = (Other, tt, (record { no_literal = refl; no_comparison = e }, refl))

  told : (x : Shape) (ns : List ℕ) → AreThere ns → fits_node x (sorts_of (nth_terms ts ns)) ≡ true → IsTold x ns
  told (LitNode g m) ns a e = no_arguments (LitNode g m) ns e (Literal g m, tt, refl)
  told AddNode ns a e = two_arguments AddNode both_num ns a e (λ i j h. (Sum i j, h, refl))
  told SubNode ns a e = two_arguments SubNode both_num ns a e (λ i j h. (Difference i j, h, refl))
  told MulNode ns a e = two_arguments MulNode both_num ns a e (λ i j h. (Product i j, h, refl))
  told LeNode ns a e = two_arguments LeNode both_num ns a e (λ i j h. (AtMost i j, h, refl))
  told EqNode ns a e = two_arguments EqNode matches ns a e (λ i j h. equation i j h (is_num (sort_of (nth_term ts i))) refl)
  told x ns a e = (Other, tt, (record { no_literal = refl; no_comparison = refl }, refl))

pub each_told : EachIsTold
each_told ts x ns a e = told ts x ns a (both_true _ _ e).1
