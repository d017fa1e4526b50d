-- What is reached from the ends of a node's edges is what the node leads to.
use Rattle.std.proofs.Common.{ℕ, zero, suc, ◌≡◌, ◌∙◌, ◌<◌, ◌↔◌, inl, inr, Bool, true, false, IsTrue, List, [], length, get_or, slice_index_or, sym, ap, subst, arith}
use Rattle.std.specs.List.{Contains}
use Rattle.std.proofs.lemmas.List.{get_or_past}
use Rattle.std.proofs.lemmas.Bool.{cases_lt, false≢true}
use Rattle.sv_reach.specs.Paths.{Path, IsReached, AreMarks}
use Rattle.sv_form_bases.specs.EdgeGraphs.{Leads}

-- an edge begins at a node, and so does a path that ends at one
edge_from : (g : List (List ℕ)) (a b : ℕ) → Contains (slice_index_or g a []) b → a < length g
edge_from g a b c = elim (cases_lt a (length g)) [
  | inl l ↦ l
  | inr l ↦ absurd (let none = ap length (get_or_past g a [] l) in omega (arith, none, c.1))
]

path_from : (g : List (List ℕ)) (n a b : ℕ) → Path g n a b → b < length g → a < length g
path_from g zero a b p l = subst (λ x. x < length g) (sym p) l
path_from g (suc n) a b p l = edge_from g a p.0 p.1.1

path_to : (g : List (List ℕ)) (n a b : ℕ) → Path g (suc n) a b → b < length g
path_to g zero a b p = subst (λ x. x < length g) p.2 p.1.0
path_to g (suc n) a b p = path_to g n p.0 b p.2

pub leads_by_marks : (g : List (List ℕ)) (a b : ℕ) (marks : List Bool) (r : Bool) → AreMarks (length g) (IsReached g (slice_index_or g a [])) marks → r ≡ get_or marks b false → IsTrue r ↔ Leads g a b
leads_by_marks g a b marks r m e = elim (cases_lt b (length g)) [
  | inl l ↦ (
      let here = m.1 b l in (
        λ t. let p = here.0 (subst IsTrue e t) in (p.2.0, (p.0, (path_from g p.2.0 p.0 b p.2.1 l, p.1), p.2.1)),
        λ p. subst IsTrue (sym e) (here.1 (p.1.0, p.1.1.1, (p.0, p.1.2))),
      )
      )
  | inr l ↦ (
    λ t. absurd (let none = get_or_past marks b false (omega (arith, l, m.0)) in false≢true (sym (e ∙ none) ∙ t)),
    λ p. absurd (let k = path_to g p.0 a b p.1 in omega (arith, k, l)),
  )
]
