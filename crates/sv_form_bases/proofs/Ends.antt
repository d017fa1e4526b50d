-- Which edges a list has.
use Rattle.std.proofs.Common.{ℕ, zero, suc, ◌≡◌, ◌+◌, ◌<◌, ◌⊎◌, inl, inr, true, false, cond, List, [], ◌∷◌, ◌++◌, length, slice_index_or, refl, sym, subst, arith}
use Rattle.std.specs.Prelude.{nat_eq}
use Rattle.std.specs.List.{Contains}
use Rattle.std.proofs.lemmas.Bool.{cases_eq, eq-eqb, ne_eqb}
use Rattle.sv_reach.specs.Paths.{HasEdge}
use Rattle.sv_form_bases.specs.declared.graph.Edge.{Edge}
use Rattle.sv_form_bases.specs.EdgeGraphs.{targets, IsBelow, IsGraphOf}

abbrev pub Has : List Edge → ℕ → ℕ → Type 0
Has [] a b = ⊥
Has (e ∷ es) a b = ((e.from ≡ a) × (e.to ≡ b)) ⊎ Has es a b

pub has_left : (es fs : List Edge) (a b : ℕ) → Has es a b → Has (es ++ fs) a b
has_left [] fs a b h = absurd h
has_left (e ∷ es) fs a b h = elim h [ inl k ↦ inl k | inr k ↦ inr (has_left es fs a b k) ]

pub has_right : (es fs : List Edge) (a b : ℕ) → Has fs a b → Has (es ++ fs) a b
has_right [] fs a b h = h
has_right (e ∷ es) fs a b h = inr (has_right es fs a b h)

pub has_cases : (es fs : List Edge) (a b : ℕ) → Has (es ++ fs) a b → Has es a b ⊎ Has fs a b
has_cases [] fs a b h = inr h
has_cases (e ∷ es) fs a b h = elim h [
  | inl k ↦ inl (inl k)
  | inr k ↦ elim (has_cases es fs a b k) [ inl l ↦ inl (inr l) | inr r ↦ inr r ]
]

has_below : (n : ℕ) (es : List Edge) (a b : ℕ) → IsBelow n es → Has es a b → b < n
has_below n [] a b l h = absurd h
has_below n (e ∷ es) a b l h = elim h [ inl k ↦ subst (λ x. x < n) k.1 l.1 | inr k ↦ has_below n es a b l.2 k ]

-- ---- the targets of a node

at_first : (x : ℕ) (xs : List ℕ) → Contains (x ∷ xs) x
at_first x xs = (0, omega arith, refl)

at_next : (x y : ℕ) (xs : List ℕ) → Contains xs y → Contains (x ∷ xs) y
at_next x y xs c = (suc c.0, omega (arith, c.1), c.2)

has_target : (es : List Edge) (a b : ℕ) → Has es a b → Contains (targets es a) b
has_target [] a b h = absurd h
has_target (e ∷ es) a b h = elim h [
  | inl k ↦ subst (λ x. Contains (cond x (e.to ∷ targets es a) (targets es a)) b) (sym (eq-eqb e.from a k.0)) (subst (Contains (e.to ∷ targets es a)) k.1 (at_first e.to (targets es a)))
  | inr k ↦ (
      let c = has_target es a b k in
      elim (nat_eq e.from a) as (λ x. Contains (cond x (e.to ∷ targets es a) (targets es a)) b) [ true ↦ at_next e.to b (targets es a) c | false ↦ c ]
      )
]

first_or_later : (x y : ℕ) (xs : List ℕ) (i : ℕ) → i < length (x ∷ xs) → slice_index_or (x ∷ xs) i y ≡ y → (x ≡ y) ⊎ Contains xs y
first_or_later x y xs zero l e = inl e
first_or_later x y xs (suc i) l e = inr (i, omega (arith, l), e)

target_has : (es : List Edge) (a b : ℕ) → Contains (targets es a) b → Has es a b
target_has [] a b c = absurd (omega (arith, c.1))
target_has (e ∷ es) a b c = elim (cases_eq e.from a) [
  | inl same ↦ (
      let d : Contains (e.to ∷ targets es a) b = subst (λ x. Contains (cond x (e.to ∷ targets es a) (targets es a)) b) (eq-eqb e.from a same) c in
      elim (first_or_later e.to b (targets es a) d.0 d.1 d.2) [ inl k ↦ inl (same, k) | inr k ↦ inr (target_has es a b k) ]
      )
  | inr other ↦ inr (target_has es a b (subst (λ x. Contains (cond x (e.to ∷ targets es a) (targets es a)) b) (ne_eqb e.from a other) c))
]

-- ---- the edges of the graph are those of the list

pub edge_of : (es : List Edge) (g : List (List ℕ)) → IsGraphOf es g → (a b : ℕ) → Has es a b → HasEdge g a b
edge_of es g is a b h = (has_below (length g) es a b is.ends h, subst (λ r. Contains r b) (sym (is.rows a)) (has_target es a b h))

pub has_edge : (es : List Edge) (g : List (List ℕ)) → IsGraphOf es g → (a b : ℕ) → HasEdge g a b → Has es a b
has_edge es g is a b h = target_has es a b (subst (λ r. Contains r b) (is.rows a) h.1)
