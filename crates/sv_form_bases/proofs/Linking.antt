-- Edges that are added one after another make the graph of their list.
use Rattle.std.proofs.Common.{ℕ, suc, zero, ◌≡◌, ◌∙◌, ◌+◌, ◌<◌, ◌≤◌, inl, inr, true, false, cond, List, [], ◌∷◌, ◌++◌, length, get_or, replicate, refl, sym, ap, subst, arith, max}
use Rattle.std.specs.Prelude.{nat_eq}
use Rattle.std.proofs.lemmas.List.{append_assoc, append-nil, get_or-set_same, get_or-set_other, length-set, length-replicate}
use Rattle.std.proofs.lemmas.Bool.{cases_eq, eq-eqb, ne_eqb}
use Rattle.sv_form_bases.specs.declared.graph.Edge.{Edge}
use Rattle.sv_form_bases.specs.EdgeGraphs.{targets, IsBelow, IsGraphOf, room_from, linked, linked_all}

-- ---- room

at_least : (n : ℕ) (es : List Edge) → n ≤ room_from n es
at_least n [] = omega arith
at_least n (e ∷ es) = let r = at_least (max (max n (e.from + 1)) (e.to + 1)) es in omega (arith, r)

has_room : (n : ℕ) (es : List Edge) → IsBelow (room_from n es) es
has_room n [] = tt
has_room n (e ∷ es) =
    let m = max (max n (e.from + 1)) (e.to + 1) in
    let r : m ≤ room_from m es = at_least m es in
    (omega (arith, r), omega (arith, r), has_room m es)

-- ---- one edge

no_row : (n a : ℕ) → get_or (replicate {A = List ℕ} n []) a [] ≡ []
no_row zero a = refl
no_row (suc n) zero = refl
no_row (suc n) (suc a) = no_row n a

-- the row of each node behind one edge more
row_linked : (e : Edge) (g : List (List ℕ)) (a : ℕ) → e.from < length g → get_or (linked e g) a [] ≡ get_or g a [] ++ targets (e ∷ []) a
row_linked e g a l = elim (cases_eq e.from a) [
  | inl same ↦ (
      let q = eq-eqb e.from a same in
      subst (λ x. get_or (linked e g) x [] ≡ get_or g x [] ++ cond (nat_eq e.from x) (e.to ∷ []) []) same
      (get_or-set_same g e.from (get_or g e.from [] ++ e.to ∷ []) [] l ∙ ap (λ b. get_or g e.from [] ++ cond b (e.to ∷ []) []) (sym (eq-eqb e.from e.from refl)))
      )
  | inr other ↦ (
      get_or-set_other g e.from a (get_or g e.from [] ++ e.to ∷ []) [] (λ q. other (sym q))
      ∙ sym (append-nil (get_or g a []))
      ∙ ap (λ b. get_or g a [] ++ cond b (e.to ∷ []) []) (sym (ne_eqb e.from a other))
      )
]

targets_cons : (e : Edge) (es : List Edge) (a : ℕ) → targets (e ∷ es) a ≡ targets (e ∷ []) a ++ targets es a
targets_cons e es a = elim (nat_eq e.from a) as (λ b. cond b (e.to ∷ targets es a) (targets es a) ≡ cond b (e.to ∷ []) [] ++ targets es a) [ true ↦ refl | false ↦ refl ]

-- ---- all edges

rows_linked : (es : List Edge) (g : List (List ℕ)) (a : ℕ) → IsBelow (length g) es → get_or (linked_all es g) a [] ≡ get_or g a [] ++ targets es a
rows_linked [] g a b = sym (append-nil (get_or g a []))
rows_linked (e ∷ es) g a b =
    let row = get_or g e.from [] ++ e.to ∷ [] in
    rows_linked es (linked e g) a (subst (λ n. IsBelow n es) (sym (length-set g e.from row)) b.2)
    ∙ ap (λ r. r ++ targets es a) (row_linked e g a b.0)
    ∙ append_assoc (get_or g a []) (targets (e ∷ []) a) (targets es a)
    ∙ ap (λ r. get_or g a [] ++ r) (sym (targets_cons e es a))

length-linked : (es : List Edge) (g : List (List ℕ)) → length (linked_all es g) ≡ length g
length-linked [] g = refl
length-linked (e ∷ es) g = length-linked es (linked e g) ∙ length-set g e.from (get_or g e.from [] ++ e.to ∷ [])

pub is_graph : (es : List Edge) (g : List (List ℕ)) → g ≡ linked_all es (replicate (room_from 0 es) []) → IsGraphOf es g
is_graph es g h =
    let n = room_from 0 es in
    let size : length (replicate {A = List ℕ} n []) ≡ n = length-replicate n [] in
    let below : IsBelow (length (replicate {A = List ℕ} n [])) es = subst (λ m. IsBelow m es) (sym size) (has_room 0 es) in
    subst (IsGraphOf es) (sym h) (record {
      rows = λ a. rows_linked es (replicate n []) a below ∙ ap (λ r. r ++ targets es a) (no_row n a);
      ends = subst (λ m. IsBelow m es) (sym (length-linked es (replicate n []))) below;
    })
