-- A node is on a ring where one of its successors reaches it; marks one after another.
use Rattle.std.proofs.Common.{inl, inr, ℕ, zero, suc, ◌≡◌, ◌∙◌, ◌+◌, ◌<◌, ◌↔◌, Bool, false, IsTrue, List, [], ◌∷◌, ◌++◌, length, get_or, slice_index_or, refl, sym, ap, subst, arith, length-append}
use Rattle.std.proofs.lemmas.List.{get_or_append_left, get_or_push}
use Rattle.std.proofs.lemmas.Bool.{cases_lt}
use Rattle.sv_reach.specs.Paths.{Path, IsReached, IsOnRing, AreMarks}
use Rattle.sv_reach.proofs.Following.{edge_from}

begins_at_node : (g : List (List ℕ)) (n a b : ℕ) → Path g n a b → b < length g → a < length g
begins_at_node g zero a b p l = subst (λ x. x < length g) (sym p) l
begins_at_node g (suc n) a b p l = edge_from g a p.0 p.1

pub ring_by_successor : (g : List (List ℕ)) (a : ℕ) → a < length g → IsReached g (slice_index_or g a []) a ↔ IsOnRing g a
ring_by_successor g a l = (
  λ r. (r.2.0, (r.0, (begins_at_node g r.2.0 r.0 a r.2.1 l, r.1), r.2.1)),
  λ r. (r.1.0, r.1.1.1, (r.0, r.1.2)),
)

pub no_marks : (P : ℕ → Type 0) → AreMarks 0 P []
no_marks P = (refl, λ a l. absurd (omega (arith, l)))

pub one_mark_more : (P : ℕ → Type 0) (n : ℕ) (marks : List Bool) (b : Bool) → AreMarks n P marks → IsTrue b ↔ P n → AreMarks (n + 1) P (marks ++ b ∷ [])
one_mark_more P n marks b m is = (
  omega (arith, length-append marks (b ∷ []), m.0),
  λ a l. elim (cases_lt a n) [
    | inl k ↦ subst (λ x. IsTrue x ↔ P a) (sym (get_or_append_left marks (b ∷ []) false a (omega (arith, k, m.0)))) (m.1 a k)
    | inr k ↦ (
        let e : a ≡ n = omega (arith, k, l) in
        subst (λ x. IsTrue (get_or (marks ++ b ∷ []) x false) ↔ P x) (sym e) (subst (λ x. IsTrue x ↔ P n) (sym (get_or_push marks b false n m.0)) is))
  ],
)

pub ring_found : (g : List (List ℕ)) (n : ℕ) (next : List ℕ) (met : List Bool) (b : Bool) → n < length g → next ≡ slice_index_or g n [] → AreMarks (length g) (IsReached g next) met → b ≡ get_or met n false → IsTrue b ↔ IsOnRing g n
ring_found g n next met b l own all e =
    let q = subst (λ x. IsTrue x ↔ IsReached g next n) (sym e) (all.1 n l) in
    let w = subst (λ x. IsTrue b ↔ IsReached g x n) own q in
    let i = ring_by_successor g n l in
    (λ t. i.0 (w.0 t), λ t. w.1 (i.1 t))
