-- Lists of arguments of which the first have their numbers.
use Rattle.std.proofs.Common.{ℕ, zero, suc, ◌+◌, ◌<◌, true, false, List, [], ◌∷◌, ◌≡◌, length, take, slice_get, Option, Some, None, refl, sym, ap, ◌∙◌, subst, arith}
use Rattle.std.proofs.lemmas.Option.{slice_get_within}
use Rattle.sv_term.specs.declared.node.TermId.{TermId}
use Rattle.sv_term.specs.Banks.{AreBelow}
use Rattle.sv_goal_terms.specs.GoalNumbers.{HaveNumbers, has_number}

have_next : (ns : List (Option ℕ)) (ks : List TermId) (at : ℕ) (k : TermId) → slice_get ks at ≡ Some k → has_number ns k ≡ true
    → HaveNumbers ns (take at ks) → HaveNumbers ns (take (suc at) ks)
have_next ns [] at k e n h = cc e
have_next ns (j ∷ ks) zero k e n h = (cc (e, n), tt)
have_next ns (j ∷ ks) (suc at) k e n h = (h.0, have_next ns ks at k e n h.1)

pub have_more : (ns : List (Option ℕ)) (ks : List TermId) (at : ℕ) (k : TermId) → slice_get ks at ≡ Some k → has_number ns k ≡ true
    → HaveNumbers ns (take at ks) → HaveNumbers ns (take (at + 1) ks)
have_more ns ks at k e n h = let one : suc at ≡ at + 1 = omega arith in subst (λ (m : ℕ). HaveNumbers ns (take m ks)) one (have_next ns ks at k e n h)

pub have_all : (ns : List (Option ℕ)) (ks : List TermId) (at : ℕ) → slice_get ks at ≡ None → HaveNumbers ns (take at ks) → HaveNumbers ns ks
have_all ns [] at e h = tt
have_all ns (j ∷ ks) zero e h = cc e
have_all ns (j ∷ ks) (suc at) e h = (h.0, have_all ns ks at e h.1)

pub below_at : (m : ℕ) (ks : List TermId) (at : ℕ) (k : TermId) → AreBelow m ks → slice_get ks at ≡ Some k → k.0 < m
below_at m [] at k h e = cc e
below_at m (j ∷ ks) zero k h e = subst (λ (x : TermId). x.0 < m) (cc e) h.0
below_at m (j ∷ ks) (suc at) k h e = below_at m ks at k h.1 e

pub within_at : (ks : List TermId) (at : ℕ) (k : TermId) → slice_get ks at ≡ Some k → at < length ks
within_at ks at k e = slice_get_within ks at k e
