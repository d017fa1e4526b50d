-- Lists that a loop builds item by item.
use Rattle.std.proofs.Common.{ℕ, zero, suc, ◌+◌, ◌<◌, ◌≤◌, ◌≡◌, List, [], ◌∷◌, ◌++◌, map, length, get_or, drop, sym, ap, ◌∙◌, subst, append_assoc, append-nil, arith}
use Rattle.std.proofs.lemmas.List.{drop_more, drop_all}
use Rattle.sv_term.specs.Terms.{Term}
use Rattle.sv_term.specs.Banks.{Nodes, IsTerm, AreTerms, AreBelow, Keeps, term, term_list}
use Rattle.sv_term.specs.declared.node.TermId.{TermId}
use Rattle.sv_term.proofs.BankLists.{list_push, list_nil, within_push}

pub push_step : {A B : Type 0} → (f : A → B) (outs : List B) (xs : List A) (i : ℕ) (d : A) (y : B) (all : List B) → i < length xs → y ≡ f (get_or xs i d) → outs ++ map f (drop i xs) ≡ all → (outs ++ y ∷ []) ++ map f (drop (i + 1) xs) ≡ all
push_step f outs xs i d y all h g k =
    append_assoc outs (y ∷ []) (map f (drop (i + 1) xs)) ∙ (ap (λ z. outs ++ z ∷ map f (drop (i + 1) xs)) g ∙ (ap (λ z. outs ++ map f z) (sym (drop_more xs i d h)) ∙ k))

pub push_end : {A B : Type 0} → (f : A → B) (outs : List B) (xs : List A) (i : ℕ) (all : List B) → length xs ≤ i → outs ++ map f (drop i xs) ≡ all → outs ≡ all
push_end f outs xs i all h k = sym (append-nil outs) ∙ (ap (λ z. outs ++ map f z) (sym (drop_all i xs h)) ∙ k)

pub below_at : (m : ℕ) (ks : List TermId) (i : ℕ) → AreBelow m ks → i < length ks → (get_or ks i record { 0 = 0 }).0 < m
below_at m [] i h l = absurd (omega (arith, l))
below_at m (k ∷ ks) zero h l = h.0
below_at m (k ∷ ks) (suc i) h l = below_at m ks i h.1 (omega (arith, l))

-- no terms yet
pub none_within : (b : Nodes) (out : List TermId) → out ≡ [] → AreTerms b out
none_within b out e = subst (AreTerms b) (sym e) tt

pub none_listed : (b : Nodes) (out : List TermId) (ys : List Term) → out ≡ [] → term_list b out ++ ys ≡ ys
none_listed b out ys e = ap (λ z. term_list b z ++ ys) e ∙ ap (λ z. z ++ ys) (list_nil b)

-- one more, in a later bank
pub within_step : (l b : Nodes) (out after : List TermId) (one : TermId) → Keeps l b → AreTerms l out → IsTerm b one → after ≡ out ++ one ∷ [] → AreTerms b after
within_step l b out after one k h i e = subst (AreTerms b) (sym e) (within_push b out one (k.within out h) i)

pub listed_step : (l b : Nodes) (out after : List TermId) (one : TermId) → Keeps l b → AreTerms l out → after ≡ out ++ one ∷ [] → term_list b after ≡ term_list l out ++ term b one ∷ []
listed_step l b out after one k h e = ap (term_list b) e ∙ (list_push b out one ∙ ap (λ z. z ++ term b one ∷ []) (k.lists out h))
