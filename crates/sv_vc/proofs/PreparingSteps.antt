-- The variables as a walk begins, one by one.
use Rattle.std.proofs.Common.{ℕ, zero, suc, ◌+◌, ◌<◌, ◌≤◌, ◌≡◌, List, [], ◌∷◌, ◌++◌, map, length, get_or, drop, Option, refl, sym, ap, ap₂, ◌∙◌, subst, append_assoc, append-nil, arith}
use Rattle.std.proofs.lemmas.List.{drop_more, drop_all}
use Rattle.sv_term.specs.Sorts.{Sort, BoolSort}
use Rattle.sv_term.specs.Terms.{Term}
use Rattle.sv_term.specs.Terms as t
use Rattle.sv_term.specs.Banks.{Nodes, IsSort, AreSorts, Keeps, sort, sort_list, wide}
use Rattle.sv_term.proofs.BankLists.{sort_list_push, sort_within_push, sort_list_nil}
use Rattle.sv_gcl.specs.declared.lowered.GVar.{GVar}
use Rattle.sv_gcl.specs.Commands.{var_sort}
use Rattle.sv_vc.specs.ConditionWalk.{own}
use Rattle.sv_vc.specs.CodeStates.{sorts_of}
use Rattle.sv_vc.specs.Preparations.{names_of}
use Rattle.sv_vc.proofs.ListSteps.{push_step, push_end}

pub sort_within : (b : Nodes) (vs : List GVar) (x : ℕ) (d : GVar) → AreSorts b (sorts_of vs) → x < length vs → IsSort b (get_or vs x d).sort
sort_within b [] x d h l = absurd (omega (arith, l))
sort_within b (v ∷ vs) zero d h l = h.0
sort_within b (v ∷ vs) (suc x) d h l = sort_within b vs x d h.1 (omega (arith, l))

sorts_push : (vs : List GVar) (v : GVar) → sorts_of (vs ++ v ∷ []) ≡ sorts_of vs ++ v.sort ∷ []
sorts_push [] v = refl
sorts_push (w ∷ vs) v = ap (λ z. w.sort ∷ z) (sorts_push vs v)

names_push : (vs : List GVar) (v : GVar) → names_of (vs ++ v ∷ []) ≡ names_of vs ++ v.name ∷ []
names_push [] v = refl
names_push (w ∷ vs) v = ap (λ z. w.name ∷ z) (names_push vs v)

-- ---- as terms

pub own_step : (outs : List Term) (V : List Sort) (i : ℕ) (y : Term) (all : List Term) → i < length V → y ≡ t.Var i (var_sort V i) → outs ++ own (drop i V) i ≡ all → (outs ++ y ∷ []) ++ own (drop (i + 1) V) (i + 1) ≡ all
own_step outs V i y all h g k =
    append_assoc outs (y ∷ []) (own (drop (i + 1) V) (i + 1)) ∙ (ap₂ (λ z n. outs ++ z ∷ own (drop (i + 1) V) n) g (next i) ∙ (ap (λ z. outs ++ own z i) (sym (drop_more V i BoolSort h)) ∙ k))
  where
    next : (i : ℕ) → i + 1 ≡ suc i
    next i = omega arith

pub own_end : (outs : List Term) (V : List Sort) (i : ℕ) (all : List Term) → length V ≤ i → outs ++ own (drop i V) i ≡ all → outs ≡ all
own_end outs V i all h k = sym (append-nil outs) ∙ (ap (λ z. outs ++ own z i) (sym (drop_all i V h)) ∙ k)

-- ---- as versions

pub none_sorts : (b : Nodes) (ws : List GVar) → ws ≡ [] → AreSorts b (sorts_of ws)
none_sorts b ws e = subst (λ z. AreSorts b (sorts_of z)) (sym e) tt

pub none_wide : (b : Nodes) (ws : List GVar) (ys : List Sort) → ws ≡ [] → sort_list b (sorts_of ws) ++ ys ≡ ys
none_wide b ws ys e = ap (λ z. sort_list b (sorts_of z) ++ ys) e ∙ ap (λ z. z ++ ys) (sort_list_nil b)

pub none_named : (ws : List GVar) (ys : List (Option ℕ)) → ws ≡ [] → names_of ws ++ ys ≡ ys
none_named ws ys e = ap (λ z. names_of z ++ ys) e

pub sorts_within_step : (l b : Nodes) (ws after : List GVar) (w : GVar) → Keeps l b → AreSorts l (sorts_of ws) → IsSort b w.sort → after ≡ ws ++ w ∷ [] → AreSorts b (sorts_of after)
sorts_within_step l b ws after w k h i e = subst (AreSorts b) (sym (ap sorts_of e ∙ sorts_push ws w)) (sort_within_push b (sorts_of ws) w.sort (k.sorts_within (sorts_of ws) h) i)

pub wides_step : (o l b : Nodes) (vs ws after : List GVar) (w d : GVar) (i : ℕ) (all : List Sort) → Keeps o l → Keeps l b → AreSorts o (sorts_of vs) → AreSorts l (sorts_of ws) → after ≡ ws ++ w ∷ [] → i < length vs
    → sort b w.sort ≡ wide (sort l (get_or vs i d).sort) → sort_list l (sorts_of ws) ++ map (λ v. wide (sort o v.sort)) (drop i vs) ≡ all → sort_list b (sorts_of after) ++ map (λ v. wide (sort o v.sort)) (drop (i + 1) vs) ≡ all
wides_step o l b vs ws after w d i all ol lb hv hw e lt is f =
    ap (λ z. z ++ map (λ v. wide (sort o v.sort)) (drop (i + 1) vs)) (ap (λ z. sort_list b (sorts_of z)) e ∙ (ap (sort_list b) (sorts_push ws w) ∙ (sort_list_push b (sorts_of ws) w.sort ∙ ap (λ z. z ++ sort b w.sort ∷ []) (lb.sort_lists (sorts_of ws) hw))))
    ∙ push_step (λ v. wide (sort o v.sort)) (sort_list l (sorts_of ws)) vs i d (sort b w.sort) all lt (is ∙ ap wide (ol.sort_trees (get_or vs i d).sort (sort_within o vs i d hv lt))) f

pub names_step : (vs ws after : List GVar) (w d : GVar) (i : ℕ) (all : List (Option ℕ)) → after ≡ ws ++ w ∷ [] → i < length vs → w.name ≡ (get_or vs i d).name → names_of ws ++ names_of (drop i vs) ≡ all → names_of after ++ names_of (drop (i + 1) vs) ≡ all
names_step vs ws after w d i all e lt is f =
    ap (λ z. z ++ names_of (drop (i + 1) vs)) (ap names_of e ∙ names_push ws w) ∙ push_step (λ v. v.name) (names_of ws) vs i d w.name all lt is f

sorts_mapped : (o : Nodes) (vs : List GVar) → map (λ v. wide (sort o v.sort)) vs ≡ map wide (sort_list o (sorts_of vs))
unfolding sort_list
sorts_mapped o [] = refl
sorts_mapped o (v ∷ vs) = ap (λ z. wide (sort o v.sort) ∷ z) (sorts_mapped o vs)

pub wides_end : (o b : Nodes) (vs ws : List GVar) (i : ℕ) → length vs ≤ i → sort_list b (sorts_of ws) ++ map (λ v. wide (sort o v.sort)) (drop i vs) ≡ map (λ v. wide (sort o v.sort)) vs → sort_list b (sorts_of ws) ≡ map wide (sort_list o (sorts_of vs))
wides_end o b vs ws i h e = push_end (λ v. wide (sort o v.sort)) (sort_list b (sorts_of ws)) vs i _ h e ∙ sorts_mapped o vs

pub names_end : (vs ws : List GVar) (i : ℕ) → length vs ≤ i → names_of ws ++ names_of (drop i vs) ≡ names_of vs → names_of ws ≡ names_of vs
names_end vs ws i h e = push_end (λ v. v.name) (names_of ws) vs i _ h e
