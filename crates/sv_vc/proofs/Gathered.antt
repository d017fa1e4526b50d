-- The conjunction of the formulas of each label, formula by formula.
use Rattle.std.proofs.Common.{ℕ, zero, suc, Bool, true, false, cond, ◌+◌, ◌<◌, ◌≤◌, ◌≡◌, List, [], ◌∷◌, ◌++◌, length, get_or, drop, take, Option, Some, None, refl, sym, ap, ◌∙◌, subst, arith, append_assoc, append-nil}
use Rattle.std.specs.Option.{unwrap_or}
use Rattle.std.proofs.lemmas.List.{drop_more, drop_all, take_more}
use Rattle.sv_core.specs.declared.label.Label.{Label}
use Rattle.sv_term.specs.Terms.{Term, Truth, And}
use Rattle.sv_term.specs.Banks.{Nodes, IsBool, AreTerms, Keeps, Stands, term, kind_of}
use Rattle.sv_term.specs.declared.node.TermId.{TermId}
use Rattle.sv_term.proofs.BankGrowth.{bool_kept}
use Rattle.sv_vc.specs.declared.answer.Condition.{Condition}
use Rattle.sv_vc.specs.Conjunctions.{all_after, conjunction_of}
use Rattle.sv_vc.specs.ConditionWalk.{Found, same_label, formulas}
use Rattle.sv_vc.specs.CodeStates.{formulas_of, found_of, AllBool}
use Rattle.sv_vc.proofs.StepLemmas.{found_push}
use Rattle.sv_vc.specs.Gatherings.{held, IsConjunction, IsHeld, AllConjunctions, labels_of}

-- ---- conjunctions

after_push : (x : Term) (ys : List Term) (y : Term) → all_after x (ys ++ y ∷ []) ≡ And (all_after x ys) y
after_push x [] y = refl
after_push x (z ∷ ys) y = after_push (And x z) ys y

formulas_step : (l : Label) (fs : List Found) (f : Found) → conjunction_of (formulas l (fs ++ f ∷ [])) ≡ cond (same_label f.label l) (And (conjunction_of (formulas l fs)) f.formula) (conjunction_of (formulas l fs))
formulas_step l fs f = ap conjunction_of (pushed l fs f) ∙ split (same_label f.label l)
  where
    pushed : (l : Label) (fs : List Found) (f : Found) → formulas l (fs ++ f ∷ []) ≡ formulas l fs ++ cond (same_label f.label l) (f.formula ∷ []) []
    pushed l [] f = refl
    pushed l (g ∷ fs) f =
        elim (same_label g.label l) as (λ b. cond b (g.formula ∷ formulas l (fs ++ f ∷ [])) (formulas l (fs ++ f ∷ [])) ≡ cond b (g.formula ∷ formulas l fs) (formulas l fs) ++ cond (same_label f.label l) (f.formula ∷ []) []) [
          | true ↦ ap (λ z. g.formula ∷ z) (pushed l fs f)
          | false ↦ pushed l fs f
        ]

    split : (b : Bool) → conjunction_of (formulas l fs ++ cond b (f.formula ∷ []) []) ≡ cond b (And (conjunction_of (formulas l fs)) f.formula) (conjunction_of (formulas l fs))
    split true = after_push (Truth true) (formulas l fs) f.formula
    split false = ap conjunction_of (append-nil (formulas l fs))

-- ---- what is held

pub nothing_held : (b : Nodes) (m : Label → Option TermId) (nothing : TermId) → ((l : Label) → m l ≡ None) → Stands b nothing (Truth true) → IsHeld b m nothing []
nothing_held b m nothing e s = record {
  at = λ l. subst (IsConjunction b [] l) (ap (λ o. unwrap_or o nothing) (sym (e l))) record { truth = record { within = s.within; truth = ap kind_of s.is }; is = s.is };
}

module _ (a b : Nodes) (m n : Label → Option TermId) (nothing both : TermId) (fs : List Found) (f : Found) (k : Keeps a b) (h : IsHeld a m nothing fs) (s : Stands b both (And (term a (held m nothing f.label)) f.formula)) (e : (q : Label) → n q ≡ cond (same_label f.label q) (Some both) (m q)) where
  conjunction_kept : (l : Label) (j : TermId) → IsConjunction a fs l j → IsConjunction b fs l j
  conjunction_kept l j c = record { truth = bool_kept a b k j c.truth; is = k.terms j c.truth.within ∙ c.is }

  -- one formula more
  pub held_more : ((x y : Label) → same_label x y ≡ true → x ≡ y) → IsHeld b n nothing (fs ++ f ∷ [])
  held_more tell = record { at = λ l. at l (same_label f.label l) refl }
    where
      at : (l : Label) (c : Bool) → same_label f.label l ≡ c → IsConjunction b (fs ++ f ∷ []) l (held n nothing l)
      at l true q =
          let here : held n nothing l ≡ both = ap (λ o. unwrap_or o nothing) (e l ∙ ap (λ z. cond z (Some both) (m l)) q) in
          let one : f.label ≡ l = tell f.label l q in
          subst (IsConjunction b (fs ++ f ∷ []) l) (sym here) record {
            truth = record { within = s.within; truth = ap kind_of s.is };
            is = s.is ∙ (ap (λ x. And x f.formula) (ap (λ z. term a (held m nothing z)) one ∙ (h.at l).is) ∙ sym (formulas_step l fs f ∙ ap (λ z. cond z (And (conjunction_of (formulas l fs)) f.formula) (conjunction_of (formulas l fs))) q));
          }
      at l false q =
          let here : held n nothing l ≡ held m nothing l = ap (λ o. unwrap_or o nothing) (e l ∙ ap (λ z. cond z (Some both) (m l)) q) in
          let old : IsConjunction b fs l (held m nothing l) = conjunction_kept l (held m nothing l) (h.at l) in
          subst (IsConjunction b (fs ++ f ∷ []) l) (sym here) record {
            truth = old.truth;
            is = old.is ∙ sym (formulas_step l fs f ∙ ap (λ z. cond z (And (conjunction_of (formulas l fs)) f.formula) (conjunction_of (formulas l fs))) q);
          }

-- ---- formulas that were found

pub found_at : (b : Nodes) (cs : List Condition) (i : ℕ) (d : Condition) → AllBool (found_of b cs) → AreTerms b (formulas_of cs) → i < length cs → IsBool b (get_or cs i d).formula
found_at b [] i d h w l = absurd (omega (arith, l))
found_at b (x ∷ cs) zero d h w l = record { within = w.0; truth = h.0 }
found_at b (x ∷ cs) (suc i) d h w l = found_at b cs i d h.1 w.1 (omega (arith, l))

pub take_found : (b : Nodes) (cs : List Condition) (i : ℕ) (d : Condition) → i < length cs → found_of b (take (i + 1) cs) ≡ found_of b (take i cs) ++ record { label = (get_or cs i d).label; formula = term b (get_or cs i d).formula } ∷ []
take_found b cs i d l = ap (found_of b) (take_more cs i d l) ∙ found_push b (take i cs) (get_or cs i d)

pub take_whole : {A : Type 0} (xs : List A) (i : ℕ) → length xs ≤ i → take i xs ≡ xs
take_whole [] zero h = refl
take_whole [] (suc i) h = refl
take_whole (x ∷ xs) zero h = absurd (omega (arith, h))
take_whole (x ∷ xs) (suc i) h = ap (λ z. x ∷ z) (take_whole xs i (omega (arith, h)))

-- ---- the list of conditions

pub conjunctions_push : (b : Nodes) (fs : List Found) (cs : List Condition) (c : Condition) → AllConjunctions b fs cs → IsConjunction b fs c.label c.formula → AllConjunctions b fs (cs ++ c ∷ [])
conjunctions_push b fs [] c h i = (i, tt)
conjunctions_push b fs (x ∷ cs) c h i = (h.0, conjunctions_push b fs cs c h.1 i)

labels_push : (cs : List Condition) (c : Condition) → labels_of (cs ++ c ∷ []) ≡ labels_of cs ++ c.label ∷ []
labels_push [] c = refl
labels_push (x ∷ cs) c = ap (λ z. x.label ∷ z) (labels_push cs c)

pub labels_step : (cs after : List Condition) (c : Condition) (labels : List Label) (i : ℕ) (d : Label) → after ≡ cs ++ c ∷ [] → i < length labels → c.label ≡ get_or labels i d → labels_of cs ++ drop i labels ≡ labels → labels_of after ++ drop (i + 1) labels ≡ labels
labels_step cs after c labels i d e lt is f =
    ap (λ z. z ++ drop (i + 1) labels) (ap labels_of e ∙ labels_push cs c)
    ∙ (append_assoc (labels_of cs) (c.label ∷ []) (drop (i + 1) labels) ∙ (ap (λ z. labels_of cs ++ z ∷ drop (i + 1) labels) is ∙ (ap (λ z. labels_of cs ++ z) (sym (drop_more labels i d lt)) ∙ f)))

pub labels_end : (cs : List Condition) (labels : List Label) (i : ℕ) → length labels ≤ i → labels_of cs ++ drop i labels ≡ labels → labels_of cs ≡ labels
labels_end cs labels i h f = sym (append-nil (labels_of cs)) ∙ (ap (λ z. labels_of cs ++ z) (sym (drop_all i labels h)) ∙ f)

pub none_conjoined : (b : Nodes) (fs : List Found) (cs : List Condition) → cs ≡ [] → AllConjunctions b fs cs
none_conjoined b fs cs e = subst (AllConjunctions b fs) (sym e) tt

pub none_labelled : (cs : List Condition) (labels : List Label) → cs ≡ [] → labels_of cs ++ labels ≡ labels
none_labelled cs labels e = ap (λ z. labels_of z ++ labels) e
