-- Forms stay as terms are put behind, and are in normal form.
use Rattle.std.proofs.Common.{ℕ, zero, suc, ◌<◌, ◌⊎◌, inl, inr, Bool, true, false, cond, not, ◌||◌, List, [], ◌∷◌, ◌++◌, length, ◌≡◌, refl, sym, ap, ap₂, ◌∙◌, subst, arith, MatchBool}
use Rattle.std.specs.List.{Contains}
use Rattle.std.proofs.lemmas.List.Elements.{Contains-append_left}
use lib.IntN.{pos}
use Rattle.sv_term.specs.Terms.{Shape, LitNode, AddNode, SubNode, MulNode, Term, App, Terms, End, More, same_term, term_at}
use Rattle.sv_term.proofs.Same.{term_is, term_self}
use Rattle.sv_log.specs.LogEntries.{Row}
use Rattle.sv_log.specs.LogRows.{row, monomial, multiple, FitsRow}
use Rattle.sv_log.specs.FormsOfTerms.{is_lit, lit_value, is_column, number_of, form_at, node_form, form, forms, IsWorkedOut, AreWorkedOut}
use Rattle.sv_log.specs.Logs.{nth_term}
use Rattle.sv_row.specs.RowParts.{IsNormal}
use Rattle.sv_form_rows.specs.TermForms.{HasColumns, HaveColumns}
use Rattle.sv_form_rows.proofs.NormalRows.{normal_sum, normal_difference, normal_multiple}

-- ---- terms by number

pub nth_old : (ts us : List Term) (n : ℕ) → n < length ts → nth_term (ts ++ us) n ≡ nth_term ts n
nth_old [] us n h = absurd (omega (arith, h))
nth_old (t ∷ ts) us zero h = refl
nth_old (t ∷ ts) us (suc n) h = nth_old ts us n (omega (arith, h))

pub nth_new : (ts : List Term) (t : Term) → nth_term (ts ++ t ∷ []) (length ts) ≡ t
nth_new [] t = refl
nth_new (u ∷ us) t = nth_new us t

pub nth_there : (ts : List Term) (n : ℕ) → n < length ts → Contains ts (nth_term ts n)
nth_there [] n h = absurd (omega (arith, h))
nth_there (t ∷ ts) zero h = (0, omega arith, refl)
nth_there (t ∷ ts) (suc n) h = let c = nth_there ts n (omega (arith, h)) in (suc c.0, let l = c.1 in omega (arith, l), c.2)

abbrev AreApart : List Term → Type 0
AreApart ts = (i j : ℕ) → i < length ts → j < length ts → nth_term ts i ≡ nth_term ts j → i ≡ j

unlike : (u t : Term) → (u ≡ t → ⊥) → same_term u t ≡ false
unlike u t h = go (same_term u t) refl
  where
    go : (b : Bool) → same_term u t ≡ b → b ≡ false
    go true e = absurd (h (term_is u t e))
    go false e = refl

pub number_of_nth : (ts : List Term) (n : ℕ) → AreApart ts → n < length ts → number_of ts (nth_term ts n) ≡ n
number_of_nth [] n a h = absurd (omega (arith, h))
number_of_nth (t ∷ ts) zero a h = ap (λ b. cond b 0 (suc (number_of ts t))) (term_self t)
number_of_nth (t ∷ ts) (suc n) a h =
    let l : n < length ts = omega (arith, h) in
    ap (λ b. cond b 0 (suc (number_of ts (nth_term ts n)))) (unlike t (nth_term ts n) (λ e. cc (a 0 (suc n) (omega arith) (omega (arith, l)) e)))
    ∙ ap suc (number_of_nth ts n (λ i j k m e. let s : suc i ≡ suc j = a (suc i) (suc j) (omega (arith, k)) (omega (arith, m)) e in omega (arith, s)) l)

either_way : (b : Bool) (x y : ℕ) → (b ≡ true) ⊎ (x ≡ y) → cond b 0 (suc x) ≡ cond b 0 (suc y)
either_way true x y h = refl
either_way false x y (inl e) = cc e
either_way false x y (inr e) = ap suc e

kept_number : (ts us : List Term) (t : Term) → Contains ts t → number_of (ts ++ us) t ≡ number_of ts t
kept_number [] us t c = absurd (let l = c.1 in omega (arith, l))
kept_number (u ∷ ts) us t (zero, l, e) = either_way (same_term u t) _ _ (inl (ap (λ v. same_term v t) e ∙ term_self t))
kept_number (u ∷ ts) us t (suc k, l, e) = either_way (same_term u t) _ _ (inr (kept_number ts us t (k, omega (arith, l), e)))

-- ---- the way down

pub when_true : (A B : Type 0) (b : Bool) → MatchBool b A B → b ≡ true → A
when_true A B true h e = h
when_true A B false h e = cc e

pub when_false : (A B : Type 0) (b : Bool) → MatchBool b A B → b ≡ false → B
when_false A B true h e = cc e
when_false A B false h e = h

pub either : (A B : Type 0) (b : Bool) → (b ≡ true → A) → (b ≡ false → B) → MatchBool b A B
either A B true f g = f refl
either A B false f g = g refl

same_product : (p q : Bool) (r s c d : Row) → (not (p || q) ≡ true → d ≡ c) → cond p r (cond q s d) ≡ cond p r (cond q s c)
same_product true q r s c d h = refl
same_product false true r s c d h = refl
same_product false false r s c d h = h refl

same_node : (x : Shape) (vs : Terms) (c d : Row) (fs gs : List Row) → (is_column x vs ≡ true → d ≡ c) → (is_column x vs ≡ false → gs ≡ fs) → node_form d x vs gs ≡ node_form c x vs fs
same_node (LitNode g m) vs c d fs gs h i = refl
same_node AddNode vs c d fs gs h i = ap (node_form d AddNode vs) (i refl)
same_node SubNode vs c d fs gs h i = ap (node_form d SubNode vs) (i refl)
same_node MulNode vs c d fs gs h i = go (is_lit (term_at 0 vs)) (is_lit (term_at 1 vs)) h i
  where
    go : (p q : Bool) → (not (p || q) ≡ true → d ≡ c) → (not (p || q) ≡ false → gs ≡ fs)
        → cond p (multiple (lit_value (term_at 0 vs)) (form_at 1 gs)) (cond q (multiple (lit_value (term_at 1 vs)) (form_at 0 gs)) d)
        ≡ cond p (multiple (lit_value (term_at 0 vs)) (form_at 1 fs)) (cond q (multiple (lit_value (term_at 1 vs)) (form_at 0 fs)) c)
    go true q h i = ap (λ z. multiple (lit_value (term_at 0 vs)) (form_at 1 z)) (i refl)
    go false true h i = ap (λ z. multiple (lit_value (term_at 1 vs)) (form_at 0 z)) (i refl)
    go false false h i = h refl
same_node x vs c d fs gs h i = h refl

-- ---- forms that stay

module _ (ts us : List Term) where
  mutual
    pub kept_form : (t : Term) → HasColumns ts t → form (ts ++ us) t ≡ form ts t
    kept_form (App x vs) h =
        same_node x vs _ _ _ _ (λ e. ap (λ n. row (pos 0) (monomial (pos 1) n ∷ [])) (kept_number ts us (App x vs) (when_true _ _ (is_column x vs) h e)))
        (λ e. kept_forms vs (when_false _ _ (is_column x vs) h e))

    kept_forms : (vs : Terms) → HaveColumns ts vs → forms (ts ++ us) vs ≡ forms ts vs
    kept_forms End h = refl
    kept_forms (More v vs) h = ap₂ (λ f fs. f ∷ fs) (kept_form v h.0) (kept_forms vs h.1)

  mutual
    pub kept_columns : (t : Term) → HasColumns ts t → HasColumns (ts ++ us) t
    kept_columns (App x vs) h =
        either _ _ (is_column x vs) (λ e. Contains-append_left ts us (App x vs) (when_true _ _ (is_column x vs) h e)) (λ e. kept_all_columns vs (when_false _ _ (is_column x vs) h e))

    kept_all_columns : (vs : Terms) → HaveColumns ts vs → HaveColumns (ts ++ us) vs
    kept_all_columns End h = tt
    kept_all_columns (More v vs) h = (kept_columns v h.0, kept_all_columns vs h.1)

  mutual
    pub still_worked : (t : Term) → HasColumns ts t → IsWorkedOut ts t → IsWorkedOut (ts ++ us) t
    still_worked (App x vs) h w = (
      subst FitsRow (sym (kept_form (App x vs) h)) w.0,
      either _ _ (is_column x vs) (λ e. Contains-append_left ts us (App x vs) (when_true _ _ (is_column x vs) h e))
          (λ e. all_still_worked vs (when_false _ _ (is_column x vs) h e) (when_false _ _ (is_column x vs) w.1 e)),
    )

    all_still_worked : (vs : Terms) → HaveColumns ts vs → AreWorkedOut ts vs → AreWorkedOut (ts ++ us) vs
    all_still_worked End h w = tt
    all_still_worked (More v vs) h w = (still_worked v h.0 w.0, all_still_worked vs h.1 w.1)

  mutual
    pub worked_before : (t : Term) → HasColumns ts t → IsWorkedOut (ts ++ us) t → IsWorkedOut ts t
    worked_before (App x vs) h w = (
      subst FitsRow (kept_form (App x vs) h) w.0,
      either _ _ (is_column x vs) (λ e. when_true _ _ (is_column x vs) h e)
          (λ e. all_worked_before vs (when_false _ _ (is_column x vs) h e) (when_false _ _ (is_column x vs) w.1 e)),
    )

    all_worked_before : (vs : Terms) → HaveColumns ts vs → AreWorkedOut (ts ++ us) vs → AreWorkedOut ts vs
    all_worked_before End h w = tt
    all_worked_before (More v vs) h w = (worked_before v h.0 w.0, all_worked_before vs h.1 w.1)

-- ---- normal form

pub normal_column : (n : ℕ) → IsNormal (monomial (pos 1) n ∷ [])
normal_column n = record { rising = (tt, tt); non_zero = (λ e. cc e, tt) }

normal_none : IsNormal []
normal_none = record { rising = tt; non_zero = tt }

module _ (c : Row) (vs : Terms) (fs : List Row) (own : IsNormal c.parts) (all : (k : ℕ) → IsNormal (form_at k fs).parts) where
  normal_product : (p q : Bool) → IsNormal (cond p (multiple (lit_value (term_at 0 vs)) (form_at 1 fs)) (cond q (multiple (lit_value (term_at 1 vs)) (form_at 0 fs)) c)).parts
  normal_product true q = normal_multiple (lit_value (term_at 0 vs)) (form_at 1 fs) (all 1)
  normal_product false true = normal_multiple (lit_value (term_at 1 vs)) (form_at 0 fs) (all 0)
  normal_product false false = own

  normal_node : (x : Shape) → IsNormal (node_form c x vs fs).parts
  normal_node (LitNode g m) = normal_none
  normal_node AddNode = normal_sum (form_at 0 fs) (form_at 1 fs) (all 1)
  normal_node SubNode = normal_difference (form_at 0 fs) (form_at 1 fs) (all 1)
  normal_node MulNode = normal_product (is_lit (term_at 0 vs)) (is_lit (term_at 1 vs))
  normal_node x = own

module _ (ts : List Term) where
  mutual
    pub normal_form : (t : Term) → IsNormal (form ts t).parts
    normal_form (App x vs) = normal_node (row (pos 0) (monomial (pos 1) (number_of ts (App x vs)) ∷ [])) vs (forms ts vs) (normal_column (number_of ts (App x vs))) (λ k. normal_forms vs k) x

    pub normal_forms : (vs : Terms) (k : ℕ) → IsNormal (form_at k (forms ts vs)).parts
    normal_forms End k = normal_none
    normal_forms (More v vs) zero = normal_form v
    normal_forms (More v vs) (suc k) = normal_forms vs k
