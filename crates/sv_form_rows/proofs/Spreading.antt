-- Settled weights are the numbers of the form.
use Rattle.std.proofs.Common.{ℕ, zero, suc, ◌<◌, Bool, true, false, cond, not, ◌||◌, nat_lt, List, [], ◌∷◌, length, ◌≡◌, refl, sym, ap, ap₂, ◌∙◌, subst, arith}
use Rattle.std.proofs.lemmas.Int.{ints, int_wrap_fits}
use Rattle.std.proofs.Math.ListN.{get_or-eq_default}
use Rattle.std.specs.Prelude.{FitsSigned}
use Rattle.std.proofs.lemmas.Bool.Decides.{Decides-ltb}
use mir.Syntax.{w128}
use lib.IntN.{ℤ, pos, negsuc, ◌+ℤ◌, ◌*ℤ◌, neg_ℤ}
use Rattle.sv_num.specs.Range.{IsI128}
use Rattle.sv_term.specs.Terms.{Shape, LitNode, AddNode, SubNode, MulNode, Term, App, Terms, term_at}
use Rattle.sv_log.specs.LogEntries.{Monomial, Row}
use Rattle.sv_log.specs.LogRows.{row, monomial, multiple, total, amount, FitsRow}
use Rattle.sv_log.specs.FormsOfTerms.{is_lit, lit_value, is_column, number_of, form_at, node_form, form, forms, IsWorkedOut}
use Rattle.sv_log.specs.Logs.{nth_term}
use Rattle.sv_form.specs.declared.node.Linear.{Linear}
use Rattle.sv_form.specs.declared.node.Linear.TheVariants.{Literal, Wide, Joined, Column, AtMost, Equal, Outside}
use Rattle.sv_form.specs.Nodes.{node_at, is_column_node}
use Rattle.sv_form.specs.TermWeights.{weight_at, wrapped, weighed, number_by, Follows, AreSame, IsSettled}
use Rattle.sv_form.proofs.Weighing.{same_sum}
use Rattle.sv_form_rows.specs.Listings.{only, number_in}
use Rattle.sv_form_rows.specs.TermForms.{form_of, is_own_column, IsLiteral, Tells, AreFormsOf}
use Rattle.sv_form_rows.proofs.RowNumbers.{only_other, only_self, numbers_fit}
use Rattle.sv_form_rows.proofs.KeptForms.{number_of_nth, normal_form}
use Rattle.sv_form_rows.proofs.JoinedRows.{joined_amount}

-- ---- forms of single terms

pub literal_form : (ts : List Term) (t : Term) (z : ℤ) → IsLiteral t z → form ts t ≡ row z []
literal_form ts t z l = ap (form ts) l.is ∙ ap (λ y. row y []) (sym (ap lit_value l.is) ∙ l.worth)

own_product : (r s c : Row) (p q : Bool) → not (p || q) ≡ true → cond p r (cond q s c) ≡ c
own_product r s c true q e = cc e
own_product r s c false true e = cc e
own_product r s c false false e = refl

own_node : (c : Row) (x : Shape) (vs : Terms) (fs : List Row) → is_column x vs ≡ true → node_form c x vs fs ≡ c
own_node c (LitNode g m) vs fs e = cc e
own_node c AddNode vs fs e = cc e
own_node c SubNode vs fs e = cc e
own_node c MulNode vs fs e =
    own_product (multiple (lit_value (term_at 0 vs)) (form_at 1 fs)) (multiple (lit_value (term_at 1 vs)) (form_at 0 fs)) c (is_lit (term_at 0 vs)) (is_lit (term_at 1 vs)) e
own_node c x vs fs e = refl

pub own_column_form : (ts : List Term) (t : Term) → is_own_column t ≡ true → form ts t ≡ row (pos 0) (monomial (pos 1) (number_of ts t) ∷ [])
own_column_form ts (App x vs) e = own_node (row (pos 0) (monomial (pos 1) (number_of ts (App x vs)) ∷ [])) x vs (forms ts vs) e

-- ---- sums of weights

no_product : (w x : ℤ) → w ≡ pos 0 → w *ℤ x ≡ pos 0
no_product w x e = ap (λ z. z *ℤ x) e ∙ none x
  where
    none : (x : ℤ) → pos 0 *ℤ x ≡ pos 0
    none x = omega (arith, ints)

no_factor : (w x : ℤ) → x ≡ pos 0 → w *ℤ x ≡ pos 0
no_factor w x e = ap (λ z. w *ℤ z) e ∙ none w
  where
    none : (w : ℤ) → w *ℤ pos 0 ≡ pos 0
    none w = omega (arith, ints)

weighed_none : (x : ℕ → ℤ) (ws : List ℤ) → ((n : ℕ) → weight_at ws n *ℤ x n ≡ pos 0) → weighed x ws ≡ pos 0
weighed_none x [] h = refl
weighed_none x (w ∷ ws) h = ap₂ (λ y z. y +ℤ z) (h 0) (weighed_none (λ n. x (suc n)) ws (λ n. h (suc n)))

weighed_at : (x : ℕ → ℤ) (ws : List ℤ) (k : ℕ) → ((n : ℕ) → (n ≡ k → ⊥) → weight_at ws n *ℤ x n ≡ pos 0) → weighed x ws ≡ weight_at ws k *ℤ x k
weighed_at x [] k h = sym (no_product (pos 0) (x k) refl)
weighed_at x (w ∷ ws) zero h = ap (λ z. w *ℤ x 0 +ℤ z) (weighed_none (λ n. x (suc n)) ws (λ n. h (suc n) (λ e. cc e))) ∙ right (w *ℤ x 0)
  where
    right : (a : ℤ) → a +ℤ pos 0 ≡ a
    right a = omega (arith, ints)
weighed_at x (w ∷ ws) (suc k) h =
    ap₂ (λ y z. y +ℤ z) (h 0 (λ e. cc e)) (weighed_at (λ n. x (suc n)) ws k (λ n g. h (suc n) (λ e. g (omega (arith, e))))) ∙ left (weight_at ws k *ℤ x (suc k))
  where
    left : (a : ℤ) → pos 0 +ℤ a ≡ a
    left a = omega (arith, ints)

total_none : (ps : List Monomial) → total (λ x. pos 0) ps ≡ pos 0
total_none [] = refl
total_none (p ∷ ps) = ap₂ (λ y z. y +ℤ z) (no_factor p.factor (pos 0) refl) (total_none ps)

pub fits_by : (z : ℤ) → IsI128 z → FitsSigned w128 z
fits_by (pos n) h = let g = h.1 in record { sfits = omega (arith, ints, g) }
fits_by (negsuc n) h = let g = h.0 in record { sfits = omega (arith, ints, g) }

pub same_is : (a b : ℤ) → IsI128 a → IsI128 b → AreSame a b → a ≡ b
same_is a b f g e = sym (int_wrap_fits w128 a (fits_by a f)) ∙ (e ∙ int_wrap_fits w128 b (fits_by b g))

cancelled : (c a b : ℤ) → AreSame (c +ℤ a) (c +ℤ b) → AreSame a b
cancelled c a b h = ap wrapped (sym (back c a)) ∙ (same_sum (neg_ℤ c) (neg_ℤ c) (c +ℤ a) (c +ℤ b) refl h ∙ ap wrapped (back c b))
  where
    back : (c a : ℤ) → neg_ℤ c +ℤ (c +ℤ a) ≡ a
    back c a = omega (arith, ints)

-- ---- the forms of a list

module _ (ts : List Term) (nodes : List Linear) (f : AreFormsOf ts nodes) where
  abbrev number_at : (ℕ → ℤ) → ℕ → ℤ
  number_at at n = amount at (form_of ts n)

  follows : (at : ℕ → ℤ) → Follows nodes (number_at at)
  follows at n h = go (node_at nodes n) (f.tells n (omega (arith, h, f.size)))
    where
      right : (a : ℤ) → a ≡ a +ℤ pos 0
      right a = omega (arith, ints)

      go : (l : Linear) → Tells ts (nth_term ts n) l → number_by (number_at at) n l ≡ number_at at n
      go (Literal z) t = right z ∙ sym (ap (amount at) (literal_form ts (nth_term ts n) z t.0))
      go (Joined how a b) t = sym (ap (amount at) t.2 ∙ joined_amount at how (form_of ts a) (form_of ts b))
      go Wide t = refl
      go Column t = refl
      go (AtMost a b) t = refl
      go (Equal a b) t = refl
      go Outside t = refl

  pub is_own : (n : ℕ) (l : Linear) → Tells ts (nth_term ts n) l → is_column_node l ≡ true → is_own_column (nth_term ts n) ≡ true
  is_own n Column t e = t.1
  is_own n (AtMost a b) t e = ap is_own_column t
  is_own n (Equal a b) t e = ap is_own_column t.0
  is_own n (Literal z) t e = cc e
  is_own n Wide t e = cc e
  is_own n (Joined how a b) t e = cc e
  is_own n Outside t e = cc e

  column_form : (n : ℕ) → n < length ts → is_column_node (node_at nodes n) ≡ true → form_of ts n ≡ row (pos 0) (monomial (pos 1) n ∷ [])
  column_form n h e =
      own_column_form ts (nth_term ts n) (is_own n (node_at nodes n) (f.tells n h) e)
      ∙ ap (λ k. row (pos 0) (monomial (pos 1) k ∷ [])) (number_of_nth ts n f.apart h)

  column_within : (n : ℕ) → is_column_node (node_at nodes n) ≡ true → n < length ts
  column_within n e = go (nat_lt n (length ts)) refl
    where
      go : (b : Bool) → nat_lt n (length ts) ≡ b → n < length ts
      go true d = (Decides-ltb n (length ts)).0 d
      go false d =
          let h : n < length ts → ⊥ = (λ l. cc (d, (Decides-ltb n (length ts)).1 l)) in
          let beyond : node_at nodes n ≡ Outside = get_or-eq_default nodes Outside (omega (arith, h, f.size)) in
          absurd (let g : false ≡ true = sym (ap is_column_node beyond) ∙ e in cc g)

  column_number : (at : ℕ → ℤ) (n : ℕ) → is_column_node (node_at nodes n) ≡ true → number_at at n ≡ at n
  column_number at n e = ap (amount at) (column_form n (column_within n e) e) ∙ one (at n)
    where
      one : (a : ℤ) → pos 0 +ℤ (pos 1 *ℤ a +ℤ pos 0) ≡ a
      one a = omega (arith, ints)

  module _ (from : ℕ) (ws : List ℤ) (c : ℤ) (s : IsSettled nodes from ws c) where
    product_at : (at : ℕ → ℤ) (n : ℕ) → weight_at ws n *ℤ number_at at n ≡ weight_at ws n *ℤ at n
    product_at at n = go (is_column_node (node_at nodes n)) refl
      where
        go : (b : Bool) → is_column_node (node_at nodes n) ≡ b → weight_at ws n *ℤ number_at at n ≡ weight_at ws n *ℤ at n
        go true e = ap (λ z. weight_at ws n *ℤ z) (column_number at n e)
        go false e =
            let z : weight_at ws n ≡ pos 0 = s.columns n (omega arith) e in
            no_product (weight_at ws n) (number_at at n) z ∙ sym (no_product (weight_at ws n) (at n) z)

    right : (a : ℤ) → a +ℤ pos 0 ≡ a
    right a = omega (arith, ints)

    constant_same : AreSame c (form_of ts from).constant
    constant_same =
        ap wrapped (sym (ap (λ z. c +ℤ z) (weighed_none (number_at (λ x. pos 0)) ws (λ n. product_at (λ x. pos 0) n ∙ no_factor (weight_at ws n) (pos 0) refl)) ∙ right c))
        ∙ (s.sum (number_at (λ x. pos 0)) (follows (λ x. pos 0))
        ∙ ap wrapped (ap (λ z. (form_of ts from).constant +ℤ z) (total_none (form_of ts from).parts) ∙ right (form_of ts from).constant))

    own_weight : (k : ℕ) → weighed (number_at (only k)) ws ≡ weight_at ws k
    own_weight k =
        weighed_at (number_at (only k)) ws k (λ n g. product_at (only k) n ∙ no_factor (weight_at ws n) (only k n) (only_other k n g))
        ∙ (product_at (only k) k ∙ (ap (λ z. weight_at ws k *ℤ z) (only_self k) ∙ one (weight_at ws k)))
      where
        one : (a : ℤ) → a *ℤ pos 1 ≡ a
        one a = omega (arith, ints)

    number_same : (k : ℕ) → AreSame (c +ℤ weight_at ws k) ((form_of ts from).constant +ℤ number_in (form_of ts from).parts k)
    number_same k = ap (λ z. wrapped (c +ℤ z)) (sym (own_weight k)) ∙ s.sum (number_at (only k)) (follows (only k))

    module _ (fits : IsI128 c) (worked : IsWorkedOut ts (nth_term ts from)) where
      row_fits : FitsRow (form_of ts from)
      row_fits = fits_of (nth_term ts from) worked
        where
          fits_of : (t : Term) → IsWorkedOut ts t → FitsRow (form ts t)
          fits_of (App x vs) w = w.0

      pub constant_is : c ≡ (form_of ts from).constant
      constant_is = same_is c (form_of ts from).constant fits row_fits.0 constant_same

      pub number_is : (k : ℕ) → wrapped (weight_at ws k) ≡ number_in (form_of ts from).parts k
      number_is k =
          let q : ℤ = number_in (form_of ts from).parts k in
          let f : IsI128 q = numbers_fit (form_of ts from).parts (normal_form ts (nth_term ts from)).rising row_fits.1 k in
          cancelled c (weight_at ws k) q (subst (λ z. AreSame (c +ℤ weight_at ws k) (z +ℤ q)) (sym constant_is) (number_same k))
          ∙ int_wrap_fits w128 q (fits_by q f)
