-- A linear form comes to the value of its term.
use Rattle.std.proofs.Common.{ℕ, zero, suc, Bool, true, false, cond, not, ◌||◌, List, [], ◌∷◌, ◌≡◌, refl, sym, ap, ap₂, ◌∙◌, arith, MatchBool}
use Rattle.std.specs.List.{Contains}
use Rattle.std.proofs.lemmas.Int.{ints}
use lib.IntN.{ℤ, pos, negsuc, ◌+ℤ◌, ◌-ℤ◌, ◌*ℤ◌, *ℤ_comm}
use Rattle.sv_term.specs.Sorts.{sort_at, is_num}
use Rattle.sv_term.specs.Values.{number, value_at}
use Rattle.sv_term.specs.Terms.{Shape, LitNode, AddNode, SubNode, MulNode, Term, App, Terms, End, More, both_num, fits, all_fit, fits_node, sorts_of, term_at}
use Rattle.sv_term.specs.Models.{Model, value, values}
use Rattle.sv_term.proofs.Same.{both_true}
use Rattle.sv_term.proofs.Typed.{two_of}
use Rattle.sv_log.specs.LogEntries.{Row}
use Rattle.sv_log.specs.LogRows.{row, monomial, amount, multiple, times, difference, is_zero}
use Rattle.sv_log.specs.FormsOfTerms.{is_lit, lit_value, is_column, number_of, form_at, node_form, form, forms, IsWorkedOut, AreWorkedOut}
use Rattle.sv_log.proofs.Amounts.{sum_amount, times_amount, zero_is}

none_part : (n : ℤ) → n +ℤ pos 0 ≡ n
none_part n = omega (arith, ints)

one_part : (a v : ℤ) → a ≡ v → pos 0 +ℤ (pos 1 *ℤ a +ℤ pos 0) ≡ v
one_part a v e = omega (arith, ints)

minus_is : (a b : ℤ) → a +ℤ negsuc 0 *ℤ b ≡ a -ℤ b
minus_is a b = omega (arith, ints)

zero_times : (k a : ℤ) → k ≡ pos 0 → pos 0 +ℤ pos 0 ≡ k *ℤ a
zero_times k a e = let f = ap (λ z. z *ℤ a) e in omega (arith, ints, f)

module _ (look : ℕ → ℤ) where
  pub multiple_amount : (k : ℤ) (r : Row) → amount look (multiple k r) ≡ k *ℤ amount look r
  multiple_amount k r = go (is_zero k) refl
    where
      go : (b : Bool) → is_zero k ≡ b → amount look (cond b (row (pos 0) []) (times k r)) ≡ k *ℤ amount look r
      go true e = zero_times k (amount look r) (zero_is k e)
      go false e = times_amount look k r

  pub gap : (f g : Row) → amount look (difference f g) ≡ amount look f -ℤ amount look g
  gap f g = sum_amount look f (times (negsuc 0) g) ∙ (ap (λ z. amount look f +ℤ z) (times_amount look (negsuc 0) g) ∙ minus_is (amount look f) (amount look g))

-- a literal has its number in every model
lit_number : (m : Model) (ts : Terms) (k : ℕ) → is_lit (term_at k ts) ≡ true → number (value_at k (values m ts)) ≡ lit_value (term_at k ts)
lit_number m End k e = cc e
lit_number m (More (App (LitNode g n) us) ts) zero e = refl
lit_number m (More (App x us) ts) zero e = cc e
lit_number m (More t ts) (suc k) e = lit_number m ts k e

module _ (m : Model) (look : ℕ → ℤ) (terms : List Term) (agrees : (t : Term) → Contains terms t → look (number_of terms t) ≡ number (value m t)) where
  abbrev Args : Terms → Type 0
  Args ts = AreWorkedOut terms ts → (k : ℕ) → is_num (sort_at k (sorts_of ts)) ≡ true → amount look (form_at k (forms terms ts)) ≡ number (value_at k (values m ts))

  abbrev column : Shape → Terms → Row
  column x ts = row (pos 0) (monomial (pos 1) (number_of terms (App x ts)) ∷ [])

  product : (ts : Terms) → (p q : Bool) → is_lit (term_at 0 ts) ≡ p → is_lit (term_at 1 ts) ≡ q → MatchBool (not (p || q)) (Contains terms (App MulNode ts)) (AreWorkedOut terms ts) → is_num (sort_at 0 (sorts_of ts)) ≡ true → is_num (sort_at 1 (sorts_of ts)) ≡ true → Args ts → amount look (cond p (multiple (lit_value (term_at 0 ts)) (form_at 1 (forms terms ts))) (cond q (multiple (lit_value (term_at 1 ts)) (form_at 0 (forms terms ts))) (column MulNode ts))) ≡ number (value_at 0 (values m ts)) *ℤ number (value_at 1 (values m ts))
  product ts true q e f w n k args =
      multiple_amount look (lit_value (term_at 0 ts)) (form_at 1 (forms terms ts))
      ∙ ap₂ (λ y z. y *ℤ z) (sym (lit_number m ts 0 e)) (args w 1 k)
  product ts false true e f w n k args =
      multiple_amount look (lit_value (term_at 1 ts)) (form_at 0 (forms terms ts))
      ∙ (ap₂ (λ y z. y *ℤ z) (sym (lit_number m ts 1 f)) (args w 0 n) ∙ *ℤ_comm (number (value_at 1 (values m ts))) (number (value_at 0 (values m ts))))
  product ts false false e f w n k args = one_part (look (number_of terms (App MulNode ts))) (number (value m (App MulNode ts))) (agrees (App MulNode ts) w)

  by_node : (x : Shape) (ts : Terms) → fits_node x (sorts_of ts) ≡ true → MatchBool (is_column x ts) (Contains terms (App x ts)) (AreWorkedOut terms ts) → Args ts → amount look (node_form (column x ts) x ts (forms terms ts)) ≡ number (value m (App x ts))
  by_node (LitNode g n) ts f w args = none_part (lit_value (App (LitNode g n) ts))
  by_node AddNode ts f w args =
      let n = both_true _ _ (two_of both_num (sorts_of ts) f) in
      sum_amount look (form_at 0 (forms terms ts)) (form_at 1 (forms terms ts)) ∙ ap₂ (λ y z. y +ℤ z) (args w 0 n.0) (args w 1 n.1)
  by_node SubNode ts f w args =
      let n = both_true _ _ (two_of both_num (sorts_of ts) f) in
      gap look (form_at 0 (forms terms ts)) (form_at 1 (forms terms ts)) ∙ ap₂ (λ y z. y -ℤ z) (args w 0 n.0) (args w 1 n.1)
  by_node MulNode ts f w args =
      let n = both_true _ _ (two_of both_num (sorts_of ts) f) in
      product ts (is_lit (term_at 0 ts)) (is_lit (term_at 1 ts)) refl refl w n.0 n.1 args
  by_node x ts f w args = one_part (look (number_of terms (App x ts))) (number (value m (App x ts))) (agrees (App x ts) w)

  mutual
    pub form_amount : (t : Term) → fits t ≡ true → IsWorkedOut terms t → amount look (form terms t) ≡ number (value m t)
    form_amount (App x ts) f w = by_node x ts (both_true _ _ f).1 w.1 (λ v k e. args_amount ts (both_true _ _ f).0 v k e)

    pub args_amount : (ts : Terms) → all_fit ts ≡ true → AreWorkedOut terms ts → (k : ℕ) → is_num (sort_at k (sorts_of ts)) ≡ true → amount look (form_at k (forms terms ts)) ≡ number (value_at k (values m ts))
    args_amount End f w k e = cc e
    args_amount (More t ts) f w zero e = form_amount t (both_true _ _ f).0 w.0
    args_amount (More t ts) f w (suc k) e = args_amount ts (both_true _ _ f).1 w.1 k e
