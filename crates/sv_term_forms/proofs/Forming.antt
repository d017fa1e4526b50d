-- The form of a fact is the difference of two sides.
use Rattle.std.proofs.Common.{ℕ, ◌+◌, ◌<◌, inl, inr, slice_index_or, Bool, true, false, cond, List, [], length, ◌≡◌, refl, sym, ap, ◌∙◌, subst, arith}
use Rattle.std.specs.Prelude.{None, Some, FitsSigned}
use Rattle.std.proofs.lemmas.List.{get_or-map, get_or_default}
use mir.Syntax.{w128}
use lib.IntN.{ℤ, pos, negsuc}
use Rattle.std.proofs.lemmas.Int.{ints}
use Rattle.sv_num.specs.Range.{IsI128}
use Rattle.sv_term.specs.Sorts.{is_num, sort_at}
use Rattle.sv_term.specs.Terms.{LeNode, EqNode, Term, App, Terms, sorts_of}
use Rattle.sv_term.specs.FactRules.{Fact, Says}
use Rattle.sv_log.specs.LogEntries.{Monomial, Row}
use Rattle.sv_log.specs.LogRows.{row, plain_monomial, sum_of, difference, FitsRow}
use Rattle.sv_log.specs.FormsOfTerms.{form_at, forms, form_of_fact}
use Rattle.sv_log.specs.Logs.{nth_term}
use Rattle.sv_row.specs.RowParts.{monomials, AreInRange, IsNormal}
use Rattle.sv_form.specs.declared.node.Linear.{Linear}
use Rattle.sv_form.specs.declared.node.Linear.TheVariants.{Outside}
use Rattle.sv_form.specs.Nodes.{IsSoundNode, AreSound}
use Rattle.sv_form_rows.specs.declared.fact_sides.Sides.{Sides}
use Rattle.sv_form_rows.specs.TermForms.{form_of, Tells, AreFormsOf}
use Rattle.sv_form_rows.specs.Questions.{gap_row, ShowsSides, HasSides, TellsDifference}
use Rattle.sv_form_rows.proofs.KeptForms.{normal_forms}
use Rattle.sv_form_rows.proofs.NormalRows.{normal_difference}
use Rattle.sv_form_rows.proofs.RowNumbers.{same_column}
use Rattle.sv_term_forms.specs.FormLists.{AnswersForm, FormsAreNormal}

pub no_terms : AreFormsOf [] []
no_terms = record {
  size = refl;
  apart = λ i j h k e. absurd (omega (arith, h));
  columns = λ n h. absurd (omega (arith, h));
  tells = λ n h. absurd (omega (arith, h));
}

some_is : (r s : Row) → Some r ≡ Some s → r ≡ s
some_is r s e = cc e

-- ---- whether a row is a form

pub sides_within : (nodes : List Linear) (n : ℕ) (d : Linear) → n < length nodes → AreSound nodes → (s : Sides)
    → (IsSoundNode nodes n (slice_index_or nodes n d) → (s.first < n) × (s.second < n)) → (s.first < length nodes) × (s.second < length nodes)
sides_within nodes n d h sound s f =
    let l = f (subst (IsSoundNode nodes n) (get_or_default nodes n Outside d h) (sound.node n h)) in (omega (arith, h, l.0), omega (arith, h, l.1))

module _ (nodes : List Linear) (sign : Bool) (n : ℕ) (forward : Bool) (r : Row) (d : Linear) (within : n < length nodes) where
  told : (ts : List Term) → AreFormsOf ts nodes → Tells ts (nth_term ts n) (slice_index_or nodes n d)
  told ts f = subst (Tells ts (nth_term ts n)) (get_or_default nodes n Outside d within) (f.tells n (omega (arith, within, f.size)))

  pub answers_none : ShowsSides (slice_index_or nodes n d) sign forward None → AnswersForm nodes sign n forward r false
  answers_none shows ts f = (
    (λ t. cc t),
    λ g. let e : None ≡ Some r = sym (shows ts (nth_term ts n) (told ts f)) ∙ g.is in cc e,
  )

  pub answers_some : (s : Sides) (answer : Bool) → ShowsSides (slice_index_or nodes n d) sign forward (Some s) → TellsDifference nodes s r answer → FitsRow r → AnswersForm nodes sign n forward r answer
  answers_some s answer shows tells fits ts f =
      let h : HasSides ts (nth_term ts n) sign forward s = shows ts (nth_term ts n) (told ts f) in (
        (λ t. let w = (tells ts f).0 t in record {
          is = h.form ∙ ap Some (sym w.2);
          sides = h.worked.1 (w.0, w.1);
          fits = fits;
        }),
        λ g. let w = h.worked.0 g.sides in (tells ts f).1 (w.0, w.1, some_is r (gap_row s.strict (form_of ts s.first) (form_of ts s.second)) (sym g.is ∙ h.form)),
      )

-- ---- normal form

normal_of : (r s : Row) → Some s ≡ Some r → IsNormal s.parts → IsNormal r.parts
normal_of r s e n = subst (λ (z : Row). IsNormal z.parts) (some_is s r e) n

module _ (ts : List Term) (vs : Terms) where
  less : (i j : ℕ) → IsNormal (difference (form_at i (forms ts vs)) (form_at j (forms ts vs))).parts
  less i j = normal_difference (form_at i (forms ts vs)) (form_at j (forms ts vs)) (normal_forms ts vs j)

pub forms_normal : FormsAreNormal
forms_normal ts f forward r g = go f forward g.is
  where
    equation : (vs : Terms) (numbers forward : Bool)
        → cond numbers (cond forward (Some (difference (form_at 0 (forms ts vs)) (form_at 1 (forms ts vs)))) (Some (difference (form_at 1 (forms ts vs)) (form_at 0 (forms ts vs))))) None ≡ Some r
        → IsNormal r.parts
    equation vs true true e = normal_of r (difference (form_at 0 (forms ts vs)) (form_at 1 (forms ts vs))) e (less ts vs 0 1)
    equation vs true false e = normal_of r (difference (form_at 1 (forms ts vs)) (form_at 0 (forms ts vs))) e (less ts vs 1 0)
    equation vs false forward e = cc e

    go : (f : Fact) (forward : Bool) → form_of_fact ts f forward ≡ Some r → IsNormal r.parts
    go (Says true (App LeNode vs)) true e = normal_of r (difference (form_at 0 (forms ts vs)) (form_at 1 (forms ts vs))) e (less ts vs 0 1)
    go (Says false (App LeNode vs)) true e =
        normal_of r (sum_of (row (pos 1) []) (difference (form_at 1 (forms ts vs)) (form_at 0 (forms ts vs)))) e (less ts vs 1 0)
    go (Says true (App EqNode vs)) forward e = equation vs (is_num (sort_at 0 (sorts_of vs))) forward e
    go f forward e = cc e

-- ---- numbers in range

fits_is : (z : ℤ) → FitsSigned w128 z → IsI128 z
fits_is (pos n) f = let h = f.sfits in (omega (arith, ints), omega (arith, ints))
fits_is (negsuc n) f = let h = f.sfits in (omega (arith, ints), omega (arith, ints))

pub row_fits : (constant : ℤ) (parts : List Monomial) → FitsSigned w128 constant → AreInRange parts → FitsRow (row constant parts)
row_fits constant parts f h = (fits_is constant f, h)

pub one_more : (parts : List (ℤ × ℕ)) (k : ℕ) → k < length parts → FitsSigned w128 (slice_index_or parts k (pos 0, 0)).0
    → ((i : ℕ) (d : Monomial) → i < k → IsI128 (slice_index_or (monomials parts) i d).factor)
    → (i : ℕ) (d : Monomial) → i < k + 1 → IsI128 (slice_index_or (monomials parts) i d).factor
one_more parts k below f h i d l = elim (same_column i k) [
  | inl e ↦ subst (λ (j : ℕ). IsI128 (slice_index_or (monomials parts) j d).factor) (sym e)
      (subst (λ (p : Monomial). IsI128 p.factor) (sym (get_or-map plain_monomial parts k (pos 0, 0) d below)) (fits_is (slice_index_or parts k (pos 0, 0)).0 f))
  | inr g ↦ h i d (omega (arith, l, g))
]
