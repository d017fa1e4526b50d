-- What settled weights tell of the terms that the nodes are those of.
use Rattle.std.proofs.Common.{ℕ, zero, suc, ◌+◌, ◌-◌, ◌++◌, add-one, ◌<◌, ◌≤◌, ◌⊎◌, inl, inr, Bool, true, false, List, [], ◌∷◌, length, ◌≡◌, ◌↔◌, refl, sym, ap, ap₂, ◌∙◌, subst, arith, IsTrue}
use Rattle.std.specs.List.{Contains}
use Rattle.std.proofs.lemmas.Int.{ints}
use Rattle.std.proofs.lemmas.List.Elements.{All-cons}
use Rattle.std.specs.Prelude.{FitsSigned}
use Rattle.std.proofs.lemmas.Int.{to_z-of_z, int_wrap_fits}
use mir.Syntax.{w128}
use mir.Val.{to_z, of_z}
use lib.IntN.{ℤ, pos, negsuc, ◌+ℤ◌, ◌-ℤ◌, ◌*ℤ◌}
use Rattle.sv_num.specs.Range.{IsI128}
use Rattle.sv_term.specs.Terms.{Term, App}
use Rattle.sv_log.specs.LogEntries.{Monomial, Row}
use Rattle.sv_log.specs.LogRows.{row, monomial, plain_monomial, difference, FitsRow}
use Rattle.sv_log.specs.FormsOfTerms.{lit_value, is_column, number_of, form, IsWorkedOut, AreWorkedOut}
use Rattle.sv_log.specs.Logs.{nth_term}
use Rattle.sv_form.specs.declared.node.Join.{Join}
use Rattle.sv_form.specs.declared.node.Join.TheVariants.{Sum, Difference, Multiple}
use Rattle.sv_form.specs.declared.node.Linear.{Linear}
use Rattle.sv_form.specs.declared.node.Linear.TheVariants.{Literal, Wide, Joined, Column, AtMost, Equal, Outside}
use Rattle.sv_form.specs.Joins.{joined}
use Rattle.sv_form.specs.Nodes.{node_at, is_in_range}
use Rattle.sv_form.specs.TermWeights.{weight_at, wrapped, IsSettled}
use Rattle.std.proofs.lemmas.List.{append_cancel_left}
use Rattle.sv_row.specs.RowParts.{monomials}
use Rattle.sv_row.specs.SumSteps.{part}
use Rattle.sv_form_rows.specs.Listings.{number_in, listing, gaps}
use Rattle.sv_form_rows.specs.TermForms.{form_of, is_own_column, IsLiteral, Tells, AreFormsOf}
use Rattle.sv_form_rows.specs.Questions.{JoinsUpTo, TellsJoin, gap_number, gap_row, TellsDifference, IsGapRow}
use Rattle.sv_form_rows.proofs.RowNumbers.{same_column, same_listing, listed, zero_fits, part_one}
use Rattle.sv_form_rows.proofs.NormalRows.{normal_difference}
use Rattle.sv_form_rows.proofs.KeptForms.{nth_there, normal_form, either}
use Rattle.sv_form_rows.proofs.JoinedRows.{minus_is, difference_number, fits_joined, joined_fits}
use Rattle.sv_form_rows.proofs.Spreading.{literal_form, own_column_form, fits_by, is_own, constant_is, number_is}

abbrev pub read : ℤ → ℤ
read z = to_z w128 (of_z w128 z)

fits_is : (z : ℤ) → FitsSigned w128 z → IsI128 z
fits_is (pos n) f = let h = f.sfits in (omega (arith, ints), omega (arith, ints))
fits_is (negsuc n) f = let h = f.sfits in (omega (arith, ints), omega (arith, ints))

-- ---- which terms are worked out

one_fits : IsI128 (pos 1)
one_fits = (omega (arith, ints), omega (arith, ints))

fits_one : (n : ℕ) → FitsRow (row (pos 0) (monomial (pos 1) n ∷ []))
fits_one n = (zero_fits, All-cons (λ p. IsI128 p.factor) (monomial (pos 1) n) [] one_fits (λ i d l. absurd (omega (arith, l))))

own_worked : (ts : List Term) (t : Term) → is_own_column t ≡ true → Contains ts t → IsWorkedOut ts t
own_worked ts (App x vs) e c = (
  subst FitsRow (sym (own_column_form ts (App x vs) e)) (fits_one (number_of ts (App x vs))),
  either (Contains ts (App x vs)) (AreWorkedOut ts vs) (is_column x vs) (λ f. c) (λ f. let g : true ≡ false = sym e ∙ f in cc g),
)

literal_worked : (ts : List Term) (t : Term) (z : ℤ) → IsLiteral t z → IsI128 z → IsWorkedOut ts t
literal_worked ts t z l f =
    subst (IsWorkedOut ts) (sym l.is) ((subst IsI128 (sym (sym (ap lit_value l.is) ∙ l.worth)) f, λ i d k. absurd (omega (arith, k))), tt)

fits_of : (ts : List Term) (t : Term) → IsWorkedOut ts t → FitsRow (form ts t)
fits_of ts (App x vs) w = w.0

module _ (ts : List Term) (nodes : List Linear) (f : AreFormsOf ts nodes) where
  pub formed_worked : (n : ℕ) → n < length nodes → IsTrue (is_in_range (node_at nodes n)) → IsWorkedOut ts (nth_term ts n)
  formed_worked n h r = go (node_at nodes n) (f.tells n inside) r
    where
      inside : n < length ts
      inside = omega (arith, h, f.size)

      go : (l : Linear) → Tells ts (nth_term ts n) l → IsTrue (is_in_range l) → IsWorkedOut ts (nth_term ts n)
      go (Literal z) t r = literal_worked ts (nth_term ts n) z t.0 t.1
      go Wide t r = cc r
      go (Joined how a b) t r = t.1
      go Column t r = own_worked ts (nth_term ts n) (is_own ts nodes f n Column t refl) (nth_there ts n inside)
      go (AtMost a b) t r = own_worked ts (nth_term ts n) (is_own ts nodes f n (AtMost a b) t refl) (nth_there ts n inside)
      go (Equal a b) t r = own_worked ts (nth_term ts n) (is_own ts nodes f n (Equal a b) t refl) (nth_there ts n inside)
      go Outside t r = cc r

  pub unformed_refused : (n : ℕ) → n < length nodes → is_in_range (node_at nodes n) ≡ false → IsWorkedOut ts (nth_term ts n) → ⊥
  unformed_refused n h r w = go (node_at nodes n) (f.tells n (omega (arith, h, f.size))) r
    where
      go : (l : Linear) → Tells ts (nth_term ts n) l → is_in_range l ≡ false → ⊥
      go Wide t r = t.1 (subst (λ (z : Row). IsI128 z.constant) (literal_form ts (nth_term ts n) (lit_value (nth_term ts n)) t.0) (fits_of ts (nth_term ts n) w).0)
      go Outside t r = t.1 w
      go (Literal z) t r = cc r
      go (Joined how a b) t r = cc r
      go Column t r = cc r
      go (AtMost a b) t r = cc r
      go (Equal a b) t r = cc r

-- ---- two sides

pub joins_more : (how : Join) (ws us : List ℤ) (k : ℕ) → JoinsUpTo how ws us k → IsI128 (joined how (wrapped (weight_at ws k)) (wrapped (weight_at us k))) → JoinsUpTo how ws us (k + 1)
joins_more how ws us k h i j l = elim (same_column j k) [
  | inl e ↦ subst (λ n. IsI128 (joined how (wrapped (weight_at ws n)) (wrapped (weight_at us n)))) (sym e) i
  | inr g ↦ h j (omega (arith, l, g))
]

read_wrapped : (a : ℤ) → FitsSigned w128 a → read a ≡ wrapped a
read_wrapped a f = to_z-of_z w128 a f ∙ sym (int_wrap_fits w128 a f)

pub read_joined : (how : Join) (a b : ℤ) → FitsSigned w128 a → FitsSigned w128 b → joined how (read a) (read b) ≡ joined how (wrapped a) (wrapped b)
read_joined how a b f g = ap₂ (joined how) (read_wrapped a f) (read_wrapped b g)

joined_zero : (how : Join) → joined how (pos 0) (pos 0) ≡ pos 0
joined_zero Sum = refl
joined_zero Difference = refl
joined_zero (Multiple z) = none z
  where
    none : (z : ℤ) → z *ℤ pos 0 ≡ pos 0
    none z = omega (arith, ints)

module _ (nodes : List Linear) (a b : ℕ) (ws us : List ℤ) (one other : ℤ) (count : ℕ)
    (sa : IsSettled nodes a ws one) (sb : IsSettled nodes b us other) (below : (a < count) × (b < count)) (within : (a < length nodes) × (b < length nodes))
    (ra : IsTrue (is_in_range (node_at nodes a))) (rb : IsTrue (is_in_range (node_at nodes b)))
    (signed_one : FitsSigned w128 one) (signed_other : FitsSigned w128 other) where
  fit_one : IsI128 one
  fit_one = fits_is one signed_one

  fit_other : IsI128 other
  fit_other = fits_is other signed_other

  blank_above : (k : ℕ) → count ≤ k → (wrapped (weight_at ws k) ≡ pos 0) × (wrapped (weight_at us k) ≡ pos 0)
  blank_above k l = (ap wrapped (sa.above.none k (omega (arith, l, below.0))) ∙ wrapped_zero, ap wrapped (sb.above.none k (omega (arith, l, below.1))) ∙ wrapped_zero)
    where
      wrapped_zero : wrapped (pos 0) ≡ pos 0
      wrapped_zero = int_wrap_fits w128 (pos 0) (fits_by (pos 0) zero_fits)

  module _ (ts : List Term) (f : AreFormsOf ts nodes) where
    first_worked : IsWorkedOut ts (nth_term ts a)
    first_worked = formed_worked ts nodes f a within.0 ra

    second_worked : IsWorkedOut ts (nth_term ts b)
    second_worked = formed_worked ts nodes f b within.1 rb

    first_number : (k : ℕ) → wrapped (weight_at ws k) ≡ number_in (form_of ts a).parts k
    first_number k = number_is ts nodes f a ws one sa fit_one first_worked k

    second_number : (k : ℕ) → wrapped (weight_at us k) ≡ number_in (form_of ts b).parts k
    second_number k = number_is ts nodes f b us other sb fit_other second_worked k

    first_constant : one ≡ (form_of ts a).constant
    first_constant = constant_is ts nodes f a ws one sa fit_one first_worked

    second_constant : other ≡ (form_of ts b).constant
    second_constant = constant_is ts nodes f b us other sb fit_other second_worked

    joined_at : (how : Join) (k : ℕ) → joined how (wrapped (weight_at ws k)) (wrapped (weight_at us k)) ≡ joined how (number_in (form_of ts a).parts k) (number_in (form_of ts b).parts k)
    joined_at how k = ap₂ (joined how) (first_number k) (second_number k)

    all_joined : (how : Join) → JoinsUpTo how ws us count → (k : ℕ) → IsI128 (joined how (wrapped (weight_at ws k)) (wrapped (weight_at us k)))
    all_joined how h k = go (order k count)
      where
        order : (k n : ℕ) → (k < n) ⊎ (n ≤ k)
        order k zero = inr (omega arith)
        order zero (suc n) = inl (omega arith)
        order (suc k) (suc n) = elim (order k n) [ inl l ↦ inl (omega (arith, l)) | inr l ↦ inr (omega (arith, l)) ]

        go : (k < count) ⊎ (count ≤ k) → IsI128 (joined how (wrapped (weight_at ws k)) (wrapped (weight_at us k)))
        go (inl l) = h k l
        go (inr l) = subst IsI128 (sym (ap₂ (joined how) (blank_above k l).0 (blank_above k l).1 ∙ joined_zero how)) zero_fits

  pub tells_join : (how : Join) (answer : Bool) → (IsTrue answer ↔ IsI128 (joined how (read one) (read other)) × JoinsUpTo how ws us count) → TellsJoin nodes how a b answer
  tells_join how answer e ts f = let d = subst (λ (y : ℤ). IsTrue answer ↔ IsI128 (joined how y other) × JoinsUpTo how ws us count) (to_z-of_z w128 one signed_one) (subst (λ (z : ℤ). IsTrue answer ↔ IsI128 (joined how (read one) z) × JoinsUpTo how ws us count) (to_z-of_z w128 other signed_other) e) in (
    (λ t. (
      first_worked ts f,
      second_worked ts f,
      fits_joined how (form_of ts a) (form_of ts b) (normal_form ts (nth_term ts a)) (normal_form ts (nth_term ts b))
          (subst IsI128 (ap₂ (joined how) (first_constant ts f) (second_constant ts f)) (d.0 t).0)
          (λ k. subst IsI128 (joined_at ts f how k) (all_joined ts f how (d.0 t).1 k)),
    )),
    λ g. d.1 (
        let h = joined_fits how (form_of ts a) (form_of ts b) (normal_form ts (nth_term ts a)) (normal_form ts (nth_term ts b)) g.2 in (
          subst IsI128 (sym (ap₂ (joined how) (first_constant ts f) (second_constant ts f))) h.0,
          λ k l. subst IsI128 (sym (joined_at ts f how k)) (h.1 k),
        )
        ),
  )

  module _ (ts : List Term) (f : AreFormsOf ts nodes) where
    gap_parts : (difference (form_of ts a) (form_of ts b)).parts ≡ listing (gaps ws us) 0 count
    gap_parts =
        listed (difference (form_of ts a) (form_of ts b)).parts count (normal_difference (form_of ts a) (form_of ts b) (normal_form ts (nth_term ts b)))
        (λ j l. sym (gap_at j) ∙ (ap₂ (λ y z. y -ℤ z) (blank_above j l).0 (blank_above j l).1))
        ∙ same_listing (number_in (difference (form_of ts a) (form_of ts b)).parts) (gaps ws us) 0 count (λ j l. sym (gap_at j))
      where
        gap_at : (j : ℕ) → gaps ws us j ≡ number_in (difference (form_of ts a) (form_of ts b)).parts j
        gap_at j = ap₂ (λ y z. y -ℤ z) (first_number ts f j) (second_number ts f j) ∙ sym (difference_number (form_of ts a) (form_of ts b) j)

    gap_is : (strict : Bool) → gap_row strict (form_of ts a) (form_of ts b) ≡ row (gap_number strict one other) (listing (gaps ws us) 0 count)
    gap_is true = ap₂ (λ k ps. row (pos 1 +ℤ k) ps) constant gap_parts
      where
        constant : (difference (form_of ts a) (form_of ts b)).constant ≡ one -ℤ other
        constant = minus_is (form_of ts a).constant (form_of ts b).constant ∙ sym (ap₂ (λ y z. y -ℤ z) (first_constant ts f) (second_constant ts f))
    gap_is false = ap₂ row constant gap_parts
      where
        constant : (difference (form_of ts a) (form_of ts b)).constant ≡ one -ℤ other
        constant = minus_is (form_of ts a).constant (form_of ts b).constant ∙ sym (ap₂ (λ y z. y -ℤ z) (first_constant ts f) (second_constant ts f))

  pub tells_difference : (strict : Bool) (constant : ℤ) (parts : List Monomial) (answer : Bool) → (IsTrue answer ↔ IsGapRow (read one) (read other) strict ws us count constant parts)
      → TellsDifference nodes (record { first = a; second = b; strict = strict }) (row constant parts) answer
  tells_difference strict constant parts answer e ts f = let d = subst (λ (y : ℤ). IsTrue answer ↔ IsGapRow y other strict ws us count constant parts) (to_z-of_z w128 one signed_one) (subst (λ (z : ℤ). IsTrue answer ↔ IsGapRow (read one) z strict ws us count constant parts) (to_z-of_z w128 other signed_other) e) in (
    (λ t. (first_worked ts f, second_worked ts f, ap₂ row (d.0 t).0 (d.0 t).1 ∙ sym (gap_is ts f strict))),
    λ g. let e : row constant parts ≡ row (gap_number strict one other) (listing (gaps ws us) 0 count) = g.2 ∙ gap_is ts f strict in
        d.1 (ap (λ (r : Row). r.constant) e, ap (λ (r : Row). r.parts) e),
  )

-- ---- the parts of a row against a listing

sub_zero : (a b : ℤ) → a -ℤ b ≡ pos 0 → a ≡ b
sub_zero a b e = omega (arith, ints, e)

pub gap_not_zero : (a b : ℤ) → (of_z w128 a ≡ of_z w128 b → ⊥) → a -ℤ b ≡ pos 0 → ⊥
gap_not_zero a b h e = h (ap (of_z w128) (sub_zero a b e))

pub not_part : (k a b : ℤ) (x column : ℕ) (r : Bool) → FitsSigned w128 k → FitsSigned w128 a → FitsSigned w128 b → (IsTrue r ↔ (read k ≡ read a -ℤ read b) × (x ≡ column)) → r ≡ false
    → (k ≡ a -ℤ b) × (x ≡ column) → ⊥
not_part k a b x column r f g h d e p =
    let t : r ≡ true = d.1 (to_z-of_z w128 k f ∙ (p.0 ∙ sym (ap₂ (λ y z. y -ℤ z) (to_z-of_z w128 a g) (to_z-of_z w128 b h))), p.1) in
    let u : true ≡ false = sym t ∙ e in cc u

begins_with : (k : ℤ) (x : ℕ) (ms ts : List Monomial) → (k ≡ pos 0 → ⊥) → ms ≡ part k x ++ ts → ms ≡ monomial k x ∷ ts
begins_with k x ms ts h e = e ∙ ap (λ z. z ++ ts) (part_one k x h)

pub not_first : (k : ℤ) (x : ℕ) (p : ℤ × ℕ) (ps rest : List (ℤ × ℕ)) → ps ≡ p ∷ rest → (k ≡ pos 0 → ⊥) → ((p.0 ≡ k) × (p.1 ≡ x) → ⊥) → (ts : List Monomial) → monomials ps ≡ part k x ++ ts → ⊥
not_first k x p ps rest e h f ts g =
    let lists : plain_monomial p ∷ monomials rest ≡ monomial k x ∷ ts = sym (ap monomials e) ∙ begins_with k x (monomials ps) ts h g in
    let head : plain_monomial p ≡ monomial k x = cc lists in
    f (ap (λ (z : Monomial). z.factor) head, ap (λ (z : Monomial). z.column) head)

pub read_gap : (a b : ℤ) → FitsSigned w128 a → FitsSigned w128 b → read a -ℤ read b ≡ wrapped a -ℤ wrapped b
read_gap a b f g = ap₂ (λ y z. y -ℤ z) (read_wrapped a f) (read_wrapped b g)

listing_step : (x : ℕ → ℤ) (k n : ℕ) → k < n → listing x k (n - k) ≡ part (x k) k ++ listing x (k + 1) (n - (k + 1))
listing_step x k n h =
    let e : n - k ≡ suc (n - (k + 1)) = omega (arith, h) in
    ap (listing x k) e ∙ ap (λ j. part (x k) k ++ listing x j (n - (k + 1))) (sym (add-one k))

module _ (x : ℕ → ℤ) (k n : ℕ) (below : k < n) (g : ℤ) (is : g ≡ x k) (all whole rest : List Monomial) (d : (all ≡ whole) ↔ (rest ≡ listing x k (n - k))) where
  step : listing x k (n - k) ≡ part g k ++ listing x (k + 1) (n - (k + 1))
  step = listing_step x k n below ∙ ap (λ z. part z k ++ listing x (k + 1) (n - (k + 1))) (sym is)

  pub on_listing : (more : List Monomial) → rest ≡ part g k ++ more → (all ≡ whole) ↔ (more ≡ listing x (k + 1) (n - (k + 1)))
  on_listing more r = (
    (λ e. append_cancel_left (part g k) more (listing x (k + 1) (n - (k + 1))) (sym r ∙ (d.0 e ∙ step))),
    λ e. d.1 (r ∙ (ap (λ t. part g k ++ t) e ∙ sym step)),
  )

  pub off_listing : ((ts : List Monomial) → rest ≡ part g k ++ ts → ⊥) → all ≡ whole → ⊥
  off_listing h e = h (listing x (k + 1) (n - (k + 1))) (d.0 e ∙ step)
