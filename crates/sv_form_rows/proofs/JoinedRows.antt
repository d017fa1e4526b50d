-- The numbers of a joined row, and when it fits.
use Rattle.std.proofs.Common.{ℕ, Bool, true, false, cond, [], ◌≡◌, refl, sym, ap, ◌∙◌, subst, arith}
use Rattle.std.proofs.lemmas.Int.{ints}
use lib.IntN.{ℤ, pos, negsuc, ◌+ℤ◌, ◌-ℤ◌, ◌*ℤ◌}
use Rattle.sv_num.specs.Range.{IsI128}
use Rattle.sv_log.specs.LogEntries.{Row}
use Rattle.sv_log.specs.LogRows.{row, is_zero, times, times_parts, amount, multiple, difference, FitsRow}
use Rattle.sv_log.proofs.Amounts.{zero_is, with_parts_total, times_total, sum_amount}
use Rattle.sv_log.proofs.FormAmounts.{gap, multiple_amount}
use Rattle.sv_row.specs.RowParts.{IsNormal}
use Rattle.sv_form.specs.declared.node.Join.{Join}
use Rattle.sv_form.specs.declared.node.Join.TheVariants.{Sum, Difference, Multiple}
use Rattle.sv_form.specs.Joins.{joined}
use Rattle.sv_form_rows.specs.Listings.{only, number_in}
use Rattle.sv_form_rows.specs.TermForms.{joined_rows}
use Rattle.sv_form_rows.proofs.RowNumbers.{numbers_fit, fit_by_numbers}
use Rattle.sv_form_rows.proofs.NormalRows.{normal_sum, normal_difference, normal_multiple}

pub joined_amount : (at : ℕ → ℤ) (how : Join) (r s : Row) → amount at (joined_rows how r s) ≡ joined how (amount at r) (amount at s)
joined_amount at Sum r s = sum_amount at r s
joined_amount at Difference r s = gap at r s
joined_amount at (Multiple z) r s = multiple_amount at z r

pub minus_is : (a b : ℤ) → a +ℤ negsuc 0 *ℤ b ≡ a -ℤ b
minus_is a b = omega (arith, ints)

pub difference_number : (r s : Row) (k : ℕ) → number_in (difference r s).parts k ≡ number_in r.parts k -ℤ number_in s.parts k
difference_number r s k =
    with_parts_total (only k) r.parts (times_parts (negsuc 0) s.parts)
    ∙ (ap (λ z. number_in r.parts k +ℤ z) (times_total (only k) (negsuc 0) s.parts) ∙ minus_is (number_in r.parts k) (number_in s.parts k))

zero_times : (z a : ℤ) → z ≡ pos 0 → pos 0 ≡ z *ℤ a
zero_times z a e = none a ∙ ap (λ y. y *ℤ a) (sym e)
  where
    none : (a : ℤ) → pos 0 ≡ pos 0 *ℤ a
    none a = omega (arith, ints)

multiple_number : (z : ℤ) (r : Row) (k : ℕ) → number_in (multiple z r).parts k ≡ z *ℤ number_in r.parts k
multiple_number z r k = go (is_zero z) refl
  where
    go : (b : Bool) → is_zero z ≡ b → number_in (cond b (row (pos 0) []) (times z r)).parts k ≡ z *ℤ number_in r.parts k
    go true e = zero_times z (number_in r.parts k) (zero_is z e)
    go false e = times_total (only k) z r.parts

multiple_constant : (z : ℤ) (r : Row) → (multiple z r).constant ≡ z *ℤ r.constant
multiple_constant z r = go (is_zero z) refl
  where
    go : (b : Bool) → is_zero z ≡ b → (cond b (row (pos 0) []) (times z r)).constant ≡ z *ℤ r.constant
    go true e = zero_times z r.constant (zero_is z e)
    go false e = refl

joined_number : (how : Join) (r s : Row) (k : ℕ) → number_in (joined_rows how r s).parts k ≡ joined how (number_in r.parts k) (number_in s.parts k)
joined_number Sum r s k = with_parts_total (only k) r.parts s.parts
joined_number Difference r s k = difference_number r s k
joined_number (Multiple z) r s k = multiple_number z r k

joined_constant : (how : Join) (r s : Row) → (joined_rows how r s).constant ≡ joined how r.constant s.constant
joined_constant Sum r s = refl
joined_constant Difference r s = minus_is r.constant s.constant
joined_constant (Multiple z) r s = multiple_constant z r

joined_normal : (how : Join) (r s : Row) → IsNormal r.parts → IsNormal s.parts → IsNormal (joined_rows how r s).parts
joined_normal Sum r s m n = normal_sum r s n
joined_normal Difference r s m n = normal_difference r s n
joined_normal (Multiple z) r s m n = normal_multiple z r m

module _ (how : Join) (r s : Row) (m : IsNormal r.parts) (n : IsNormal s.parts) where
  pub fits_joined : IsI128 (joined how r.constant s.constant) → ((k : ℕ) → IsI128 (joined how (number_in r.parts k) (number_in s.parts k))) → FitsRow (joined_rows how r s)
  fits_joined c f = (
    subst IsI128 (sym (joined_constant how r s)) c,
    fit_by_numbers (joined_rows how r s).parts (joined_normal how r s m n).rising (λ k. subst IsI128 (sym (joined_number how r s k)) (f k)),
  )

  pub joined_fits : FitsRow (joined_rows how r s) → IsI128 (joined how r.constant s.constant) × ((k : ℕ) → IsI128 (joined how (number_in r.parts k) (number_in s.parts k)))
  joined_fits f = (
    subst IsI128 (joined_constant how r s) f.0,
    λ k. subst IsI128 (joined_number how r s k) (numbers_fit (joined_rows how r s).parts (joined_normal how r s m n).rising f.1 k),
  )
