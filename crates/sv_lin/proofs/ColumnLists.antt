-- The columns of rows as one list, and in order.
use Rattle.std.proofs.Common.{ℕ, zero, suc, ◌+◌, ◌<◌, ◌≤◌, inl, inr, List, [], ◌∷◌, ◌++◌, length, take, get_or, ◌≡◌, refl, sym, ap, ◌∙◌, subst, arith, append_assoc}
use Rattle.std.proofs.lemmas.List.Elements.{Contains-append_left, Contains-append_right, Contains-append_cases}
use Rattle.std.proofs.lemmas.List.Sorted.{Contains-permutation, IsPermutation-sym}
use Rattle.std.proofs.lemmas.List.Kept.{Contains-dedup_nat, Contains-from_dedup}
use Rattle.std.proofs.lemmas.Map.Keys.{IsStrictlyIncreasing-dedup}
use Rattle.std.specs.List.{Contains, dedup}
use Rattle.std.specs.List.Sorted.{IsPermutation, IsSorted}
use Rattle.std.specs.Ordering.{nat_cmp}
use Rattle.sv_row.specs.RowParts.{monomials}
use Rattle.std.specs.Prelude.{ℤ, slice_index_or, slice_index, nat_eq}
use Rattle.sv_log.specs.LogEntries.{Row, columns}
use Rattle.sv_cert.specs.declared.log.Row.{Row as CodeRow}
use Rattle.sv_cert.specs.PlainLogs.{plain_row}
use Rattle.sv_lin.specs.Eliminations.{IsColumnOf}
use Rattle.sv_lin.specs.UnderWay.{given, columns_among, RiseFrom, AreColumns}

pub among_more : (rows : List CodeRow) (i : ℕ) (x : CodeRow) → i < length rows → x ≡ get_or rows i x → columns_among (given (take (i + 1) rows)) ≡ columns_among (given (take i rows)) ++ columns (plain_row x).parts
among_more [] i x l e = absurd (omega (arith, l))
among_more (y ∷ rows) zero x l e = append_nothing (columns (plain_row y).parts) ∙ ap (λ (z : CodeRow). columns (plain_row z).parts) (sym e)
  where
    append_nothing : (xs : List ℕ) → xs ++ [] ≡ xs
    append_nothing [] = refl
    append_nothing (x ∷ xs) = ap (λ z. x ∷ z) (append_nothing xs)
among_more (y ∷ rows) (suc i) x l e =
    ap (λ n. columns_among (given (take n (y ∷ rows)))) (shifted i)
    ∙ (ap (λ z. columns (plain_row y).parts ++ z) (among_more rows i x (omega (arith, l)) e)
    ∙ sym (append_assoc (columns (plain_row y).parts) (columns_among (given (take i rows))) (columns (plain_row x).parts)))
  where
    shifted : (i : ℕ) → suc i + 1 ≡ suc (i + 1)
    shifted i = omega arith

pub take_all : {A : Type 0} (xs : List A) (n : ℕ) → length xs ≤ n → take n xs ≡ xs
take_all [] zero h = refl
take_all [] (suc n) h = refl
take_all (x ∷ xs) zero h = absurd (omega (arith, h))
take_all (x ∷ xs) (suc n) h = ap (λ z. x ∷ z) (take_all xs n (omega (arith, h)))

pub parts_more : (ps : List (ℤ × ℕ)) (i : ℕ) (d : ℤ × ℕ) → i < length ps → columns (monomials (take (i + 1) ps)) ≡ columns (monomials (take i ps)) ++ (get_or ps i d).1 ∷ []
parts_more [] i d l = absurd (omega (arith, l))
parts_more (p ∷ ps) zero d l = refl
parts_more (p ∷ ps) (suc i) d l = ap (λ n. columns (monomials (take n (p ∷ ps)))) (shifted i) ∙ ap (λ z. p.1 ∷ z) (parts_more ps i d (omega (arith, l)))
  where
    shifted : (i : ℕ) → suc i + 1 ≡ suc (i + 1)
    shifted i = omega arith

of_row : (rows : List Row) (x : ℕ) → Contains (columns_among rows) x → IsColumnOf rows x
of_row [] x c = absurd (let l = c.1 in omega (arith, l))
of_row (r ∷ rows) x c = elim (Contains-append_cases (columns r.parts) (columns_among rows) x c) [
  | inl a ↦ (r, (0, omega arith, refl), a)
  | inr b ↦ let h = of_row rows x b in (h.0, (suc h.1.0, let l = h.1.1 in omega (arith, l), h.1.2), h.2)
]

in_row : (rows : List Row) (x : ℕ) → IsColumnOf rows x → Contains (columns_among rows) x
in_row rows x c = go rows c.0 c.1.0 c.1.1 c.1.2 c.2
  where
    go : (rows : List Row) (r : Row) (k : ℕ) → k < length rows → slice_index_or rows k r ≡ r → Contains (columns r.parts) x → Contains (columns_among rows) x
    go [] r k l e c = absurd (omega (arith, l))
    go (s ∷ rows) r zero l e c = Contains-append_left (columns s.parts) (columns_among rows) x (subst (λ (u : Row). Contains (columns u.parts) x) (sym e) c)
    go (s ∷ rows) r (suc k) l e c = Contains-append_right (columns s.parts) (columns_among rows) x (go rows r k (omega (arith, l)) e c)

rises : (n : ℕ) (xs : List ℕ) → ((k : ℕ) → k + 1 < length xs → slice_index xs k < slice_index xs (k + 1)) → (0 < length xs → n ≤ slice_index xs 0) → RiseFrom n xs
rises n [] h b = tt
rises n (x ∷ []) h b = (b (omega arith), tt)
rises n (x ∷ y ∷ xs) h b = (b (omega arith), rises (x + 1) (y ∷ xs) (λ k l. shift k (h (suc k) (omega (arith, l)))) (λ l. let a = h 0 (omega arith) in omega (arith, a)))
  where
    shift : (k : ℕ) → slice_index (x ∷ y ∷ xs) (suc k) < slice_index (x ∷ y ∷ xs) (suc k + 1) → slice_index (y ∷ xs) k < slice_index (y ∷ xs) (k + 1)
    shift k h = subst (λ n. slice_index (y ∷ xs) k < slice_index (x ∷ y ∷ xs) n) (shifted k) h
      where
        shifted : (k : ℕ) → suc k + 1 ≡ suc (k + 1)
        shifted k = omega arith

pub in_order : (rows : List Row) (all sorted done : List ℕ) → all ≡ columns_among rows → IsPermutation all sorted → IsSorted nat_cmp sorted → done ≡ dedup nat_eq sorted → AreColumns rows done
in_order rows all sorted done e p s d = subst (AreColumns rows) (sym d) record {
  rising = rises 0 (dedup nat_eq sorted) (IsStrictlyIncreasing-dedup sorted s) (λ l. omega arith);
  each = λ x. (
    λ c. of_row rows x (subst (λ z. Contains z x) e (Contains-permutation sorted all x (IsPermutation-sym all sorted p) (Contains-from_dedup nat_eq sorted x c))),
    λ c. Contains-dedup_nat sorted x (Contains-permutation all sorted x p (subst (λ z. Contains z x) (sym e) (in_row rows x c))),
  );
}
