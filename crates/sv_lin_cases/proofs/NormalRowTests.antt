-- Rows in normal form, part by part.
use Rattle.std.proofs.Common.{ℕ, zero, suc, ◌+◌, ◌<◌, ◌≤◌, ◌⊎◌, inl, inr, List, [], ◌∷◌, ◌++◌, map, length, get_or, drop, ◌≡◌, refl, sym, ap, ◌∙◌, subst, arith}
use Rattle.std.proofs.lemmas.List.{drop_all}
use Rattle.std.specs.List.{Contains}
use Rattle.std.specs.Prelude.{slice_index_or}
use Rattle.std.proofs.lemmas.Int.{ints}
use lib.IntN.{ℤ, pos, negsuc, ◌*ℤ◌}
use lib.Signed.{◌<ℤ◌}
use Rattle.sv_log.specs.LogEntries.{Row}
use Rattle.sv_row.specs.RowParts.{monomials, AreAbove, AreRising, AreNonZero}
use Rattle.sv_row.proofs.Sums.{above_more}
use Rattle.sv_cert.specs.declared.log.Row.{Row as CodeRow}
use Rattle.sv_cert.specs.PlainLogs.{plain_row}
use Rattle.sv_point.specs.NearestPoints.{IsRowOf}
use Rattle.sv_lin.specs.CancellingRows.{row_by, CanCancel}
use Rattle.sv_lin.specs.Eliminations.{IsNormalRow}
use Rattle.sv_lin.proofs.Lasts.{row_at_last}

pub nothing_above : (x : ℕ) (ps : List (ℤ × ℕ)) → length ps ≡ 0 → AreAbove x (monomials ps)
nothing_above x [] e = tt
nothing_above x (p ∷ ps) e = absurd (omega (arith, e))

pub next_above : (x : ℕ) (p : ℤ × ℕ) (ps rest : List (ℤ × ℕ)) → ps ≡ p ∷ rest → x < p.1 → AreRising (monomials ps) → AreAbove x (monomials ps)
next_above x p ps rest e l r =
    let h = subst (λ z. AreRising (monomials z)) e r in
    subst (λ z. AreAbove x (monomials z)) (sym e) (l, above_more x p.1 (monomials rest) l h.0)

pub nothing_is_normal : (ps : List (ℤ × ℕ)) → length ps ≡ 0 → AreRising (monomials ps) × AreNonZero (monomials ps)
nothing_is_normal [] e = (tt, tt)
nothing_is_normal (p ∷ ps) e = absurd (omega (arith, e))

pub more_is_normal : (p : ℤ × ℕ) (ps rest : List (ℤ × ℕ)) → ps ≡ p ∷ rest → (p.0 ≡ pos 0 → ⊥) → (AreRising (monomials rest) → AreAbove p.1 (monomials rest)) → AreRising (monomials rest) × AreNonZero (monomials rest)
    → AreRising (monomials ps) × AreNonZero (monomials ps)
more_is_normal p ps rest e n a f = subst (λ z. AreRising (monomials z) × AreNonZero (monomials z)) (sym e) ((a f.0, f.0), (n, f.1))

pub one_past : {X : Type 0} (P : X → Row) (xs : List X) (i : ℕ) (x : X) (r : Row) → i < length xs → x ≡ get_or xs i x → Contains (map P (drop i xs)) r → (P x ≡ r) ⊎ Contains (map P (drop (i + 1) xs)) r
one_past P [] i x r l e c = absurd (omega (arith, l))
one_past P (y ∷ xs) zero x r l e c = go c.0 c.1 c.2
  where
    go : (k : ℕ) → k < length (map P (y ∷ xs)) → slice_index_or (map P (y ∷ xs)) k r ≡ r → (P x ≡ r) ⊎ Contains (map P xs) r
    go zero h d = inl (ap P e ∙ d)
    go (suc k) h d = inr (k, omega (arith, h), d)
one_past P (y ∷ xs) (suc i) x r l e c = subst (λ k. (P x ≡ r) ⊎ Contains (map P (drop k (y ∷ xs))) r) (shifted i) (one_past P xs i x r (omega (arith, l)) e c)
  where
    shifted : (i : ℕ) → suc (i + 1) ≡ suc i + 1
    shifted i = omega arith

pub none_left : {X : Type 0} (P : X → Row) (xs : List X) (i : ℕ) (r : Row) → length xs ≤ i → Contains (map P (drop i xs)) r → ⊥
none_left P xs i r h c = let d = ap (λ z. length (map P z)) (drop_all i xs h) in let l = c.1 in omega (arith, d, l)

pub normal_by : (r : CodeRow) (xs : List (ℤ × ℕ)) → xs ≡ r.parts → AreRising (monomials xs) × AreNonZero (monomials xs) → IsNormalRow (plain_row r)
normal_by r xs e f = let g = subst (λ z. AreRising (monomials z) × AreNonZero (monomials z)) e f in record { rising = g.0; non_zero = g.1 }

-- ---- two rows that can be combined

-- the row of these parts, as the code has it
abbrev with_constant : ℤ → List (ℤ × ℕ) → CodeRow
with_constant j ps = record { constant = j; parts = ps }

greatest_at : (j : ℤ) (ps rest : List (ℤ × ℕ)) (p : ℤ × ℕ) (x : ℕ) → ps ≡ rest ++ p ∷ [] → p.1 ≡ x → AreRising (monomials ps) × AreNonZero (monomials ps) → IsRowOf x p.0 (row_by j ps)
greatest_at j ps rest p x e c f = row_at_last (with_constant j ps) ps rest p p.0 x refl e c refl (normal_by (with_constant j ps) ps refl f)

opposite : (k l : ℤ) → pos 0 <ℤ k → l <ℤ pos 0 → (k *ℤ l) <ℤ pos 0
opposite (pos zero) l h i = absurd (omega (arith, ints))
opposite (pos (suc k)) (pos l) h i = absurd (omega (arith, ints))
opposite (pos (suc k)) (negsuc l) h i = omega (arith, ints)
opposite (negsuc k) l h i = absurd (omega (arith, ints))

pub can_be_combined : (own other own_rest other_rest : List (ℤ × ℕ)) (p q : ℤ × ℕ) (j k : ℤ) → own ≡ own_rest ++ p ∷ [] → other ≡ other_rest ++ q ∷ [] → p.1 ≡ q.1 → pos 0 <ℤ p.0 → q.0 <ℤ pos 0
    → AreRising (monomials own) × AreNonZero (monomials own) → AreRising (monomials other) × AreNonZero (monomials other) → CanCancel (row_by j own) (row_by k other)
can_be_combined own other own_rest other_rest p q j k e f c a b g h = record {
  column = p.1;
  first = p.0;
  second = q.0;
  of_first = greatest_at j own own_rest p p.1 e refl g;
  of_second = greatest_at k other other_rest q p.1 f (sym c) h;
  opposite = opposite p.0 q.0 a b;
  first_rises = g.0;
  second_rises = h.0;
}
