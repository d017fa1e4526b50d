-- The columns of parts that are written as pairs.
use Rattle.std.proofs.Common.{ℕ, zero, suc, ◌<◌, ◌≤◌, List, [], ◌∷◌, ◌≡◌, length, get_or, refl, sym, ap, ◌∙◌, subst, arith}
use Rattle.std.specs.List.{All}
use lib.IntN.{ℤ, pos}
use Rattle.sv_log.specs.LogEntries.{columns}
use Rattle.sv_row.specs.RowParts.{monomials}

column_at : (ps : List (ℤ × ℕ)) (k d : ℕ) → k < length ps → get_or (columns (monomials ps)) k d ≡ (get_or ps k (pos 0, 0)).1
column_at [] k d l = absurd (omega (arith, l))
column_at (p ∷ ps) zero d l = refl
column_at (p ∷ ps) (suc k) d l = column_at ps k d (omega (arith, l))

columns_length : (ps : List (ℤ × ℕ)) → length (columns (monomials ps)) ≡ length ps
columns_length [] = refl
columns_length (p ∷ ps) = ap suc (columns_length ps)

pub some_column : (ps : List (ℤ × ℕ)) (n k : ℕ) → k < length ps → n ≤ (get_or ps k (pos 0, 0)).1 → All (λ x. x < n) (columns (monomials ps)) → ⊥
some_column ps n k l above all =
    let low = all k 0 (let e = columns_length ps in omega (arith, l, e)) in
    let same = column_at ps k 0 l in
    omega (arith, low, same, above)

pub each_column : (ps : List (ℤ × ℕ)) (n : ℕ) → ((k : ℕ) → k < length ps → (get_or ps k (pos 0, 0)).1 < n) → All (λ x. x < n) (columns (monomials ps))
each_column ps n each k d l =
    let short : k < length ps = let e = columns_length ps in omega (arith, l, e) in
    let low = each k short in
    let same = column_at ps k d short in
    omega (arith, low, same)
