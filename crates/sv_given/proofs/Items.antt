-- Numbers of items.
use Rattle.std.proofs.Common.{ℕ, zero, suc, ◌<◌, ◌≤◌, List, [], ◌∷◌, ◌≡◌, length, get_or, refl, arith}
use Rattle.std.specs.List.{All}

same_default : (xs : List ℕ) (k c d : ℕ) → k < length xs → get_or xs k c ≡ get_or xs k d
same_default [] k c d l = absurd (omega (arith, l))
same_default (x ∷ xs) zero c d l = refl
same_default (x ∷ xs) (suc k) c d l = same_default xs k c d (omega (arith, l))

pub some_item : (xs : List ℕ) (n k : ℕ) → k < length xs → n ≤ get_or xs k 0 → All (λ x. x < n) xs → ⊥
some_item xs n k l above all = let low = all k 0 l in omega (arith, low, above)

pub each_item : (xs : List ℕ) (n : ℕ) → ((k : ℕ) → k < length xs → get_or xs k 0 < n) → All (λ x. x < n) xs
each_item xs n each k d l = let low = each k l in let same = same_default xs k 0 d l in omega (arith, low, same)
