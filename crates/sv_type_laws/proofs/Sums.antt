-- The sum after a write.
use Rattle.std.proofs.Common.{◌+◌, ◌≡◌, Bool, true, false, cond, ◌||◌, ℤ, pos, refl, sym, ap, ap₂, ◌∙◌, arith}
use Rattle.std.specs.Ordering.{int_eq}
use Rattle.std.proofs.lemmas.Bool.Decides.{Decides-int_eq}
use Rattle.std.proofs.lemmas.Int.{ints}
use lib.IntN.{◌+ℤ◌}
use Rattle.sv_type.specs.StorageTrees.{Entries, Empty, Entry, nil, entry, number, sum_from}
use Rattle.sv_type_laws.specs.TreeLaws.{SumMoves}
use Rattle.sv_type_laws.proofs.Writes.{int_same, int_other}

same_sum : (es : Entries) (s t : ℤ → Bool) → ((j : ℤ) → s j ≡ t j) → sum_from s es ≡ sum_from t es
same_sum Empty s t h = refl
same_sum (Entry i x es) s t h = ap₂ (λ a b. a +ℤ b) (ap (λ b. cond b (pos 0) (number x)) (h i)) (same_sum es _ _ (λ j. ap (λ b. b || int_eq j i) (h j)))

or_swap : (a b c : Bool) → ((a || b) || c) ≡ ((a || c) || b)
or_swap true b c = refl
or_swap false true true = refl
or_swap false true false = refl
or_swap false false true = refl
or_swap false false false = refl

or_same : (a b : Bool) → ((a || b) || b) ≡ (a || b)
or_same true b = refl
or_same false true = refl
or_same false false = refl

or_false : (a b : Bool) → b ≡ false → (a || b) ≡ a
or_false true b e = refl
or_false false b e = e

or_true : (a b : Bool) → b ≡ true → (a || b) ≡ true
or_true true b e = refl
or_true false b e = e

first : (a b n c : ℤ) → a ≡ b → (pos 0 +ℤ a) +ℤ n ≡ n +ℤ b
first a b n c e = omega (arith, ints, e)

moved : (a b c n m : ℤ) → a ≡ b → b +ℤ n ≡ c → (m +ℤ a) +ℤ n ≡ m +ℤ c
moved a b c n m e f = omega (arith, ints, e, f)

last : (a b m n : ℤ) → a +ℤ m ≡ b → (n +ℤ a) +ℤ m ≡ b +ℤ n
last a b m n e = omega (arith, ints, e)

-- an index that was not seen
taken : (es : Entries) (seen : ℤ → Bool) (i : ℤ) → seen i ≡ false → sum_from (λ j. seen j || int_eq j i) es +ℤ number (entry i es nil) ≡ sum_from seen es
taken Empty seen i h = refl
taken (Entry j t es) seen i h = go (int_eq i j) refl (taken es (λ k. seen k || int_eq k j) i)
  where
    go : (b : Bool) → int_eq i j ≡ b → ((seen i || int_eq i j) ≡ false → sum_from (λ k. (seen k || int_eq k j) || int_eq k i) es +ℤ number (entry i es nil) ≡ sum_from (λ k. seen k || int_eq k j) es)
        → (cond (seen j || int_eq j i) (pos 0) (number t) +ℤ sum_from (λ k. (seen k || int_eq k i) || int_eq k j) es) +ℤ number (cond b t (entry i es nil)) ≡ cond (seen j) (pos 0) (number t) +ℤ sum_from (λ k. seen k || int_eq k j) es
    go true e ih =
        let q : i ≡ j = (Decides-int_eq i j).0 e in
        let a = same_sum es (λ k. (seen k || int_eq k i) || int_eq k j) (λ k. seen k || int_eq k j) (λ k. ap (λ z. (seen k || int_eq k z) || int_eq k j) q ∙ or_same (seen k) (int_eq k j)) in
        rw (or_true (seen j) (int_eq j i) (int_same j i (sym q)), ap seen (sym q) ∙ h) (first _ _ (number t) (pos 0) a)
    go false e ih =
        let a = same_sum es (λ k. (seen k || int_eq k i) || int_eq k j) (λ k. (seen k || int_eq k j) || int_eq k i) (λ k. or_swap (seen k) (int_eq k i) (int_eq k j)) in
        let b = ih (or_false (seen i) (int_eq i j) e ∙ h) in
        let c : int_eq j i ≡ false = int_other j i (λ z. let bad : true ≡ false = sym (int_same i j (sym z)) ∙ e in cc) in
        rw (or_false (seen j) (int_eq j i) c) (moved _ _ _ (number (entry i es nil)) (cond (seen j) (pos 0) (number t)) a b)

pub sum_moves : SumMoves
sum_moves i v es d = last _ _ (number (entry i es nil)) (number v) (taken es (λ j. false) i refl)
