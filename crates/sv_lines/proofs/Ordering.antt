-- One more order behind the others.
use Rattle.std.proofs.Common.{ℕ, zero, suc, ◌≡◌, ◌∙◌, ◌+◌, ◌<◌, ◌⊎◌, inl, inr, List, [], ◌∷◌, ◌++◌, length, map, take, reverse, get_or, slice_index_or, refl, sym, ap, subst, arith, length-append}
use Rattle.std.proofs.lemmas.List.{take-append-le, get_or_append_left}
use Rattle.std.proofs.Math.Seq.{get_or-append_seam, take-append_seam}
use Rattle.std.proofs.Common.{Option}
use Rattle.std.proofs.lemmas.List.{reverse-reverse}
use Rattle.sv_lines.specs.Lines.{Ordered, IsOrder, Orders}

-- where the numbers and lists are these
moved : (bases orders more : List (List ℕ)) (c : ℕ) (e o : List ℕ) → take c more ≡ orders → slice_index_or more c [] ≡ o → IsOrder orders c e o → IsOrder (take c more) c e (slice_index_or more c [])
moved bases orders more c e o h k is =
    let P : List (List ℕ) → Type 0 = λ z. IsOrder z c e (slice_index_or more c []) in
    let Q : List ℕ → Type 0 = λ z. IsOrder orders c e z in
    subst P (sym h) (subst Q (sym k) is)

below : (c n : ℕ) → c < n + 1 → (c < n) ⊎ (c ≡ n)
below zero zero h = inr refl
below zero (suc n) h = inl (omega arith)
below (suc c) zero h = absurd (omega arith)
below (suc c) (suc n) h = elim (below c n (omega arith)) [ inl a ↦ inl (omega (arith, a)) | inr b ↦ inr (ap suc b) ]

pub extended : (bases orders : List (List ℕ)) (o : List ℕ) → Orders bases orders → IsOrder orders (length orders) (slice_index_or bases (length orders) []) o → Orders bases (orders ++ o ∷ [])
extended bases orders o all is c h =
    elim (below c (length orders) (omega (arith, h, length-append orders (o ∷ [])))) [
      | inl lt ↦ moved bases (take c orders) (orders ++ o ∷ []) c (slice_index_or bases c []) (slice_index_or orders c []) (take-append-le c orders (o ∷ []) (omega (arith, lt))) (get_or_append_left orders (o ∷ []) [] c lt) (all c lt)
      | inr e ↦ (
          let P : ℕ → Type 0 = λ z. IsOrder (take z (orders ++ o ∷ [])) z (slice_index_or bases z []) (slice_index_or (orders ++ o ∷ []) z []) in
          subst P (sym e) (moved bases orders (orders ++ o ∷ []) (length orders) (slice_index_or bases (length orders) []) o (take-append_seam orders (o ∷ [])) (get_or-append_seam orders o [] []) is))
    ]

pub item_at : (xs : List (List ℕ)) (i : ℕ) (y : List ℕ) → i < length xs → y ≡ get_or xs i y → slice_index_or xs i [] ≡ y
item_at [] i y h e = absurd (omega arith)
item_at (x ∷ xs) zero y h e = sym e
item_at (x ∷ xs) (suc i) y h e = item_at xs i y (omega arith) e

pub back_again : (os : List (List ℕ)) → map reverse (map reverse os) ≡ os
back_again [] = refl
back_again (o ∷ os) = ap (λ z. z ∷ map reverse (map reverse os)) (reverse-reverse o) ∙ ap (λ z. o ∷ z) (back_again os)

pub same_length : (os : List (List ℕ)) → length (map reverse os) ≡ length os
same_length [] = refl
same_length (o ∷ os) = omega (arith, same_length os)

pub lines_of : (bases orders lines : List (List ℕ)) → Orders bases orders → lines ≡ map reverse orders → Orders bases (map reverse lines)
lines_of bases orders lines h e =
    let P : List (List ℕ) → Type 0 = λ z. Orders bases z in
    subst P (sym (ap (map reverse) e ∙ back_again orders)) h

-- what the contract's search says, at the place of its bases
pub at_place : (bases orders : List (List ℕ)) (c i : ℕ) (own : List ℕ) (r : Option (List ℕ)) → length orders ≡ i → c ≡ i → i < length bases → own ≡ get_or bases i own → Ordered orders c own r → Ordered orders (length orders) (slice_index_or bases (length orders) []) r
at_place bases orders c i own r n k lt is h =
    let P : ℕ → Type 0 = λ z. Ordered orders z (slice_index_or bases (length orders) []) r in
    let Q : List ℕ → Type 0 = λ z. Ordered orders c z r in
    let e : slice_index_or bases (length orders) [] ≡ own = ap (λ z. slice_index_or bases z []) n ∙ item_at bases i own lt is in
    subst P (k ∙ sym n) (subst Q (sym e) h)
