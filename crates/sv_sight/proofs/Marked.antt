-- The places of marks that are set rise, and are those of the marks.
use Rattle.std.proofs.Common.{ℕ, zero, suc, ◌+◌, ◌-◌, ◌≡◌, ◌∙◌, ◌<◌, ◌≤◌, ◌↔◌, ◌⊎◌, inl, inr, Bool, true, false, cond, IsTrue, Option, Some, None, List, [], ◌∷◌, ◌++◌, length, slice_index_or, refl, sym, ap, subst, arith}
use Rattle.std.specs.List.{Contains, AllByRecursion}
use Rattle.std.proofs.lemmas.List.Elements.{Contains-append_left, Contains-append_right, Contains-append_cases, Contains-push, Contains-push_cases}
use Rattle.sv_reach.specs.Paths.{Reaches, IsReached, AreMarks}
use Rattle.sv_sight.specs.Sights.{Rises, Sees, places_from}

-- ---- they rise

above_weaker : (m n : ℕ) (xs : List ℕ) → m ≤ n → AllByRecursion (λ (y : ℕ). n ≤ y) xs → AllByRecursion (λ (y : ℕ). m ≤ y) xs
above_weaker m n [] l h = tt
above_weaker m n (x ∷ xs) l h = (let k = h.0 in omega (arith, k, l), above_weaker m n xs l h.1)

above_strict : (n : ℕ) (xs : List ℕ) → AllByRecursion (λ (y : ℕ). n + 1 ≤ y) xs → AllByRecursion (λ (y : ℕ). n < y) xs
above_strict n [] h = tt
above_strict n (x ∷ xs) h = (let k = h.0 in omega (arith, k), above_strict n xs h.1)

above : (n : ℕ) (bs : List Bool) → AllByRecursion (λ (y : ℕ). n ≤ y) (places_from n bs)
above n [] = tt
above n (true ∷ bs) = (omega arith, above_weaker n (n + 1) (places_from (n + 1) bs) (omega arith) (above (n + 1) bs))
above n (false ∷ bs) = above_weaker n (n + 1) (places_from (n + 1) bs) (omega arith) (above (n + 1) bs)

pub rising : (n : ℕ) (bs : List Bool) → Rises (places_from n bs)
rising n [] = tt
rising n (true ∷ bs) = (above_strict n (places_from (n + 1) bs) (above (n + 1) bs), rising (n + 1) bs)
rising n (false ∷ bs) = rising (n + 1) bs

-- ---- they are those of the marks

-- a mark that is set, so many places on
abbrev IsMarked : ℕ → List Bool → ℕ → Type 0
IsMarked n bs d = (i : ℕ) × (d ≡ n + i) × (slice_index_or bs i false ≡ true)

at_head : (x y : ℕ) → Contains (x ∷ []) y → x ≡ y
at_head x y c = elim (Contains-push_cases [] x y c) [ inl n ↦ absurd (omega (arith, n.1)) | inr e ↦ e ]

marked_next : (n : ℕ) (b : Bool) (bs : List Bool) (d : ℕ) → IsMarked (n + 1) bs d → IsMarked n (b ∷ bs) d
marked_next n b bs d m = (suc m.0, (let e = m.1 in omega (arith, e)), m.2)

to_marked : (n : ℕ) (bs : List Bool) (d : ℕ) → Contains (places_from n bs) d → IsMarked n bs d
to_marked n [] d c = absurd (omega (arith, c.1))
to_marked n (true ∷ bs) d c = elim (Contains-append_cases (n ∷ []) (places_from (n + 1) bs) d c) [
  | inl h ↦ (let e = at_head n d h in (0, omega (arith, e), refl))
  | inr h ↦ marked_next n true bs d (to_marked (n + 1) bs d h)
]
to_marked n (false ∷ bs) d c = marked_next n false bs d (to_marked (n + 1) bs d c)

from_marked : (n : ℕ) (bs : List Bool) (d i : ℕ) → d ≡ n + i → slice_index_or bs i false ≡ true → Contains (places_from n bs) d
from_marked n [] d i e m = absurd (cc)
from_marked n (true ∷ bs) d zero e m = (let f : n ≡ d = omega (arith, e) in subst (λ z. Contains (n ∷ places_from (n + 1) bs) z) f (Contains-append_left (n ∷ []) (places_from (n + 1) bs) n (Contains-push [] n)))
from_marked n (true ∷ bs) d (suc i) e m = Contains-append_right (n ∷ []) (places_from (n + 1) bs) d (from_marked (n + 1) bs d i (omega (arith, e)) m)
from_marked n (false ∷ bs) d zero e m = absurd (cc)
from_marked n (false ∷ bs) d (suc i) e m = from_marked (n + 1) bs d i (omega (arith, e)) m

within : (bs : List Bool) (i : ℕ) → slice_index_or bs i false ≡ true → i < length bs
within [] i m = absurd (cc)
within (b ∷ bs) zero m = omega arith
within (b ∷ bs) (suc i) m = let l = within bs i m in omega (arith, l)

reached_one : (bases : List (List ℕ)) (c d : ℕ) → IsReached bases (c ∷ []) d → Reaches bases c d
reached_one bases c d r = subst (λ z. Reaches bases z d) (sym (at_head c r.0 r.1)) r.2

pub marked_seen : (bases : List (List ℕ)) (c : ℕ) (marks : List Bool) (seen : List ℕ) → AreMarks (length bases) (IsReached bases (c ∷ [])) marks → seen ≡ places_from 0 marks → Sees bases None c seen
marked_seen bases c marks seen a e = subst (Sees bases None c) (sym e) (
  rising 0 marks,
  λ d. (
    λ k.
        let m = to_marked 0 marks d k in
        let same : m.0 ≡ d = (let f = m.1 in omega (arith, f)) in
        let set : slice_index_or marks d false ≡ true = ap (λ z. slice_index_or marks z false) (sym same) ∙ m.2 in
        let l : d < length bases = (let w = within marks d set in let n = a.0 in omega (arith, w, n)) in
        (l, reached_one bases c d ((a.1 d l).0 set)),
    λ k. from_marked 0 marks d d (omega arith) ((a.1 d k.0).1 (c, Contains-push [] c, k.1)),
  ),
)
