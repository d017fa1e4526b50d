-- The first place at which the rule is broken.
use Rattle.std.proofs.Common.{ℕ, zero, suc, ◌≡◌, ◌≢◌, ◌<◌, ◌⊎◌, inl, inr, Bool, true, false, nat_eq, cond, Option, Some, None, List, [], ◌∷◌, length, max, slice_index_or, refl, subst, arith}
use Rattle.std.specs.List.{Contains}
use Rattle.std.proofs.lemmas.Bool.{eqb-true, eqb-false, eq-eqb, or_cases, or_parts, or_left, or_right}
use Rattle.sv_heirs.specs.Heirs.{place_of, heir, Derives, Breaks, IsBreach, IsLeast}
use Rattle.sv_heirs.specs.Sooner.{has, has_behind, is_behind, later, least_from, pair_breach, heir_breach, line_breach}
use Rattle.sv_heirs.proofs.Least.{same_least, least_over}

-- ---- whether a contract is behind another

has_contains : (line : List ℕ) (d : ℕ) → has line d ≡ true → Contains line d
has_contains [] d e = absurd cc
has_contains (x ∷ xs) d e = elim (or_cases (nat_eq x d) (has xs d) e) [
  | inl k ↦ (zero, omega arith, eqb-true x d k)
  | inr k ↦ (let r = has_contains xs d k in (suc r.0, omega (arith, r.1), r.2))
]

contains_has : (line : List ℕ) (d k : ℕ) → k < length line → slice_index_or line k d ≡ d → has line d ≡ true
contains_has [] d k l e = absurd (omega (arith, l))
contains_has (x ∷ xs) d zero l e = or_left (nat_eq x d) (has xs d) (eq-eqb x d e)
contains_has (x ∷ xs) d (suc k) l e = or_right (nat_eq x d) (has xs d) (contains_has xs d k (omega (arith, l)) e)

behind : (r : Option (List ℕ)) (d : ℕ) → has_behind r d ≡ true → (line : List ℕ) × (r ≡ Some line) × Contains line d
behind None d e = absurd cc
behind (Some line) d e = (line, refl, has_contains line d e)

not_behind : (r : Option (List ℕ)) (d : ℕ) → has_behind r d ≡ false → (line : List ℕ) → r ≡ Some line → Contains line d → ⊥
not_behind None d e line is c = absurd cc
not_behind (Some l) d e line is c =
    let same : l ≡ line = cc in
    let h = contains_has line d c.0 c.1 c.2 in
    let g : has line d ≡ false = subst (λ z. has z d ≡ false) same e in
    cc (h, g)

-- ---- an heir and another contract

abbrev pub PairBreaks : List (Option ℕ) → List (Option (List ℕ)) → ℕ → ℕ → ℕ → Type 0
PairBreaks places lines c d p = (d ≢ c) × (Derives lines c d → ⊥) × ((a : ℕ) × (b : ℕ) × (place_of places c ≡ Some a) × (place_of places d ≡ Some b) × (p ≡ max a b))

later_least : (x y : Option ℕ) → IsLeast (λ p. (a : ℕ) × (b : ℕ) × (x ≡ Some a) × (y ≡ Some b) × (p ≡ max a b)) (later x y)
later_least None y = λ p h. absurd (let e = h.2 in cc)
later_least (Some a) None = λ p h. absurd (let e = h.3 in cc)
later_least (Some a) (Some b) = (
  (a, b, refl, refl, refl),
  λ p h. (
      let x : a ≡ h.0 = (let e = h.2 in cc) in
      let y : b ≡ h.1 = (let e = h.3 in cc) in
      omega (arith, x, y, h.4)
      ),
)

pair_least : (places : List (Option ℕ)) (lines : List (Option (List ℕ))) (c d : ℕ) → IsLeast (PairBreaks places lines c d) (pair_breach places lines c d)
pair_least places lines c d = go (is_behind lines c d) refl
  where
    own : Option (List ℕ)
    own = slice_index_or lines c None

    go : (b : Bool) → is_behind lines c d ≡ b → IsLeast (PairBreaks places lines c d) (cond b None (later (place_of places c) (place_of places d)))
    go true e = λ p h. elim (or_cases (nat_eq d c) (has_behind own d) e) [
      | inl k ↦ h.0 (eqb-true d c k)
      | inr k ↦ h.1 (behind own d k)
    ]
    go false e =
        let parts = or_parts (nat_eq d c) (has_behind own d) e in
        same_least (λ p. (a : ℕ) × (b : ℕ) × (place_of places c ≡ Some a) × (place_of places d ≡ Some b) × (p ≡ max a b)) (PairBreaks places lines c d) (later (place_of places c) (place_of places d))
        (λ p h. (eqb-false d c parts.0, λ v. not_behind own d parts.1 v.0 v.1 v.2, h)) (λ p h. h.2) (later_least (place_of places c) (place_of places d))

-- ---- a line

abbrev pub LineBreaks : List (Option ℕ) → List (Option (List ℕ)) → Option (List ℕ) → ℕ → Type 0
LineBreaks places lines None p = ⊥
LineBreaks places lines (Some line) p = Breaks places lines line p

line_least : (places : List (Option ℕ)) (lines : List (Option (List ℕ))) (r : Option (List ℕ)) → IsLeast (LineBreaks places lines r) (line_breach places lines r)
line_least places lines None = λ p h. h
line_least places lines (Some line) = go (heir places line) refl
  where
    go : (h : Option ℕ) → heir places line ≡ h → IsLeast (Breaks places lines line) (heir_breach places lines line h)
    go None e = λ p b. (let k = b.is_heir in cc)
    go (Some c) e =
        same_least (λ p. ⊥ ⊎ ((d : ℕ) × Contains line d × PairBreaks places lines c d p)) (Breaks places lines line) (least_from (pair_breach places lines c) None line)
        (λ p o. elim o [
          | inl n ↦ absurd n
          | inr k ↦ record {
            c = c;
            d = k.0;
            is_heir = e;
            other = k.1;
            differ = k.2.0;
            apart = k.2.1;
            c_place = k.2.2.0;
            d_place = k.2.2.1;
            c_has = k.2.2.2;
            d_has = k.2.2.3;
            later = k.2.2.4;
          }
        ])
        (λ p b. (
        let k = b.is_heir in
        let same : b.c ≡ c = cc in
        inr (b.d, b.other, subst (λ z. PairBreaks places lines z b.d p) same (b.differ, b.apart, (b.c_place, b.d_place, b.c_has, b.d_has, b.later)))
        ))
        (least_over (pair_breach places lines c) (PairBreaks places lines c) (pair_least places lines c) line (λ p. ⊥) None (λ p n. n))

-- ---- all lines

pub breach_least : (places : List (Option ℕ)) (lines : List (Option (List ℕ))) → IsLeast (IsBreach places lines) (least_from (line_breach places lines) None lines)
breach_least places lines =
    same_least (λ p. ⊥ ⊎ ((r : Option (List ℕ)) × Contains lines r × LineBreaks places lines r p)) (IsBreach places lines) (least_from (line_breach places lines) None lines)
    (λ p o. elim o [ inl n ↦ absurd n | inr k ↦ of_line p k.0 k.1 k.2 ])
    (λ p b. inr (Some b.0, b.1, b.2))
    (least_over (line_breach places lines) (LineBreaks places lines) (line_least places lines) lines (λ p. ⊥) None (λ p n. n))
  where
    of_line : (p : ℕ) (r : Option (List ℕ)) → Contains lines r → LineBreaks places lines r p → IsBreach places lines p
    of_line p None c b = absurd b
    of_line p (Some line) c b = (line, c, b)
