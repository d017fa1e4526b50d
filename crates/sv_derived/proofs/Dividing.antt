-- The quotient rounded up is one number; and numbers that are multiples, place by place.
use Rattle.std.proofs.Common.{ℕ, Bool, true, false, nat_eq, List, [], ◌∷◌, length, ◌≡◌, sym, ap, ap₂, ◌∙◌, subst, arith}
use Rattle.std.specs.Bool.{Decides}
use Rattle.std.proofs.lemmas.Bool.Decides.{Decides-eqb}
use Rattle.std.proofs.lemmas.Int.{ints, by_lt_z}
use Rattle.std.proofs.lemmas.List.{length-map, nil_from_length}
use lib.IntN.{ℤ, pos, negsuc, ◌+ℤ◌, ◌*ℤ◌, *ℤ_comm}
use lib.Signed.{◌≤ℤ◌, ◌<ℤ◌, lt_z}
use Rattle.sv_num.specs.Rounding.{IsCeiling}
use Rattle.sv_fraction.proofs.Integers.{multiplied, spread}
use Rattle.sv_log.specs.LogEntries.{Monomial}
use Rattle.sv_log.specs.LogRows.{plain_monomial, monomial, row, times_parts, IsDivided}
use Rattle.sv_row.specs.RowParts.{monomials}
use Rattle.sv_derived.proofs.Cancelling.{lt_decides}

-- ---- the constant

not_below : (a : ℤ) (d : ℕ) (q t : ℤ) → a ≤ℤ (q *ℤ pos d) → (pos d *ℤ t) <ℤ (a +ℤ pos d) → q <ℤ t → ⊥
not_below a d q t h g l =
    let m = multiplied d (q +ℤ pos 1) t (omega (arith, ints, l)) in
    let s = spread (pos d) q (pos 1) in
    let c = *ℤ_comm q (pos d) in
    omega (arith, ints, m, s, c, h, g)

not_above : (a : ℤ) (d : ℕ) (q t : ℤ) → (q *ℤ pos d) <ℤ (a +ℤ pos d) → a ≤ℤ (pos d *ℤ t) → t <ℤ q → ⊥
not_above a d q t h g l =
    let m = multiplied d (t +ℤ pos 1) q (omega (arith, ints, l)) in
    let s = spread (pos d) t (pos 1) in
    let c = *ℤ_comm q (pos d) in
    omega (arith, ints, m, s, c, h, g)

neither : (q t : ℤ) → (q <ℤ t → ⊥) → (t <ℤ q → ⊥) → q ≡ t
neither q t h g = by_lt_z q t (λ l. absurd (h l)) (λ l. by_lt_z t q (λ m. absurd (g m)) (λ m. omega (arith, ints)))

whole_ceiling : (a : ℤ) (d : ℕ) (q t : ℤ) → IsCeiling a (pos d) q → a ≤ℤ (pos d *ℤ t) → (pos d *ℤ t) <ℤ (a +ℤ pos d) → q ≡ t
whole_ceiling a d q t c above below = neither q t (not_below a d q t c.0 below) (not_above a d q t c.1 above)

ceiling_is_one : (a d q t : ℤ) → pos 2 ≤ℤ d → IsCeiling a d q → a ≤ℤ (d *ℤ t) → (d *ℤ t) <ℤ (a +ℤ d) → q ≡ t
ceiling_is_one a (negsuc n) q t m c above below = absurd (omega (arith, ints))
ceiling_is_one a (pos d) q t m c above below = whole_ceiling a d q t c above below

-- D and J are the divisor and the constant as the code reads them
module _ (d j t D J : ℤ) (ed : D ≡ d) (ej : J ≡ j) (ps ts : List Monomial) where
  abbrev Claim : Type 0
  Claim = IsDivided d (row j ps) (row t ts)

  pub too_small : d <ℤ pos 2 → Claim → ⊥
  too_small l i = let m = i.more in omega (arith, ints, l, m)

  module _ (q : ℤ) (more : pos 2 ≤ℤ d) (ceiling : IsCeiling J D q) where
    own_ceiling : IsCeiling j d q
    own_ceiling = subst (λ z. IsCeiling z d q) ej (subst (λ z. IsCeiling J z q) ed ceiling)

    pub divided_is : (r : Bool) → q ≡ t → Decides r (ps ≡ times_parts d ts) → Decides r Claim
    divided_is r e parts =
        let c = own_ceiling in (
          (λ b. record {
            more = more;
            parts = parts.0 b;
            above = subst (λ z. j ≤ℤ z) (*ℤ_comm q d ∙ ap (λ z. d *ℤ z) e) c.0;
            below = subst (λ z. z <ℤ (j +ℤ d)) (*ℤ_comm q d ∙ ap (λ z. d *ℤ z) e) c.1;
          }),
          λ (i : Claim). parts.1 i.parts,
        )

    pub not_divided : (q ≡ t → ⊥) → Claim → ⊥
    not_divided h i = h (ceiling_is_one j d q t more own_ceiling i.above i.below)

-- ---- the divisor as the code reads it

pub small_divisor : (d D : ℤ) → D ≡ d → lt_z D (pos 2) ≡ true → d <ℤ pos 2
small_divisor d D e h = subst (λ z. z <ℤ pos 2) e ((lt_decides D (pos 2)).0 h)

not_less : (D : ℤ) → lt_z D (pos 2) ≡ false → pos 2 ≤ℤ D
not_less D h = by_lt_z D (pos 2) (λ l. let e = (lt_decides D (pos 2)).1 l in let g : true ≡ false = sym e ∙ h in cc g) (λ k. k)

pub large_divisor : (d D : ℤ) → D ≡ d → lt_z D (pos 2) ≡ false → pos 2 ≤ℤ d
large_divisor d D e h = subst (λ z. pos 2 ≤ℤ z) e (not_less D h)

pub positive_divisor : (D : ℤ) → lt_z D (pos 2) ≡ false → pos 0 <ℤ D
positive_divisor D h = let k = not_less D h in omega (arith, ints, k)

pub parts_read : (d D : ℤ) → D ≡ d → (ps ts : List Monomial) (r : Bool) → Decides r (ps ≡ times_parts D ts) → Decides r (ps ≡ times_parts d ts)
parts_read d D e ps ts r c = subst (λ z. Decides r (ps ≡ times_parts z ts)) e c

pub multiple_read : (d k l D K L : ℤ) → D ≡ d → K ≡ k → L ≡ l → (r : Bool) → Decides r (L ≡ D *ℤ K) → Decides r (l ≡ d *ℤ k)
multiple_read d k l D K L e f g r c = subst (λ z. Decides r (z ≡ d *ℤ k)) g (subst (λ z. Decides r (L ≡ z *ℤ k)) e (subst (λ z. Decides r (L ≡ D *ℤ z)) f c))

-- ---- the parts

abbrev pub Pairs : Type 0
Pairs = List (ℤ × ℕ)

module _ (d : ℤ) where
  pub no_multiples : (ps ls : Pairs) (r : Bool) → length ps ≡ 0 → r ≡ nat_eq (length ls) 0 → Decides r (monomials ls ≡ times_parts d (monomials ps))
  no_multiples ps ls r e f = subst (λ (z : Pairs). Decides r (monomials ls ≡ times_parts d (monomials z))) (sym (nil_from_length ps e)) (
    (λ b. ap monomials (nil_from_length ls ((Decides-eqb (length ls) 0).0 (sym f ∙ b)))),
    λ m. f ∙ (Decides-eqb (length ls) 0).1 (sym (length-map ls plain_monomial) ∙ ap length m),
  )

  module _ (ps rest : Pairs) (p : ℤ × ℕ) (e : ps ≡ p ∷ rest) where
    pub none_for : (ls : Pairs) → length ls ≡ 0 → monomials ls ≡ times_parts d (monomials ps) → ⊥
    none_for ls f m =
        let a : [] ≡ monomials ls = ap monomials (sym (nil_from_length ls f)) in
        let b : times_parts d (monomials ps) ≡ times_parts d (plain_monomial p ∷ monomials rest) = ap (λ z. times_parts d (monomials z)) e in
        let g : [] ≡ times_parts d (plain_monomial p ∷ monomials rest) = a ∙ (m ∙ b) in
        cc g

    module _ (ls others : Pairs) (l : ℤ × ℕ) (f : ls ≡ l ∷ others) where
      abbrev Claims : Type 0
      Claims = monomials ls ≡ times_parts d (monomials ps)

      both : Claims → monomial l.0 l.1 ∷ monomials others ≡ monomial (d *ℤ p.0) p.1 ∷ times_parts d (monomials rest)
      both m = ap monomials (sym f) ∙ (m ∙ ap (λ z. times_parts d (monomials z)) e)

      first_of : Claims → monomial l.0 l.1 ≡ monomial (d *ℤ p.0) p.1
      first_of m = let g = both m in cc g

      rest_of : Claims → monomials others ≡ times_parts d (monomials rest)
      rest_of m = let g = both m in cc g

      pub other_column : (p.1 ≡ l.1 → ⊥) → Claims → ⊥
      other_column h m = h (sym (ap (λ (z : Monomial). z.column) (first_of m)))

      pub not_multiple : (l.0 ≡ d *ℤ p.0 → ⊥) → Claims → ⊥
      not_multiple h m = h (ap (λ (z : Monomial). z.factor) (first_of m))

      pub multiples_are : (r : Bool) → p.1 ≡ l.1 → l.0 ≡ d *ℤ p.0 → Decides r (monomials others ≡ times_parts d (monomials rest)) → Decides r Claims
      multiples_are r g h t = (
        (λ b. ap monomials f ∙ (ap₂ (λ y z. y ∷ z) (ap₂ monomial h (sym g)) (t.0 b) ∙ ap (λ z. times_parts d (monomials z)) (sym e))),
        λ m. t.1 (rest_of m),
      )

-- ---- one multiple

module _ (d k l D K : ℤ) (ed : D ≡ d) (ek : K ≡ k) where
  product_read : D *ℤ K ≡ d *ℤ k
  product_read = ap₂ (λ y z. y *ℤ z) ed ek

  pub product_is : (r : Bool) (z : ℤ) → z ≡ D *ℤ K → Decides r (z ≡ l) → Decides r (l ≡ d *ℤ k)
  product_is r z e t = ((λ b. sym (t.0 b) ∙ (e ∙ product_read)), λ m. t.1 (e ∙ (product_read ∙ sym m)))

  pub beyond : (r : ℤ → Type 0) → r l → (r (D *ℤ K) → ⊥) → l ≡ d *ℤ k → ⊥
  beyond r f h m = h (subst r (m ∙ sym product_read) f)
