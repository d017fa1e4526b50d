-- A turn of the loop that holds a sum against what is claimed. M and N are the multipliers as the code reads them, K and L the numbers at the column.
use Rattle.std.proofs.Common.{ℕ, ◌+◌, ◌<◌, Bool, nat_eq, List, [], ◌++◌, length, ◌≡◌, sym, ap, ◌∙◌, subst, arith}
use Rattle.std.specs.Bool.{Decides}
use Rattle.std.proofs.lemmas.Bool.Decides.{Decides-eqb}
use Rattle.std.proofs.lemmas.List.{length-map, nil_from_length}
use lib.IntN.{ℤ, pos, ◌+ℤ◌, ◌*ℤ◌}
use lib.Signed.{◌<ℤ◌}
use Rattle.sv_log.specs.LogEntries.{Monomial}
use Rattle.sv_log.specs.LogRows.{plain_monomial}
use Rattle.sv_row.specs.RowParts.{monomials}
use Rattle.sv_row.specs.SumSteps.{part, FitsBoth}
use Rattle.sv_derived.specs.RowSums.{IsSumOf}
use Rattle.sv_derived.specs.Columns.{IsLeast, TakesAt}
use Rattle.sv_derived.proofs.Merging.{refused, unlike, column_on, column_back, fewer, sum_of_none}

abbrev pub Pairs : Type 0
Pairs = List (ℤ × ℕ)

module _ (m n M N : ℤ) (im : M ≡ m) (jn : N ≡ n) where
  pub read_claim : (ps qs ts : List Monomial) → IsSumOf m ps n qs ts → IsSumOf M ps N qs ts
  read_claim ps qs ts s = subst (λ z. IsSumOf z ps N qs ts) (sym im) (subst (λ z. IsSumOf m ps z qs ts) (sym jn) s)

  pub claim_read : (ps qs ts : List Monomial) → IsSumOf M ps N qs ts → IsSumOf m ps n qs ts
  claim_read ps qs ts s = subst (λ z. IsSumOf z ps n qs ts) im (subst (λ z. IsSumOf M ps z qs ts) jn s)

  module _ (pm : pos 0 <ℤ m) (pn : pos 0 <ℤ n) where
    own_positive : pos 0 <ℤ M
    own_positive = subst (λ z. pos 0 <ℤ z) (sym im) pm

    other_positive : pos 0 <ℤ N
    other_positive = subst (λ z. pos 0 <ℤ z) (sym jn) pn

    module _ (x : ℕ) (ps qs : List Monomial) (k l K L : ℤ) (ek : K ≡ k) (el : L ≡ l) (us vs : List Monomial) (a : TakesAt x ps k us) (b : TakesAt x qs l vs) where
      own_taken : TakesAt x ps K us
      own_taken = subst (λ z. TakesAt x ps z us) (sym ek) a

      other_taken : TakesAt x qs L vs
      other_taken = subst (λ z. TakesAt x qs z vs) (sym el) b

      pub unfit : (ts : List Monomial) → (FitsBoth M K N L → ⊥) → IsSumOf M ps N qs ts → ⊥
      unfit ts h = refused M N own_positive other_positive x ps qs K L us vs own_taken other_taken ts h

      pub differs : (ts : List Monomial) (z Z : ℤ) → Z ≡ z → z ≡ M *ℤ K +ℤ N *ℤ L → ((ws : List Monomial) → ts ≡ part Z x ++ ws → ⊥) → IsSumOf M ps N qs ts → ⊥
      differs ts z Z e f h = unlike M N own_positive other_positive x ps qs K L us vs own_taken other_taken ts Z (e ∙ f) h

      pub on : (ts ws : List Monomial) (z Z : ℤ) → Z ≡ z → z ≡ M *ℤ K +ℤ N *ℤ L → ts ≡ part Z x ++ ws → IsSumOf M ps N qs ts → IsSumOf M us N vs ws
      on ts ws z Z e f g = column_on M N own_positive other_positive x ps qs K L us vs own_taken other_taken ts ws Z (e ∙ f) g

      pub back : (ts ws : List Monomial) (z Z : ℤ) → FitsBoth M K N L → Z ≡ z → z ≡ M *ℤ K +ℤ N *ℤ L → ts ≡ part Z x ++ ws → IsSumOf M us N vs ws → IsSumOf M ps N qs ts
      back ts ws z Z i e f g = column_back M N own_positive other_positive x ps qs K L us vs own_taken other_taken ts ws Z i (e ∙ f) g

      pub fewer_left : IsLeast ps qs x → length us + length vs < length ps + length qs
      fewer_left h = fewer M N own_positive other_positive x ps qs K L us vs own_taken other_taken h.one

pub fewer_pairs : (ps qs us vs : Pairs) → length (monomials us) + length (monomials vs) < length (monomials ps) + length (monomials qs) → length us + length vs < length ps + length qs
fewer_pairs ps qs us vs h = omega (arith, h, length-map ps plain_monomial, length-map qs plain_monomial, length-map us plain_monomial, length-map vs plain_monomial)

-- both rows are used up
pub ended : (M N : ℤ) (ps qs ts : Pairs) (r : Bool) → ps ≡ [] → qs ≡ [] → r ≡ nat_eq (length ts) 0 → Decides r (IsSumOf M (monomials ps) N (monomials qs) (monomials ts))
ended M N ps qs ts r e f g = (
  (λ t. let none : ts ≡ [] = nil_from_length ts ((Decides-eqb (length ts) 0).0 (sym g ∙ t)) in
      subst (λ (z : Pairs). IsSumOf M (monomials z) N (monomials qs) (monomials ts)) (sym e)
      (subst (λ (z : Pairs). IsSumOf M [] N (monomials z) (monomials ts)) (sym f) (sum_of_none M N (monomials ts) (ap monomials none)))),
  λ s.
      let s1 = subst (λ (z : Pairs). IsSumOf M (monomials z) N (monomials qs) (monomials ts)) e s in
      let s2 = subst (λ (z : Pairs). IsSumOf M [] N (monomials z) (monomials ts)) f s1 in
      let long : length ts ≡ 0 = sym (length-map ts plain_monomial) ∙ ap length s2.is in
      g ∙ (Decides-eqb (length ts) 0).1 long,
)
