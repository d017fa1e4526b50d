-- What the first parts of rows tell, as the code has them.
use Rattle.std.proofs.Common.{ℕ, ◌≤◌, inl, inr, List, ◌∷◌, ◌++◌, length, ◌≡◌, refl, sym, ap, ap₂, ◌∙◌, subst, arith}
use Rattle.std.proofs.lemmas.List.{nil_from_length}
use lib.IntN.{ℤ, pos}
use Rattle.sv_log.specs.LogEntries.{Monomial}
use Rattle.sv_log.specs.LogRows.{plain_monomial, monomial}
use Rattle.sv_row.specs.RowParts.{monomials, IsNormal}
use Rattle.sv_row.specs.SumSteps.{part}
use Rattle.sv_derived.specs.Columns.{IsFrom, BeginsAt, IsLeast, TakesAt}
use Rattle.sv_derived.proofs.Merging.{takes_none, takes_first, takes_later, part_zero, part_one}

abbrev pub Pairs : Type 0
Pairs = List (ℤ × ℕ)

-- ---- the least column

from_none : (x : ℕ) (ps : Pairs) → length ps ≡ 0 → IsFrom x (monomials ps)
from_none x ps e = subst (λ (z : Pairs). IsFrom x (monomials z)) (sym (nil_from_length ps e)) tt

from_first : (x : ℕ) (p : ℤ × ℕ) (ps rest : Pairs) → ps ≡ p ∷ rest → x ≤ p.1 → IsFrom x (monomials ps)
from_first x p ps rest e l = subst (λ (z : Pairs). IsFrom x (monomials z)) (sym e) l

begins : (x : ℕ) (p : ℤ × ℕ) (ps rest : Pairs) → ps ≡ p ∷ rest → x ≡ p.1 → BeginsAt x (monomials ps)
begins x p ps rest e f = subst (λ (z : Pairs). BeginsAt x (monomials z)) (sym e) f

pub least_first : (p q : ℤ × ℕ) (ps qs rest others : Pairs) → ps ≡ p ∷ rest → qs ≡ q ∷ others → p.1 ≤ q.1 → IsLeast (monomials ps) (monomials qs) p.1
least_first p q ps qs rest others e f l = record {
  first = from_first p.1 p ps rest e (omega arith);
  second = from_first p.1 q qs others f l;
  one = inl (begins p.1 p ps rest e refl);
}

pub least_second : (p q : ℤ × ℕ) (ps qs rest others : Pairs) → ps ≡ p ∷ rest → qs ≡ q ∷ others → q.1 ≤ p.1 → IsLeast (monomials ps) (monomials qs) q.1
least_second p q ps qs rest others e f l = record {
  first = from_first q.1 p ps rest e l;
  second = from_first q.1 q qs others f (omega arith);
  one = inr (begins q.1 q qs others f refl);
}

pub least_own : (p : ℤ × ℕ) (ps qs rest : Pairs) → ps ≡ p ∷ rest → length qs ≡ 0 → IsLeast (monomials ps) (monomials qs) p.1
least_own p ps qs rest e f = record {
  first = from_first p.1 p ps rest e (omega arith);
  second = from_none p.1 qs f;
  one = inl (begins p.1 p ps rest e refl);
}

pub least_other : (q : ℤ × ℕ) (ps qs rest : Pairs) → length ps ≡ 0 → qs ≡ q ∷ rest → IsLeast (monomials ps) (monomials qs) q.1
least_other q ps qs rest f e = record {
  first = from_none q.1 ps f;
  second = from_first q.1 q qs rest e (omega arith);
  one = inr (begins q.1 q qs rest e refl);
}

-- ---- what stands at a column

pub taken_none : (x : ℕ) (ps : Pairs) → length ps ≡ 0 → TakesAt x (monomials ps) (pos 0) (monomials ps)
taken_none x ps e = subst (λ (z : Pairs). TakesAt x (monomials z) (pos 0) (monomials z)) (sym (nil_from_length ps e)) (takes_none x)

pub taken_first : (x : ℕ) (p : ℤ × ℕ) (ps rest : Pairs) → ps ≡ p ∷ rest → IsNormal (monomials ps) → p.1 ≡ x → TakesAt x (monomials ps) p.0 (monomials rest)
taken_first x p ps rest e h f =
    subst (λ (z : Pairs). TakesAt x (monomials z) p.0 (monomials rest)) (sym e)
    (takes_first x (plain_monomial p) (monomials rest) (subst (λ (z : Pairs). IsNormal (monomials z)) e h) f)

pub taken_later : (x : ℕ) (p : ℤ × ℕ) (ps rest : Pairs) → ps ≡ p ∷ rest → IsNormal (monomials ps) → IsFrom x (monomials ps) → (p.1 ≡ x → ⊥) → TakesAt x (monomials ps) (pos 0) (monomials ps)
taken_later x p ps rest e h g f =
    subst (λ (z : Pairs). TakesAt x (monomials z) (pos 0) (monomials z)) (sym e)
    (takes_later x (plain_monomial p) (monomials rest) (subst (λ (z : Pairs). IsNormal (monomials z)) e h) (subst (λ (z : Pairs). IsFrom x (monomials z)) e g) f)

-- ---- what stands behind a number

pub behind_nothing : (k : ℤ) (x : ℕ) (ms : List Monomial) → k ≡ pos 0 → ms ≡ part k x ++ ms
behind_nothing k x ms e = ap (λ z. z ++ ms) (sym (part_zero k x e))

pub behind_first : (k : ℤ) (x : ℕ) (p : ℤ × ℕ) (ps rest : Pairs) → ps ≡ p ∷ rest → (k ≡ pos 0 → ⊥) → p.0 ≡ k → p.1 ≡ x → monomials ps ≡ part k x ++ monomials rest
behind_first k x p ps rest e h f g =
    ap monomials e ∙ (ap₂ (λ y z. monomial y z ∷ monomials rest) f g ∙ ap (λ z. z ++ monomials rest) (sym (part_one k x h)))

begins_with : (k : ℤ) (x : ℕ) (ms ts : List Monomial) → (k ≡ pos 0 → ⊥) → ms ≡ part k x ++ ts → ms ≡ monomial k x ∷ ts
begins_with k x ms ts h e = e ∙ ap (λ z. z ++ ts) (part_one k x h)

pub not_first : (k : ℤ) (x : ℕ) (p : ℤ × ℕ) (ps rest : Pairs) → ps ≡ p ∷ rest → (k ≡ pos 0 → ⊥) → ((p.0 ≡ k) × (p.1 ≡ x) → ⊥) → (ts : List Monomial) → monomials ps ≡ part k x ++ ts → ⊥
not_first k x p ps rest e h f ts g =
    let lists : plain_monomial p ∷ monomials rest ≡ monomial k x ∷ ts = sym (ap monomials e) ∙ begins_with k x (monomials ps) ts h g in
    let head : plain_monomial p ≡ monomial k x = cc lists in
    f (ap (λ (z : Monomial). z.factor) head, ap (λ (z : Monomial). z.column) head)

pub none_behind : (k : ℤ) (x : ℕ) (ps : Pairs) → length ps ≡ 0 → (k ≡ pos 0 → ⊥) → (ts : List Monomial) → monomials ps ≡ part k x ++ ts → ⊥
none_behind k x ps e h ts g = cc (ap monomials (nil_from_length ps e), begins_with k x (monomials ps) ts h g)
