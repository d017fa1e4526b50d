-- What a call of `add_sum` gives, from the step before it and the call for the rest.
use Rattle.std.proofs.Common.{ℕ, ◌<◌, Bool, true, false, List, [], ◌∷◌, length, ◌≡◌, sym, subst}
use Rattle.std.proofs.lemmas.List.{nil_from_length}
use Rattle.std.proofs.lemmas.Result.{IfOk-weaker}
use Rattle.std.specs.Prelude.{Result, IfOk}
use lib.IntN.{ℤ, ◌+ℤ◌, ◌*ℤ◌}
use Rattle.sv_num.specs.Range.{IsI128}
use Rattle.sv_log.specs.LogEntries.{Monomial}
use Rattle.sv_log.specs.LogRows.{plain_monomial, monomial}
use Rattle.sv_row.specs.RowParts.{monomials, AreAbove, AreRising, FitsMultiples, sum_of_multiples}
use Rattle.sv_row.specs.SumSteps.{part, AddsParts, FitsBoth}
use Rattle.sv_row.proofs.Sums.{above_more, own_added, own_refused, other_added, other_refused, both_added, both_refused}

-- what is added for two lists of pairs
abbrev pub Adds : ℤ → List (ℤ × ℕ) → ℤ → List (ℤ × ℕ) → List Monomial → List Monomial → Bool → Type 0
Adds m own n other before after fits = AddsParts (FitsMultiples m (monomials own) n (monomials other)) (sum_of_multiples m (monomials own) n (monomials other)) before after fits

-- ---- columns above

pub above_nothing : (x : ℕ) (ps : List (ℤ × ℕ)) → length ps ≡ 0 → AreAbove x (monomials ps)
above_nothing x ps e = subst (λ (qs : List (ℤ × ℕ)). AreAbove x (monomials qs)) (sym (nil_from_length ps e)) tt

pub rest_rises : (p : ℤ × ℕ) (ps rest : List (ℤ × ℕ)) → ps ≡ p ∷ rest → AreRising (monomials ps) → AreAbove p.1 (monomials rest) × AreRising (monomials rest)
rest_rises p ps rest e h = subst (λ (qs : List (ℤ × ℕ)). AreRising (monomials qs)) e h

pub above_lesser : (x : ℕ) (p : ℤ × ℕ) (ps rest : List (ℤ × ℕ)) → ps ≡ p ∷ rest → AreRising (monomials ps) → x < p.1 → AreAbove x (monomials ps)
above_lesser x p ps rest e h l =
    subst (λ (qs : List (ℤ × ℕ)). AreAbove x (monomials qs)) (sym e) (l, above_more x p.1 (monomials rest) l (rest_rises p ps rest e h).0)

-- ---- the step and the rest; the code's m and n are the given ones

module _ (m n i j : ℤ) (im : i ≡ m) (jn : j ≡ n) (old mid new : List Monomial) where
  at_own : (own other : List (ℤ × ℕ)) (fits : Bool) → Adds i own j other mid new fits → Adds m own n other mid new fits
  at_own own other fits h = subst (λ y. Adds m own y other mid new fits) jn (subst (λ x. Adds x own j other mid new fits) im h)

  module _ (own rest other : List (ℤ × ℕ)) (p : ℤ × ℕ) (k : ℤ) (b : Bool) (e : own ≡ p ∷ rest) (ke : k ≡ p.0)
      (above : AreAbove p.1 (monomials rest)) (above_other : AreAbove p.1 (monomials other)) (h : AddsParts (IsI128 (i *ℤ k)) (part (i *ℤ k) p.1) old mid b) where
    own_step : AddsParts (IsI128 (m *ℤ p.0)) (part (m *ℤ p.0) p.1) old mid b
    own_step = subst (λ z. AddsParts (IsI128 (m *ℤ z)) (part (m *ℤ z) p.1) old mid b) ke (subst (λ x. AddsParts (IsI128 (x *ℤ k)) (part (x *ℤ k) p.1) old mid b) im h)

    pub own_stops : b ≡ false → FitsMultiples m (monomials own) n (monomials other) → ⊥
    own_stops s = subst (λ (o : List (ℤ × ℕ)). FitsMultiples m (monomials o) n (monomials other) → ⊥) (sym e)
        (own_refused m n (plain_monomial p) (monomials rest) (monomials other) above above_other old mid (subst (AddsParts (IsI128 (m *ℤ p.0)) (part (m *ℤ p.0) p.1) old mid) s own_step))

    pub own_goes_on : {E : Type 0} (r : Result Bool E) → b ≡ true → IfOk r (Adds i rest j other mid new) → IfOk r (Adds m own n other old new)
    own_goes_on r s c = IfOk-weaker r (Adds i rest j other mid new) (Adds m own n other old new)
        (λ fits g.
        let d = subst (AddsParts (IsI128 (m *ℤ p.0)) (part (m *ℤ p.0) p.1) old mid) s own_step in
        subst (λ (o : List (ℤ × ℕ)). Adds m o n other old new fits) (sym e)
        (own_added m n (plain_monomial p) (monomials rest) (monomials other) above above_other old mid new fits d.0 d.1 (at_own rest other fits g)))
        c

  module _ (own other rest : List (ℤ × ℕ)) (q : ℤ × ℕ) (l : ℤ) (b : Bool) (e : other ≡ q ∷ rest) (le : l ≡ q.0)
      (above : AreAbove q.1 (monomials own)) (h : AddsParts (IsI128 (j *ℤ l)) (monomial (j *ℤ l) q.1 ∷ []) old mid b) where
    other_step : AddsParts (IsI128 (n *ℤ q.0)) (monomial (n *ℤ q.0) q.1 ∷ []) old mid b
    other_step = subst (λ z. AddsParts (IsI128 (n *ℤ z)) (monomial (n *ℤ z) q.1 ∷ []) old mid b) le (subst (λ x. AddsParts (IsI128 (x *ℤ l)) (monomial (x *ℤ l) q.1 ∷ []) old mid b) jn h)

    pub other_stops : b ≡ false → FitsMultiples m (monomials own) n (monomials other) → ⊥
    other_stops s = subst (λ (o : List (ℤ × ℕ)). FitsMultiples m (monomials own) n (monomials o) → ⊥) (sym e)
        (other_refused m n (monomials own) (plain_monomial q) (monomials rest) above old mid (subst (AddsParts (IsI128 (n *ℤ q.0)) (monomial (n *ℤ q.0) q.1 ∷ []) old mid) s other_step))

    pub other_goes_on : {E : Type 0} (r : Result Bool E) → b ≡ true → IfOk r (Adds i own j rest mid new) → IfOk r (Adds m own n other old new)
    other_goes_on r s c = IfOk-weaker r (Adds i own j rest mid new) (Adds m own n other old new)
        (λ fits g.
        let d = subst (AddsParts (IsI128 (n *ℤ q.0)) (monomial (n *ℤ q.0) q.1 ∷ []) old mid) s other_step in
        subst (λ (o : List (ℤ × ℕ)). Adds m own n o old new fits) (sym e)
        (other_added m n (monomials own) (plain_monomial q) (monomials rest) above old mid new fits d.0 d.1 (at_own own rest fits g)))
        c

  module _ (own own_rest other other_rest : List (ℤ × ℕ)) (p q : ℤ × ℕ) (k l : ℤ) (b : Bool) (e : own ≡ p ∷ own_rest) (f : other ≡ q ∷ other_rest) (ke : k ≡ p.0) (le : l ≡ q.0)
      (above : AreAbove p.1 (monomials own_rest)) (same : p.1 ≡ q.1) (h : AddsParts (FitsBoth i k j l) (part (i *ℤ k +ℤ j *ℤ l) p.1) old mid b) where
    both_step : AddsParts (FitsBoth m p.0 n q.0) (part (m *ℤ p.0 +ℤ n *ℤ q.0) p.1) old mid b
    both_step =
        subst (λ z. AddsParts (FitsBoth m p.0 n z) (part (m *ℤ p.0 +ℤ n *ℤ z) p.1) old mid b) le
        (subst (λ y. AddsParts (FitsBoth m p.0 y l) (part (m *ℤ p.0 +ℤ y *ℤ l) p.1) old mid b) jn
        (subst (λ z. AddsParts (FitsBoth m z j l) (part (m *ℤ z +ℤ j *ℤ l) p.1) old mid b) ke
        (subst (λ x. AddsParts (FitsBoth x k j l) (part (x *ℤ k +ℤ j *ℤ l) p.1) old mid b) im h)))

    pub both_stop : b ≡ false → FitsMultiples m (monomials own) n (monomials other) → ⊥
    both_stop s =
        subst (λ (o : List (ℤ × ℕ)). FitsMultiples m (monomials o) n (monomials other) → ⊥) (sym e)
        (subst (λ (o : List (ℤ × ℕ)). FitsMultiples m (plain_monomial p ∷ monomials own_rest) n (monomials o) → ⊥) (sym f)
        (both_refused m n (plain_monomial p) (monomials own_rest) (plain_monomial q) (monomials other_rest) above same old mid
        (subst (AddsParts (FitsBoth m p.0 n q.0) (part (m *ℤ p.0 +ℤ n *ℤ q.0) p.1) old mid) s both_step)))

    pub both_go_on : {E : Type 0} (r : Result Bool E) → b ≡ true → IfOk r (Adds i own_rest j other_rest mid new) → IfOk r (Adds m own n other old new)
    both_go_on r s c = IfOk-weaker r (Adds i own_rest j other_rest mid new) (Adds m own n other old new)
        (λ fits g.
        let d = subst (AddsParts (FitsBoth m p.0 n q.0) (part (m *ℤ p.0 +ℤ n *ℤ q.0) p.1) old mid) s both_step in
        subst (λ (o : List (ℤ × ℕ)). Adds m o n other old new fits) (sym e)
        (subst (λ (o : List (ℤ × ℕ)). Adds m (p ∷ own_rest) n o old new fits) (sym f)
        (both_added m n (plain_monomial p) (monomials own_rest) (plain_monomial q) (monomials other_rest) above same old mid new fits d.0 d.1 (at_own own_rest other_rest fits g))))
        c
