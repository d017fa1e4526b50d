-- Where the longest viable prefix of the tokens from a place on ends.
use Rattle.std.proofs.Common.{◌≡◌, ℕ, zero, suc, ◌+◌, ◌-◌, ◌≤◌, ◌<◌, List, [], ◌∷◌, ◌++◌, take, drop, length, refl, sym, ap, ◌∙◌, subst, arith, length-append, length-drop, ◌⊎◌, inl, inr}
use Rattle.std.proofs.lemmas.List.{append-nil}
use Rattle.sv_grammar.specs.Grammar.{Token, Part, Tree, Derives, Begins}
use Rattle.sv_grammar.specs.Reading.{Stops, Found, Fault}
use Rattle.sv_grammar.specs.Reach.{between, Reaches}
use Rattle.sv_grammar.proofs.Exactly.{along, less}

take_all : {A : Type 0} (u r : List A) (n : ℕ) → n ≡ length u → take n (u ++ r) ≡ u
take_all [] r n e = rw e refl
take_all (x ∷ u) r n e = rw e (ap (λ w. x ∷ w) (take_all u r (length u) refl))

take_past : {A : Type 0} (u : List A) (x : A) (more : List A) (n : ℕ) → length u < n → (m : List A) × (take n (u ++ x ∷ more) ≡ (u ++ x ∷ []) ++ m)
take_past [] x more zero h = absurd (omega arith)
take_past [] x more (suc n) h = (take n more, refl)
take_past (y ∷ u) x more zero h = absurd (omega arith)
take_past (y ∷ u) x more (suc n) h = let p = take_past u x more n (omega arith) in (p.0, ap (λ w. y ∷ w) p.1)

module _ {S : Type 0} (rules : S → Part S) (a : Part S) (ts : List Token) (from : ℕ) (in_ts : from ≤ length ts) (used rest : List Token) (whole : drop from ts ≡ used ++ rest) where
  sizes : length ts ≡ from + length used + length rest
  sizes = let p = length-drop from ts in let q = ap length whole in let r = length-append used rest in omega arith

  between_is : between ts from (length ts - length rest) ≡ used
  between_is = let n = sizes in ap (take ((length ts - length rest) - from)) whole ∙ take_all used rest ((length ts - length rest) - from) (omega arith)

  pub reaches : Begins rules a used → Stops rules a used rest → Reaches rules a ts from (length ts - length rest)
  reaches b stops =
      let n = sizes in
      record {
        after = omega arith;
        within = omega arith;
        begins = subst (λ w. Begins rules a w) (sym between_is) b;
        greatest = λ k lo hi d. by_rest rest stops whole n k lo hi d;
      }
    where
      by_rest : (r : List Token) → Stops rules a used r → drop from ts ≡ used ++ r → length ts ≡ from + length used + length r → (k : ℕ) → from ≤ k → k ≤ length ts → Begins rules a (between ts from k) → k ≤ length ts - length r
      by_rest [] s w n k lo hi d = omega arith
      by_rest (x ∷ more) s w n k lo hi d = by_test (dec k)
        where
          dec : (k : ℕ) → (k ≤ from + length used) ⊎ (from + length used < k)
          dec k = grind arith

          by_test : (k ≤ from + length used) ⊎ (from + length used < k) → k ≤ length ts - length (x ∷ more)
          by_test (inl h) = omega arith
          by_test (inr h) =
              let p = take_past used x more (k - from) (omega arith) in
              let e : between ts from k ≡ (used ++ x ∷ []) ++ p.0 = ap (take (k - from)) w ∙ p.1 in
              absurd (s x more refl (less rules a (used ++ x ∷ []) p.0 (subst (λ w. Begins rules a w) e d)))

  pub derives_between : {t : Tree} → Derives rules a used t → Derives rules a (between ts from (length ts - length rest)) t
  derives_between d = along rules a (sym between_is) d

  pub not_between : ((t : Tree) → Derives rules a used t → ⊥) → (t : Tree) → Derives rules a (between ts from (length ts - length rest)) t → ⊥
  not_between under t d = under t (along rules a between_is d)

pub found_reaches : {S : Type 0} (rules : S → Part S) (a : Part S) (ts : List Token) (from : ℕ) (t : Tree) (rest : List Token) → from ≤ length ts → Found rules a (drop from ts) t rest
    → Reaches rules a ts from (length ts - length rest) × Derives rules a (between ts from (length ts - length rest)) t
found_reaches rules a ts from t rest h p = (
  reaches rules a ts from h p.used rest p.whole ([], t, along rules a (sym (append-nil p.used)) p.derived) p.stops,
  derives_between rules a ts from h p.used rest p.whole p.derived,
)

pub fault_reaches : {S : Type 0} (rules : S → Part S) (a : Part S) (ts : List Token) (from : ℕ) (rest : List Token) → from ≤ length ts → Fault rules a (drop from ts) rest
    → Reaches rules a ts from (length ts - length rest) × ((t : Tree) → Derives rules a (between ts from (length ts - length rest)) t → ⊥)
fault_reaches rules a ts from rest h p = (
  reaches rules a ts from h p.used rest p.whole p.begins p.stops,
  not_between rules a ts from h p.used rest p.whole p.underived,
)
