-- The flag of a term by those of the terms before it.
use Rattle.std.proofs.Common.{ℕ, zero, suc, ◌<◌, ◌≤◌, Bool, true, false, not, ◌||◌, nat_eq, List, [], ◌∷◌, ◌≡◌, ◌↔◌, IsTrue, length, map, take, get_or, refl, sym, ap, ◌∙◌, subst, arith}
use Rattle.std.proofs.lemmas.List.{length-take}
use Rattle.std.proofs.lemmas.Bool.Decides.{Decides-eqb}
use Rattle.sv_term.specs.Sorts.{is_num, is_flat}
use Rattle.sv_term.specs.Terms.{Term, App, LitNode, zero_lit, sort_of, same_term, is_plain}
use Rattle.sv_term.proofs.Same.{term_is, term_self}
use Rattle.sv_log.specs.Logs.{nth_term, nth_terms}
use Rattle.sv_plain_terms.specs.PlainFlags.{arg_plain, value_plain}
use Rattle.sv_plain_terms.proofs.FlagsOfTerms.{flag_at}

nth_take : (ts : List Term) (n k : ℕ) → k < n → nth_term (take n ts) k ≡ nth_term ts k
nth_take [] zero k l = refl
nth_take [] (suc n) k l = refl
nth_take (t ∷ ts) zero k l = absurd (omega (arith, l))
nth_take (t ∷ ts) (suc n) zero l = refl
nth_take (t ∷ ts) (suc n) (suc k) l = nth_take ts n k (omega (arith, l))

flag_below : (ts : List Term) (flags : List Bool) (n k : ℕ) (d : Bool) → flags ≡ map is_plain (take n ts) → k < n → n ≤ length ts → get_or flags k d ≡ is_plain (nth_term ts k)
flag_below ts flags n k d e l m =
    let w : k < length (take n ts) = omega (arith, l, m, length-take n ts) in
    flag_at (take n ts) flags k d e w ∙ ap is_plain (nth_take ts n k l)

pub flag_or_flat : (ts : List Term) (flags : List Bool) (n k : ℕ) (flat : Bool) (d : Bool) → flags ≡ map is_plain (take n ts) → k < n → n ≤ length ts → flat ≡ is_flat (sort_of (nth_term ts k)) → flat ≡ false → get_or flags k d ≡ arg_plain (nth_term ts k)
flag_or_flat ts flags n k flat d e l m f g = flag_below ts flags n k d e l m ∙ ap (λ b. b || is_plain (nth_term ts k)) (sym (sym f ∙ g))

module _ (ts : List Term) where
  same_zero : (t : Term) (r : Bool) → IsTrue r ↔ (t ≡ zero_lit) → r ≡ same_term t zero_lit
  same_zero t true h = sym (subst (λ u. same_term u zero_lit ≡ true) (sym (h.0 refl)) (term_self zero_lit))
  same_zero t false h = go (same_term t zero_lit) refl
    where
      go : (b : Bool) → same_term t zero_lit ≡ b → false ≡ same_term t zero_lit
      go true e = absurd (cc (h.1 (term_is t zero_lit e)))
      go false e = sym e

  pub value_other : (args : List ℕ) (r m : Bool) → (length args ≡ 0 → ⊥) → IsTrue r ↔ (nth_term ts (get_or args 0 0) ≡ zero_lit) → r ≡ false → m ≡ is_num (sort_of (nth_term ts (get_or args 0 0))) → not m ≡ value_plain (nth_terms ts args)
  value_other [] r m n h e f = absurd (n refl)
  value_other (k ∷ args) r m n h e f = ap not f ∙ ap (λ b. b || not (is_num (sort_of (nth_term ts k)))) (sym e ∙ same_zero (nth_term ts k) r h)

  pub zero_by : (t : Term) (args : List ℕ) → t ≡ App (LitNode false 0) (nth_terms ts args) → IsTrue (nat_eq (length args) 0) ↔ (t ≡ zero_lit)
  zero_by t [] e = (λ h. e, λ h. refl)
  zero_by t (k ∷ args) e = (λ h. absurd (let s = (Decides-eqb (suc (length args)) 0).0 h in omega (arith, s)), λ h. absurd (cc (e, h)))
