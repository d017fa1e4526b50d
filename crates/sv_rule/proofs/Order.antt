-- Faults are in order: by line, by column, by the number of the rule.
use Rattle.std.proofs.Common.{ℕ, ◌≡◌, ◌∙◌, ◌<◌, ◌⊎◌, inl, inr, Bool, true, false, ◌&&◌, ◌||◌, nat_eq, nat_lt, nat_le, refl, sym, ap, arith}
use Rattle.std.proofs.lemmas.Bool.Decides.{Decides-eqb, Decides-ltb, leb_tells}
use Rattle.sv_book.specs.Books.{Orders}
use Rattle.sv_rule.specs.RuleFaults.{first, lex, number}

abbrev Lex : ℕ → ℕ → Bool → Type 0
Lex a b p = (a < b) ⊎ ((a ≡ b) × (p ≡ true))

tells : (a b : ℕ) (p : Bool) → lex a b p ≡ true → Lex a b p
tells a b p h = by (nat_lt a b) (nat_eq a b) refl refl h
  where
    by : (x y : Bool) → nat_lt a b ≡ x → nat_eq a b ≡ y → (x || (y && p)) ≡ true → Lex a b p
    by true y e k i = inl ((Decides-ltb a b).0 e)
    by false true e k i = inr ((Decides-eqb a b).0 k, i)
    by false false e k i = cc i

says : (a b : ℕ) (p : Bool) → Lex a b p → lex a b p ≡ true
says a b p h = elim h [ inl l ↦ one (nat_lt a b) ((Decides-ltb a b).1 l) | inr r ↦ two (nat_lt a b) (nat_eq a b) ((Decides-eqb a b).1 r.0) r.1 ]
  where
    one : (x : Bool) → x ≡ true → (x || (nat_eq a b && p)) ≡ true
    one x e = ap (λ z. z || (nat_eq a b && p)) e

    two : (x y : Bool) → y ≡ true → p ≡ true → (x || (y && p)) ≡ true
    two true y e k = refl
    two false y e k = ap (λ z. z && p) e ∙ k

same : (a : ℕ) (p : Bool) → p ≡ true → lex a a p ≡ true
same a p h = says a a p (inr (refl, h))

along : (a b c : ℕ) (p q r : Bool) → (p ≡ true → q ≡ true → r ≡ true) → lex a b p ≡ true → lex b c q ≡ true → lex a c r ≡ true
along a b c p q r f h i =
    says a c r (elim (tells a b p h) [
      | inl x ↦ (elim (tells b c q i) [ inl y ↦ inl (omega (arith, x, y)) | inr y ↦ inl (omega (arith, x, y.0)) ])
      | inr x ↦ (elim (tells b c q i) [ inl y ↦ inl (omega (arith, x.0, y)) | inr y ↦ inr (x.0 ∙ y.0, f x.1 y.1) ])
    ])

either : (a b : ℕ) (p q : Bool) → (p ≡ false → q ≡ true) → lex a b p ≡ false → lex b a q ≡ true
either a b p q f h =
    elim (leb_tells a b) [
      | inr l ↦ says b a q (inl l.1)
      | inl l ↦ (elim (leb_tells b a) [
        | inr k ↦ absurd (clash (says a b p (inl k.1)))
        | inl k ↦ (let e : a ≡ b = omega (arith, l.1, k.1) in says b a q (inr (sym e, f (at p refl e))))
      ])
    ]
  where
    clash : lex a b p ≡ true → ⊥
    clash k = cc (h, k)

    at : (x : Bool) → p ≡ x → a ≡ b → p ≡ false
    at true i e = absurd (clash (says a b p (inr (e, i))))
    at false i e = i

le_same : (n : ℕ) → nat_le n n ≡ true
le_same n = elim (leb_tells n n) [ inl a ↦ a.0 | inr b ↦ absurd (omega (arith, b.1)) ]

le_along : (n m k : ℕ) → nat_le n m ≡ true → nat_le m k ≡ true → nat_le n k ≡ true
le_along n m k h i =
    elim (leb_tells n k) [
      | inl a ↦ a.0
      | inr b ↦ (elim (leb_tells n m) [ inr x ↦ cc (h, x.0) | inl x ↦ (elim (leb_tells m k) [ inr y ↦ cc (i, y.0) | inl y ↦ absurd (omega (arith, b.1, x.1, y.1)) ]) ])
    ]

le_either : (n m : ℕ) → nat_le n m ≡ false → nat_le m n ≡ true
le_either n m h =
    elim (leb_tells m n) [
      | inl a ↦ a.0
      | inr b ↦ (elim (leb_tells n m) [ inl x ↦ cc (h, x.0) | inr x ↦ absurd (omega (arith, b.1, x.1)) ])
    ]

pub in_order : Orders first
in_order = record {
  same = λ f. same f.place.line _ (same f.place.col _ (le_same (number f.rule)));
  along = λ f g h. along f.place.line g.place.line h.place.line _ _ _ (along f.place.col g.place.col h.place.col _ _ _ (le_along (number f.rule) (number g.rule) (number h.rule)));
  either = λ f g. either f.place.line g.place.line _ _ (either f.place.col g.place.col _ _ (le_either (number f.rule) (number g.rule)));
}
