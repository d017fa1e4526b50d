-- The sum of weights, and that passing them on leaves it the same but for multiples of 2^128.
use Rattle.std.proofs.Common.{ℕ, zero, suc, ◌+◌, ◌<◌, ◌≤◌, Bool, true, false, List, [], ◌∷◌, ◌≡◌, length, get_or, set, refl, sym, ap, ap₂, ◌∙◌, subst, arith}
use Rattle.std.proofs.lemmas.Int.{ints, int_wrap-add_left, int_wrap-add_right, int_wrap-mul_left, int_wrap-mul_right, int_wrap_fits, SFits-int_wrap}
use Rattle.std.proofs.lemmas.List.{get_or-set_other, get_or-set_same, length-set}
use Rattle.std.specs.Int.{int_wrap}
use mir.Syntax.{w128}
use lib.IntN.{ℤ, pos, negsuc, ◌+ℤ◌, ◌-ℤ◌, ◌*ℤ◌, neg_ℤ, *ℤ_comm}
use Rattle.sv_log.proofs.Amounts.{spread, regrouped, spread_left}
use Rattle.sv_form.specs.declared.node.Join.{Join}
use Rattle.sv_form.specs.declared.node.Join.TheVariants.{Sum, Difference, Multiple}
use Rattle.sv_form.specs.declared.node.Linear.{Linear}
use Rattle.sv_form.specs.declared.node.Linear.TheVariants.{Literal, Wide, Joined, Column, AtMost, Equal, Outside}
use Rattle.sv_form.specs.Joins.{joined, first_factor, second_factor}
use Rattle.sv_form.specs.TermWeights.{wrapped, with_weight, passed, brought, HasArguments, weighed, number_by, AreSame, weight_at}

-- ---- numbers that differ by a multiple of 2^128

pub same_wrapped : (a : ℤ) → AreSame (wrapped a) a
same_wrapped a = int_wrap_fits w128 (int_wrap w128 a) (SFits-int_wrap w128 a)

pub same_sum : (a b c d : ℤ) → AreSame a b → AreSame c d → AreSame (a +ℤ c) (b +ℤ d)
same_sum a b c d e f =
    sym (int_wrap-add_left w128 a c) ∙ (ap (λ z. wrapped (z +ℤ c)) e ∙ (int_wrap-add_left w128 b c
    ∙ (sym (int_wrap-add_right w128 b c) ∙ (ap (λ z. wrapped (b +ℤ z)) f ∙ int_wrap-add_right w128 b d))))

pub same_product : (a b c : ℤ) → AreSame a b → AreSame (a *ℤ c) (b *ℤ c)
same_product a b c e = sym (int_wrap-mul_left w128 a c) ∙ (ap (λ z. wrapped (z *ℤ c)) e ∙ int_wrap-mul_left w128 b c)

-- ---- a weight that changes

shifted : (a b c d e f : ℤ) → a +ℤ b ≡ c +ℤ d → (e +ℤ a) +ℤ b ≡ (e +ℤ c) +ℤ d
shifted a b c d e f h = omega (arith, ints, h)

head_changed : (v w z r : ℤ) → (v *ℤ z +ℤ r) +ℤ w *ℤ z ≡ (w *ℤ z +ℤ r) +ℤ v *ℤ z
head_changed v w z r = omega (arith, ints)

-- w comes back where v was put
pub changed : (x : ℕ → ℤ) (ws : List ℤ) (k : ℕ) (v : ℤ) → k < length ws → weighed x (set ws k v) +ℤ get_or ws k (pos 0) *ℤ x k ≡ weighed x ws +ℤ v *ℤ x k
changed x [] k v h = absurd (omega (arith, h))
changed x (w ∷ ws) zero v h = head_changed v w (x 0) (weighed (λ n. x (suc n)) ws)
changed x (w ∷ ws) (suc k) v h =
    shifted (weighed (λ n. x (suc n)) (set ws k v)) (get_or ws k (pos 0) *ℤ x (suc k)) (weighed (λ n. x (suc n)) ws) (v *ℤ x (suc k)) (w *ℤ x 0) (pos 0)
    (changed (λ n. x (suc n)) ws k v (omega (arith, h)))

moved : (a b c d : ℤ) → a +ℤ b ≡ c +ℤ d → a ≡ (c +ℤ neg_ℤ b) +ℤ d
moved a b c d h = omega (arith, ints, h)

dropped : (a b c d z : ℤ) → a +ℤ b ≡ c +ℤ z → z ≡ pos 0 → a ≡ c +ℤ neg_ℤ b
dropped a b c d z h e = omega (arith, ints, h, e)

zero_times : (a : ℤ) → pos 0 *ℤ a ≡ pos 0
zero_times a = omega (arith, ints)

pub taken : (x : ℕ → ℤ) (ws : List ℤ) (k : ℕ) → k < length ws → weighed x (set ws k (pos 0)) ≡ weighed x ws +ℤ neg_ℤ (get_or ws k (pos 0) *ℤ x k)
taken x ws k h = dropped _ _ _ (pos 0) _ (changed x ws k (pos 0) h) (zero_times (x k))

back_again : (a b w m : ℤ) → (a +ℤ neg_ℤ w) +ℤ (w +ℤ m) ≡ a +ℤ m
back_again a b w m = omega (arith, ints)

pub given : (x : ℕ → ℤ) (ws : List ℤ) (k : ℕ) (m : ℤ) → k < length ws → AreSame (weighed x (with_weight k m ws)) (weighed x ws +ℤ m *ℤ x k)
given x ws k m h =
    let w : ℤ = get_or ws k (pos 0) in
    let e : weighed x (with_weight k m ws) ≡ (weighed x ws +ℤ neg_ℤ (w *ℤ x k)) +ℤ wrapped (w +ℤ m) *ℤ x k = moved _ _ _ _ (changed x ws k (wrapped (w +ℤ m)) h) in
    ap wrapped e
    ∙ (same_sum (weighed x ws +ℤ neg_ℤ (w *ℤ x k)) (weighed x ws +ℤ neg_ℤ (w *ℤ x k)) (wrapped (w +ℤ m) *ℤ x k) ((w +ℤ m) *ℤ x k) refl (same_product (wrapped (w +ℤ m)) (w +ℤ m) (x k) (same_wrapped (w +ℤ m)))
    ∙ (ap (λ z. wrapped ((weighed x ws +ℤ neg_ℤ (w *ℤ x k)) +ℤ z)) (spread_left w m (x k))
    ∙ ap wrapped (back_again (weighed x ws) (pos 0) (w *ℤ x k) (m *ℤ x k))))

-- ---- a term that passes on its weight

joined_is : (how : Join) (k l : ℤ) → joined how k l ≡ first_factor how *ℤ k +ℤ second_factor how *ℤ l
joined_is Sum k l = omega (arith, ints)
joined_is Difference k l = omega (arith, ints)
joined_is (Multiple z) k l = omega (arith, ints)

split : (w f g k l : ℤ) → (w *ℤ f) *ℤ k +ℤ (w *ℤ g) *ℤ l ≡ w *ℤ (f *ℤ k +ℤ g *ℤ l)
split w f g k l = ap₂ (λ y z. y +ℤ z) (regrouped w f k) (regrouped w g l) ∙ spread w (f *ℤ k) (g *ℤ l)

grouped : (s w j k : ℤ) → ((s +ℤ neg_ℤ w) +ℤ j) +ℤ k ≡ (s +ℤ neg_ℤ w) +ℤ (j +ℤ k)
grouped s w j k = omega (arith, ints)

none_left : (s w : ℤ) → (s +ℤ neg_ℤ w) +ℤ w ≡ s
none_left s w = omega (arith, ints)

zero_plus : (a : ℤ) → pos 0 +ℤ a ≡ a
zero_plus a = omega (arith, ints)

literal_left : (s w : ℤ) → w +ℤ (s +ℤ neg_ℤ w) ≡ s
literal_left s w = omega (arith, ints)

module _ (x : ℕ → ℤ) (n : ℕ) (ws : List ℤ) (inside : n < length ws) where
  abbrev w : ℤ
  w = get_or ws n (pos 0)

  pub passed_sum : (l : Linear) → HasArguments l n → number_by x n l ≡ x n → AreSame (brought l n ws +ℤ weighed x (passed l n ws)) (weighed x ws)
  passed_sum (Literal z) a e =
      same_sum (wrapped (w *ℤ z)) (w *ℤ z) (weighed x (set ws n (pos 0))) (weighed x ws +ℤ neg_ℤ (w *ℤ x n)) (same_wrapped (w *ℤ z)) (ap wrapped (taken x ws n inside))
      ∙ (ap (λ y. wrapped (w *ℤ y +ℤ (weighed x ws +ℤ neg_ℤ (w *ℤ x n)))) e ∙ ap wrapped (literal_left (weighed x ws) (w *ℤ x n)))
  passed_sum (Joined how a b) args e =
      let us : List ℤ = set ws n (pos 0) in
      let f : ℤ = w *ℤ first_factor how in
      let g : ℤ = w *ℤ second_factor how in
      let vs : List ℤ = with_weight a (wrapped f) us in
      let in_us : a < length us = omega (arith, length-set ws n (pos 0), args.0) in
      let in_vs : b < length vs = omega (arith, length-set us a (wrapped (weight_at us a +ℤ wrapped f)), length-set ws n (pos 0), args.1) in
      ap wrapped (zero_plus (weighed x (with_weight b (wrapped g) vs)))
      ∙ (given x vs b (wrapped g) in_vs
      ∙ (same_sum (weighed x vs) ((weighed x ws +ℤ neg_ℤ (w *ℤ x n)) +ℤ f *ℤ x a) (wrapped g *ℤ x b) (g *ℤ x b)
      (given x us a (wrapped f) in_us
      ∙ same_sum (weighed x us) (weighed x ws +ℤ neg_ℤ (w *ℤ x n)) (wrapped f *ℤ x a) (f *ℤ x a) (ap wrapped (taken x ws n inside)) (same_product (wrapped f) f (x a) (same_wrapped f)))
      (same_product (wrapped g) g (x b) (same_wrapped g))
      ∙ ap wrapped (grouped (weighed x ws) (w *ℤ x n) (f *ℤ x a) (g *ℤ x b)
      ∙ (ap (λ z. (weighed x ws +ℤ neg_ℤ (w *ℤ x n)) +ℤ z) (split w (first_factor how) (second_factor how) (x a) (x b) ∙ ap (λ z. w *ℤ z) (sym (joined_is how (x a) (x b)) ∙ e))
      ∙ none_left (weighed x ws) (w *ℤ x n)))))
  passed_sum Wide a e = ap wrapped (zero_plus (weighed x ws))
  passed_sum Column a e = ap wrapped (zero_plus (weighed x ws))
  passed_sum (AtMost a b) args e = ap wrapped (zero_plus (weighed x ws))
  passed_sum (Equal a b) args e = ap wrapped (zero_plus (weighed x ws))
  passed_sum Outside a e = ap wrapped (zero_plus (weighed x ws))
