-- What was replaced is remembered, and each new term is paid for by a number that had nothing.
use Rattle.std.proofs.Common.{ℕ, zero, suc, ◌+◌, ◌<◌, ◌≤◌, ◌≡◌, Bool, true, false, cond, nat_eq, List, length, Option, Some, None, is_some, refl, sym, ap, ◌∙◌, subst, arith}
use Rattle.std.proofs.lemmas.Bool.Decides.{Decides-eqb}
use Rattle.sv_term.specs.Terms.{Term}
use Rattle.sv_term.specs.Banks.{Nodes, IsTerm, Keeps, Stands, term}
use Rattle.sv_term.specs.declared.node.TermId.{TermId}
use Rattle.sv_vc.specs.Replacing.{replaced}
use Rattle.sv_vc.specs.OpenTerms.{Remembers, Pays, missing}

pub remembers_kept : {a b : Nodes} {env : List Term} {memo : ℕ → Option TermId} → Keeps a b → Remembers a env memo → Remembers b env memo
remembers_kept {a} {b} {env} {memo} k h = record {
  at = λ n r e.
      let f = h.at n r e in (
        omega (arith, k.size, f.0),
        record { within = omega (arith, k.size, f.1.within); is = k.terms r f.1.within ∙ (f.1.is ∙ ap (λ z. replaced z env) (sym (k.terms n f.0))) },
      );
}

same_some : (r now : TermId) → Some r ≡ Some now → r ≡ now
same_some r now e = cc

one : (k t : TermId) → k.0 ≡ t.0 → k ≡ t
one k t e = rw e refl

pub no_some : {X : Type 0} (o : Option X) → ((x : X) → o ≡ Some x → ⊥) → o ≡ None
no_some None h = refl
no_some (Some x) h = absurd (h x refl)

-- one more entry
pub remembers_put : {b : Nodes} {env : List Term} {memo : ℕ → Option TermId} (t now : TermId) (after : ℕ → Option TermId) → IsTerm b t → Stands b now (replaced (term b t) env) → ((q : ℕ) → after q ≡ cond (nat_eq t.0 q) (Some now) (memo q)) → Remembers b env memo → Remembers b env after
remembers_put {b} {env} {memo} t now after i st is h = record {
  at = λ k r e. go k r (nat_eq t.0 k.0) refl (sym (is k.0) ∙ e);
}
  where
    go : (k r : TermId) (c : Bool) → nat_eq t.0 k.0 ≡ c → cond (nat_eq t.0 k.0) (Some now) (memo k.0) ≡ Some r → IsTerm b k × Stands b r (replaced (term b k) env)
    go k r true q e =
        let same : t ≡ k = one t k ((Decides-eqb t.0 k.0).0 q) in
        let got : now ≡ r = same_some now r (ap (λ z. cond z (Some now) (memo k.0)) (sym q) ∙ e) in
        (subst (IsTerm b) same i, subst (λ z. Stands b z (replaced (term b k) env)) got (subst (λ z. Stands b now (replaced (term b z) env)) same st))
    go k r false q e = h.at k r (ap (λ z. cond z (Some now) (memo k.0)) (sym q) ∙ e)

-- ---- what is missing

pub missing_most : (f : ℕ → Option TermId) (n : ℕ) → missing f n ≤ n
missing_most f zero = omega arith
missing_most f (suc n) = elim (is_some (f n)) as (λ b. cond b 0 1 + missing f n ≤ suc n) [ true ↦ omega (arith, missing_most f n) | false ↦ omega (arith, missing_most f n) ]

missing_same : (f g : ℕ → Option TermId) (n : ℕ) → ((q : ℕ) → q < n → g q ≡ f q) → missing g n ≡ missing f n
missing_same f g zero h = refl
missing_same f g (suc n) h = ap (λ z. cond (is_some z) 0 1 + missing g n) (h n (omega arith)) ∙ ap (λ m. cond (is_some (f n)) 0 1 + m) (missing_same f g n (λ q i. h q (omega (arith, i))))

apart : (t q : ℕ) → (t ≡ q → ⊥) → nat_eq t q ≡ false
apart t q h = go (nat_eq t q) refl
  where
    go : (c : Bool) → nat_eq t q ≡ c → nat_eq t q ≡ false
    go true e = absurd (h ((Decides-eqb t q).0 e))
    go false e = e

-- one that had nothing is filled
pub missing_filled : (f g : ℕ → Option TermId) (t : ℕ) (v : TermId) (n : ℕ) → f t ≡ None → ((q : ℕ) → g q ≡ cond (nat_eq t q) (Some v) (f q)) → t < n → missing g n + 1 ≡ missing f n
missing_filled f g t v zero e h i = absurd (omega (arith, i))
missing_filled f g t v (suc n) e h i = here (nat_eq t n) refl (λ less. missing_filled f g t v n e h less)
  where
    other : (q : ℕ) → (t ≡ q → ⊥) → g q ≡ f q
    other q d = h q ∙ ap (λ z. cond z (Some v) (f q)) (apart t q d)

    here : (c : Bool) → nat_eq t n ≡ c → (t < n → missing g n + 1 ≡ missing f n) → cond (is_some (g n)) 0 1 + missing g n + 1 ≡ cond (is_some (f n)) 0 1 + missing f n
    here true q more =
        let at : t ≡ n = (Decides-eqb t n).0 q in
        let gone : f n ≡ None = subst (λ z. f z ≡ None) at e in
        let there : g n ≡ Some v = h n ∙ ap (λ z. cond z (Some v) (f n)) q in
        let rest : missing g n ≡ missing f n = missing_same f g n (λ k j. other k (λ w. omega (arith, w, at, j))) in
        let left : ◌≡◌ {A = ℕ} (cond (is_some (g n)) 0 1) 0 = ap (λ z. cond (is_some z) 0 1) there in
        let right : ◌≡◌ {A = ℕ} (cond (is_some (f n)) 0 1) 1 = ap (λ z. cond (is_some z) 0 1) gone in
        omega (arith, rest, left, right)
    here false q more =
        let d : t ≡ n → ⊥ = λ w. (let yes : nat_eq t n ≡ true = (Decides-eqb t n).1 w in cc) in
        let less : t < n = omega (arith, i, d) in
        let same : ◌≡◌ {A = ℕ} (cond (is_some (g n)) 0 1) (cond (is_some (f n)) 0 1) = ap (λ z. cond (is_some z) 0 1) (other n d) in
        omega (arith, more less, same)

-- ---- paying

pub pays_same : (b : Nodes) (n more : ℕ) (f : ℕ → Option TermId) → Pays b b n more f f
pays_same b n more f = record { above = λ k h. refl; size = λ k h. omega arith }

pub pays_more : {a b : Nodes} {n more : ℕ} {f g : ℕ → Option TermId} (c : Nodes) (m : ℕ) → n ≤ m → length c.nodes ≤ length b.nodes + 1 → Pays a b n more f g → Pays a c m (more + 1) f g
pays_more c m h l p = record { above = λ k i. p.above k (omega (arith, h, i)); size = λ k i. omega (arith, l, p.size k (omega (arith, h, i))) }

pub pays_on : {a b c : Nodes} {n : ℕ} {f g h : ℕ → Option TermId} (m : ℕ) → m ≤ n → Pays a b n 0 f g → Pays b c m 0 g h → Pays a c n 0 f h
pays_on m l p q = record { above = λ k i. q.above k (omega (arith, l, i)) ∙ p.above k i; size = λ k i. omega (arith, p.size k i, q.size k (omega (arith, l, i))) }

-- what was owed is paid by the number itself
pub pays_put : {a b : Nodes} {f g : ℕ → Option TermId} (t : ℕ) (v : TermId) (h : ℕ → Option TermId) → f t ≡ None → ((q : ℕ) → h q ≡ cond (nat_eq t q) (Some v) (g q)) → Pays a b t 1 f g → Pays a b (t + 1) 0 f h
pays_put {a} {b} {f} {g} t v h e is p = record {
  above = λ k i. is k ∙ (ap (λ z. cond z (Some v) (g k)) (apart t k (λ w. omega (arith, w, i))) ∙ p.above k (omega (arith, i)));
  size = λ k i. omega (arith, missing_filled g h t v k (p.above t (omega arith) ∙ e) is (omega (arith, i)), p.size k (omega (arith, i)));
}
