-- Versions and agreement, variable by variable.
use Rattle.std.proofs.Common.{ℕ, zero, suc, Bool, true, false, cond, ◌+◌, ◌<◌, ◌≤◌, ◌≡◌, List, [], ◌∷◌, ◌++◌, map, length, get_or, drop, refl, sym, ap, ap₂, ◌∙◌, append_assoc, append-nil, arith}
use Rattle.std.proofs.lemmas.List.{drop_more, drop_all}
use Rattle.sv_term.specs.Sorts.{Sort}
use Rattle.sv_term.specs.Terms.{Term, Truth}
use Rattle.sv_term.specs.Terms as t
use Rattle.sv_term.specs.Banks.{Nodes, IsTerm, AreTerms, AreKin, Keeps, term, term_list, wide, kind_of}
use Rattle.sv_term.specs.declared.node.TermId.{TermId}
use Rattle.sv_term.proofs.BankLists.{list_at, list_length, within_first}
use Rattle.sv_gcl.specs.Commands.{var_sort}
use Rattle.sv_vc.specs.ConditionWalk.{joint, after_joint, agreed}

pub suc_next : (i : ℕ) → suc i ≡ i + 1
suc_next i = omega arith

-- ---- versions

module _ (V : List Sort) (p : ℕ → Bool) where
  joint_more : (ts : List Term) (i n : ℕ) (d : Term) → i < length ts → joint V p i (drop i ts) n ≡ cond (p i) (t.Var n (wide (var_sort V i)) ∷ joint V p (i + 1) (drop (i + 1) ts) (suc n)) (get_or ts i d ∷ joint V p (i + 1) (drop (i + 1) ts) n)
  joint_more ts i n d h = ap (λ z. joint V p i z n) (drop_more ts i d h) ∙ ap (λ k. cond (p i) (t.Var n (wide (var_sort V i)) ∷ joint V p k (drop (i + 1) ts) (suc n)) (get_or ts i d ∷ joint V p k (drop (i + 1) ts) n)) (suc_next i)

  after_more : (ts : List Term) (i n : ℕ) (d : Term) → i < length ts → after_joint p i (drop i ts) n ≡ after_joint p (i + 1) (drop (i + 1) ts) (cond (p i) (suc n) n)
  after_more ts i n d h = ap (λ z. after_joint p i z n) (drop_more ts i d h) ∙ ap (λ k. after_joint p k (drop (i + 1) ts) (cond (p i) (suc n) n)) (suc_next i)

  pub joint_step : (out ts all : List Term) (i n after : ℕ) (u : Term) → i < length ts → u ≡ cond (p i) (t.Var n (wide (var_sort V i))) (get_or ts i (Truth true)) → after ≡ cond (p i) (n + 1) n
      → out ++ joint V p i (drop i ts) n ≡ all → (out ++ u ∷ []) ++ joint V p (i + 1) (drop (i + 1) ts) after ≡ all
  joint_step out ts all i n after u h e g f =
      append_assoc out (u ∷ []) _
      ∙ (ap₂ (λ y k. out ++ y ∷ joint V p (i + 1) (drop (i + 1) ts) k) e g
      ∙ (ap (λ z. out ++ z) (split (p i) ∙ sym (joint_more ts i n (Truth true) h)) ∙ f))
    where
      split : (b : Bool) → cond b (t.Var n (wide (var_sort V i))) (get_or ts i (Truth true)) ∷ joint V p (i + 1) (drop (i + 1) ts) (cond b (n + 1) n)
          ≡ cond b (t.Var n (wide (var_sort V i)) ∷ joint V p (i + 1) (drop (i + 1) ts) (suc n)) (get_or ts i (Truth true) ∷ joint V p (i + 1) (drop (i + 1) ts) n)
      split true = ap (λ k. t.Var n (wide (var_sort V i)) ∷ joint V p (i + 1) (drop (i + 1) ts) k) (sym (suc_next n))
      split false = refl

  pub after_step : (ts : List Term) (i n after all : ℕ) → i < length ts → after ≡ cond (p i) (n + 1) n → after_joint p i (drop i ts) n ≡ all → after_joint p (i + 1) (drop (i + 1) ts) after ≡ all
  after_step ts i n after all h e f =
      ap (after_joint p (i + 1) (drop (i + 1) ts)) (e ∙ ap (λ k. cond (p i) k n) (sym (suc_next n))) ∙ (sym (after_more ts i n (Truth true) h) ∙ f)

  pub joint_end : (out ts all : List Term) (i n : ℕ) → length ts ≤ i → out ++ joint V p i (drop i ts) n ≡ all → out ≡ all
  joint_end out ts all i n h f = sym (append-nil out) ∙ (ap (λ z. out ++ joint V p i z n) (sym (drop_all i ts h)) ∙ f)

  pub after_end : (ts : List Term) (i n all : ℕ) → length ts ≤ i → after_joint p i (drop i ts) n ≡ all → n ≡ all
  after_end ts i n all h f = ap (λ z. after_joint p i z n) (sym (drop_all i ts h)) ∙ f

-- ---- agreement

module _ (p : ℕ → Bool) (ts us : List Term) where
  agreed_more : (i : ℕ) (x : Term) → i < length ts → i < length us → agreed p i x (drop i ts) (drop i us) ≡ agreed p (i + 1) (cond (p i) (t.And x (t.Eq (get_or ts i (Truth true)) (get_or us i (Truth true)))) x) (drop (i + 1) ts) (drop (i + 1) us)
  agreed_more i x h g =
      ap₂ (agreed p i x) (drop_more ts i (Truth true) h) (drop_more us i (Truth true) g)
      ∙ ap (λ k. agreed p k (cond (p i) (t.And x (t.Eq (get_or ts i (Truth true)) (get_or us i (Truth true)))) x) (drop (i + 1) ts) (drop (i + 1) us)) (suc_next i)

  pub agreed_step : (i : ℕ) (x y a b all : Term) → i < length ts → i < length us → y ≡ cond (p i) (t.And x (t.Eq a b)) x → get_or ts i (Truth true) ≡ a → get_or us i (Truth true) ≡ b → agreed p i x (drop i ts) (drop i us) ≡ all → agreed p (i + 1) y (drop (i + 1) ts) (drop (i + 1) us) ≡ all
  agreed_step i x y a b all h g e c d f =
      ap (λ z. agreed p (i + 1) z (drop (i + 1) ts) (drop (i + 1) us)) (e ∙ ap₂ (λ v w. cond (p i) (t.And x (t.Eq v w)) x) (sym c) (sym d))
      ∙ (sym (agreed_more i x h g) ∙ f)

  pub agreed_end : (i : ℕ) (x all : Term) → length ts ≤ i → agreed p i x (drop i ts) (drop i us) ≡ all → x ≡ all
  agreed_end i x all h f = ap (λ z. agreed p i x z (drop i us)) (sym (drop_all i ts h)) ∙ f

rest : {x y : Sort} {xs ys : List Sort} → x ∷ xs ≡ y ∷ ys → xs ≡ ys
rest e = cc

kinds_at : (ts us : List Term) (i : ℕ) → map kind_of ts ≡ map kind_of us → i < length ts → i < length us → kind_of (get_or us i (Truth true)) ≡ kind_of (get_or ts i (Truth true))
kinds_at [] us i e h g = absurd (omega (arith, h))
kinds_at (y ∷ ts) [] i e h g = absurd (omega (arith, g))
kinds_at (y ∷ ts) (u ∷ us) zero e h g = cc
kinds_at (y ∷ ts) (u ∷ us) (suc i) e h g = kinds_at ts us i (rest e) (omega (arith, h)) (omega (arith, g))

-- ---- in a bank

-- a number of an old list, in a later bank
pub old_at : (o b : Nodes) (ks : List TermId) (i : ℕ) → Keeps o b → AreTerms o ks → i < length ks → get_or (term_list o ks) i (Truth true) ≡ term b (get_or ks i record { 0 = 0 })
old_at o b ks i k h l = list_at o ks i (Truth true) record { 0 = 0 } l ∙ sym (k.terms (get_or ks i record { 0 = 0 }) (within_first o ks i h l))

pub old_within : (o b : Nodes) (ks : List TermId) (i : ℕ) → Keeps o b → AreTerms o ks → i < length ks → IsTerm b (get_or ks i record { 0 = 0 })
old_within o b ks i k h l = omega (arith, k.size, within_first o ks i h l)

pub kin_at : (o l : Nodes) (es vs : List TermId) (i : ℕ) → Keeps o l → AreTerms o es → AreTerms o vs → map kind_of (term_list o vs) ≡ map kind_of (term_list o es) → i < length es → i < length vs → AreKin l (get_or es i record { 0 = 0 }) (get_or vs i record { 0 = 0 })
kin_at o l es vs i k he hv e a b = record {
  left = old_within o l es i k he a;
  right = old_within o l vs i k hv b;
  kin = sym (ap kind_of (old_at o l es i k he a)) ∙ (kinds_at (term_list o vs) (term_list o es) i e (omega (arith, b, list_length o vs)) (omega (arith, a, list_length o es)) ∙ ap kind_of (old_at o l vs i k hv b));
}
