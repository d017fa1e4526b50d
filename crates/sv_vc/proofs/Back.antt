-- A model in which a walk's facts hold is a run that ends; one in which something found is false is a run that fails.
use Rattle.std.proofs.Common.{ℕ, suc, ◌+◌, ◌≡◌, ◌⊎◌, Bool, true, false, cond, not, ◌&&◌, ◌||◌, List, [], ◌∷◌, ◌++◌, length, get_or, slice_set, refl, sym, ap, ap₂, ◌∙◌, subst, inl, inr, arith}
use Rattle.std.proofs.lemmas.List.{map-set}
use Rattle.sv_core.specs.declared.label.Label.{Label}
use Rattle.sv_term.specs.Sorts.{Sort}
use Rattle.sv_term.specs.Values.{same_value}
use Rattle.sv_term.specs.Terms.{Term}
use Rattle.sv_term.specs.Terms as t
use Rattle.sv_term.specs.Models.{Look}
use Rattle.sv_term.proofs.Same.{both_true, value_is}
use Rattle.sv_gcl.specs.Commands.{Command, Commands, Assume, Check, Set, Forget, Seq, Choice, Nil, Cons, var_sort, Ends, Fails, ComesTo, AllComeTo, OneComesTo, sets, some_set}
use Rattle.sv_gcl.proofs.Unset.{neither}
use Rattle.sv_vc.specs.Replacing.{replaced}
use Rattle.sv_vc.specs.ConditionWalk.{Found, State, joint, after_joint, agreed, implied, walk, walk_all, walk_any}
use Rattle.sv_vc.proofs.Basics.{value, truth, store_of, HasKinds, value_replaced, truth_replaced, IsModel}
use Rattle.sv_vc.proofs.Bounds.{moved, joint_length, joint_kept, env_any, as_long, unset, kinds_after}
use Rattle.sv_vc.proofs.Good.{IsGood, AreGood}
use Rattle.sv_vc.proofs.Ahead.{branch}

abbrev pub Each : {A : Type 0} → (A → Type 0) → List A → Type 0
Each P [] = Unit {0}
Each P (x ∷ xs) = P x × Each P xs

each_push : {A : Type 0} → (P : A → Type 0) (xs : List A) (x : A) → Each P xs → P x → Each P (xs ++ x ∷ [])
each_push P [] x h i = (i, tt)
each_push P (y ∷ xs) x h i = (h.0, each_push P xs x h.1 i)

either_true : (a b : Bool) → (a || b) ≡ true → (a ≡ true) ⊎ (b ≡ true)
either_true true b e = inl refl
either_true false b e = inr e

implied_false : (a b : Bool) → not (a && not b) ≡ false → (a ≡ true) × (b ≡ false)
implied_false true true e = (refl, e)
implied_false true false e = (refl, refl)
implied_false false b e = absurd (cc)

pred_same : (m n : ℕ) → suc m ≡ suc n → m ≡ n
pred_same m n e = omega (arith, e)

-- where the versions agree with what a branch made, the stores are equal
agreed_back : (p : ℕ → Bool) (i : ℕ) (x : Term) (ts us : List Term) (m : Look) → length ts ≡ length us
    → ((k : ℕ) → p (i + k) ≡ false → get_or ts k (t.Truth false) ≡ get_or us k (t.Truth false))
    → truth (agreed p i x ts us) m ≡ true → (truth x m ≡ true) × (store_of ts m ≡ store_of us m)
agreed_back p i x [] [] m l g h = (h, refl)
agreed_back p i x [] (u ∷ us) m l g h = cc
agreed_back p i x (y ∷ ts) [] m l g h = cc
agreed_back p i x (y ∷ ts) (u ∷ us) m l g h =
    elim (p i) as (λ b. p i ≡ b → truth (agreed p (suc i) (cond b (t.And x (t.Eq y u)) x) ts us) m ≡ true → (truth x m ≡ true) × (store_of (y ∷ ts) m ≡ store_of (u ∷ us) m)) [
      | true ↦ λ e q.
          let r = agreed_back p (suc i) (t.And x (t.Eq y u)) ts us m (pred_same _ _ l) rest q in
          let b = both_true (truth x m) (same_value (value y m) (value u m)) r.0 in
          (b.0, ap₂ (λ z zs. z ∷ zs) (value_is (value y m) (value u m) b.1) r.1)
      | false ↦ λ e q.
          let r = agreed_back p (suc i) x ts us m (pred_same _ _ l) rest q in
          (r.0, ap₂ (λ z zs. z ∷ zs) (ap (λ z. value z m) (g 0 (moved p i (i + 0) (omega arith) e))) r.1)
    ] refl h
  where
    rest : (k : ℕ) → p (suc i + k) ≡ false → get_or ts k (t.Truth false) ≡ get_or us k (t.Truth false)
    rest k q = g (suc k) (moved p (suc i + k) (i + suc k) (omega arith) q)

module _ (vars : List Sort) (m : Look) (good : IsModel m) where
  -- a branch's store is that of the versions
  same_end : (c : Command) (before : Term) (env : List Term) (n : ℕ) (fs : List Found) (p : ℕ → Bool) (versions : List Term)
      → length versions ≡ length env
      → ((k : ℕ) → p k ≡ false → (sets c k ≡ false) × (get_or versions k (t.Truth false) ≡ get_or env k (t.Truth false)))
      → truth (agreed p 0 (walk vars c before (branch env n fs)).facts (walk vars c before (branch env n fs)).state.env versions) m ≡ true
      → (truth (walk vars c before (branch env n fs)).facts m ≡ true) × (store_of (walk vars c before (branch env n fs)).state.env m ≡ store_of versions m)
  same_end c before env n fs p versions l g h =
      agreed_back p 0 (walk vars c before (branch env n fs)).facts (walk vars c before (branch env n fs)).state.env versions m
      (as_long vars c before (branch env n fs) ∙ sym l)
      (λ k q. let f = g k (moved p (0 + k) k (omega arith) q) in unset vars c before (branch env n fs) k (t.Truth false) f.0 ∙ sym f.1) h

  mutual
    pub ends : (c : Command) (before : Term) (s : State) → IsGood vars c → HasKinds vars s.env → truth (walk vars c before s).facts m ≡ true → ComesTo vars c (store_of s.env m) (Ends (store_of (walk vars c before s).state.env m))
    ends (Assume f) before s w g h = (sym (truth_replaced vars s.env g f m w) ∙ h, refl)
    ends (Check l f) before s w g h = inl (sym (truth_replaced vars s.env g f m w) ∙ h, refl)
    ends (Set x e) before s w g h = ap Ends (map-set (λ z. value z m) s.env x (replaced e s.env) ∙ ap (slice_set (store_of s.env m) x) (value_replaced vars s.env g e m w.0.over))
    ends (Forget x) before s w g h = (m s.next (var_sort vars x), good s.next (var_sort vars x), ap Ends (map-set (λ z. value z m) s.env x (t.Var s.next (var_sort vars x))))
    ends (Seq cs) before s w g h = (ends_all cs before (t.Truth true) s w g h).1
    ends (Choice cs) before s w g h =
        let p : ℕ → Bool = some_set cs in
        let versions : List Term = joint vars p 0 s.env s.next in
        let r = ends_any cs before s.env p versions (t.Truth false) (branch s.env (after_joint p 0 s.env s.next) s.found)
        w g (joint_length vars p 0 s.env s.next) (λ k q. q) (λ k q. joint_kept vars p 0 s.env s.next k (t.Truth false) (moved p k (0 + k) (omega arith) q)) h in
        elim r [
          | inl a ↦ cc a
          | inr a ↦ subst (λ z. OneComesTo vars cs (store_of s.env m) (Ends (store_of z m))) (sym (env_any vars cs before s.env p versions (t.Truth false) (branch s.env (after_joint p 0 s.env s.next) s.found))) a
        ]

    ends_all : (cs : Commands) (before facts : Term) (s : State) → AreGood vars cs → HasKinds vars s.env → truth (walk_all vars cs before facts s).facts m ≡ true → (truth facts m ≡ true) × AllComeTo vars cs (store_of s.env m) (Ends (store_of (walk_all vars cs before facts s).state.env m))
    ends_all Nil before facts s w g h = (h, refl)
    ends_all (Cons c cs) before facts s w g h =
        let r = ends_all cs before (t.And facts (walk vars c (t.And before facts) s).facts) (walk vars c (t.And before facts) s).state w.1 (kinds_after vars c (t.And before facts) s w.0 g) h in
        let b = both_true (truth facts m) (truth (walk vars c (t.And before facts) s).facts m) r.0 in
        (b.0, inl (store_of (walk vars c (t.And before facts) s).state.env m, ends c (t.And before facts) s w.0 g b.1, r.1))

    ends_any : (cs : Commands) (before : Term) (env : List Term) (p : ℕ → Bool) (versions : List Term) (any : Term) (s : State)
        → AreGood vars cs → HasKinds vars env → length versions ≡ length env → ((k : ℕ) → p k ≡ false → some_set cs k ≡ false) → ((k : ℕ) → p k ≡ false → get_or versions k (t.Truth false) ≡ get_or env k (t.Truth false))
        → truth (walk_any vars cs before env p versions any s).facts m ≡ true → (truth any m ≡ true) ⊎ OneComesTo vars cs (store_of env m) (Ends (store_of versions m))
    ends_any Nil before env p versions any s w n l g f h = inl h
    ends_any (Cons c cs) before env p versions any s w n l g f h =
        let r = ends_any cs before env p versions _ (walk vars c before (branch env s.next s.found)).state w.1 n l (λ k q. (neither (sets c k) (some_set cs k) (g k q)).1) f h in
        elim r [
          | inl a ↦ elim (either_true (truth any m) _ a) [
            | inl e ↦ inl e
            | inr e ↦
                let same = same_end c before env s.next s.found p versions l (λ k q. ((neither (sets c k) (some_set cs k) (g k q)).0, f k q)) e in
                inr (inl (subst (λ z. ComesTo vars c (store_of env m) (Ends z)) same.1 (ends c before (branch env s.next s.found) w.0 n same.0)))
          ]
          | inr a ↦ inr (inr a)
        ]

  -- ---- what is false of a check is a run that fails there

  module _ (Q : Label → Type 0) where
    abbrev pub Tells : Found → Type 0
    Tells f = truth f.formula m ≡ false → Q f.label

    mutual
      pub fails : (c : Command) (before : Term) (s : State) → IsGood vars c → HasKinds vars s.env → ((l : Label) → truth before m ≡ true → ComesTo vars c (store_of s.env m) (Fails l) → Q l) → Each Tells s.found → Each Tells (walk vars c before s).state.found
      fails (Assume f) before s w g k h = h
      fails (Check l f) before s w g k h =
          each_push Tells s.found record { label = l; formula = implied before (replaced f s.env) } h
          (λ e. let i = implied_false (truth before m) (truth (replaced f s.env) m) e in k l i.0 (inr (sym (truth_replaced vars s.env g f m w) ∙ i.1, refl)))
      fails (Set x e) before s w g k h = h
      fails (Forget x) before s w g k h = h
      fails (Seq cs) before s w g k h = fails_all cs before (t.Truth true) s w g (λ l b e r. k l b r) h
      fails (Choice cs) before s w g k h = fails_any cs before s.env (some_set cs) _ (t.Truth false) (branch s.env _ s.found) w g k h

      fails_all : (cs : Commands) (before facts : Term) (s : State) → AreGood vars cs → HasKinds vars s.env → ((l : Label) → truth before m ≡ true → truth facts m ≡ true → AllComeTo vars cs (store_of s.env m) (Fails l) → Q l) → Each Tells s.found → Each Tells (walk_all vars cs before facts s).state.found
      fails_all Nil before facts s w g k h = h
      fails_all (Cons c cs) before facts s w g k h =
          fails_all cs before (t.And facts (walk vars c (t.And before facts) s).facts) (walk vars c (t.And before facts) s).state w.1 (kinds_after vars c (t.And before facts) s w.0 g)
          (λ l b e r.
          let q = both_true (truth facts m) (truth (walk vars c (t.And before facts) s).facts m) e in
          k l b q.0 (inl (store_of (walk vars c (t.And before facts) s).state.env m, ends c (t.And before facts) s w.0 g q.1, r)))
          (fails c (t.And before facts) s w.0 g (λ l b r. let q = both_true (truth before m) (truth facts m) b in k l q.0 q.1 (inr (l, refl, r))) h)

      fails_any : (cs : Commands) (before : Term) (env : List Term) (p : ℕ → Bool) (versions : List Term) (any : Term) (s : State) → AreGood vars cs → HasKinds vars env → ((l : Label) → truth before m ≡ true → OneComesTo vars cs (store_of env m) (Fails l) → Q l) → Each Tells s.found → Each Tells (walk_any vars cs before env p versions any s).state.found
      fails_any Nil before env p versions any s w g k h = h
      fails_any (Cons c cs) before env p versions any s w g k h =
          fails_any cs before env p versions _ (walk vars c before (branch env s.next s.found)).state w.1 g (λ l b r. k l b (inr r))
          (fails c before (branch env s.next s.found) w.0 g (λ l b r. k l b (inl r)) h)
