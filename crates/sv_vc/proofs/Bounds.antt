-- What a walk keeps: numbers below the next, the length, and variables that no command sets.
use Rattle.std.proofs.Common.{ℕ, zero, suc, ◌+◌, ◌≤◌, ◌≡◌, ◌⊎◌, inl, inr, Bool, true, false, cond, ◌||◌, nat_eq, List, [], ◌∷◌, length, get_or, slice_set, refl, sym, ap, ◌∙◌, subst, arith, get_or-set_other}
use Rattle.std.proofs.lemmas.List.{length-set}
use Rattle.std.proofs.lemmas.Bool.Decides.{Decides-eqb}
use Rattle.sv_term.specs.Sorts.{Sort}
use Rattle.sv_term.specs.Terms.{Term, sort_of}
use Rattle.sv_term.specs.Terms as t
use Rattle.sv_term.specs.Banks.{wide}
use Rattle.sv_gcl.specs.Commands.{Command, Commands, Assume, Check, Set, Forget, Seq, Choice, Nil, Cons, sets, some_set, var_sort}
use Rattle.sv_vc.specs.Replacing.{replaced}
use Rattle.sv_vc.specs.ConditionWalk.{State, Walked, joint, after_joint, agreed, walk, walk_all, walk_any}
use Rattle.sv_vc.proofs.Basics.{in_env, HasKinds, kind_kept, Below, AllBelow, below_more, all_more, below_replaced, below_set}
use Rattle.sv_vc.proofs.NodeSorts.{wide_twice}
use Rattle.sv_vc.proofs.Good.{IsGood, AreGood}

pub neither : (a b : Bool) → (a || b) ≡ false → (a ≡ false) × (b ≡ false)
neither true b e = cc e
neither false b e = (refl, e)

pub moved : (p : ℕ → Bool) (a b : ℕ) → a ≡ b → p a ≡ false → p b ≡ false
moved p a b e h = ap p (sym e) ∙ h

plus_none : (i : ℕ) → i ≡ i + 0
plus_none i = omega arith

none_plus : (k : ℕ) → k ≡ 0 + k
none_plus k = omega arith

plus_next : (i k : ℕ) → i + suc k ≡ suc i + k
plus_next i k = omega arith

-- ---- versions

pub joint_grows : (p : ℕ → Bool) (i : ℕ) (ts : List Term) (n : ℕ) → n ≤ after_joint p i ts n
joint_grows p i [] n = omega arith
joint_grows p i (x ∷ ts) n = elim (p i) as (λ b. n ≤ after_joint p (suc i) ts (cond b (suc n) n)) [ true ↦ omega (arith, joint_grows p (suc i) ts (suc n)) | false ↦ joint_grows p (suc i) ts n ]

module _ (vars : List Sort) (p : ℕ → Bool) where
  pub joint_below : (i : ℕ) (ts : List Term) (n : ℕ) → AllBelow n ts → AllBelow (after_joint p i ts n) (joint vars p i ts n)
  joint_below i [] n h = tt
  joint_below i (x ∷ ts) n h = elim (p i) as (λ b. AllBelow (after_joint p (suc i) ts (cond b (suc n) n)) (cond b (t.Var n (wide (var_sort vars i)) ∷ joint vars p (suc i) ts (suc n)) (x ∷ joint vars p (suc i) ts n))) [ true ↦ ((omega (arith, joint_grows p (suc i) ts (suc n)), tt), joint_below (suc i) ts (suc n) (all_more n (suc n) (omega arith) ts h.1)) | false ↦ (below_more n (after_joint p (suc i) ts n) (joint_grows p (suc i) ts n) x h.0, joint_below (suc i) ts n h.1) ]

  pub joint_length : (i : ℕ) (ts : List Term) (n : ℕ) → length (joint vars p i ts n) ≡ length ts
  joint_length i [] n = refl
  joint_length i (x ∷ ts) n = elim (p i) as (λ b. length (cond b (t.Var n (wide (var_sort vars i)) ∷ joint vars p (suc i) ts (suc n)) (x ∷ joint vars p (suc i) ts n)) ≡ suc (length ts)) [ true ↦ ap suc (joint_length (suc i) ts (suc n)) | false ↦ ap suc (joint_length (suc i) ts n) ]

  pub joint_kept : (i : ℕ) (ts : List Term) (n x : ℕ) (d : Term) → p (i + x) ≡ false → get_or (joint vars p i ts n) x d ≡ get_or ts x d
  joint_kept i [] n x d h = refl
  joint_kept i (u ∷ ts) n zero d h = let here : p i ≡ false = moved p (i + zero) i (omega arith) h in rw here refl
  joint_kept i (u ∷ ts) n (suc x) d h = let next : p (suc i + x) ≡ false = moved p (i + suc x) (suc i + x) (omega arith) h in
      elim (p i) as (λ b. get_or (cond b (t.Var n (wide (var_sort vars i)) ∷ joint vars p (suc i) ts (suc n)) (u ∷ joint vars p (suc i) ts n)) (suc x) d ≡ get_or ts x d) [ true ↦ joint_kept (suc i) ts (suc n) x d next | false ↦ joint_kept (suc i) ts n x d next ]

pub agreed_below : (k : ℕ) (p : ℕ → Bool) (i : ℕ) (x : Term) (ts us : List Term) → Below k x → AllBelow k ts → AllBelow k us → Below k (agreed p i x ts us)
agreed_below k p i x [] us h g f = h
agreed_below k p i x (y ∷ ts) [] h g f = h
agreed_below k p i x (y ∷ ts) (u ∷ us) h g f = agreed_below k p (suc i) (cond (p i) (t.And x (t.Eq y u)) x) ts us (elim (p i) as (λ b. Below k (cond b (t.And x (t.Eq y u)) x)) [ true ↦ (tt, (h, ((tt, (g.0, (f.0, tt))), tt))) | false ↦ h ]) g.1 f.1

-- ---- the next number

module _ (vars : List Sort) where
  mutual
    pub grows : (c : Command) (before : Term) (s : State) → s.next ≤ (walk vars c before s).state.next
    grows (Assume f) before s = omega arith
    grows (Check l f) before s = omega arith
    grows (Set x u) before s = omega arith
    grows (Forget x) before s = omega arith
    grows (Seq cs) before s = grows_all cs before (t.Truth true) s
    grows (Choice cs) before s =
        omega (arith, joint_grows (some_set cs) 0 s.env s.next, grows_any cs before s.env (some_set cs) (joint vars (some_set cs) 0 s.env s.next) (t.Truth false) record { env = s.env; next = after_joint (some_set cs) 0 s.env s.next; found = s.found })

    pub grows_all : (cs : Commands) (before facts : Term) (s : State) → s.next ≤ (walk_all vars cs before facts s).state.next
    grows_all Nil before facts s = omega arith
    grows_all (Cons c cs) before facts s =
        let a : Walked = walk vars c (t.And before facts) s in
        omega (arith, grows c (t.And before facts) s, grows_all cs before (t.And facts a.facts) a.state)

    pub grows_any : (cs : Commands) (before : Term) (env : List Term) (p : ℕ → Bool) (versions : List Term) (any : Term) (s : State) → s.next ≤ (walk_any vars cs before env p versions any s).state.next
    grows_any Nil before env p versions any s = omega arith
    grows_any (Cons c cs) before env p versions any s =
        let a : Walked = walk vars c before record { env = env; next = s.next; found = s.found } in
        omega (arith, grows c before record { env = env; next = s.next; found = s.found }, grows_any cs before env p versions (t.Or any (agreed p 0 a.facts a.state.env versions)) a.state)

  -- ---- terms below it

  mutual
    pub bounded : (c : Command) (before : Term) (s : State) → AllBelow s.next s.env → AllBelow (walk vars c before s).state.next (walk vars c before s).state.env × Below (walk vars c before s).state.next (walk vars c before s).facts
    bounded (Assume f) before s h = (h, below_replaced s.next f s.env h)
    bounded (Check l f) before s h = (h, below_replaced s.next f s.env h)
    bounded (Set x u) before s h = (below_set s.next s.env x (replaced u s.env) h (below_replaced s.next u s.env h), (tt, tt))
    bounded (Forget x) before s h = (below_set (suc s.next) s.env x (t.Var s.next (var_sort vars x)) (all_more s.next (suc s.next) (omega arith) s.env h) (omega arith, tt), (tt, tt))
    bounded (Seq cs) before s h = bounded_all cs before (t.Truth true) s h (tt, tt)
    bounded (Choice cs) before s h =
        bounded_any cs before s.env (some_set cs) (joint vars (some_set cs) 0 s.env s.next) (t.Truth false)
        record { env = s.env; next = after_joint (some_set cs) 0 s.env s.next; found = s.found }
        (all_more s.next _ (joint_grows (some_set cs) 0 s.env s.next) s.env h) (joint_below vars (some_set cs) 0 s.env s.next h) (tt, tt)

    pub bounded_all : (cs : Commands) (before facts : Term) (s : State) → AllBelow s.next s.env → Below s.next facts → AllBelow (walk_all vars cs before facts s).state.next (walk_all vars cs before facts s).state.env × Below (walk_all vars cs before facts s).state.next (walk_all vars cs before facts s).facts
    bounded_all Nil before facts s h g = (h, g)
    bounded_all (Cons c cs) before facts s h g =
        let a : Walked = walk vars c (t.And before facts) s in
        let b = bounded c (t.And before facts) s h in
        bounded_all cs before (t.And facts a.facts) a.state b.0 (tt, (below_more s.next a.state.next (grows c (t.And before facts) s) facts g, (b.1, tt)))

    pub bounded_any : (cs : Commands) (before : Term) (env : List Term) (p : ℕ → Bool) (versions : List Term) (any : Term) (s : State) → AllBelow s.next env → AllBelow s.next versions → Below s.next any → AllBelow (walk_any vars cs before env p versions any s).state.next (walk_any vars cs before env p versions any s).state.env × Below (walk_any vars cs before env p versions any s).state.next (walk_any vars cs before env p versions any s).facts
    bounded_any Nil before env p versions any s h g f = (g, f)
    bounded_any (Cons c cs) before env p versions any s h g f =
        let a : Walked = walk vars c before record { env = env; next = s.next; found = s.found } in
        let b = bounded c before record { env = env; next = s.next; found = s.found } h in
        let up : s.next ≤ a.state.next = grows c before record { env = env; next = s.next; found = s.found } in
        let more = all_more s.next a.state.next up versions g in
        bounded_any cs before env p versions (t.Or any (agreed p 0 a.facts a.state.env versions)) a.state
        (all_more s.next a.state.next up env h) more
        (tt, (below_more s.next a.state.next up any f, (agreed_below a.state.next p 0 a.facts a.state.env versions b.1 b.0 more, tt)))

  -- ---- the environment of a choice

  pub env_any : (cs : Commands) (before : Term) (env : List Term) (p : ℕ → Bool) (versions : List Term) (any : Term) (s : State) → (walk_any vars cs before env p versions any s).state.env ≡ versions
  env_any Nil before env p versions any s = refl
  env_any (Cons c cs) before env p versions any s =
      let a : Walked = walk vars c before record { env = env; next = s.next; found = s.found } in
      env_any cs before env p versions (t.Or any (agreed p 0 a.facts a.state.env versions)) a.state

  mutual
    pub as_long : (c : Command) (before : Term) (s : State) → length (walk vars c before s).state.env ≡ length s.env
    as_long (Assume f) before s = refl
    as_long (Check l f) before s = refl
    as_long (Set x u) before s = length-set s.env x (replaced u s.env)
    as_long (Forget x) before s = length-set s.env x (t.Var s.next (var_sort vars x))
    as_long (Seq cs) before s = as_long_all cs before (t.Truth true) s
    as_long (Choice cs) before s = ap length (env_any cs before s.env (some_set cs) _ (t.Truth false) _) ∙ joint_length vars (some_set cs) 0 s.env s.next

    pub as_long_all : (cs : Commands) (before facts : Term) (s : State) → length (walk_all vars cs before facts s).state.env ≡ length s.env
    as_long_all Nil before facts s = refl
    as_long_all (Cons c cs) before facts s =
        let a : Walked = walk vars c (t.And before facts) s in
        as_long_all cs before (t.And facts a.facts) a.state ∙ as_long c (t.And before facts) s

  set_apart : (y x : ℕ) (env : List Term) (u d : Term) → nat_eq y x ≡ false → get_or (slice_set env y u) x d ≡ get_or env x d
  set_apart y x env u d h = get_or-set_other env y x u d (λ e. let k : nat_eq y x ≡ true = (Decides-eqb y x).1 (sym e) in cc)

  mutual
    pub unset : (c : Command) (before : Term) (s : State) (x : ℕ) (d : Term) → sets c x ≡ false → get_or (walk vars c before s).state.env x d ≡ get_or s.env x d
    unset (Assume f) before s x d h = refl
    unset (Check l f) before s x d h = refl
    unset (Set y u) before s x d h = set_apart y x s.env (replaced u s.env) d h
    unset (Forget y) before s x d h = set_apart y x s.env (t.Var s.next (var_sort vars y)) d h
    unset (Seq cs) before s x d h = unset_all cs before (t.Truth true) s x d h
    unset (Choice cs) before s x d h = ap (λ z. get_or z x d) (env_any cs before s.env (some_set cs) _ (t.Truth false) _) ∙ joint_kept vars (some_set cs) 0 s.env s.next x d (moved (some_set cs) x (0 + x) (omega arith) h)

    pub unset_all : (cs : Commands) (before facts : Term) (s : State) (x : ℕ) (d : Term) → some_set cs x ≡ false → get_or (walk_all vars cs before facts s).state.env x d ≡ get_or s.env x d
    unset_all Nil before facts s x d h = refl
    unset_all (Cons c cs) before facts s x d h =
        let a : Walked = walk vars c (t.And before facts) s in
        let n = neither (sets c x) (some_set cs x) h in
        unset_all cs before (t.And facts a.facts) a.state x d n.1 ∙ unset c (t.And before facts) s x d n.0

-- ---- the sorts of what variables stand for

-- an entry of a list with one set is that one or an old one
set_cases : (env : List Term) (x : ℕ) (u : Term) (n : ℕ) → ((n ≡ x) × (in_env (slice_set env x u) n ≡ u)) ⊎ (in_env (slice_set env x u) n ≡ in_env env n)
set_cases [] x u n = inr refl
set_cases (y ∷ env) zero u zero = inl (refl, refl)
set_cases (y ∷ env) zero u (suc n) = inr refl
set_cases (y ∷ env) (suc x) u zero = inr refl
set_cases (y ∷ env) (suc x) u (suc n) = elim (set_cases env x u n) [ inl a ↦ inl (ap suc a.0, a.1) | inr a ↦ inr a ]

module _ (vars : List Sort) where
  set_kinds : (env : List Term) (x : ℕ) (u : Term) → HasKinds vars env → wide (sort_of u) ≡ wide (var_sort vars x) → HasKinds vars (slice_set env x u)
  set_kinds env x u h e n = elim (set_cases env x u n) [ inl a ↦ ap (λ z. wide (sort_of z)) a.1 ∙ (e ∙ ap (λ k. wide (var_sort vars k)) (sym a.0)) | inr a ↦ ap (λ z. wide (sort_of z)) a ∙ h n ]

  joint_kinds : (p : ℕ → Bool) (i : ℕ) (ts : List Term) (n : ℕ) → ((x : ℕ) → wide (sort_of (in_env ts x)) ≡ wide (var_sort vars (i + x))) → (x : ℕ) → wide (sort_of (in_env (joint vars p i ts n) x)) ≡ wide (var_sort vars (i + x))
  joint_kinds p i [] n h x = h x
  joint_kinds p i (y ∷ ts) n h zero =
      elim (p i) as (λ b. wide (sort_of (in_env (cond b (t.Var n (wide (var_sort vars i)) ∷ joint vars p (suc i) ts (suc n)) (y ∷ joint vars p (suc i) ts n)) zero)) ≡ wide (var_sort vars (i + zero))) [
        | true ↦ wide_twice (var_sort vars i) ∙ ap (λ k. wide (var_sort vars k)) (plus_none i)
        | false ↦ h zero
      ]
  joint_kinds p i (y ∷ ts) n h (suc x) =
      elim (p i) as (λ b. wide (sort_of (in_env (cond b (t.Var n (wide (var_sort vars i)) ∷ joint vars p (suc i) ts (suc n)) (y ∷ joint vars p (suc i) ts n)) (suc x))) ≡ wide (var_sort vars (i + suc x))) [
        | true ↦ joint_kinds p (suc i) ts (suc n) (λ k. h (suc k) ∙ ap (λ j. wide (var_sort vars j)) (plus_next i k)) x ∙ ap (λ j. wide (var_sort vars j)) (sym (plus_next i x))
        | false ↦ joint_kinds p (suc i) ts n (λ k. h (suc k) ∙ ap (λ j. wide (var_sort vars j)) (plus_next i k)) x ∙ ap (λ j. wide (var_sort vars j)) (sym (plus_next i x))
      ]

  pub versions_kinds : (p : ℕ → Bool) (ts : List Term) (n : ℕ) → HasKinds vars ts → HasKinds vars (joint vars p 0 ts n)
  versions_kinds p ts n h x = joint_kinds p 0 ts n (λ k. h k ∙ ap (λ j. wide (var_sort vars j)) (none_plus k)) x ∙ ap (λ j. wide (var_sort vars j)) (sym (none_plus x))

  mutual
    pub kinds_after : (c : Command) (before : Term) (s : State) → IsGood vars c → HasKinds vars s.env → HasKinds vars (walk vars c before s).state.env
    kinds_after (Assume f) before s w h = h
    kinds_after (Check l f) before s w h = h
    kinds_after (Set x u) before s w h = set_kinds s.env x (replaced u s.env) h (kind_kept vars s.env h u w.0.over ∙ w.0.kind)
    kinds_after (Forget x) before s w h = set_kinds s.env x (t.Var s.next (var_sort vars x)) h refl
    kinds_after (Seq cs) before s w h = kinds_after_all cs before (t.Truth true) s w h
    kinds_after (Choice cs) before s w h =
        subst (HasKinds vars) (sym (env_any vars cs before s.env (some_set cs) (joint vars (some_set cs) 0 s.env s.next) (t.Truth false) record { env = s.env; next = after_joint (some_set cs) 0 s.env s.next; found = s.found }))
        (versions_kinds (some_set cs) s.env s.next h)

    kinds_after_all : (cs : Commands) (before facts : Term) (s : State) → AreGood vars cs → HasKinds vars s.env → HasKinds vars (walk_all vars cs before facts s).state.env
    kinds_after_all Nil before facts s w h = h
    kinds_after_all (Cons c cs) before facts s w h =
        let a : Walked = walk vars c (t.And before facts) s in
        kinds_after_all cs before (t.And facts a.facts) a.state w.1 (kinds_after c (t.And before facts) s w.0 h)
