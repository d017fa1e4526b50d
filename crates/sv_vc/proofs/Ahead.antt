-- A run that ends has a model in which the walk's facts hold; one that fails falsifies what was found.
use Rattle.std.proofs.Common.{ℕ, zero, suc, ◌+◌, ◌<◌, ◌≤◌, ◌≡◌, ◌⊎◌, Bool, true, false, cond, not, ◌&&◌, List, [], ◌∷◌, ◌++◌, map, length, get_or, slice_set, refl, sym, ap, ap₂, ◌∙◌, subst, inl, inr, arith}
use Rattle.std.proofs.lemmas.List.{map-set, length-map}
use Rattle.sv_core.specs.declared.label.Label.{Label}
use Rattle.sv_term.specs.Sorts.{Sort}
use Rattle.sv_term.specs.Values.{Value, Flag, same_value}
use Rattle.sv_term.specs.Terms.{Term}
use Rattle.sv_term.specs.Terms as t
use Rattle.sv_term.specs.Models.{Look}
use Rattle.sv_term.specs.Banks.{wide}
use Rattle.sv_term.proofs.Same.{and_true, value_self}
use Rattle.sv_gcl.specs.Commands.{Command, Commands, Assume, Check, Set, Forget, Seq, Choice, Nil, Cons, Store, in_store, var_sort, Suits, AllSuit, Ends, Fails, ComesTo, AllComeTo, OneComesTo, some_set}
use Rattle.sv_gcl.proofs.Unset.{same_store, same_label, one_stays}
use Rattle.sv_vc.specs.Replacing.{replaced}
use Rattle.sv_vc.specs.ConditionWalk.{Found, State, Walked, joint, after_joint, agreed, implied, walk, walk_all, walk_any}
use Rattle.sv_vc.specs.ConditionsExact.{AllAreSorts}
use Rattle.sv_vc.proofs.Basics.{value, truth, store_of, HasKinds, value_replaced, truth_replaced, or_left, or_right, Below, AllBelow, below_more, all_more, Agrees, agrees_same, agrees_on, truth_agrees, value_agrees, store_agrees, IsModel, with_value, with_agrees, with_at, with_model}
use Rattle.sv_vc.proofs.Bounds.{moved, joint_grows, joint_below, agreed_below, grows, bounded, kinds_after}
use Rattle.sv_vc.proofs.Good.{IsGood, AreGood}
use Rattle.sv_vc.proofs.StoreModels.{wide_sort, wide_suits, set_typed}

-- ---- stores along a run

set_suits : (σs : List Sort) (s : Store) (x : ℕ) (v : Value) → AllSuit σs s → Suits (var_sort σs x) v → AllSuit σs (slice_set s x v)
set_suits [] [] x v h i = tt
set_suits [] (u ∷ s) x v h i = absurd h
set_suits (σ ∷ σs) [] x v h i = h
set_suits (σ ∷ σs) (u ∷ s) zero v h i = (i, h.1)
set_suits (σ ∷ σs) (u ∷ s) (suc x) v h i = (h.0, set_suits σs s x v h.1 i)

module _ (vars : List Sort) (sorts : AllAreSorts vars) where
  mutual
    pub runs_suit : (c : Command) (s u : Store) → IsGood vars c → AllSuit (map wide vars) s → ComesTo vars c s (Ends u) → AllSuit (map wide vars) u
    runs_suit (Assume f) s u w h r = subst (AllSuit (map wide vars)) (sym (same_store u s r.1)) h
    runs_suit (Check l f) s u w h r = elim r [ inl a ↦ subst (AllSuit (map wide vars)) (sym (same_store u s a.1)) h | inr b ↦ cc b.1 ]
    runs_suit (Set x e) s u w h r = subst (AllSuit (map wide vars)) (sym (same_store u _ r)) (set_suits (map wide vars) s x (value e (in_store s)) h (subst (λ σ. Suits σ (value e (in_store s))) (sym (wide_sort vars x)) (set_typed vars sorts x e s w.0 w.1 h)))
    runs_suit (Forget x) s u w h r = subst (AllSuit (map wide vars)) (sym (same_store u _ r.2)) (set_suits (map wide vars) s x r.0 h (subst (λ σ. Suits σ r.0) (sym (wide_sort vars x)) (wide_suits (var_sort vars x) r.0 r.1)))
    runs_suit (Seq cs) s u w h r = suit_all cs s u w h r
    runs_suit (Choice cs) s u w h r = suit_any cs s u w h r

    suit_all : (cs : Commands) (s u : Store) → AreGood vars cs → AllSuit (map wide vars) s → AllComeTo vars cs s (Ends u) → AllSuit (map wide vars) u
    suit_all Nil s u w h r = subst (AllSuit (map wide vars)) (sym (same_store u s r)) h
    suit_all (Cons c cs) s u w h r = elim r [ inl a ↦ suit_all cs a.0 u w.1 (runs_suit c s a.0 w.0 h a.1) a.2 | inr b ↦ cc b.1 ]

    suit_any : (cs : Commands) (s u : Store) → AreGood vars cs → AllSuit (map wide vars) s → OneComesTo vars cs s (Ends u) → AllSuit (map wide vars) u
    suit_any Nil s u w h r = absurd r
    suit_any (Cons c cs) s u w h r = elim r [ inl a ↦ runs_suit c s u w.0 h a | inr b ↦ suit_any cs s u w.1 h b ]

-- ---- a model of a run that ends

pub record Reached (k : ℕ) (m : Look) (w : Walked) (u : Store) : Type 0 where
  pub model : Look
  pub is_model : IsModel model
  pub agrees : Agrees k m model
  pub facts : truth w.facts model ≡ true
  pub store : u ≡ store_of w.state.env model

-- where a walk begins, in a model
pub record Begins (vars : List Sort) (before : Term) (s : State) (m : Look) (u : Store) : Type 0 where
  pub is_model : IsModel m
  pub kinds : HasKinds vars s.env
  pub env : AllBelow s.next s.env
  pub known : Below s.next before
  pub holds : truth before m ≡ true
  pub store : u ≡ store_of s.env m
  pub suits : AllSuit (map wide vars) u

pub reached_on : {k : ℕ} {m : Look} {w : Walked} {u : Store} (j : ℕ) (m' : Look) → k ≤ j → Agrees k m m' → Reached j m' w u → Reached k m w u
reached_on j m' h a r = record { model = r.model; is_model = r.is_model; agrees = agrees_on h a r.agrees; facts = r.facts; store = r.store }

both_hold : (a b : Term) (m : Look) → truth a m ≡ true → truth b m ≡ true → truth (t.And a b) m ≡ true
both_hold a b m h g = and_true (truth a m) (truth b m) h g

cons_first : (x y : Value) (xs ys : Store) → x ∷ xs ≡ y ∷ ys → x ≡ y
cons_first x y xs ys e = cc

cons_rest : (x y : Value) (xs ys : Store) → x ∷ xs ≡ y ∷ ys → xs ≡ ys
cons_rest x y xs ys e = cc

agreed_holds : (p : ℕ → Bool) (i : ℕ) (x : Term) (ts us : List Term) (m : Look) → truth x m ≡ true → store_of ts m ≡ store_of us m → truth (agreed p i x ts us) m ≡ true
agreed_holds p i x [] us m h e = h
agreed_holds p i x (y ∷ ts) [] m h e = h
agreed_holds p i x (y ∷ ts) (u ∷ us) m h e =
    agreed_holds p (suc i) (cond (p i) (t.And x (t.Eq y u)) x) ts us m
    (elim (p i) as (λ b. truth (cond b (t.And x (t.Eq y u)) x) m ≡ true) [
      | true ↦ both_hold x (t.Eq y u) m h (ap (λ z. same_value z (value u m)) (cons_first _ _ _ _ e) ∙ value_self (value u m))
      | false ↦ h
    ])
    (cons_rest _ _ _ _ e)

first_index : (i : ℕ) → i + 0 ≡ i
first_index i = omega arith

next_index : (i x : ℕ) → i + suc x ≡ suc i + x
next_index i x = omega arith

zero_plus : (x : ℕ) → x ≡ 0 + x
zero_plus x = omega arith

-- versions can be given the values at the end
record Versions (k : ℕ) (m : Look) (versions : List Term) (u : Store) : Type 0 where
  model : Look
  is_model : IsModel model
  agrees : Agrees k m model
  store : u ≡ store_of versions model

module _ (vars : List Sort) (p : ℕ → Bool) where
  versions_model : (i : ℕ) (ts : List Term) (n : ℕ) (m : Look) (u : Store) → IsModel m → AllBelow n ts → length u ≡ length ts
      → ((x : ℕ) → x < length u → Suits (wide (var_sort vars (i + x))) (get_or u x (Flag false)))
      → ((x : ℕ) → p (i + x) ≡ false → get_or u x (Flag false) ≡ get_or (store_of ts m) x (Flag false))
      → Versions n m (joint vars p i ts n) u
  versions_model i [] n m [] h b l g f = record { model = m; is_model = h; agrees = agrees_same n m; store = refl }
  versions_model i [] n m (v ∷ u) h b l g f = cc
  versions_model i (y ∷ ts) n m [] h b l g f = cc
  versions_model i (y ∷ ts) n m (v ∷ u) h b l g f =
      elim (p i) as (λ q. p i ≡ q → Versions n m (cond q (t.Var n (wide (var_sort vars i)) ∷ joint vars p (suc i) ts (suc n)) (y ∷ joint vars p (suc i) ts n)) (v ∷ u)) [
        | true ↦ λ e. new (versions_model (suc i) ts (suc n) (with_value m n (wide (var_sort vars i)) v) u (with_model m n (wide (var_sort vars i)) v h first)
            (all_more n (suc n) (omega arith) ts b.1) rest_length rest (λ x q. f (suc x) (moved p (suc i + x) (i + suc x) (omega arith) q) ∙ ap (λ z. get_or z x (Flag false)) (sym (store_agrees n m (with_value m n (wide (var_sort vars i)) v) (with_agrees m n (wide (var_sort vars i)) v) ts b.1))))
        | false ↦ λ e. same e (versions_model (suc i) ts n m u h b.1 rest_length rest (λ x q. f (suc x) (moved p (suc i + x) (i + suc x) (omega arith) q)))
      ] refl
    where
      first : Suits (wide (var_sort vars i)) v
      first = subst (λ k. Suits (wide (var_sort vars k)) v) (first_index i) (g 0 (omega arith))

      rest_length : length u ≡ length ts
      rest_length = omega (arith, l)

      rest : (x : ℕ) → x < length u → Suits (wide (var_sort vars (suc i + x))) (get_or u x (Flag false))
      rest x q = subst (λ k. Suits (wide (var_sort vars k)) (get_or u x (Flag false))) (next_index i x) (g (suc x) (omega (arith, q)))

      new : Versions (suc n) (with_value m n (wide (var_sort vars i)) v) (joint vars p (suc i) ts (suc n)) u → Versions n m (t.Var n (wide (var_sort vars i)) ∷ joint vars p (suc i) ts (suc n)) (v ∷ u)
      new r = record {
        model = r.model;
        is_model = r.is_model;
        agrees = agrees_on (omega arith) (with_agrees m n (wide (var_sort vars i)) v) r.agrees;
        store = ap₂ (λ z zs. z ∷ zs) (sym (r.agrees.at n (wide (var_sort vars i)) (omega arith) ∙ with_at m n (wide (var_sort vars i)) v)) r.store;
      }

      same : p i ≡ false → Versions n m (joint vars p (suc i) ts n) u → Versions n m (y ∷ joint vars p (suc i) ts n) (v ∷ u)
      same e r = record {
        model = r.model;
        is_model = r.is_model;
        agrees = r.agrees;
        store = ap₂ (λ z zs. z ∷ zs) (f 0 (moved p i (i + 0) (omega arith) e) ∙ sym (value_agrees n m r.model r.agrees y b.0)) r.store;
      }

pub suit_length : (σs : List Sort) (u : Store) → AllSuit σs u → length u ≡ length σs
suit_length [] [] h = refl
suit_length [] (v ∷ u) h = absurd h
suit_length (σ ∷ σs) [] h = absurd h
suit_length (σ ∷ σs) (v ∷ u) h = ap suc (suit_length σs u h.1)

pub suit_at : (σs : List Sort) (u : Store) (x : ℕ) → AllSuit σs u → x < length u → Suits (var_sort σs x) (get_or u x (Flag false))
suit_at [] [] x h l = absurd (omega arith)
suit_at [] (v ∷ u) x h l = absurd h
suit_at (σ ∷ σs) [] x h l = absurd h
suit_at (σ ∷ σs) (v ∷ u) zero h l = h.0
suit_at (σ ∷ σs) (v ∷ u) (suc x) h l = suit_at σs u x h.1 (omega (arith, l))

weaker : {k j : ℕ} {m : Look} {w : Walked} {u : Store} → k ≤ j → Reached j m w u → Reached k m w u
weaker h r = record { model = r.model; is_model = r.is_model; agrees = record { at = λ n s i. r.agrees.at n s (omega (arith, h, i)) }; facts = r.facts; store = r.store }

begins_and : {vars : List Sort} {before facts : Term} {s : State} {m : Look} {u : Store} → Begins vars before s m u → Below s.next facts → truth facts m ≡ true → Begins vars (t.And before facts) s m u
begins_and {vars} {before} {facts} {s} {m} {u} b k h = record {
  is_model = b.is_model;
  kinds = b.kinds;
  env = b.env;
  known = (tt, (b.known, (k, tt)));
  holds = both_hold before facts m b.holds h;
  store = b.store;
  suits = b.suits;
}

next_begins : {vars : List Sort} (sorts : AllAreSorts vars) (c : Command) (all : Term) (s : State) (m : Look) (u v : Store) (before : Term) → IsGood vars c → Begins vars before s m u → (r : Reached s.next m (walk vars c all s) v) → ComesTo vars c u (Ends v) → Begins vars before (walk vars c all s).state r.model v
next_begins {vars} sorts c all s m u v before w b r q = record {
  is_model = r.is_model;
  kinds = kinds_after vars c all s w b.kinds;
  env = (bounded vars c all s b.env).0;
  known = below_more s.next _ (grows vars c all s) before b.known;
  holds = truth_agrees s.next m r.model r.agrees before b.known ∙ b.holds;
  store = r.store;
  suits = runs_suit vars sorts c u v w b.suits q;
}

-- a branch begins where the choice does, with further numbers taken
abbrev pub branch : List Term → ℕ → List Found → State
branch env next found = record { env = env; next = next; found = found }

branch_begins : {vars : List Sort} {before : Term} {env : List Term} {n : ℕ} {fs : List Found} {m m' : Look} {u : Store} (k : ℕ) (gs : List Found) → n ≤ k → IsModel m' → Agrees n m m' → Begins vars before (branch env n fs) m u → Begins vars before (branch env k gs) m' u
branch_begins {vars} {before} {env} {n} {fs} {m} {m'} {u} k gs h i a b = record {
  is_model = i;
  kinds = b.kinds;
  env = all_more n k h env b.env;
  known = below_more n k h before b.known;
  holds = truth_agrees n m m' a before b.known ∙ b.holds;
  store = b.store ∙ sym (store_agrees n m m' a env b.env);
  suits = b.suits;
}

abbrev pub Some_of : {A : Type 0} → (A → Type 0) → List A → Type 0
Some_of P [] = ⊥
Some_of P (x ∷ xs) = P x ⊎ Some_of P xs

some_left : {A : Type 0} → (P : A → Type 0) (xs ys : List A) → Some_of P xs → Some_of P (xs ++ ys)
some_left P [] ys h = absurd h
some_left P (x ∷ xs) ys h = elim h [ inl a ↦ inl a | inr b ↦ inr (some_left P xs ys b) ]

some_last : {A : Type 0} → (P : A → Type 0) (xs : List A) (x : A) → P x → Some_of P (xs ++ x ∷ [])
some_last P [] x h = inl h
some_last P (y ∷ xs) x h = inr (some_last P xs x h)

false_implied : (a b : Bool) → a ≡ true → b ≡ false → not (a && not b) ≡ false
false_implied a b e f = rw (e, f) refl

-- what was found for the label and is false
abbrev pub IsRefuted : Label → Look → Found → Type 0
IsRefuted l m f = (f.label ≡ l) × (truth f.formula m ≡ false)

pub record Refuted (l : Label) (fs : List Found) : Type 0 where
  pub model : Look
  pub is_model : IsModel model
  pub some : Some_of (IsRefuted l model) fs

module _ (vars : List Sort) (sorts : AllAreSorts vars) where
  mutual
    pub ahead : (c : Command) (before : Term) (s : State) (m : Look) (u v : Store) → IsGood vars c → Begins vars before s m u → ComesTo vars c u (Ends v) → Reached s.next m (walk vars c before s) v
    ahead (Assume f) before s m u v w b r =
        record { model = m; is_model = b.is_model; agrees = agrees_same s.next m; facts = truth_replaced vars s.env b.kinds f m w ∙ (ap (λ z. truth f (in_store z)) (sym b.store) ∙ r.0); store = same_store v u r.1 ∙ b.store }
    ahead (Check l f) before s m u v w b r =
        elim r [
          | inl a ↦ record { model = m; is_model = b.is_model; agrees = agrees_same s.next m; facts = truth_replaced vars s.env b.kinds f m w ∙ (ap (λ z. truth f (in_store z)) (sym b.store) ∙ a.0); store = same_store v u a.1 ∙ b.store }
          | inr a ↦ cc a.1
        ]
    ahead (Set x e) before s m u v w b r =
        record {
          model = m;
          is_model = b.is_model;
          agrees = agrees_same s.next m;
          facts = refl;
          store = same_store v _ r ∙ (ap (λ z. slice_set z x (value e (in_store z))) b.store
              ∙ sym (map-set (λ z. value z m) s.env x (replaced e s.env) ∙ ap (slice_set (store_of s.env m) x) (value_replaced vars s.env b.kinds e m w.0.over)));
        }
    ahead (Forget x) before s m u v w b r =
        let m' : Look = with_value m s.next (var_sort vars x) r.0 in
        let a : Agrees s.next m m' = with_agrees m s.next (var_sort vars x) r.0 in
        record {
          model = m';
          is_model = with_model m s.next (var_sort vars x) r.0 b.is_model r.1;
          agrees = a;
          facts = refl;
          store = same_store v _ r.2 ∙ (ap (λ z. slice_set z x r.0) (b.store ∙ sym (store_agrees s.next m m' a s.env b.env))
              ∙ sym (map-set (λ z. value z m') s.env x (t.Var s.next (var_sort vars x)) ∙ ap (slice_set (store_of s.env m') x) (with_at m s.next (var_sort vars x) r.0)));
        }
    ahead (Seq cs) before s m u v w b r = ahead_all cs before (t.Truth true) s m u v w b (tt, tt) refl r
    ahead (Choice cs) before s m u v w b r =
        let p : ℕ → Bool = some_set cs in
        let n : ℕ = after_joint p 0 s.env s.next in
        let up : s.next ≤ n = joint_grows p 0 s.env s.next in
        let end : AllSuit (map wide vars) v = suit_any vars sorts cs u v w b.suits r in
        let long : length v ≡ length s.env = suit_length (map wide vars) v end ∙ (sym (suit_length (map wide vars) u b.suits) ∙ (ap length b.store ∙ length-map s.env (λ z. value z m))) in
        let j : Versions s.next m (joint vars p 0 s.env s.next) v =
        versions_model vars p 0 s.env s.next m v b.is_model b.env long
        (λ x q. subst (λ σ. Suits σ (get_or v x (Flag false))) (wide_sort vars x ∙ ap (λ k. wide (var_sort vars k)) (zero_plus x)) (suit_at (map wide vars) v x end q))
        (λ x q. one_stays vars cs u v x (moved p (0 + x) x (sym (zero_plus x)) q) r ∙ ap (λ z. get_or z x (Flag false)) b.store) in
        reached_on s.next j.model (omega arith) j.agrees
        (weaker up (ahead_any cs before s.env p (joint vars p 0 s.env s.next) (t.Truth false) (branch s.env n s.found) j.model u v w
        record {
          is_model = j.is_model;
          kinds = b.kinds;
          env = all_more s.next n up s.env b.env;
          known = below_more s.next n up before b.known;
          holds = truth_agrees s.next m j.model j.agrees before b.known ∙ b.holds;
          store = b.store ∙ sym (store_agrees s.next m j.model j.agrees s.env b.env);
          suits = b.suits;
        }
        (joint_below vars p 0 s.env s.next b.env) j.store (tt, tt) (inl r)))

    ahead_all : (cs : Commands) (before facts : Term) (s : State) (m : Look) (u v : Store) → AreGood vars cs → Begins vars before s m u → Below s.next facts → truth facts m ≡ true → AllComeTo vars cs u (Ends v) → Reached s.next m (walk_all vars cs before facts s) v
    ahead_all Nil before facts s m u v w b k h r = record { model = m; is_model = b.is_model; agrees = agrees_same s.next m; facts = h; store = same_store v u r ∙ b.store }
    ahead_all (Cons c cs) before facts s m u v w b k h r =
        elim r [
          | inl a ↦
              let first = ahead c (t.And before facts) s m u a.0 w.0 (begins_and b k h) a.1 in
              let next = next_begins sorts c (t.And before facts) s m u a.0 before w.0 b first a.1 in
              let up : s.next ≤ (walk vars c (t.And before facts) s).state.next = grows vars c (t.And before facts) s in
              reached_on (walk vars c (t.And before facts) s).state.next first.model up first.agrees
              (ahead_all cs before (t.And facts (walk vars c (t.And before facts) s).facts) (walk vars c (t.And before facts) s).state first.model a.0 v w.1 next
              (tt, (below_more s.next _ up facts k, ((bounded vars c (t.And before facts) s b.env).1, tt)))
              (both_hold facts (walk vars c (t.And before facts) s).facts first.model (truth_agrees s.next m first.model first.agrees facts k ∙ h) first.facts) a.2)
          | inr a ↦ cc a.1
        ]

    ahead_any : (cs : Commands) (before : Term) (env : List Term) (p : ℕ → Bool) (versions : List Term) (any : Term) (s : State) (m : Look) (u v : Store) → AreGood vars cs → Begins vars before (branch env s.next s.found) m u → AllBelow s.next versions → v ≡ store_of versions m → Below s.next any → OneComesTo vars cs u (Ends v) ⊎ (truth any m ≡ true) → Reached s.next m (walk_any vars cs before env p versions any s) v
    ahead_any Nil before env p versions any s m u v w b k e h r =
        elim r [
          | inl a ↦ absurd a
          | inr a ↦ record { model = m; is_model = b.is_model; agrees = agrees_same s.next m; facts = a; store = e }
        ]
    ahead_any (Cons c cs) before env p versions any s m u v w b k e h r =
        let up : s.next ≤ (walk vars c before (branch env s.next s.found)).state.next = grows vars c before (branch env s.next s.found) in
        let more : AllBelow (walk vars c before (branch env s.next s.found)).state.next versions = all_more s.next _ up versions k in
        let bound = bounded vars c before (branch env s.next s.found) b.env in
        let either : Below (walk vars c before (branch env s.next s.found)).state.next (t.Or any (agreed p 0 (walk vars c before (branch env s.next s.found)).facts (walk vars c before (branch env s.next s.found)).state.env versions)) =
        (tt, (below_more s.next _ up any h, (agreed_below _ p 0 (walk vars c before (branch env s.next s.found)).facts (walk vars c before (branch env s.next s.found)).state.env versions bound.1 bound.0 more, tt))) in
        elim r [
          | inl q ↦ elim q [
            | inl a ↦
                let first = ahead c before (branch env s.next s.found) m u v w.0 b a in
                let there : v ≡ store_of versions first.model = e ∙ sym (store_agrees s.next m first.model first.agrees versions k) in
                reached_on (walk vars c before (branch env s.next s.found)).state.next first.model up first.agrees
                (ahead_any cs before env p versions (t.Or any (agreed p 0 (walk vars c before (branch env s.next s.found)).facts (walk vars c before (branch env s.next s.found)).state.env versions)) (walk vars c before (branch env s.next s.found)).state first.model u v w.1
                (branch_begins _ _ up first.is_model first.agrees b) more there either
                (inr (or_right (truth any first.model) _ (agreed_holds p 0 (walk vars c before (branch env s.next s.found)).facts (walk vars c before (branch env s.next s.found)).state.env versions first.model first.facts (sym first.store ∙ there)))))
            | inr a ↦
                weaker up (ahead_any cs before env p versions (t.Or any (agreed p 0 (walk vars c before (branch env s.next s.found)).facts (walk vars c before (branch env s.next s.found)).state.env versions)) (walk vars c before (branch env s.next s.found)).state m u v w.1
                (branch_begins _ _ up b.is_model (agrees_same s.next m) b) more e either (inl a))
          ]
          | inr q ↦
              weaker up (ahead_any cs before env p versions (t.Or any (agreed p 0 (walk vars c before (branch env s.next s.found)).facts (walk vars c before (branch env s.next s.found)).state.env versions)) (walk vars c before (branch env s.next s.found)).state m u v w.1
              (branch_begins _ _ up b.is_model (agrees_same s.next m) b) more e either (inr (or_left (truth any m) _ q)))
        ]

  -- ---- what was found stays

  mutual
    pub stays : (P : Found → Type 0) (c : Command) (before : Term) (s : State) → Some_of P s.found → Some_of P (walk vars c before s).state.found
    stays P (Assume f) before s h = h
    stays P (Check l f) before s h = some_left P s.found _ h
    stays P (Set x e) before s h = h
    stays P (Forget x) before s h = h
    stays P (Seq cs) before s h = stays_all P cs before (t.Truth true) s h
    stays P (Choice cs) before s h = stays_any P cs before s.env (some_set cs) _ (t.Truth false) _ h

    pub stays_all : (P : Found → Type 0) (cs : Commands) (before facts : Term) (s : State) → Some_of P s.found → Some_of P (walk_all vars cs before facts s).state.found
    stays_all P Nil before facts s h = h
    stays_all P (Cons c cs) before facts s h = stays_all P cs before _ (walk vars c (t.And before facts) s).state (stays P c (t.And before facts) s h)

    pub stays_any : (P : Found → Type 0) (cs : Commands) (before : Term) (env : List Term) (p : ℕ → Bool) (versions : List Term) (any : Term) (s : State) → Some_of P s.found → Some_of P (walk_any vars cs before env p versions any s).state.found
    stays_any P Nil before env p versions any s h = h
    stays_any P (Cons c cs) before env p versions any s h = stays_any P cs before env p versions _ (walk vars c before (branch env s.next s.found)).state (stays P c before (branch env s.next s.found) h)

  -- ---- a run that fails

  mutual
    pub falsified : (l : Label) (c : Command) (before : Term) (s : State) (m : Look) (u : Store) → IsGood vars c → Begins vars before s m u → ComesTo vars c u (Fails l) → Refuted l (walk vars c before s).state.found
    falsified l (Assume f) before s m u w b r = cc r.1
    falsified l (Check k f) before s m u w b r =
        elim r [
          | inl a ↦ cc a.1
          | inr a ↦ record {
            model = m;
            is_model = b.is_model;
            some = some_last (IsRefuted l m) s.found record { label = k; formula = implied before (replaced f s.env) }
                (sym (same_label l k a.1), false_implied (truth before m) (truth (replaced f s.env) m) b.holds (truth_replaced vars s.env b.kinds f m w ∙ (ap (λ z. truth f (in_store z)) (sym b.store) ∙ a.0)));
          }
        ]
    falsified l (Set x e) before s m u w b r = cc r
    falsified l (Forget x) before s m u w b r = cc r.2
    falsified l (Seq cs) before s m u w b r = falsified_all l cs before (t.Truth true) s m u w b (tt, tt) refl r
    falsified l (Choice cs) before s m u w b r =
        falsified_any l cs before s.env (some_set cs) (joint vars (some_set cs) 0 s.env s.next) (t.Truth false) (branch s.env (after_joint (some_set cs) 0 s.env s.next) s.found) m u w
        (branch_begins _ _ (joint_grows (some_set cs) 0 s.env s.next) b.is_model (agrees_same s.next m) b) r

    falsified_all : (l : Label) (cs : Commands) (before facts : Term) (s : State) (m : Look) (u : Store) → AreGood vars cs → Begins vars before s m u → Below s.next facts → truth facts m ≡ true → AllComeTo vars cs u (Fails l) → Refuted l (walk_all vars cs before facts s).state.found
    falsified_all l Nil before facts s m u w b k h r = cc r
    falsified_all l (Cons c cs) before facts s m u w b k h r =
        elim r [
          | inl a ↦
              let first = ahead c (t.And before facts) s m u a.0 w.0 (begins_and b k h) a.1 in
              falsified_all l cs before (t.And facts (walk vars c (t.And before facts) s).facts) (walk vars c (t.And before facts) s).state first.model a.0 w.1
              (next_begins sorts c (t.And before facts) s m u a.0 before w.0 b first a.1)
              (tt, (below_more s.next _ (grows vars c (t.And before facts) s) facts k, ((bounded vars c (t.And before facts) s b.env).1, tt)))
              (both_hold facts (walk vars c (t.And before facts) s).facts first.model (truth_agrees s.next m first.model first.agrees facts k ∙ h) first.facts) a.2
          | inr a ↦
              let bad = falsified l c (t.And before facts) s m u w.0 (begins_and b k h) (subst (λ z. ComesTo vars c u (Fails z)) (sym (same_label l a.0 a.1)) a.2) in
              record { model = bad.model; is_model = bad.is_model; some = stays_all (IsRefuted l bad.model) cs before _ (walk vars c (t.And before facts) s).state bad.some }
        ]

    falsified_any : (l : Label) (cs : Commands) (before : Term) (env : List Term) (p : ℕ → Bool) (versions : List Term) (any : Term) (s : State) (m : Look) (u : Store) → AreGood vars cs → Begins vars before (branch env s.next s.found) m u → OneComesTo vars cs u (Fails l) → Refuted l (walk_any vars cs before env p versions any s).state.found
    falsified_any l Nil before env p versions any s m u w b r = absurd r
    falsified_any l (Cons c cs) before env p versions any s m u w b r =
        elim r [
          | inl a ↦
              let bad = falsified l c before (branch env s.next s.found) m u w.0 b a in
              record { model = bad.model; is_model = bad.is_model; some = stays_any (IsRefuted l bad.model) cs before env p versions _ (walk vars c before (branch env s.next s.found)).state bad.some }
          | inr a ↦
              falsified_any l cs before env p versions _ (walk vars c before (branch env s.next s.found)).state m u w.1
              (branch_begins _ _ (grows vars c before (branch env s.next s.found)) b.is_model (agrees_same s.next m) b) a
        ]
