-- Replaced terms, terms below a number, and values that agree below it.
use Rattle.std.proofs.Common.{ℕ, zero, suc, ◌<◌, ◌≤◌, ◌≡◌, inl, inr, Bool, true, false, cond, not, ◌&&◌, ◌||◌, nat_eq, List, [], ◌∷◌, map, get_or, slice_set, refl, sym, ap, ap₂, ◌∙◌, subst, arith}
use Rattle.std.proofs.lemmas.Bool.Decides.{Decides-eqb}
use Rattle.sv_term.specs.Sorts.{Sort, SortAnd, same_sort, is_num, is_flat, element, sort_at}
use Rattle.sv_term.specs.Values.{Value, Flag, ValueAnd, flag}
use Rattle.sv_term.specs.Terms.{Shape, VarNode, ConstNode, Term, App, Terms, End, More, Truth, zero_lit, sort_of, sorts_of, fits, all_fit, fits_node, term_at, same_term, plain_node, is_plain, all_plain}
use Rattle.sv_term.specs.Models.{Look, Model, meaning, value_by, values_by}
use Rattle.sv_term.specs.Banks.{wide, all_wide}
use Rattle.sv_term.proofs.Same.{both_true, and_true, or_true, sort_is, sort_self, term_is}
use Rattle.sv_gcl.specs.Commands.{Store, in_store, Suits}
use Rattle.sv_gcl.specs.FormedCommands.{IsOver, AreOver}
use Rattle.sv_vc.specs.Replacing.{replaced, all_replaced}
pub use Rattle.sv_vc.specs.OpenTerms.{HasKinds}
use Rattle.sv_vc.proofs.NodeSorts.{sort_alike, first_alike, fits_alike, flat_wide, num_wide}

abbrev pub value : Term → Look → Value
value x m = value_by m x

abbrev pub truth : Term → Look → Bool
truth x m = flag (value_by m x)

abbrev pub store_of : List Term → Look → Store
store_of env m = map (λ x. value_by m x) env

abbrev pub in_env : List Term → ℕ → Term
in_env env n = get_or env n (Truth false)

index_map : (env : List Term) (x : ℕ) (m : Look) → value_by m (get_or env x (Truth false)) ≡ get_or (map (λ y. value_by m y) env) x (Flag false)
index_map [] x m = refl
index_map (y ∷ env) zero m = refl
index_map (y ∷ env) (suc x) m = index_map env x m

pub or_left : (a b : Bool) → a ≡ true → (a || b) ≡ true
or_left true b e = refl
or_left false b e = cc e

pub or_right : (a b : Bool) → b ≡ true → (a || b) ≡ true
or_right true b e = refl
or_right false b e = e

-- ---- replaced terms

abbrev pub IsFlatOrPlain : Term → Type 0
IsFlatOrPlain x = (is_flat (sort_of x) || is_plain x) ≡ true

module _ (vars : List Sort) (env : List Term) (kinds : HasKinds vars env) where
  mutual
    pub kind_kept : (x : Term) → IsOver vars x → wide (sort_of (replaced x env)) ≡ wide (sort_of x)
    kind_kept (App (VarNode n s) ts) h = kinds n ∙ ap wide (sym h.0.1)
    kind_kept (App x ts) h = sort_alike x (sorts_of (all_replaced ts env)) (sorts_of ts) (kinds_kept ts h.1)

    pub kinds_kept : (ts : Terms) → AreOver vars ts → all_wide (sorts_of (all_replaced ts env)) ≡ all_wide (sorts_of ts)
    kinds_kept End h = refl
    kinds_kept (More x ts) h = ap₂ SortAnd (kind_kept x h.0) (kinds_kept ts h.1)

  -- a replaced term has the value that the term has in the store
  mutual
    pub value_replaced : (x : Term) (m : Look) → IsOver vars x → value_by m (replaced x env) ≡ value_by (in_store (store_of env m)) x
    value_replaced (App (VarNode n s) ts) m h = index_map env n m
    value_replaced (App x ts) m h = ap₂ (λ e vs. meaning m x e vs) (first_alike (sorts_of (all_replaced ts env)) (sorts_of ts) (kinds_kept ts h.1)) (values_replaced ts m h.1)

    values_replaced : (ts : Terms) (m : Look) → AreOver vars ts → values_by m (all_replaced ts env) ≡ values_by (in_store (store_of env m)) ts
    values_replaced End m h = refl
    values_replaced (More x ts) m h = ap₂ ValueAnd (value_replaced x m h.0) (values_replaced ts m h.1)

  pub truth_replaced : (x : Term) (m : Look) → IsOver vars x → truth (replaced x env) m ≡ truth x (in_store (store_of env m))
  truth_replaced x m h = ap flag (value_replaced x m h)

  module _ (fine : (n : ℕ) → fits (in_env env n) ≡ true) where
    mutual
      pub fits_replaced : (x : Term) → IsOver vars x → fits x ≡ true → fits (replaced x env) ≡ true
      fits_replaced (App (VarNode n s) ts) h e = fine n
      fits_replaced (App x ts) h e =
          let b = both_true (all_fit ts) (fits_node x (sorts_of ts)) e in
          and_true (all_fit (all_replaced ts env)) (fits_node x (sorts_of (all_replaced ts env))) (all_fit_replaced ts h.1 b.0)
          (fits_alike x (sorts_of (all_replaced ts env)) (sorts_of ts) (kinds_kept ts h.1) ∙ b.1)

      all_fit_replaced : (ts : Terms) → AreOver vars ts → all_fit ts ≡ true → all_fit (all_replaced ts env) ≡ true
      all_fit_replaced End h e = refl
      all_fit_replaced (More x ts) h e = let b = both_true (fits x) (all_fit ts) e in and_true (fits (replaced x env)) (all_fit (all_replaced ts env)) (fits_replaced x h.0 b.0) (all_fit_replaced ts h.1 b.1)

  const_plain : (ts : Terms) → AreOver vars ts → (same_term (term_at 0 ts) zero_lit || not (is_num (sort_at 0 (sorts_of ts)))) ≡ true
      → (same_term (term_at 0 (all_replaced ts env)) zero_lit || not (is_num (sort_at 0 (sorts_of (all_replaced ts env))))) ≡ true
  const_plain End h e = e
  const_plain (More x ts) h e =
      elim (or_true (same_term x zero_lit) (not (is_num (sort_of x))) e) [
        | inl q ↦ or_left (same_term (replaced x env) zero_lit) (not (is_num (sort_of (replaced x env)))) (ap (λ z. same_term (replaced z env) zero_lit) (term_is x zero_lit q))
        | inr q ↦
            or_right (same_term (replaced x env) zero_lit) (not (is_num (sort_of (replaced x env))))
            (ap not (sym (num_wide (sort_of (replaced x env))) ∙ (ap is_num (kind_kept x h.0) ∙ num_wide (sort_of x))) ∙ q)
      ]

  module _ (plain : (n : ℕ) → IsFlatOrPlain (in_env env n)) where
    mutual
      pub plain_replaced : (x : Term) → IsOver vars x → is_plain x ≡ true → IsFlatOrPlain (replaced x env)
      plain_replaced (App (VarNode n s) ts) h e = plain n
      plain_replaced (App (ConstNode s) ts) h e =
          let b = both_true (plain_node (ConstNode s) ts) (all_plain ts) e in
          or_right (is_flat (sort_of (App (ConstNode s) (all_replaced ts env)))) (is_plain (App (ConstNode s) (all_replaced ts env)))
          (and_true (plain_node (ConstNode s) (all_replaced ts env)) (all_plain (all_replaced ts env)) (const_plain ts h.1 b.0) (all_plain_replaced ts h.1 b.1))
      plain_replaced (App x ts) h e =
          let b = both_true (plain_node x ts) (all_plain ts) e in
          or_right (is_flat (sort_of (App x (all_replaced ts env)))) (is_plain (App x (all_replaced ts env)))
          (and_true (plain_node x (all_replaced ts env)) (all_plain (all_replaced ts env)) b.0 (all_plain_replaced ts h.1 b.1))

      all_plain_replaced : (ts : Terms) → AreOver vars ts → all_plain ts ≡ true → all_plain (all_replaced ts env) ≡ true
      all_plain_replaced End h e = refl
      all_plain_replaced (More x ts) h e =
          let b = both_true (is_flat (sort_of x) || is_plain x) (all_plain ts) e in
          and_true (is_flat (sort_of (replaced x env)) || is_plain (replaced x env)) (all_plain (all_replaced ts env))
          (elim (or_true (is_flat (sort_of x)) (is_plain x) b.0) [
            | inl q ↦
                or_left (is_flat (sort_of (replaced x env))) (is_plain (replaced x env)) (sym (flat_wide (sort_of (replaced x env))) ∙ (ap is_flat (kind_kept x h.0) ∙ (flat_wide (sort_of x) ∙ q)))
            | inr q ↦ plain_replaced x h.0 q
          ])
          (all_plain_replaced ts h.1 b.1)

-- ---- variables below a number

abbrev pub NodeIsBelow : ℕ → Shape → Type 0
NodeIsBelow k (VarNode n s) = n < k
NodeIsBelow k _ = Unit {0}

abbrev mutual
  pub Below : ℕ → Term → Type 0
  Below k (App x ts) = NodeIsBelow k x × EachBelow k ts

  pub EachBelow : ℕ → Terms → Type 0
  EachBelow k End = Unit {0}
  EachBelow k (More x ts) = Below k x × EachBelow k ts

abbrev pub AllBelow : ℕ → List Term → Type 0
AllBelow k [] = Unit {0}
AllBelow k (x ∷ xs) = Below k x × AllBelow k xs

module _ (j k : ℕ) (h : j ≤ k) where
  mutual
    pub below_more : (x : Term) → Below j x → Below k x
    below_more (App (VarNode n s) ts) i = (omega (arith, h, i.0), each_more ts i.1)
    below_more (App x ts) i = (tt, each_more ts i.1)

    each_more : (ts : Terms) → EachBelow j ts → EachBelow k ts
    each_more End i = tt
    each_more (More x ts) i = (below_more x i.0, each_more ts i.1)

  pub all_more : (xs : List Term) → AllBelow j xs → AllBelow k xs
  all_more [] i = tt
  all_more (x ∷ xs) i = (below_more x i.0, all_more xs i.1)

below_index : (k : ℕ) (env : List Term) (x : ℕ) → AllBelow k env → Below k (get_or env x (Truth false))
below_index k [] x h = (tt, tt)
below_index k (y ∷ env) zero h = h.0
below_index k (y ∷ env) (suc x) h = below_index k env x h.1

mutual
  pub below_replaced : (k : ℕ) (x : Term) (env : List Term) → AllBelow k env → Below k (replaced x env)
  below_replaced k (App (VarNode n s) ts) env h = below_index k env n h
  below_replaced k (App x ts) env h = (tt, each_replaced k ts env h)

  each_replaced : (k : ℕ) (ts : Terms) (env : List Term) → AllBelow k env → EachBelow k (all_replaced ts env)
  each_replaced k End env h = tt
  each_replaced k (More x ts) env h = (below_replaced k x env h, each_replaced k ts env h)

pub below_set : (k : ℕ) (env : List Term) (x : ℕ) (u : Term) → AllBelow k env → Below k u → AllBelow k (slice_set env x u)
below_set k [] x u h i = tt
below_set k (y ∷ env) zero u h i = (i, h.1)
below_set k (y ∷ env) (suc x) u h i = (h.0, below_set k env x u h.1 i)

-- ---- values that agree below a number

pub record Agrees (k : ℕ) (m m' : Look) : Type 0 where
  pub at : (n : ℕ) (s : Sort) → n < k → m' n s ≡ m n s

pub agrees_same : (k : ℕ) (m : Look) → Agrees k m m
agrees_same k m = record { at = λ n s h. refl }

pub agrees_on : {j k : ℕ} {m m' m'' : Look} → j ≤ k → Agrees j m m' → Agrees k m' m'' → Agrees j m m''
agrees_on h a b = record { at = λ n s i. b.at n s (omega (arith, h, i)) ∙ a.at n s i }

module _ (k : ℕ) (m m' : Look) (a : Agrees k m m') where
  mutual
    pub value_agrees : (x : Term) → Below k x → value_by m' x ≡ value_by m x
    value_agrees (App (VarNode n s) ts) h = a.at n s h.0
    value_agrees (App x ts) h = ap (λ vs. meaning m x (element (sort_at 0 (sorts_of ts))) vs) (values_agree ts h.1)

    values_agree : (ts : Terms) → EachBelow k ts → values_by m' ts ≡ values_by m ts
    values_agree End h = refl
    values_agree (More x ts) h = ap₂ ValueAnd (value_agrees x h.0) (values_agree ts h.1)

  pub truth_agrees : (x : Term) → Below k x → truth x m' ≡ truth x m
  truth_agrees x h = ap flag (value_agrees x h)

  pub store_agrees : (env : List Term) → AllBelow k env → store_of env m' ≡ store_of env m
  store_agrees [] h = refl
  store_agrees (x ∷ env) h = ap₂ (λ y ys. y ∷ ys) (value_agrees x h.0) (store_agrees env h.1)

-- ---- models

abbrev pub IsModel : Look → Type 0
IsModel m = (n : ℕ) (s : Sort) → Suits s (m n s)

abbrev pub as_model : (m : Look) → IsModel m → Model
as_model m h = record { look = m; of_sort = λ n s. (h n s).0; zeroed = λ n s. (h n s).1 }

-- one with one variable changed
abbrev pub with_value : Look → ℕ → Sort → Value → Look
with_value m k σ v n s = cond (nat_eq n k && same_sort s σ) v (m n s)

module _ (m : Look) (k : ℕ) (σ : Sort) (v : Value) where
  pub with_agrees : Agrees k m (with_value m k σ v)
  with_agrees = record { at = λ n s h. go n s (nat_eq n k) refl h }
    where
      go : (n : ℕ) (s : Sort) (b : Bool) → nat_eq n k ≡ b → n < k → cond (nat_eq n k && same_sort s σ) v (m n s) ≡ m n s
      go n s false e h = ap (λ z. cond (z && same_sort s σ) v (m n s)) e
      go n s true e h = absurd (omega (arith, (Decides-eqb n k).0 e, h))

  pub with_at : with_value m k σ v k σ ≡ v
  with_at = ap₂ (λ y z. cond (y && z) v (m k σ)) ((Decides-eqb k k).1 refl) (sort_self σ)

  pub with_model : IsModel m → Suits σ v → IsModel (with_value m k σ v)
  with_model h i n s = go (nat_eq n k && same_sort s σ) refl
    where
      go : (b : Bool) → (nat_eq n k && same_sort s σ) ≡ b → Suits s (cond b v (m n s))
      go false e = h n s
      go true e = subst (λ z. Suits z v) (sym (sort_is s σ (both_true (nat_eq n k) (same_sort s σ) e).1)) i
