-- A store as a model of the variables, and that what is set suits its variable, where two sorts of numbers count as one.
use Rattle.std.proofs.Common.{ℕ, zero, suc, ◌+◌, ◌≡◌, inl, inr, Bool, true, false, ◌||◌, List, [], ◌∷◌, map, length, refl, sym, ap, ap₂, ◌∙◌, subst, arith}
use Rattle.sv_term.specs.Sorts.{Sort, NumSort, BoolSort, ArrSort, TupSort, is_flat, is_sort}
use Rattle.sv_term.specs.Values.{Value, Number, Flag, Array, Tuple, IsZeroed}
use Rattle.sv_term.specs.Terms.{Term, sort_of, fits, is_plain}
use Rattle.sv_term.specs.Models.{Look, Model, value_by}
use Rattle.sv_term.specs.ModelMaking.{zero_value}
use Rattle.sv_term.specs.Banks.{wide}
use Rattle.sv_term.proofs.Same.{or_true}
use Rattle.sv_term.proofs.Typed.{values_are_of_their_sort}
use Rattle.sv_term.proofs.Plain.{zeroed_of}
use Rattle.sv_term.proofs.ModelMaking.{zero_is_of, zero_is_zeroed}
use Rattle.sv_gcl.specs.Commands.{Store, value_in, var_sort, Suits, AllSuit}
use Rattle.sv_gcl.specs.FormedCommands.{IsSetTo}
use Rattle.sv_vc.specs.Replacing.{replaced}
use Rattle.sv_vc.specs.ConditionWalk.{own}
use Rattle.sv_vc.specs.ConditionsExact.{AllAreSorts}
use Rattle.sv_vc.proofs.NodeSorts.{wide_twice, flat_wide}
use Rattle.sv_vc.proofs.Basics.{store_of, in_env, HasKinds, IsFlatOrPlain, kind_kept, value_replaced, fits_replaced, plain_replaced, AllBelow, IsModel, as_model, or_left, Agrees, agrees_same, agrees_on, with_value, with_agrees, with_at, with_model}

pub wide_sort : (vars : List Sort) (x : ℕ) → var_sort (map wide vars) x ≡ wide (var_sort vars x)
wide_sort [] x = refl
wide_sort (σ ∷ vars) zero = refl
wide_sort (σ ∷ vars) (suc x) = wide_sort vars x

pub wide_suits : (σ : Sort) (v : Value) → Suits σ v → Suits (wide σ) v
wide_suits (NumSort r) (Number z) h = (refl, tt)
wide_suits (NumSort r) (Flag b) h = absurd h.0
wide_suits (NumSort r) (Array d es) h = absurd h.0
wide_suits (NumSort r) (Tuple vs) h = absurd h.0
wide_suits BoolSort v h = h
wide_suits (ArrSort s) v h = h
wide_suits (TupSort ss) v h = h

-- ---- a model of a store

own_below_next : (i n : ℕ) → suc i + n ≡ i + suc n
own_below_next i n = omega arith

pub own_below : (vars : List Sort) (i : ℕ) → AllBelow (i + length vars) (own vars i)
own_below [] i = tt
own_below (σ ∷ vars) i = ((omega arith, tt), subst (λ k. AllBelow k (own vars (suc i))) (own_below_next i (length vars)) (own_below vars (suc i)))

pub record Given (i : ℕ) (m : Look) (vars : List Sort) (s : Store) : Type 0 where
  pub model : Look
  pub is_model : IsModel model
  pub agrees : Agrees i m model
  pub store : s ≡ store_of (own vars i) model

pub given : (vars : List Sort) (s : Store) (i : ℕ) (m : Look) → IsModel m → AllSuit vars s → Given i m vars s
given [] [] i m h g = record { model = m; is_model = h; agrees = agrees_same i m; store = refl }
given [] (v ∷ s) i m h g = absurd g
given (σ ∷ vars) [] i m h g = absurd g
given (σ ∷ vars) (v ∷ s) i m h g = more (given vars s (suc i) (with_value m i σ v) (with_model m i σ v h g.0) g.1)
  where
    more : Given (suc i) (with_value m i σ v) vars s → Given i m (σ ∷ vars) (v ∷ s)
    more r = record {
      model = r.model;
      is_model = r.is_model;
      agrees = agrees_on (omega arith) (with_agrees m i σ v) r.agrees;
      store = ap₂ (λ z zs. z ∷ zs) (sym (r.agrees.at i σ (omega arith) ∙ with_at m i σ v)) r.store;
    }

abbrev pub zeros : Look
zeros n σ = zero_value σ

pub zeros_model : IsModel zeros
zeros_model n σ = (zero_is_of σ, zero_is_zeroed σ)

pub wide_all : (vars : List Sort) (s : Store) → AllSuit vars s → AllSuit (map wide vars) s
wide_all [] [] h = tt
wide_all [] (v ∷ s) h = absurd h
wide_all (σ ∷ vars) [] h = absurd h
wide_all (σ ∷ vars) (v ∷ s) h = (wide_suits σ v h.0, wide_all vars s h.1)

pub own_suits : (vars : List Sort) (i : ℕ) (m : Look) → IsModel m → AllSuit vars (store_of (own vars i) m)
own_suits [] i m h = tt
own_suits (σ ∷ vars) i m h = (h i σ, own_suits vars (suc i) m h)

-- ---- the variables as terms

own_sort : (vars : List Sort) (i n : ℕ) → sort_of (in_env (own vars i) n) ≡ var_sort vars n
own_sort [] i n = refl
own_sort (σ ∷ vars) i zero = refl
own_sort (σ ∷ vars) i (suc n) = own_sort vars (suc i) n

pub own_kinds : (vars : List Sort) → HasKinds vars (own vars 0)
own_kinds vars n = ap wide (own_sort vars 0 n)

sort_fine : (σ : Sort) → is_sort σ ≡ true → is_sort (wide σ) ≡ true
sort_fine (NumSort r) e = refl
sort_fine BoolSort e = refl
sort_fine (ArrSort s) e = e
sort_fine (TupSort ss) e = e

wide_fit : (vars : List Sort) (i n : ℕ) → AllAreSorts vars → fits (in_env (own (map wide vars) i) n) ≡ true
wide_fit [] i n h = refl
wide_fit (σ ∷ vars) i zero h = sort_fine σ h.0
wide_fit (σ ∷ vars) i (suc n) h = wide_fit vars (suc i) n h.1

or_true_last : (a : Bool) → (a || true) ≡ true
or_true_last true = refl
or_true_last false = refl

own_plain : (vars : List Sort) (i n : ℕ) → IsFlatOrPlain (in_env (own vars i) n)
own_plain [] i n = refl
own_plain (σ ∷ vars) i zero = or_true_last (is_flat σ)
own_plain (σ ∷ vars) i (suc n) = own_plain vars (suc i) n

flat_zeroed : (s : Sort) (v : Value) → is_flat s ≡ true → IsZeroed s v
flat_zeroed (NumSort r) v e = tt
flat_zeroed BoolSort v e = tt
flat_zeroed (ArrSort s) v e = cc e
flat_zeroed (TupSort ss) v e = cc e

-- what is set suits the variable
pub set_typed : (vars : List Sort) → AllAreSorts vars → (x : ℕ) (e : Term) (s : Store) → IsSetTo vars x e → fits e ≡ true → AllSuit (map wide vars) s → Suits (wide (var_sort vars x)) (value_in s e)
set_typed vars sorts x e s w f h =
    let g = given (map wide vars) s 0 zeros zeros_model h in
    let m : Model = as_model g.model g.is_model in
    let kinds : HasKinds vars (own (map wide vars) 0) = λ n. ap wide (own_sort (map wide vars) 0 n) ∙ (ap wide (wide_sort vars n) ∙ wide_twice (var_sort vars n)) in
    let there : Term = replaced e (own (map wide vars) 0) in
    let kind : wide (sort_of there) ≡ wide (sort_of e) = kind_kept vars (own (map wide vars) 0) kinds e w.over in
    let fit : fits there ≡ true = fits_replaced vars (own (map wide vars) 0) kinds (λ n. wide_fit vars 0 n sorts) e w.over f in
    let same : value_by g.model there ≡ value_in s e = value_replaced vars (own (map wide vars) 0) kinds e g.model w.over ∙ ap (λ z. value_in z e) (sym g.store) in
    let plain : IsFlatOrPlain there =
    elim w.plain [
      | inl a ↦ or_left (is_flat (sort_of there)) (is_plain there) (sym (flat_wide (sort_of there)) ∙ (ap is_flat kind ∙ (flat_wide (sort_of e) ∙ a)))
      | inr a ↦ plain_replaced vars (own (map wide vars) 0) kinds (own_plain (map wide vars) 0) e w.over a
    ] in
    let zeroed : IsZeroed (sort_of there) (value_by g.model there) =
    elim (or_true (is_flat (sort_of there)) (is_plain there) plain) [ inl a ↦ flat_zeroed (sort_of there) (value_by g.model there) a | inr a ↦ zeroed_of m there a fit ] in
    subst (λ σ. Suits σ (value_in s e)) (kind ∙ w.kind) (subst (Suits (wide (sort_of there))) same (wide_suits (sort_of there) (value_by g.model there) (values_are_of_their_sort m there fit, zeroed)))
