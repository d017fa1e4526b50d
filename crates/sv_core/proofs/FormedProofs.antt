-- Why a contract is formed.
use Rattle.std.proofs.Common.{ℕ, zero, suc, ◌≡◌, ◌≢◌, ◌+◌, ◌^◌, ◌<◌, ◌≤◌, ◌⊎◌, inl, Bool, true, false, true≢false, List, [], ◌∷◌, Some, None, refl, sym, subst, ap, arith, length, All, AllPairs, slice_get, ◌∙◌}
use Rattle.sv_type.specs.declared.info.TypeInfo.{TypeInfo}
use Rattle.sv_type.specs.declared.info.TypeInfo.TheVariants as info
use Rattle.sv_type.specs.TypeParts.{parts_of, IsValueType}
use Rattle.sv_core.specs.declared.contract.LocalInfo.{LocalInfo}
use Rattle.sv_core.specs.declared.expr.Loc.TheVariants.{Value, Storage}
use Rattle.sv_core.specs.declared.expr.Op.TheVariants.{Eq}
use Rattle.sv_core.specs.PlainCode as code
use Rattle.sv_core.specs.PlainCode.{Kind}
use Rattle.sv_core.specs.PlainCore.{Contract, Function}
use Rattle.sv_core.specs.FormedTypes.{IsType, InfoFormed, TypesFormed, is_declared}
use Rattle.sv_core.specs.FormedExprs.{Text, Code, Invariant, Condition, Postcondition, Scope, ExprFormed}
use Rattle.sv_core.specs.Formed.{VariableFormed, FunctionFormed, ModifierFormed, ConstructorFormed, UseFormed, Calls, Reaches, ctor_kinds, body_kinds, times_in_all}
use Rattle.sv_core.specs.FormedExamples.{node, stored, given, at_most_ten, parameter, the_variable, the_use, setter, set, small, unwritten, two_types, SetterIsFormed}

-- ---- what holds at each place of a list

abbrev Each : {X : Type 0} → (ℕ → X → Type 0) → ℕ → List X → Type 0
Each P n [] = Unit {0}
Each P n (y ∷ ys) = P n y × Each P (suc n) ys

same_some : {A : Type 0} (o p : A) → Some o ≡ Some p → o ≡ p
same_some o p e = cc

nowhere : {A : Type 0} (P : Type 0) (o : A) → None ≡ Some o → P
nowhere P o e = absurd (let bad : None ≡ Some o = e in cc)

each_from : {X : Type 0} (P : ℕ → X → Type 0) (n : ℕ) (xs : List X) → Each P n xs → (k : ℕ) (x : X) → slice_get xs k ≡ Some x → P (n + k) x
each_from P n [] all k x h = nowhere (P (n + k) x) x h
each_from P n (y ∷ ys) (here, later) zero x h =
    let moved : n ≡ n + 0 = omega arith in
    subst (λ m. P m x) moved (subst (P n) (same_some y x h) here)
each_from P n (y ∷ ys) (here, later) (suc k) x h =
    let moved : suc n + k ≡ n + suc k = omega arith in
    subst (λ m. P m x) moved (each_from P (suc n) ys later k x h)

each : {X : Type 0} (P : ℕ → X → Type 0) (xs : List X) → Each P 0 xs → (k : ℕ) (x : X) → slice_get xs k ≡ Some x → P k x
each P xs all k x h =
    let moved : 0 + k ≡ k = omega arith in
    subst (λ m. P m x) moved (each_from P 0 xs all k x h)

-- ---- calls

abbrev is_call : Kind → Bool
is_call (code.Call f args) = true
is_call _ = false

abbrev Calm : List Kind → Type 0
Calm [] = Unit {0}
Calm (k ∷ ks) = (is_call k ≡ false) × Calm ks

calls_none : (kinds : List Kind) → Calm kinds → (f : ℕ) → Calls kinds f → ⊥
calls_none [] calm f (args, (k, within, is)) = absurd (omega arith)
calls_none (k' ∷ xs) (calm, later) f (args, (zero, within, is)) = true≢false (sym (ap is_call is) ∙ calm)
calls_none (k' ∷ xs) (calm, later) f (args, (suc k, within, is)) = calls_none xs later f (args, (k, omega arith, is))

reaches_none : (c : Contract) (kinds : List Kind) → Calm kinds → (way : List ℕ) (g : ℕ) → Reaches c kinds way g → ⊥
reaches_none c kinds calm [] g calls = calls_none kinds calm g calls
reaches_none c kinds calm (f ∷ way) g (calls, rest) = calls_none kinds calm f calls

-- ---- types

abbrev is_bool : TypeInfo → Bool
is_bool info.Bool = true
is_bool _ = false

no_parts : (t : ℕ) → All (λ p. p < t) []
no_parts t k d within = absurd (omega arith)

bools : (u : ℕ) → IsType two_types u info.Bool → (0 ≡ u) ⊎ (is_declared info.Bool ≡ true)
bools u k = each (λ u j. is_bool j ≡ true → (0 ≡ u) ⊎ (is_declared info.Bool ≡ true)) two_types ((λ e. inl refl), ((λ e. absurd (true≢false (sym e))), tt)) u info.Bool k refl

uints : (u : ℕ) → IsType two_types u (info.Uint 256) → (1 ≡ u) ⊎ (is_declared (info.Uint 256) ≡ true)
uints u k = each (λ u j. is_bool j ≡ false → (1 ≡ u) ⊎ (is_declared (info.Uint 256) ≡ true)) two_types ((λ e. absurd (true≢false e)), ((λ e. inl refl), tt)) u (info.Uint 256) k refl

two_types_formed : TypesFormed two_types
two_types_formed =
    record {
      few = let few : 2 < 2 ^ 32 = omega arith in few;
      ordered = each (λ t i. All (λ p. p < t) (parts_of i)) two_types (no_parts 0, (no_parts 1, tt));
      each = each (λ t i. InfoFormed two_types i) two_types (tt, ((32, refl, omega arith, omega arith), tt));
      once = λ t u i h k. each (λ t i. (u : ℕ) → IsType two_types u i → (t ≡ u) ⊎ (is_declared i ≡ true)) two_types (bools, (uints, tt)) t i h u k;
      has_bool = (0, omega arith, refl);
    }

-- ---- the parts of the contract

few_of : (n : ℕ) → n < 100 → n < 2 ^ 32
few_of n h = omega arith

wide : 10 < 2 ^ 128
wide = omega arith

below : 10 < 2 ^ 256
below = omega arith

parameter_is_a_value : Value ≡ Storage → ⊥
parameter_is_a_value e = cc

abbrev scope : List LocalInfo → Text → Scope
scope locals text = record { core = setter; locals = locals; text = text }

value_type : IsValueType two_types 1
value_type = (info.Uint 256, refl, refl)

test_in_code : (b : Bool) → ExprFormed (scope (parameter ∷ []) (Code b)) (at_most_ten given)
test_in_code b = (((parameter, (refl, refl)), (wide, (info.Uint 256, (refl, (refl, (refl, below)))))), (refl, (refl, (info.Uint 256, (refl, refl)))))

precondition_formed : ExprFormed (scope (parameter ∷ []) Condition) (at_most_ten given)
precondition_formed = (((parameter, (refl, refl)), (wide, (info.Uint 256, (refl, (refl, tt))))), (refl, inl (refl, (info.Uint 256, (refl, refl)))))

postcondition_formed : ExprFormed (scope (parameter ∷ []) Postcondition) (node 0 (code.Binary Eq stored given))
postcondition_formed = (((the_variable, (refl, (refl, λ e. refl))), (parameter, (refl, refl))), (refl, inl (refl, value_type)))

invariant_formed : ExprFormed (scope [] Invariant) (at_most_ten stored)
invariant_formed = (((the_variable, (refl, (refl, λ e. refl))), (wide, (info.Uint 256, (refl, (refl, tt))))), (refl, inl (refl, (info.Uint 256, (refl, refl)))))

variable_formed : VariableFormed setter the_variable
variable_formed = record { owner = omega arith; type = omega arith; init = tt; immutable = λ e. value_type }

small_formed : ModifierFormed setter small
small_formed =
    record {
      owner = omega arith;
      few = few_of 1 (omega arith);
      locals = (value_type, tt);
      signature = omega arith;
      body = ((test_in_code false, (tt, (refl, inl refl))), ((refl, refl), tt));
      once = refl;
      numbered = refl;
    }

use_formed : UseFormed setter 0 set the_use
use_formed =
    record {
      modifier = small;
      there = refl;
      args = (((parameter, (refl, refl)), (tt, (refl, (refl, λ e. e)))), tt);
      calm = refl;
      apart = calls_none (body_kinds small.body) (refl, (refl, (refl, tt))) 0;
    }

most_derived : (j : ℕ) (g : Function) → slice_get (set ∷ []) j ≡ Some g → g.name ≡ set.name → g.owner ≤ set.owner
most_derived = each (λ j g. g.name ≡ set.name → g.owner ≤ set.owner) (set ∷ []) ((λ e. omega arith), tt)

set_formed : FunctionFormed setter 0 set
set_formed =
    record {
      owner = omega arith;
      few = (few_of 1 (omega arith), (few_of 1 (omega arith), (few_of 1 (omega arith), few_of 1 (omega arith))));
      locals = (value_type, tt);
      signature = omega arith;
      outside = λ e. (parameter_is_a_value, tt);
      paths = tt;
      top = ((λ h. most_derived), (λ h. refl));
      uses = (use_formed, tt);
      pre = ((precondition_formed, refl), tt);
      post = ((postcondition_formed, refl), tt);
      body = (((the_variable, (refl, (refl, inl refl))), ((parameter, (refl, refl)), ((tt, (refl, (refl, λ e. e))), inl refl))), tt);
      numbered = refl;
    }

unwritten_formed : ConstructorFormed setter 0 unwritten
unwritten_formed =
    record {
      owner = refl;
      few = (few_of 0 (omega arith), few_of 0 (omega arith));
      locals = tt;
      signature = omega arith;
      outside = tt;
      given = tt;
      body = tt;
      numbered = refl;
      inside = λ way g f reaches there out. reaches_none setter (ctor_kinds unwritten) tt way g reaches;
    }

-- ---- the contract

alone : {X : Type 0} (R : X → X → Type 0) (x : X) → AllPairs R (x ∷ [])
alone R x i j d before within = absurd (omega arith)

none_given : (k : ℕ) → times_in_all k (unwritten ∷ []) ≤ 1
none_given k = let none : 0 ≤ 1 = omega arith in none

pub setter_is_formed : SetterIsFormed
setter_is_formed =
    record {
      types = two_types_formed;
      few = (few_of 1 (omega arith), (few_of 1 (omega arith), (few_of 1 (omega arith), (few_of 1 (omega arith), few_of 1 (omega arith)))));
      owners = refl;
      line = alone (λ a b. a ≢ b) 0;
      itself = (refl, refl);
      ctors_in_line = refl;
      vars = each (λ k v. VariableFormed setter v) setter.vars (variable_formed, tt);
      vars_in_order = alone (λ v w. v.owner ≤ w.owner) the_variable;
      funcs = each (λ k f. FunctionFormed setter k f) setter.funcs (set_formed, tt);
      funcs_in_order = alone (λ f g. f.owner ≤ g.owner) set;
      one_each = alone (λ f g. (f.name ≡ g.name) → (f.owner ≡ g.owner) → ⊥) set;
      mods = each (λ k m. ModifierFormed setter m) setter.mods (small_formed, tt);
      ctors = each (λ k p. ConstructorFormed setter k p) setter.ctors (unwritten_formed, tt);
      given_once = none_given;
      given = each (λ k p. 1 ≤ p.params → k + 1 < length setter.ctors → times_in_all k setter.ctors ≡ 1) setter.ctors ((λ h inside. absurd (omega arith)), tt);
      invariants = ((invariant_formed, refl), tt);
    }
