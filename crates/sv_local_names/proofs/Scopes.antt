-- What is true of names in scope.
use Rattle.std.proofs.Common.{ℕ, ◌-◌, ◌≡◌, ◌≢◌, ◌∙◌, Bool, true, false, nat_eq, cond, Option, Some, None, List, [], ◌∷◌, ◌++◌, length, take, slice_index_or, refl, sym, ap, ap₂, append_assoc, arith}
use Rattle.std.specs.List.{AllByRecursion}
use Rattle.std.proofs.lemmas.List.{append-nil, length_push, get_or_at, take_at}
use Rattle.std.proofs.lemmas.Bool.{eqb-true, eqb-false}
use Rattle.sv_local_names.specs.declared.names.Local.{Local}
use Rattle.sv_local_names.specs.LocalScopes.{Locals, local, entered, left, declared, named, or_else, last_named, start_of}
use Rattle.sv_local_names.specs.ScopeLaws.{IsFoundAmong, InnermostIsFound, Declaring, all_declared, AreAsBefore, ScopeIsItsOwn, NewestIsFound}

-- ---- the last of a name

pub or_else_none : {X : Type 0} (o : Option X) → or_else o None ≡ o
or_else_none None = refl
or_else_none (Some x) = refl

pub or_else_assoc : {X : Type 0} (a b c : Option X) → or_else (or_else a b) c ≡ or_else a (or_else b c)
or_else_assoc None b c = refl
or_else_assoc (Some x) b c = refl

pub or_else_cond : {X : Type 0} (b : Bool) (x : X) (o : Option X) → or_else (cond b (Some x) None) o ≡ cond b (Some x) o
or_else_cond true x o = refl
or_else_cond false x o = refl

pub last_named_append : (name : ℕ) (xs ys : List Local) → last_named name (xs ++ ys) ≡ or_else (last_named name ys) (last_named name xs)
last_named_append name [] ys = sym (or_else_none (last_named name ys))
last_named_append name (x ∷ xs) ys = ap (λ o. or_else o (named name x)) (last_named_append name xs ys) ∙ or_else_assoc (last_named name ys) (last_named name xs) (named name x)

-- one element of a loop that keeps the last
pub last_step : (name : ℕ) (l : Local) (ls : List Local) (o : Option Local) → or_else (last_named name (l ∷ ls)) o ≡ or_else (last_named name ls) (cond (nat_eq l.name name) (Some l) o)
last_step name l ls o = or_else_assoc (last_named name ls) (named name l) o ∙ ap (or_else (last_named name ls)) (or_else_cond (nat_eq l.name name) l o)

pub newest_is_found : NewestIsFound
newest_is_found n name is_result k =
    last_named_append name k.names (local n k.count is_result ∷ []) ∙ or_else_cond (nat_eq n name) (local n k.count is_result) (last_named name k.names)

of_none : (name : ℕ) (l : Local) (ls : List Local) (b : Bool) → nat_eq l.name name ≡ b → AllByRecursion (λ (m : Local). m.name ≢ name) ls → IsFoundAmong name (l ∷ ls) (cond b (Some l) None)
of_none name l ls true e h = record { front = []; behind = ls; stands = refl; named = eqb-true l.name name e; newest = h }
of_none name l ls false e h = (eqb-false l.name name e, h)

among_more : (name : ℕ) (l : Local) (ls : List Local) (o : Option Local) → IsFoundAmong name ls o → IsFoundAmong name (l ∷ ls) (or_else o (named name l))
among_more name l ls None h = of_none name l ls (nat_eq l.name name) refl h
among_more name l ls (Some m) h = record { front = l ∷ h.front; behind = h.behind; stands = ap (λ z. l ∷ z) h.stands; named = h.named; newest = h.newest }

among : (name : ℕ) (ls : List Local) → IsFoundAmong name ls (last_named name ls)
among name [] = tt
among name (l ∷ ls) = among_more name l ls (last_named name ls) (among name ls)

pub innermost_is_found : InnermostIsFound
innermost_is_found name k = among name k.names

-- ---- scopes

-- declarations add names at the end
record Grown (before behind : Locals) : Type 0 where
  more : List Local
  names : behind.names ≡ before.names ++ more
  starts : behind.starts ≡ before.starts

one_grown : (name : Option ℕ) (is_result : Bool) (k : Locals) → Grown k (declared name is_result k)
one_grown None is_result k = record { more = []; names = sym (append-nil k.names); starts = refl }
one_grown (Some n) is_result k = record { more = local n k.count is_result ∷ []; names = refl; starts = refl }

then_grown : (a b c : Locals) → Grown a b → Grown b c → Grown a c
then_grown a b c g h = record { more = g.more ++ h.more; names = h.names ∙ (ap (λ z. z ++ h.more) g.names ∙ append_assoc a.names g.more h.more); starts = h.starts ∙ g.starts }

grown : (ds : List Declaring) (k : Locals) → Grown k (all_declared ds k)
grown [] k = record { more = []; names = sym (append-nil k.names); starts = refl }
grown (d ∷ ds) k = then_grown k (declared d.name d.is_result k) (all_declared ds (declared d.name d.is_result k)) (one_grown d.name d.is_result k) (grown ds (declared d.name d.is_result k))

one_less : (starts : List ℕ) (n : ℕ) → length (starts ++ n ∷ []) - 1 ≡ length starts
one_less starts n = let e = length_push starts n in omega (arith, e)

start_is : (starts : List ℕ) (n : ℕ) → slice_index_or (starts ++ n ∷ []) (length (starts ++ n ∷ []) - 1) 0 ≡ n
start_is starts n = get_or_at starts n [] 0 (length (starts ++ n ∷ []) - 1) (sym (one_less starts n))

closed : (k j : Locals) → Grown (entered k) j → AreAsBefore k (left j)
closed k j g =
    let at : start_of j ≡ length k.names = ap (λ z. slice_index_or z (length z - 1) 0) g.starts ∙ start_is k.starts (length k.names) in
    record {
      names = ap₂ take at g.names ∙ take_at k.names g.more (length k.names) refl;
      starts = ap (λ z. take (length z - 1) z) g.starts ∙ (ap (λ n. take n (k.starts ++ length k.names ∷ [])) (one_less k.starts (length k.names)) ∙ take_at k.starts (length k.names ∷ []) (length k.starts) refl);
    }

pub scope_is_its_own : ScopeIsItsOwn
scope_is_its_own ds k = closed k (all_declared ds (entered k)) (grown ds (entered k))
