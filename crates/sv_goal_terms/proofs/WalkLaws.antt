-- What the walk over a condition adds to a list of terms in which each has its arguments.
use Rattle.std.proofs.Common.{ℕ, zero, suc, ◌<◌, Bool, true, false, cond, ◌||◌, List, [], ◌∷◌, ◌++◌, ◌≡◌, take, slice_get, Option, Some, refl, sym, ap, ◌∙◌, subst}
use Rattle.std.specs.List.{list_any}
use Rattle.std.proofs.lemmas.List.Folds.{list_any-append}
use Rattle.sv_term.specs.Terms.{Shape, Term, App, Terms, End, More, same_term}
use Rattle.sv_term.specs.Banks.{args_by}
use Rattle.sv_term.specs.declared.node.TermId.{TermId}
use Rattle.sv_term.proofs.Same.{term_is, term_self}
use Rattle.sv_log.specs.Logs.{with_term, with_terms_of, with_terms_of_all}

abbrev pub has : List Term → Term → Bool
has ts t = list_any (same_term t) ts

abbrev pub Has : List Term → Term → Type 0
Has ts t = has ts t ≡ true

abbrev pub HasAll : List Term → Terms → Type 0
HasAll ts End = Unit {0}
HasAll ts (More u us) = Has ts u × HasAll ts us

-- each term has its arguments in the list
abbrev pub IsComplete : List Term → Type 0
IsComplete ts = (x : Shape) (us : Terms) → Has ts (App x us) → HasAll ts us

abbrev pub Within : List Term → List Term → Type 0
Within ts us = (t : Term) → Has ts t → Has us t

or_left : (a b : Bool) → a ≡ true → (a || b) ≡ true
or_left true b e = refl
or_left false b e = cc e

or_right : (a b : Bool) → b ≡ true → (a || b) ≡ true
or_right true b e = refl
or_right false b e = e

or_either : {A : Type 0} (a b : Bool) → (a || b) ≡ true → (a ≡ true → A) → (b ≡ true → A) → A
or_either true b e f g = f refl
or_either false b e f g = g e

-- ---- a list with one term more

more_has : (ts : List Term) (t : Term) → Within ts (ts ++ t ∷ [])
more_has ts t u h = list_any-append (same_term u) ts (t ∷ []) ∙ or_left _ _ h

last_has : (ts : List Term) (t : Term) → Has (ts ++ t ∷ []) t
last_has ts t = list_any-append (same_term t) ts (t ∷ []) ∙ or_right _ _ (or_left _ _ (term_self t))

or_false : (a : Bool) → (a || false) ≡ true → a ≡ true
or_false true e = refl
or_false false e = e

more_either : {A : Type 0} (ts : List Term) (t u : Term) → Has (ts ++ t ∷ []) u → (Has ts u → A) → (u ≡ t → A) → A
more_either ts t u h f g = or_either (has ts u) (list_any (same_term u) (t ∷ [])) (sym (list_any-append (same_term u) ts (t ∷ [])) ∙ h) f (λ e. g (term_is u t (or_false _ e)))

pub all_within : (ts us : List Term) → Within ts us → (ws : Terms) → HasAll ts ws → HasAll us ws
all_within ts us w End h = tt
all_within ts us w (More v vs) h = (w v h.0, all_within ts us w vs h.1)

with_within : (ts : List Term) (t : Term) → Within ts (with_term ts t)
with_within ts t u h = go (has ts t)
  where
    go : (b : Bool) → Has (cond b ts (ts ++ t ∷ [])) u
    go true = h
    go false = more_has ts t u h

with_has : (ts : List Term) (t : Term) → Has (with_term ts t) t
with_has ts t = go (has ts t) refl
  where
    go : (b : Bool) → has ts t ≡ b → Has (cond b ts (ts ++ t ∷ [])) t
    go true e = e
    go false e = last_has ts t

pub complete_more : (ts : List Term) (x : Shape) (us : Terms) → IsComplete ts → HasAll ts us → IsComplete (ts ++ App x us ∷ [])
complete_more ts x us c h y vs e = more_either ts (App x us) (App y vs) e
    (λ i. all_within ts _ (more_has ts (App x us)) vs (c y vs i))
    (λ q. all_within ts _ (more_has ts (App x us)) vs (subst (λ (t : Term). HasAll ts (parts t)) (sym q) h))
  where
    parts : Term → Terms
    parts (App z ws) = ws

with_complete : (ts : List Term) (x : Shape) (us : Terms) → IsComplete ts → HasAll ts us → IsComplete (with_term ts (App x us))
with_complete ts x us c h = go (has ts (App x us))
  where
    go : (b : Bool) → IsComplete (cond b ts (ts ++ App x us ∷ []))
    go true = c
    go false = complete_more ts x us c h

-- ---- the walk keeps what is there, ends with the term, and keeps that each has its arguments

pub record Walks (ts us : List Term) : Type 0 where
  pub kept : Within ts us
  pub complete : IsComplete us

mutual
  pub walks : (ts : List Term) (t : Term) → IsComplete ts → Walks ts (with_terms_of ts t)
  walks ts (App x us) c = let w = walks_all ts us c in let all = walked_all ts us c in record {
    kept = λ v h. with_within _ (App x us) v (w.kept v h);
    complete = with_complete _ x us w.complete all;
  }

  pub walks_all : (ts : List Term) (us : Terms) → IsComplete ts → Walks ts (with_terms_of_all ts us)
  walks_all ts End c = record { kept = λ v h. h; complete = c }
  walks_all ts (More u us) c = let w = walks ts u c in let v = walks_all _ us w.complete in record {
    kept = λ t h. v.kept t (w.kept t h);
    complete = v.complete;
  }

  pub walked : (ts : List Term) (t : Term) → Has (with_terms_of ts t) t
  walked ts (App x us) = with_has _ (App x us)

  walked_all : (ts : List Term) (us : Terms) → IsComplete ts → HasAll (with_terms_of_all ts us) us
  walked_all ts End c = tt
  walked_all ts (More u us) c = let w = walks ts u c in ((walks_all _ us w.complete).kept u (walked ts u), walked_all _ us w.complete)

-- ---- what is there isn't added

there_is : (ts : List Term) (t : Term) → Has ts t → with_term ts t ≡ ts
there_is ts t h = ap (λ b. cond b ts (ts ++ t ∷ [])) h

mutual
  pub walks_there : (ts : List Term) (t : Term) → IsComplete ts → Has ts t → with_terms_of ts t ≡ ts
  walks_there ts (App x us) c h = ap (λ l. with_term l (App x us)) (walks_all_there ts us c (c x us h)) ∙ there_is ts (App x us) h

  pub walks_all_there : (ts : List Term) (us : Terms) → IsComplete ts → HasAll ts us → with_terms_of_all ts us ≡ ts
  walks_all_there ts End c h = refl
  walks_all_there ts (More u us) c h = ap (λ l. with_terms_of_all l us) (walks_there ts u c h.0) ∙ walks_all_there ts us c h.1

-- ---- a walk over arguments of which the first are there, and the next was walked over before

module _ (g : TermId → Term) where
  pub goes_on : (ts : List Term) (ks : List TermId) (n : ℕ) (k : TermId) → IsComplete ts → HasAll ts (args_by g (take n ks)) → slice_get ks n ≡ Some k
      → with_terms_of_all (with_terms_of ts (g k)) (args_by g ks) ≡ with_terms_of_all ts (args_by g ks)
  goes_on ts [] n k c h e = cc e
  goes_on ts (j ∷ ks) zero k c h e =
      let same : j ≡ k = cc e in
      subst (λ (i : TermId). with_terms_of_all (with_terms_of ts (g k)) (args_by g (i ∷ ks)) ≡ with_terms_of_all ts (args_by g (i ∷ ks))) (sym same)
      (ap (λ l. with_terms_of_all l (args_by g ks)) (walks_there _ (g k) (walks ts (g k) c).complete (walked ts (g k))))
  goes_on ts (j ∷ ks) (suc n) k c h e =
      let w = walks ts (g k) c in
      ap (λ l. with_terms_of_all l (args_by g ks)) (walks_there _ (g j) w.complete (w.kept (g j) h.0))
      ∙ goes_on ts ks n k c h.1 e
      ∙ ap (λ l. with_terms_of_all l (args_by g ks)) (sym (walks_there ts (g j) c h.0))

  -- the node whose argument is walked over first
  pub parent_goes_on : (ts : List Term) (x : Shape) (ks : List TermId) (n : ℕ) (k : TermId) → IsComplete ts → HasAll ts (args_by g (take n ks)) → slice_get ks n ≡ Some k
      → with_terms_of (with_terms_of ts (g k)) (App x (args_by g ks)) ≡ with_terms_of ts (App x (args_by g ks))
  parent_goes_on ts x ks n k c h e = ap (λ l. with_term l (App x (args_by g ks))) (goes_on ts ks n k c h e)

  -- a node whose arguments are there, and which isn't
  pub ends : (ts : List Term) (x : Shape) (us : Terms) → IsComplete ts → HasAll ts us → has ts (App x us) ≡ false → with_terms_of ts (App x us) ≡ ts ++ App x us ∷ []
  ends ts x us c h e = ap (λ l. with_term l (App x us)) (walks_all_there ts us c h) ∙ ap (λ b. cond b ts (ts ++ App x us ∷ [])) e
