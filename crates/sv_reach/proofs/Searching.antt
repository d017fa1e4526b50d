-- What entering nodes leaves, and what a search keeps.
use Rattle.std.proofs.Common.{ℕ, zero, suc, ◌≡◌, ◌∙◌, ◌+◌, ◌<◌, ◌⊎◌, inl, inr, Bool, true, false, cond, List, [], ◌∷◌, ◌++◌, length, get_or, slice_set, refl, sym, subst, arith, length-append}
use Rattle.std.specs.List.{Contains}
use Rattle.std.proofs.lemmas.List.{get_or_default, get_or_past, get_or-set_same, get_or-set_other, length-set}
use Rattle.std.proofs.lemmas.List.Elements.{Contains-append_left, Contains-append_right, Contains-append_cases, Contains-push, Contains-push_cases}
use Rattle.std.proofs.lemmas.Bool.{cases_lt, cases_eq}
use Rattle.sv_reach.specs.declared.reach.Search.{Search}
use Rattle.sv_reach.specs.Searches.{entered, all_entered}

abbrev pub IsMet : Search → ℕ → Type 0
IsMet s a = get_or s.met a false ≡ true

abbrev pub unmet : List Bool → ℕ
unmet [] = 0
unmet (m ∷ ms) = cond m 0 1 + unmet ms

-- what entering these nodes leaves of a search
pub record Enters (nodes : List ℕ) (s t : Search) : Type 0 where
  pub size : length t.met ≡ length s.met
  pub kept : (a : ℕ) → IsMet s a → IsMet t a
  pub still : (a : ℕ) → Contains s.waiting a → Contains t.waiting a
  pub all : (a : ℕ) → a < length s.met → Contains nodes a → IsMet t a
  pub only : (a : ℕ) → IsMet t a → IsMet s a ⊎ (Contains nodes a × Contains t.waiting a)
  pub waits : (a : ℕ) → Contains t.waiting a → Contains s.waiting a ⊎ IsMet t a
  pub work : unmet t.met + length t.waiting ≡ unmet s.met + length s.waiting

-- ---- one node

pub is_one : (a b : ℕ) → Contains (a ∷ []) b → a ≡ b
is_one a b h = elim (Contains-push_cases [] a b h) [ inl e ↦ absurd (omega (arith, e.1)) | inr e ↦ e ]

pub is_node : (ms : List Bool) (a : ℕ) → get_or ms a true ≡ false → a < length ms
is_node ms a h = elim (cases_lt a (length ms)) [ inl l ↦ l | inr l ↦ absurd (let e = get_or_past ms a true l in cc) ]

one_less : (ms : List Bool) (a : ℕ) → get_or ms a true ≡ false → unmet (slice_set ms a true) + 1 ≡ unmet ms
one_less [] a h = absurd cc
one_less (m ∷ ms) zero h = met_now m ms h
  where
    met_now : (b : Bool) (bs : List Bool) → b ≡ false → unmet (true ∷ bs) + 1 ≡ unmet (b ∷ bs)
    met_now true bs e = absurd cc
    met_now false bs e = omega arith
one_less (m ∷ ms) (suc a) h = omega (arith, one_less ms a h)

abbrev put : ℕ → Search → Search
put a s = record { met = slice_set s.met a true; waiting = s.waiting ++ a ∷ [] }

nothing : (a : ℕ) (s : Search) → get_or s.met a true ≡ true → Enters (a ∷ []) s s
nothing a s h = record {
  size = refl;
  kept = λ b m. m;
  still = λ b m. m;
  all = λ b l c. subst (IsMet s) (is_one a b c) (sym (get_or_default s.met a true false (subst (λ x. x < length s.met) (sym (is_one a b c)) l)) ∙ h);
  only = λ b m. inl m;
  waits = λ b m. inl m;
  work = refl;
}

met_same : (a : ℕ) (s : Search) → get_or s.met a true ≡ false → IsMet (put a s) a
met_same a s h = get_or-set_same s.met a true false (is_node s.met a h)

something : (a : ℕ) (s : Search) → get_or s.met a true ≡ false → Enters (a ∷ []) s (put a s)
something a s h = record {
  size = length-set s.met a true;
  kept = λ b m. elim (cases_eq b a) [ inl e ↦ subst (IsMet (put a s)) (sym e) (met_same a s h) | inr n ↦ get_or-set_other s.met a b true false n ∙ m ];
  still = λ b m. Contains-append_left s.waiting (a ∷ []) b m;
  all = λ b l c. subst (IsMet (put a s)) (is_one a b c) (met_same a s h);
  only = λ b m. elim (cases_eq b a) [
    | inl e ↦ inr (subst (λ x. Contains (a ∷ []) x × Contains (s.waiting ++ a ∷ []) x) (sym e) (Contains-push [] a, Contains-push s.waiting a))
    | inr n ↦ inl (sym (get_or-set_other s.met a b true false n) ∙ m)
  ];
  waits = λ b m. elim (Contains-push_cases s.waiting a b m) [ inl c ↦ inl c | inr e ↦ inr (subst (IsMet (put a s)) e (met_same a s h)) ];
  work = omega (arith, one_less s.met a h, length-append s.waiting (a ∷ []));
}

one_enters : (a : ℕ) (s : Search) → Enters (a ∷ []) s (entered a s)
one_enters a s = go (get_or s.met a true) refl
  where
    go : (b : Bool) → get_or s.met a true ≡ b → Enters (a ∷ []) s (cond b s (put a s))
    go true e = nothing a s e
    go false e = something a s e

-- ---- one after another

none : (s : Search) → Enters [] s s
none s = record {
  size = refl;
  kept = λ b m. m;
  still = λ b m. m;
  all = λ b l c. absurd (omega (arith, c.1));
  only = λ b m. inl m;
  waits = λ b m. inl m;
  work = refl;
}

both : (a : ℕ) (as' : List ℕ) (s t u : Search) → Enters (a ∷ []) s t → Enters as' t u → Enters (a ∷ as') s u
both a as' s t u e f = record {
  size = f.size ∙ e.size;
  kept = λ b m. f.kept b (e.kept b m);
  still = λ b m. f.still b (e.still b m);
  all = λ b l c. elim (Contains-append_cases (a ∷ []) as' b c) [
    | inl d ↦ f.kept b (e.all b l d)
    | inr d ↦ f.all b (omega (arith, l, e.size)) d
  ];
  only = λ b m. elim (f.only b m) [
    | inl n ↦ elim (e.only b n) [ inl k ↦ inl k | inr k ↦ inr (Contains-append_left (a ∷ []) as' b k.0, f.still b k.1) ]
    | inr n ↦ inr (Contains-append_right (a ∷ []) as' b n.0, n.1)
  ];
  waits = λ b m. elim (f.waits b m) [
    | inl n ↦ elim (e.waits b n) [ inl k ↦ inl k | inr k ↦ inr (f.kept b k) ]
    | inr n ↦ inr n
  ];
  work = f.work ∙ e.work;
}

pub all_enter : (as' : List ℕ) (s : Search) → Enters as' s (all_entered as' s)
all_enter [] s = none s
all_enter (a ∷ as') s = both a as' s (entered a s) (all_entered as' (entered a s)) (one_enters a s) (all_enter as' (entered a s))
