-- Names that all differ, and texts that are added to them.
use Rattle.std.proofs.Common.{◌≡◌, ◌≢◌, ℕ, ◌<◌, List, [], ◌∷◌, ◌++◌, Contains, length, get_or, refl, sym, ap, ◌∙◌, subst, arith, length-append, ◌+◌, take, drop, Option, Some, None, true, false, true≢false, slice_get, is_some, IfSome, IfNone}
use Rattle.std.proofs.lemmas.List.{take-append-drop, drop_more, get_or_append_left, append_assoc, get_or_at}
use Rattle.std.proofs.lemmas.List.Elements.{All-push, Contains-get_or}
use Rattle.std.proofs.lemmas.List.Quantifiers.{all_pairs_push}
use Rattle.std.proofs.lemmas.Option.{slice_get_within, get_or_from_slice_get}
use Rattle.sv_first_form.specs.FirstForm.{IsName}
use Rattle.sv_first_form.specs.FormParts.{AreNames, FailsToName, is_refused, has_no_memory}
use Rattle.sv_first_form.specs.declared.form_error.FormError.{FormError}

-- no names are names that differ
pub no_names : AreNames []
no_names = record { each = λ k d within. absurd (omega arith); distinct = λ i j d below within. absurd (omega arith) }

-- the first of such names are such names
pub first_names : (xs ys : List (List ℕ)) → AreNames (xs ++ ys) → AreNames xs
first_names xs ys are = record {
  each = λ k d within. subst IsName (get_or_append_left xs ys d k within) (are.each k d (omega (arith, length-append xs ys)));
  distinct = λ i j d below within e.
      are.distinct i j d below (omega (arith, length-append xs ys))
      (get_or_append_left xs ys d i (omega arith) ∙ e ∙ sym (get_or_append_left xs ys d j within));
}

-- a name that is new
pub one_more : (xs : List (List ℕ)) (y : List ℕ) → AreNames xs → IsName y → (Contains xs y → ⊥) → AreNames (xs ++ y ∷ [])
one_more xs y are name fresh = record {
  each = All-push IsName xs y are.each name;
  distinct = all_pairs_push (λ a b. a ≢ b) xs y are.distinct (λ k d within e. fresh (subst (Contains xs) e (Contains-get_or xs k d within)));
}

-- a text that is no name, or is there already
pub last_is_name : (xs : List (List ℕ)) (y : List ℕ) → AreNames (xs ++ y ∷ []) → IsName y
last_is_name xs y are = subst IsName (get_or_at xs y [] [] (length xs) refl) (are.each (length xs) [] (omega (arith, length-append xs (y ∷ []))))

pub last_is_new : (xs : List (List ℕ)) (y : List ℕ) → AreNames (xs ++ y ∷ []) → Contains xs y → ⊥
last_is_new xs y are (k, within, at) =
    are.distinct k (length xs) y within (omega (arith, length-append xs (y ∷ [])))
    (get_or_append_left xs (y ∷ []) y k within ∙ at ∙ sym (get_or_at xs y [] y (length xs) refl))

-- what keeps the first texts from being added keeps all
pub fails_more : (names xs ys zs : List (List ℕ)) {e : FormError} → zs ≡ xs ++ ys → FailsToName names xs e → FailsToName names zs e
fails_more names xs ys zs same (is_refused refused) = is_refused (λ are. refused (first_names (names ++ xs) ys (subst AreNames (ap (λ t. names ++ t) same ∙ sym (append_assoc names xs ys)) are)))
fails_more names xs ys zs same has_no_memory = has_no_memory

-- what stops at one text stops all
fails_within : (old a b : List (List ℕ)) (x : List ℕ) {e : FormError} → FailsToName (old ++ a) (x ∷ []) e → FailsToName old (a ++ x ∷ b) e
fails_within old a b x (is_refused refused) =
    is_refused (λ are. refused (first_names (old ++ a ++ x ∷ []) b (subst AreNames (sym (append_assoc (old ++ a) (x ∷ []) b ∙ append_assoc old a (x ∷ b))) are)))
fails_within old a b x has_no_memory = has_no_memory

split_here : (xs : List (List ℕ)) (i : ℕ) (x : List ℕ) → i < length xs → x ≡ get_or xs i x → xs ≡ take i xs ++ x ∷ drop (i + 1) xs
split_here xs i x within at =
    sym (take-append-drop i xs) ∙ ap (λ t. take i xs ++ t) (drop_more xs i x within ∙ ap (λ y. y ∷ drop (i + 1) xs) (sym at))

pub fails_at : (old now texts : List (List ℕ)) (i : ℕ) (x y : List ℕ) {e : FormError} → now ≡ old ++ take i texts → i < length texts → x ≡ get_or texts i x → y ≡ x
    → FailsToName now (y ∷ []) e → FailsToName old texts e
fails_at old now texts i x y {e} sofar within at same fault =
    subst (λ (t : List (List ℕ)). FailsToName old t e) (sym (split_here texts i x within at))
    (fails_within old (take i texts) (drop (i + 1) texts) x
    (subst (λ (n : List (List ℕ)). FailsToName n (x ∷ []) e) sofar (subst (λ (t : List ℕ). FailsToName now (t ∷ []) e) same fault)))

-- what `find` says
pub held_from_find : (names : List (List ℕ)) (text : List ℕ) (o : Option ℕ) → is_some o ≡ true → IfSome o (λ n. slice_get names n ≡ Some text) → Contains names text
held_from_find names text None some found = absurd (true≢false (sym some))
held_from_find names text (Some n) some found = (n, slice_get_within names n text found, get_or_from_slice_get names n text text found)

pub absent_from_find : (names : List (List ℕ)) (text : List ℕ) (o : Option ℕ) → is_some o ≡ false → IfNone o (Contains names text → ⊥) → Contains names text → ⊥
absent_from_find names text None none absent = absent
absent_from_find names text (Some n) none absent = absurd (true≢false none)

-- the names after the first step
pub named : (names old slice variables : List (List ℕ)) → old ≡ [] → slice ≡ variables → names ≡ old ++ slice → names ≡ variables
named names old slice variables empty same e = e ∙ ap (λ o. o ++ slice) empty ∙ same
