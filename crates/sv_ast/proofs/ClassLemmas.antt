-- A table of texts with their classes, searched from its beginning.
use Rattle.std.proofs.Common.{◌≡◌, ℕ, ◌+◌, ◌<◌, ◌≤◌, Bool, true, false, ◌||◌, if◌then◌else◌, List, [], ◌∷◌, map, drop, length, get_or, Bor, refl, ap, ◌∙◌}
use Rattle.std.specs.List.{list_any}
use Rattle.std.proofs.lemmas.List.{drop_more, drop_all}
use Rattle.sv_ast.specs.Classes.{is_same, class_in}
use Rattle.sv_ast.specs.ClassTables.{spelling}
use Rattle.sv_ast.specs.declared.class.Class.{Class}

abbrev pub Entry : Type 0
Entry = Bor (List ℕ) × Class

-- the entries before this one do not have the text
abbrev pub IsPassed : List Entry → List ℕ → ℕ → Type 0
IsPassed table text i = (otherwise : Class) → class_in (map spelling table) text otherwise ≡ class_in (map spelling (drop i table)) text otherwise

class_of_first : (table : List Entry) (text : List ℕ) (i : ℕ) (d : Entry) (otherwise : Class) → i < length table
    → class_in (map spelling (drop i table)) text otherwise
    ≡ (if is_same text (get_or table i d).0.now then (get_or table i d).1 else class_in (map spelling (drop (i + 1) table)) text otherwise)
class_of_first table text i d otherwise h = ap (λ entries. class_in (map spelling entries) text otherwise) (drop_more table i d h)

pub passes : (table : List Entry) (text : List ℕ) (i : ℕ) (d : Entry) → i < length table → IsPassed table text i → is_same text (get_or table i d).0.now ≡ false → IsPassed table text (i + 1)
passes table text i d h passed e = λ otherwise. (
    passed otherwise ∙ class_of_first table text i d otherwise h
    ∙ ap (λ b. if b then (get_or table i d).1 else class_in (map spelling (drop (i + 1) table)) text otherwise) e)

pub found_in : (table : List Entry) (text : List ℕ) (i : ℕ) (d : Entry) → i < length table → IsPassed table text i → is_same text (get_or table i d).0.now ≡ true
    → (otherwise : Class) → class_in (map spelling table) text otherwise ≡ (get_or table i d).1
found_in table text i d h passed e = λ otherwise. (
    passed otherwise ∙ class_of_first table text i d otherwise h
    ∙ ap (λ b. if b then (get_or table i d).1 else class_in (map spelling (drop (i + 1) table)) text otherwise) e)

pub not_found_in : (table : List Entry) (text : List ℕ) (i : ℕ) → length table ≤ i → IsPassed table text i → (otherwise : Class) → class_in (map spelling table) text otherwise ≡ otherwise
not_found_in table text i h passed = λ otherwise. (passed otherwise ∙ ap (λ entries. class_in (map spelling entries) text otherwise) (drop_all i table h))

pub any_map : {A B : Type 0} (f : A → B) (p : B → Bool) (xs : List A) → list_any p (map f xs) ≡ list_any (λ x. p (f x)) xs
any_map f p [] = refl
any_map f p (x ∷ xs) = ap (λ b. p (f x) || b) (any_map f p xs)
