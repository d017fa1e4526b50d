-- Serves the proof: the places at which the rule is broken, one after another.
use Rattle.std.specs.Prelude.{ℕ, Bool, false, nat_eq, ◌||◌, cond, Option, Some, None, List, [], ◌∷◌, min, max, slice_index_or}
use Rattle.sv_heirs.specs.Heirs.{place_of, heir}

abbrev pub has : List ℕ → ℕ → Bool
has [] d = false
has (x ∷ xs) d = nat_eq x d || has xs d

abbrev pub has_behind : Option (List ℕ) → ℕ → Bool
has_behind None d = false
has_behind (Some line) d = has line d

-- the other is the same, or in its line
abbrev pub is_behind : List (Option (List ℕ)) → ℕ → ℕ → Bool
is_behind lines c d = nat_eq d c || has_behind (slice_index_or lines c None) d

abbrev pub later : Option ℕ → Option ℕ → Option ℕ
later None b = None
later (Some a) None = None
later (Some a) (Some b) = Some (max a b)

abbrev pub sooner : Option ℕ → Option ℕ → Option ℕ
sooner None b = b
sooner (Some a) None = Some a
sooner (Some a) (Some b) = Some (min a b)

abbrev pub pair_breach : List (Option ℕ) → List (Option (List ℕ)) → ℕ → ℕ → Option ℕ
pair_breach places lines c d = cond (is_behind lines c d) None (later (place_of places c) (place_of places d))

-- the first of these for each of a list, and of one that was found before
abbrev pub least_from : {A : Type 0} → (A → Option ℕ) → Option ℕ → List A → Option ℕ
least_from f found [] = found
least_from f found (x ∷ xs) = least_from f (sooner found (f x)) xs

abbrev pub heir_breach : List (Option ℕ) → List (Option (List ℕ)) → List ℕ → Option ℕ → Option ℕ
heir_breach places lines line None = None
heir_breach places lines line (Some c) = least_from (pair_breach places lines c) None line

abbrev pub line_breach : List (Option ℕ) → List (Option (List ℕ)) → Option (List ℕ) → Option ℕ
line_breach places lines None = None
line_breach places lines (Some line) = heir_breach places lines line (heir places line)
