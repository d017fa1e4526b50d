-- Believed: of which contracts each contract sees the names. Hold it against docs/names.md, "What a contract sees".
use Rattle.std.specs.Prelude.{ℕ, ◌+◌, ◌≡◌, ◌<◌, ◌↔◌, Bool, cond, Option, Some, None, List, [], ◌∷◌, length, slice_index_or}
use Rattle.std.specs.List.{Contains, AllByRecursion}
use Rattle.sv_reach.specs.Paths.{Reaches}

abbrev pub Rises : List ℕ → Type 0
Rises [] = Unit {0}
Rises (x ∷ xs) = AllByRecursion (λ (y : ℕ). x < y) xs × Rises xs

-- those of its line; where it has none, those that it reaches through bases, in order of the text
abbrev pub Sees : List (List ℕ) → Option (List ℕ) → ℕ → List ℕ → Type 0
Sees bases (Some line) c seen = seen ≡ line
Sees bases None c seen = Rises seen × ((d : ℕ) → Contains seen d ↔ (d < length bases) × Reaches bases c d)

abbrev pub EachSees : List (List ℕ) → List (Option (List ℕ)) → List (List ℕ) → Type 0
EachSees bases lines seen = (length seen ≡ length lines) × ((c : ℕ) → c < length lines → Sees bases (slice_index_or lines c None) c (slice_index_or seen c []))

-- the places of marks that are set, from this place on
abbrev pub places_from : ℕ → List Bool → List ℕ
places_from n [] = []
places_from n (b ∷ bs) = cond b (n ∷ places_from (n + 1) bs) (places_from (n + 1) bs)
