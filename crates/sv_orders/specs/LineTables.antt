-- Believed: which contracts have an order and which order, each by those before it. Hold it against the order of a contract in `sv_lines`, and Solidity's rule that a base is declared before.
use Rattle.std.specs.Prelude.{ℕ, ◌≡◌, ◌<◌, Bool, true, ◌&&◌, Option, Some, None, List, [], ◌∷◌, map, length, reverse, slice_index_or, take}
use Rattle.std.specs.Option.{is_some, option_map}
use Rattle.sv_lines.specs.Lines.{IsOrder}

-- the base is one of these contracts, which stand before, and has an order
abbrev pub has_order : List (Option (List ℕ)) → ℕ → Bool
has_order before b = is_some (slice_index_or before b None)

abbrev pub all_have : List (Option (List ℕ)) → List ℕ → Bool
all_have before [] = true
all_have before (b ∷ bs) = has_order before b && all_have before bs

abbrev pub or_empty : Option (List ℕ) → List ℕ
or_empty None = []
or_empty (Some o) = o

-- each base has an order, and this is the order of contract c by these
abbrev pub IsOrderBehind : List (Option (List ℕ)) → ℕ → List ℕ → List ℕ → Type 0
IsOrderBehind before c bases o = (all_have before bases ≡ true) × IsOrder (map or_empty before) c bases o

-- the order of contract c, or none where it has none
abbrev pub OrderedBehind : List (Option (List ℕ)) → ℕ → List ℕ → Option (List ℕ) → Type 0
OrderedBehind before c bases None = (o : List ℕ) → IsOrderBehind before c bases o → ⊥
OrderedBehind before c bases (Some o) = IsOrderBehind before c bases o

-- of the first contracts of the text
abbrev pub AreOrders : List (List ℕ) → List (Option (List ℕ)) → Type 0
AreOrders bases orders = (c : ℕ) → c < length orders → OrderedBehind (take c orders) c (slice_index_or bases c []) (slice_index_or orders c None)

-- the line of each contract is its order reversed, and none where it has no order
abbrev pub EachLined : List (List ℕ) → List (Option (List ℕ)) → Type 0
EachLined bases lines = (length lines ≡ length bases) × AreOrders bases (map (option_map reverse) lines)
