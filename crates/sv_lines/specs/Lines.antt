-- Believed: the order of a contract, from those of its bases. Hold it against the C3 linearisation, and Solidity's documentation, "Multiple Inheritance and Linearization".
use Rattle.std.specs.Prelude.{ℕ, ◌≡◌, ◌<◌, Bool, true, false, nat_eq, ◌||◌, ◌&&◌, not, cond, Option, Some, None, List, [], ◌∷◌, ◌++◌, map, length, reverse, slice_index_or, take, Result, Ok, Err}
use Rattle.sv_lines.specs.declared.lines.LineFault.{LineFault}
use Rattle.sv_lines.specs.declared.lines.LineFault.TheVariants as fault

-- ---- the merge of lists

abbrev pub has : ℕ → List ℕ → Bool
has c [] = false
has c (x ∷ xs) = nat_eq x c || has c xs

-- it stands in a list behind the head
abbrev pub in_tail : ℕ → List ℕ → Bool
in_tail c [] = false
in_tail c (x ∷ xs) = has c xs

-- it stands in no tail of these lists
abbrev pub takes : ℕ → List (List ℕ) → Bool
takes c [] = true
takes c (l ∷ ls) = not (in_tail c l) && takes c ls

-- the first head that stands in no tail of all
abbrev pub pick_from : List (List ℕ) → List (List ℕ) → Option ℕ
pick_from all [] = None
pick_from all ([] ∷ ls) = pick_from all ls
pick_from all ((h ∷ t) ∷ ls) = cond (takes h all) (Some h) (pick_from all ls)

abbrev pub pick : List (List ℕ) → Option ℕ
pick ls = pick_from ls ls

-- a list once this head is taken
abbrev pub headless : ℕ → List ℕ → List ℕ
headless c [] = []
headless c (x ∷ xs) = cond (nat_eq x c) xs (x ∷ xs)

-- the lists once this head is taken, wherever it is the head
abbrev pub without : ℕ → List (List ℕ) → List (List ℕ)
without c = map (headless c)

abbrev pub all_empty : List (List ℕ) → Bool
all_empty [] = true
all_empty ([] ∷ ls) = all_empty ls
all_empty ((h ∷ t) ∷ ls) = false

-- the lists merge to this one: its first is the first head that stands in no tail, and the rest is merged from what is left
abbrev pub Merged : List (List ℕ) → List ℕ → Type 0
Merged ls [] = all_empty ls ≡ true
Merged ls (h ∷ o) = (pick ls ≡ Some h) × Merged (without h ls) o

-- ---- orders and lines

-- the orders of the bases, most derived base first, and the bases themselves; bases stand in a text with the most basic first
abbrev pub to_merge : List (List ℕ) → List ℕ → List (List ℕ)
to_merge orders bases = map (λ b. slice_index_or orders b []) (reverse bases) ++ reverse bases ∷ []

-- of a contract c, whose bases have these orders
abbrev pub IsOrder : List (List ℕ) → ℕ → List ℕ → List ℕ → Type 0
IsOrder orders c bases o = (m : List ℕ) × (o ≡ c ∷ m) × Merged (to_merge orders bases) m

-- the first contracts of the list have these orders, each by those before it
abbrev pub Orders : List (List ℕ) → List (List ℕ) → Type 0
Orders bases orders = (c : ℕ) → c < length orders → IsOrder (take c orders) c (slice_index_or bases c []) (slice_index_or orders c [])

-- and the next has none
abbrev pub Orderless : List (List ℕ) → List (List ℕ) → Type 0
Orderless bases orders = (o : List ℕ) → IsOrder orders (length orders) (slice_index_or bases (length orders) []) o → ⊥

abbrev pub MergesTo : List (List ℕ) → Option (List ℕ) → Type 0
MergesTo ls None = (o : List ℕ) → Merged ls o → ⊥
MergesTo ls (Some o) = Merged ls o

abbrev pub Ordered : List (List ℕ) → ℕ → List ℕ → Option (List ℕ) → Type 0
Ordered orders c bases None = (o : List ℕ) → IsOrder orders c bases o → ⊥
Ordered orders c bases (Some o) = IsOrder orders c bases o

-- the line of a contract is its order reversed; or the first contract without an order
abbrev pub Lined : List (List ℕ) → Result (List (List ℕ)) LineFault → Type 0
Lined bases (Ok lines) = (length lines ≡ length bases) × Orders bases (map reverse lines)
Lined bases (Err (fault.None c)) = (orders : List (List ℕ)) × (length orders ≡ c) × (c < length bases) × Orders bases orders × Orderless bases orders
Lined bases (Err fault.NoMemory) = Unit {0}
