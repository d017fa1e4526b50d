-- Serves the proof: the facts that a term is in a range, by the two bounds.
use Rattle.std.specs.Prelude.{ℕ, ◌<◌, Bool, true, false, List, [], ◌∷◌, ◌≡◌, length}
use Rattle.sv_term.specs.Sorts.{Range, Any, Low, Bits, NumSort, is_range}
use Rattle.sv_term.specs.Terms.{Term, Lit, Le, sort_of}
use Rattle.sv_term.specs.FactRules.{Fact, Says, in_range, has_least, has_greatest, least_lit, greatest_lit}
use Rattle.sv_term.specs.Banks.{range_of}
use Rattle.sv_term.specs.declared.node.Range as range
use Rattle.sv_log.specs.Logs.{nth_term}
use Rattle.sv_pattern.specs.NodeOpenings.{ArePremises, IsBehind, IsNotBehind}

abbrev pub low_facts : Range → Term → List Fact
low_facts Any v = []
low_facts Low v = Says true (Le (least_lit (NumSort Low)) v) ∷ []
low_facts (Bits g n) v = Says true (Le (least_lit (NumSort (Bits g n))) v) ∷ []

abbrev pub high_facts : Range → Term → List Fact
high_facts Any v = []
high_facts Low v = []
high_facts (Bits g n) v = Says true (Le v (greatest_lit (NumSort (Bits g n)))) ∷ []

-- ---- of a range as the code has it

abbrev pub HasNoLeast : range.Range → Type 0
HasNoLeast r = has_least (NumSort (range_of r)) ≡ false

abbrev pub IsLeastOf : range.Range → Bool × ℕ → Type 0
IsLeastOf r l = (has_least (NumSort (range_of r)) ≡ true) × (least_lit (NumSort (range_of r)) ≡ Lit l.0 l.1)

abbrev pub HasNoGreatest : range.Range → Type 0
HasNoGreatest r = has_greatest (NumSort (range_of r)) ≡ false

abbrev pub IsGreatestOf : range.Range → ℕ → Type 0
IsGreatestOf r m = (has_greatest (NumSort (range_of r)) ≡ true) × (greatest_lit (NumSort (range_of r)) ≡ Lit false m)

-- ---- of terms by number

abbrev pub CanBound : List Term → range.Range → ℕ → List (Bool × ℕ) → Type 0
CanBound ts r v ps = (v < length ts) × ArePremises ts ps × (is_range (range_of r) ≡ true)

abbrev pub CanRange : List Term → ℕ → ℕ → List (Bool × ℕ) → Type 0
CanRange ts place v ps = (place < length ts) × (v < length ts) × ArePremises ts ps

abbrev pub IsNotBehindLow : List Term → range.Range → ℕ → List (Bool × ℕ) → Type 0
IsNotBehindLow ts r v ps = IsNotBehind ts (low_facts (range_of r) (nth_term ts v)) ps

abbrev pub IsBehindLow : List Term → range.Range → ℕ → List (Bool × ℕ) → List (Bool × ℕ) → Type 0
IsBehindLow ts r v ps left = IsBehind ts (low_facts (range_of r) (nth_term ts v)) ps left

abbrev pub IsNotBehindHigh : List Term → range.Range → ℕ → List (Bool × ℕ) → Type 0
IsNotBehindHigh ts r v ps = IsNotBehind ts (high_facts (range_of r) (nth_term ts v)) ps

abbrev pub IsBehindHigh : List Term → range.Range → ℕ → List (Bool × ℕ) → List (Bool × ℕ) → Type 0
IsBehindHigh ts r v ps left = IsBehind ts (high_facts (range_of r) (nth_term ts v)) ps left

abbrev pub IsNotBehindRange : List Term → ℕ → ℕ → List (Bool × ℕ) → Type 0
IsNotBehindRange ts place v ps = IsNotBehind ts (in_range (sort_of (nth_term ts place)) (nth_term ts v)) ps

abbrev pub IsBehindRange : List Term → ℕ → ℕ → List (Bool × ℕ) → List (Bool × ℕ) → Type 0
IsBehindRange ts place v ps left = IsBehind ts (in_range (sort_of (nth_term ts place)) (nth_term ts v)) ps left
